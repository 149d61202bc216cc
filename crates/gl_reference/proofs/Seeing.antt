-- Rows that fit, with the words of the parameters behind them, fit what expressions see.
use Rattle.std.proofs.Common.{ℕ, Bool, List, [], ◌∷◌, ◌++◌, take}
use Rattle.std.specs.Prelude.{filter}
use Rattle.std.specs.List.{AllByRecursion}
use Rattle.gl_bits.proofs.AllLists.{all_weaker}
use Rattle.gl_values.specs.Results.{Row}
use Rattle.gl_schema.specs.declared.schema.Column.{Column}
use Rattle.gl_schema.specs.Schemas.{IsRowOf}
use Rattle.gl_query.specs.Shapes.{QueryShape}
use Rattle.gl_query.specs.Laws.{scope_of}
use Rattle.gl_query.specs.Results.{Env, Reach, columns_in, reach_in, widened}
use Rattle.gl_query.proofs.Fitting.{fit_kept}
use Rattle.gl_query.proofs.Holding.{all_filter, all_take, reached}
use Rattle.gl_query.proofs.Real.{reach_kinds}
use Rattle.gl_reference.specs.Fits.{AreRows, AreSources}
use Rattle.gl_reference.specs.Rows.{AreSeen}
use Rattle.gl_reference.proofs.Fitting.{scope_is}

-- what expressions see of these columns and words
abbrev pub seen_by : List Column → Row → Reach
seen_by columns words = record { columns = columns; words = words }

-- a row with the words behind it fits
abbrev IsWide : Reach → Row → Type 0
IsWide reach row = IsRowOf reach.columns (row ++ reach.words)

pub rows_seen : (env : Env) (timed : Bool) (q : QueryShape) (rows : List Row) → AreSources env → AreRows (columns_in env q) rows → AreSeen (reach_in env q) rows
rows_seen env timed q rows s r = record {
  kinds = reach_kinds (scope_of env timed) (scope_is env timed s) (columns_in env q) r.kinds;
  fit = all_weaker (IsRowOf (columns_in env q)) (IsWide (reach_in env q)) (λ row p. reached IsRowOf fit_kept env s.rows (columns_in env q) row p) rows r.fit;
}

wide_fit : (reach : Reach) (rows : List Row) → AllByRecursion (IsWide reach) rows → AllByRecursion (IsRowOf reach.columns) (widened reach.words rows)
wide_fit reach [] h = tt
wide_fit reach (row ∷ rows) h = (h.0, wide_fit reach rows h.1)

pub seen_wide : (reach : Reach) (rows : List Row) → AreSeen reach rows → AreRows reach.columns (widened reach.words rows)
seen_wide reach rows s = record { kinds = s.kinds; fit = wide_fit reach rows s.fit }

pub seen_take : (reach : Reach) (n : ℕ) (rows : List Row) → AreSeen reach rows → AreSeen reach (take n rows)
seen_take reach n rows s = record { kinds = s.kinds; fit = all_take (IsWide reach) n rows s.fit }

pub seen_filter : (reach : Reach) (p : Row → Bool) (rows : List Row) → AreSeen reach rows → AreSeen reach (filter p rows)
seen_filter reach p rows s = record { kinds = s.kinds; fit = all_filter (IsWide reach) p rows s.fit }
