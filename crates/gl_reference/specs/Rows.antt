-- Rows with the words of the parameters behind them, as the code has them.
-- A middle layer, proved equal to gl_query (`Results`): no promise rests on it.
use Rattle.std.specs.Prelude.{List, ◌++◌, filter, map, Option}
use Rattle.std.specs.List.{AllByRecursion}
use Rattle.gl_values.specs.Results.{Row}
use Rattle.gl_schema.specs.declared.schema.Column.{Column}
use Rattle.gl_schema.specs.Schemas.{IsRowOf}
use Rattle.gl_query.specs.Columns.{reach_of}
use Rattle.gl_query.specs.Laws.{AreKinds}
use Rattle.gl_query.specs.Results.{Reach, keeps, streams_of, words_in}
use Rattle.gl_query.specs.Shapes.{ExprShape, ItemShape}
use Rattle.gl_query.specs.Values.{kind_alone, value_of}
use Rattle.gl_reference.specs.declared.columns.Seen.{Seen}
use Rattle.gl_reference.specs.declared.columns.Source.{Source as Given}
use Rattle.gl_reference.specs.Sources.{env_view}

-- what expressions see, from what the code is given
abbrev pub reach_seen : Seen → Reach
reach_seen seen = record { columns = seen.columns.now; words = seen.words.now }

-- what expressions over columns see of sources
abbrev pub reach_over : List Given → List Column → Reach
reach_over sources columns =
    record { columns = reach_of (streams_of (env_view sources)) columns; words = words_in (env_view sources) }

-- the values of items over a row
abbrev pub values_at : List Column → List ItemShape → Row → Row
values_at columns items row = map (λ (i : ItemShape). value_of columns (kind_alone i.expr) i.expr row) items

-- the rows that a condition passes
abbrev pub passing : List Column → Option ExprShape → List Row → List Row
passing columns condition rows = filter (keeps columns condition) rows

-- what expressions see is of kinds, and each row with the words of the parameters behind it fits it
pub record AreSeen (reach : Reach) (rows : List Row) : Type 0 where
  pub kinds : AreKinds reach.columns
  pub fit : AllByRecursion (λ (row : Row). IsRowOf reach.columns (row ++ reach.words)) rows
