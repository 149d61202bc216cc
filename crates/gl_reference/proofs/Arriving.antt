-- The result with places of a form, from those of its parts, and that its rows fit.
use Rattle.std.proofs.Common.{◌≡◌, List, Bool, map, refl, sym, ap, subst, ◌∙◌}
use Rattle.std.specs.Prelude.{◌||◌, IsTrue, Option, None, Some}
use Rattle.gl_arrival.specs.Places.{Placed, rows_of}
use Rattle.gl_arrival.specs.Changes.{kept_at, mapped_at}
use Rattle.gl_asof.specs.AsOf.{as_of, more_keys}
use Rattle.gl_values.specs.Results.{Row}
use Rattle.gl_schema.specs.declared.schema.Column.{Column}
use Rattle.gl_query.specs.Accepted.{IsAcceptedOver}
use Rattle.gl_query.specs.Columns.{arrives, reach_of}
use Rattle.gl_query.specs.Laws.{ArrivalsAreResults, ResultsFit, scope_of}
use Rattle.gl_query.specs.Results.{ArrivesIn, Env, IsFramedInPlace, columns_in, join_by, kept, picked, Reach, is_kept, reach_in, streams_of, words_in}
use Rattle.gl_query.specs.Shapes.{ExprShape, FrameItemShape, PickShape, QueryShape, SlotsShape}
use Rattle.gl_query.specs.Shapes as shape
use Rattle.gl_reference.specs.Arrivals.{framed_in, rows_in, spills}
use Rattle.gl_reference.specs.Fits.{AreRows, AreSources}
use Rattle.gl_reference.specs.Sources.{placed_of}
use Rattle.gl_reference.specs.declared.placed.PlacedRow.{PlacedRow}
use Rattle.gl_reference.proofs.Fitting.{rows_fit}
use Rattle.gl_reference.proofs.Placing.{rows_of_placed}

-- what expressions over columns see in an environment
abbrev over : Env → List Column → Reach
over env columns = record { columns = reach_of (streams_of env) columns; words = words_in env }

pub rows_arrived : (env : Env) (pick : PickShape) (filter : Option ExprShape) (source : QueryShape) (from : List (Placed Row)) (before : Bool) (xs : List (Placed Row)) (spill : Bool)
    → ArrivesIn source env from before
    → (xs ≡ mapped_at (picked (reach_in env source) pick) (kept_at (is_kept (reach_in env source) filter) from)) × (spill ≡ before)
    → ArrivesIn (shape.Rows pick filter source) env xs spill
rows_arrived env pick filter source from before xs spill is (eo, es) =
    record { rows = from; of_source = subst (ArrivesIn source env from) (sym es) is; changed = eo }

frames_are : (env : Env) (columns : List Column) (reach : Reach) (items : List FrameItemShape) (filter : Option ExprShape) (slots : Option SlotsShape) (source : QueryShape) (from : List (Placed Row)) (before : Bool) (xs : List (Placed Row)) (spill : Bool)
    → ArrivesIn source env from before → xs ≡ framed_in columns reach items slots (kept_at (is_kept reach filter) from) → spill ≡ spills columns slots before (kept reach filter (rows_of from))
    → IsFramedInPlace columns reach items filter slots (ArrivesIn source env) xs spill
frames_are env columns reach items filter None source from before xs spill is eo es =
    record { rows = from; of_source = subst (ArrivesIn source env from) (sym es) is; changed = eo }
frames_are env columns reach items filter (Some s) source from before xs spill is eo es =
    record { rows = from; source_spill = before; of_source = is; changed = eo; any = es }

pub frames_arrived : (env : Env) (items : List FrameItemShape) (filter : Option ExprShape) (slots : Option SlotsShape) (source : QueryShape) (from : List PlacedRow) (before : Bool) (columns : List Column) (xs : List (Placed Row)) (spill : Bool)
    → ArrivesIn source env (map placed_of from) before → columns ≡ columns_in env source
    → (xs ≡ framed_in columns (over env columns) items slots (kept_at (is_kept (over env columns) filter) (map placed_of from)))
    × (spill ≡ spills columns slots before (kept (over env columns) filter (rows_in from)))
    → ArrivesIn (shape.Frames items filter slots source) env xs spill
frames_arrived env items filter slots source from before columns xs spill is ec (eo, es) =
    frames_are env (columns_in env source) (reach_in env source) items filter slots source (map placed_of from) before xs spill is
    (eo ∙ ap (λ (k : List Column). framed_in k (over env k) items slots (kept_at (is_kept (over env k) filter) (map placed_of from))) ec)
    (es ∙ ap (λ (k : List Column). spills k slots before (kept (over env k) filter (rows_in from))) ec
    ∙ ap (λ (l : List Row). spills (columns_in env source) slots before (kept (reach_in env source) filter l)) (sym (rows_of_placed from)))

pub as_of_arrived : (env : Env) (l r : QueryShape) (slots : SlotsShape) (xs ys : List (Placed Row)) (p q : Bool) (lefts rights : List Column) (out : List (Placed Row)) (further spill : Bool)
    → ArrivesIn l env xs p → ArrivesIn r env ys q → lefts ≡ columns_in env l → rights ≡ columns_in env r
    → (out ≡ as_of (join_by lefts rights slots) xs ys) × (further ≡ more_keys (join_by lefts rights slots) xs ys) → spill ≡ ((q || p) || further)
    → ArrivesIn (shape.AsOf l r slots) env out spill
as_of_arrived env l r slots xs ys p q lefts rights out further spill of_l of_r el er (eo, ef) es = record {
  left = xs;
  right = ys;
  left_spill = p;
  right_spill = q;
  of_left = of_l;
  of_right = of_r;
  joined = eo ∙ (λ t. as_of (join_by (el t) (er t) slots) xs ys);
  any = es ∙ ap (λ (b : Bool). (q || p) || b) (ef ∙ (λ t. more_keys (join_by (el t) (er t) slots) xs ys));
}

-- the rows of a result with places of an accepted query fit its columns
pub arrived_fit : ArrivalsAreResults → ResultsFit → (env : Env) (timed : Bool) (q : QueryShape) (rows : List PlacedRow) (spill : Bool) → IsTrue (arrives q) → AreSources env → IsAcceptedOver (scope_of env timed) q
    → ArrivesIn q env (map placed_of rows) spill → AreRows (columns_in env q) (rows_in rows)
arrived_fit law fitting env timed q rows spill r s a is =
    let result = (law q r env (rows_of (map placed_of rows)) spill).1 (record { rows = map placed_of rows; of_source = is; without = refl }) in
    subst (AreRows (columns_in env q)) (rows_of_placed rows) (rows_fit fitting env timed q (rows_of (map placed_of rows)) spill s a result)
