-- The rows of a result are as long as the query's columns are many.
use Rattle.std.proofs.Common.{◌≡◌, ℕ, zero, suc, ◌+◌, List, [], ◌∷◌, ◌++◌, length, map, refl, sym, ap, ◌∙◌, arith, length-append}
use Rattle.std.specs.Prelude.{remove}
use Rattle.gl_values.specs.Results.{Row}
use Rattle.gl_bits.proofs.AllLists.{length_map}
use Rattle.gl_schema.specs.declared.schema.Column.{Column}
use Rattle.gl_schema.specs.Schemas.{kinds_of}
use Rattle.gl_query.specs.Shapes.{AggItemShape, FrameItemShape, ItemShape, PickShape}
use Rattle.gl_query.specs.Shapes as shape
use Rattle.gl_query.specs.Columns.{agg_column, frame_column, item_column, picked_columns}
use Rattle.gl_query.specs.Results.{Reach, agg_value, frame_row, frame_value, picked, total_row}
use Rattle.gl_query.specs.Values.{kind_alone, value_of}
use Rattle.gl_query.specs.Laws.{IsLongAs, ResultsAreLong}
use Rattle.gl_query.proofs.Holding.{IsKept, results_hold}

long_picked : (columns : List Column) (reach : Reach) (pick : PickShape) (row : Row) → IsLongAs columns row
    → IsLongAs (picked_columns columns reach.columns pick) (picked reach pick row)
long_picked columns reach shape.All row h = h
long_picked columns reach (shape.Items items) row h =
    length_map (λ (i : ItemShape). value_of reach.columns (kind_alone i.expr) i.expr (row ++ reach.words)) items ∙ sym (length_map (item_column reach.columns) items)

long_totals : (columns : List Column) (aggs : List AggItemShape) (rows : List Row) → IsLongAs (map (agg_column columns) aggs) (total_row columns aggs rows)
long_totals columns aggs rows =
    length_map (λ (i : AggItemShape). agg_value columns rows i.agg) aggs ∙ sym (length_map (agg_column columns) aggs)

long_frames : (columns : List Column) (items : List FrameItemShape) (rows : List Row) → IsLongAs (map (frame_column columns) items) (frame_row columns items rows)
long_frames columns items rows =
    length_map (λ (i : FrameItemShape). frame_value columns rows i.frame) items ∙ sym (length_map (frame_column columns) items)

long_joined : (lefts rights : List Column) (left right : Row) → IsLongAs lefts left → IsLongAs rights right → IsLongAs (lefts ++ rights) (left ++ right)
long_joined lefts rights left right h k =
    length-append left right ∙ ap (λ n. n + length right) h ∙ ap (λ n. length lefts + n) k ∙ sym (length-append lefts rights)

long_but : (columns : List Column) (i : ℕ) (row : Row) → IsLongAs columns row → IsLongAs (remove columns i) (remove row i)
long_but [] zero [] h = refl
long_but [] (suc i) [] h = refl
long_but [] i (n ∷ row) h = absurd (omega (arith, h))
long_but (c ∷ columns) i [] h = absurd (omega (arith, h))
long_but (c ∷ columns) zero (n ∷ row) h = omega (arith, h)
long_but (c ∷ columns) (suc i) (n ∷ row) h = ap suc (long_but columns i row (omega (arith, h)))

long_alike : (columns others : List Column) (row : Row) → kinds_of columns ≡ kinds_of others → IsLongAs others row → IsLongAs columns row
long_alike columns others row e h =
    h ∙ sym (length_map (λ c. c.kind) others) ∙ sym (ap length e) ∙ length_map (λ c. c.kind) columns

long_kept : IsKept IsLongAs
long_kept = record {
  picks = λ columns reach pick row p h w. long_picked columns reach pick row h;
  totals = λ columns aggs rows p h. long_totals columns aggs rows;
  frames = λ columns items rows p h. long_frames columns items rows;
  keyed = λ columns more key row rest known h k. ap suc k;
  joined = long_joined;
  without = long_but;
  zeros = λ columns. length_map (λ (c : Column). 0) columns;
  alike = long_alike;
}

pub long : ResultsAreLong
long q env timed out spill a h r = results_hold IsLongAs long_kept q env timed out spill a h r
