-- Each row of rows that fit, and each item of those of a kind, has what a value needs.
use Rattle.std.proofs.Common.{◌≡◌, ℕ, ◌<◌, List, length, get_or}
use Rattle.std.specs.Prelude.{map}
use Rattle.gl_bits.proofs.AllLists.{all_of_mapped}
use Rattle.gl_values.specs.Results.{Row}
use Rattle.gl_schema.specs.declared.schema.Column.{Column}
use Rattle.gl_query.specs.declared.tree.Item.{Item}
use Rattle.gl_query.specs.declared.tree.AggItem.{AggItem}
use Rattle.gl_query.specs.declared.tree.FrameItem.{FrameItem}
use Rattle.gl_query.specs.Shapes.{AggItemShape, ExprShape, FrameItemShape, ItemShape, agg_item_shape, agg_shape, expr_shape, frame_item_shape, frame_shape, item_shape}
use Rattle.gl_query.specs.Values.{HasKind, kind_alone}
use Rattle.gl_query.specs.Accepted.{AreItems, IsAgg, IsFrame}
use Rattle.gl_reference.specs.Fits.{AreAggs, AreFramesOf, HasKindAlone, HasWord, IsRow}
use Rattle.gl_reference.proofs.Fitting.{all_place}
use Rattle.gl_query.proofs.Real.{alone_kind}

pub word_alone : (columns : List Column) (e : ExprShape) (row : Row) → HasKindAlone columns e → IsRow columns row → HasWord columns (kind_alone e) e row
word_alone columns e row h r = record { of_row = r; of_place = alone_kind e; typed = h }

pub item_word : (columns : List Column) (items : List Item) (i : ℕ) (x : Item) (row : Row) → i < length items → x ≡ get_or items i x
    → AreItems columns (map item_shape items) → IsRow columns row → HasWord columns (kind_alone (expr_shape x.expr)) (expr_shape x.expr) row
item_word columns items i x row lt is h r =
    let typed = all_of_mapped (λ (j : ItemShape). HasKind columns (kind_alone j.expr) j.expr) item_shape items h.typed in
    word_alone columns (expr_shape x.expr) row (all_place (λ (j : Item). HasKindAlone columns (expr_shape j.expr)) items i x lt is typed) r

pub agg_at : (columns : List Column) (aggs : List AggItem) (i : ℕ) (x : AggItem) → i < length aggs → x ≡ get_or aggs i x
    → AreAggs columns (map agg_item_shape aggs) → IsAgg columns (agg_shape x.agg)
agg_at columns aggs i x lt is h =
    let typed = all_of_mapped (λ (j : AggItemShape). IsAgg columns j.agg) agg_item_shape aggs h in
    all_place (λ (j : AggItem). IsAgg columns (agg_shape j.agg)) aggs i x lt is typed

pub frame_at : (columns : List Column) (items : List FrameItem) (i : ℕ) (x : FrameItem) → i < length items → x ≡ get_or items i x
    → AreFramesOf columns (map frame_item_shape items) → IsFrame columns (frame_shape x.frame)
frame_at columns items i x lt is h =
    let typed = all_of_mapped (λ (j : FrameItemShape). IsFrame columns j.frame) frame_item_shape items h in
    all_place (λ (j : FrameItem). IsFrame columns (frame_shape j.frame)) items i x lt is typed
