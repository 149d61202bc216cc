-- The trees of statements, without their places, are the statements' shapes.
use Rattle.std.proofs.Common.{◌≡◌, List, [], ◌∷◌, map, Option, None, Some, option_map, refl, ap}
use Rattle.gl_query.specs.declared.tree.Expr.{Expr}
use Rattle.gl_query.specs.declared.tree.Expr.TheVariants as expr
use Rattle.gl_query.specs.declared.tree.Agg.{Agg}
use Rattle.gl_query.specs.declared.tree.Agg.TheVariants as agg
use Rattle.gl_query.specs.declared.tree.Item.{Item}
use Rattle.gl_query.specs.declared.tree.AggItem.{AggItem}
use Rattle.gl_query.specs.declared.tree.FrameAgg.{FrameAgg}
use Rattle.gl_query.specs.declared.tree.FrameAgg.TheVariants as frame_agg
use Rattle.gl_query.specs.declared.tree.Frame.{Frame}
use Rattle.gl_query.specs.declared.tree.Frame.TheVariants as frame
use Rattle.gl_query.specs.declared.tree.FrameItem.{FrameItem}
use Rattle.gl_query.specs.declared.tree.Pick.{Pick}
use Rattle.gl_query.specs.declared.tree.Pick.TheVariants as pick
use Rattle.gl_query.specs.declared.tree.Query.{Query}
use Rattle.gl_query.specs.declared.tree.Query.TheVariants as query
use Rattle.gl_query.specs.declared.tree.Statement.{Statement}
use Rattle.gl_query.specs.Shapes as shape
use Rattle.gl_query.specs.Shapes.{expr_shape, agg_shape, item_shape, agg_item_shape, frame_agg_shape, frame_shape, frame_item_shape, pick_shape, query_shape, statement_shape}
use Rattle.gl_query.specs.Trees.{expr_tree, agg_tree, item_tree, agg_item_tree, frame_agg_tree, frame_tree, frame_item_tree, pick_tree, filter_tree, query_tree, statement_tree}
use Rattle.gl_query.specs.Alike.{expr_alike, agg_alike, item_alike, agg_item_alike, frame_agg_alike, frame_alike, frame_item_alike, pick_alike, query_alike, statement_alike}

pub expr_same : (e : Expr) → expr_alike (expr_tree e) ≡ expr_shape e
expr_same (expr.Column name) = refl
expr_same (expr.Number n) = refl
expr_same (expr.Minus n) = refl
expr_same (expr.Letters text at) = refl
expr_same (expr.Not' p e at) = ap shape.Not (expr_same e)
expr_same (expr.Flip' p e at) = ap shape.Flip (expr_same e)
expr_same (expr.Cast' p e kind at) = ap (shape.Cast kind) (expr_same e)
expr_same (expr.Binary' o p l q r at) = rw (expr_same l, expr_same r) refl

pub agg_same : (a : Agg) → agg_alike (agg_tree a) ≡ agg_shape a
agg_same (agg.Count at) = refl
agg_same (agg.Sum e) = ap shape.Sum (expr_same e)
agg_same (agg.Min e) = ap shape.Min (expr_same e)
agg_same (agg.Max e) = ap shape.Max (expr_same e)
agg_same (agg.Avg e) = ap shape.Avg (expr_same e)
agg_same (agg.Wsum e weights) = rw (expr_same e) refl

pub items_same : (is : List Item) → map item_alike (map item_tree is) ≡ map item_shape is
items_same [] = refl
items_same (i ∷ is) = rw (expr_same i.expr, items_same is) refl

pub aggs_same : (is : List AggItem) → map agg_item_alike (map agg_item_tree is) ≡ map agg_item_shape is
aggs_same [] = refl
aggs_same (i ∷ is) = rw (agg_same i.agg, aggs_same is) refl

pub pick_same : (p : Pick) → pick_alike (pick_tree p) ≡ pick_shape p
pick_same pick.All = refl
pick_same (pick.Items items) = ap shape.Items (items_same items)

pub filter_same : (o : Option Expr) → option_map expr_alike (filter_tree o) ≡ option_map expr_shape o
filter_same None = refl
filter_same (Some e) = ap Some (expr_same e)

pub frame_agg_same : (a : FrameAgg) → frame_agg_alike (frame_agg_tree a) ≡ frame_agg_shape a
frame_agg_same frame_agg.Count = refl
frame_agg_same (frame_agg.Sum e) = ap shape.SumOver (expr_same e)
frame_agg_same (frame_agg.Min e) = ap shape.MinOver (expr_same e)
frame_agg_same (frame_agg.Max e) = ap shape.MaxOver (expr_same e)
frame_agg_same (frame_agg.Avg e) = ap shape.AvgOver (expr_same e)
frame_agg_same (frame_agg.LastValue e) = ap shape.LastOver (expr_same e)

pub frame_same : (f : Frame) → frame_alike (frame_tree f) ≡ frame_shape f
frame_same (frame.Own e) = ap shape.Own (expr_same e)
frame_same (frame.Lag e back at) = rw (expr_same e) refl
frame_same (frame.Over agg filter back at) = rw (frame_agg_same agg, filter_same filter) refl

pub frames_same : (is : List FrameItem) → map frame_item_alike (map frame_item_tree is) ≡ map frame_item_shape is
frames_same [] = refl
frames_same (i ∷ is) = rw (frame_same i.frame, frames_same is) refl

pub query_same : (q : Query) → query_alike (query_tree q) ≡ query_shape q
query_same (query.Read name) = refl
query_same (query.Rows' p filter b source) = rw (pick_same p, filter_same filter, query_same source) refl
query_same (query.Total' aggs b source) = rw (aggs_same aggs, query_same source) refl
query_same (query.Frames' items filter slots b source) = rw (frames_same items, filter_same filter, query_same source) refl
query_same (query.Each' var b source size advance c body at) = rw (query_same source, query_same body) refl
query_same (query.EachTime' var b source size advance c body at) = rw (query_same source, query_same body) refl
query_same (query.PerGroup' var b source key groups c body at) = rw (query_same source, query_same body) refl
query_same (query.Partition' var b source key groups size advance c body at) = rw (query_same source, query_same body) refl
query_same (query.Union' b l c r at) = rw (query_same l, query_same r) refl
query_same (query.ByArrival' b l c r at) = rw (query_same l, query_same r) refl
query_same (query.AsOf' b l c r slots at) = rw (query_same l, query_same r) refl
query_same (query.Concat' b l c r at) = rw (query_same l, query_same r) refl

pub statement_same : (s : Statement) → statement_alike (statement_tree s) ≡ statement_shape s
statement_same s = rw (query_same s.query) refl
