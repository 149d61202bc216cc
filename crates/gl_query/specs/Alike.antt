-- Trees without their places.
use Rattle.std.specs.Prelude.{map, option_map}
use Rattle.gl_query.specs.declared.tree.Num.{Num}
use Rattle.gl_query.specs.Shapes.{ExprShape, AggShape, ItemShape, AggItemShape, FrameAggShape, FrameShape, FrameItemShape, PickShape, QueryShape, StatementShape, slots_shape}
use Rattle.gl_query.specs.Shapes as shape
use Rattle.gl_query.specs.Trees.{ExprTree, AggTree, ItemTree, AggItemTree, FrameAggTree, FrameTree, FrameItemTree, PickTree, QueryTree, StatementTree}
use Rattle.gl_query.specs.Trees as tree

-- an expression without the places of its parts
abbrev pub expr_alike : ExprTree → ExprShape
expr_alike (tree.Column name) = shape.Column name.text
expr_alike (tree.Number n) = shape.Number n.value
expr_alike (tree.Minus n) = shape.Minus n.value
expr_alike (tree.Letters text at) = shape.Letters text
expr_alike (tree.Not e at) = shape.Not (expr_alike e)
expr_alike (tree.Flip e at) = shape.Flip (expr_alike e)
expr_alike (tree.Cast e kind at) = shape.Cast kind (expr_alike e)
expr_alike (tree.Binary o l r at) = shape.Binary o (expr_alike l) (expr_alike r)

-- an aggregate without the places of its parts
abbrev pub agg_alike : AggTree → AggShape
agg_alike (tree.Count at) = shape.Count
agg_alike (tree.Sum e) = shape.Sum (expr_alike e)
agg_alike (tree.Min e) = shape.Min (expr_alike e)
agg_alike (tree.Max e) = shape.Max (expr_alike e)
agg_alike (tree.Avg e) = shape.Avg (expr_alike e)
agg_alike (tree.Wsum e weights) = shape.Wsum (expr_alike e) (map (λ (n : Num). n.value) weights)

-- an item of a select without the places of its parts
abbrev pub item_alike : ItemTree → ItemShape
item_alike i = record { expr = expr_alike i.expr; name = i.name.text }

-- a named aggregate without the places of its parts
abbrev pub agg_item_alike : AggItemTree → AggItemShape
agg_item_alike i = record { agg = agg_alike i.agg; name = i.name.text }

-- a function over the rows of a frame without the places of its parts
abbrev pub frame_agg_alike : FrameAggTree → FrameAggShape
frame_agg_alike tree.CountOver = shape.CountOver
frame_agg_alike (tree.SumOver e) = shape.SumOver (expr_alike e)
frame_agg_alike (tree.MinOver e) = shape.MinOver (expr_alike e)
frame_agg_alike (tree.MaxOver e) = shape.MaxOver (expr_alike e)
frame_agg_alike (tree.AvgOver e) = shape.AvgOver (expr_alike e)
frame_agg_alike (tree.LastOver e) = shape.LastOver (expr_alike e)

-- a frame without the places of its parts
abbrev pub frame_alike : FrameTree → FrameShape
frame_alike (tree.Own e) = shape.Own (expr_alike e)
frame_alike (tree.Lag e back at) = shape.Lag (expr_alike e) back.value
frame_alike (tree.Over agg filter back at) =
    shape.Over (frame_agg_alike agg) (option_map expr_alike filter) (option_map (λ (n : Num). n.value) back)

-- a named frame without the places of its parts
abbrev pub frame_item_alike : FrameItemTree → FrameItemShape
frame_item_alike i = record { frame = frame_alike i.frame; name = i.name.text }

-- what a select picks, without the places of its items
abbrev pub pick_alike : PickTree → PickShape
pick_alike tree.All = shape.All
pick_alike (tree.Items items) = shape.Items (map item_alike items)

-- a query without the places of its names, numbers and operators
abbrev pub query_alike : QueryTree → QueryShape
query_alike (tree.Read name) = shape.Read name.text
query_alike (tree.Rows pick filter source) =
    shape.Rows (pick_alike pick) (option_map expr_alike filter) (query_alike source)
query_alike (tree.Total aggs source) = shape.Total (map agg_item_alike aggs) (query_alike source)
query_alike (tree.Frames items filter slots source) =
    shape.Frames (map frame_item_alike items) (option_map expr_alike filter) (option_map slots_shape slots)
    (query_alike source)
query_alike (tree.Each measure var source size advance body at) =
    shape.Each measure var.text (query_alike source) size.value advance.value (query_alike body)
query_alike (tree.PerGroup var source key groups body at) =
    shape.PerGroup var.text (query_alike source) key.text groups.value (query_alike body)
query_alike (tree.Partition var source key groups size advance body at) =
    shape.Partition var.text (query_alike source) key.text groups.value size.value advance.value (query_alike body)
query_alike (tree.Union l r at) = shape.Union (query_alike l) (query_alike r)
query_alike (tree.ByArrival l r at) = shape.ByArrival (query_alike l) (query_alike r)
query_alike (tree.AsOf l r slots at) = shape.AsOf (query_alike l) (query_alike r) (slots_shape slots)
query_alike (tree.Concat l r at) = shape.Concat (query_alike l) (query_alike r)

-- what all statements that are equal but for their places share
abbrev pub statement_alike : StatementTree → StatementShape
statement_alike s = record { query = query_alike s.query; name = s.name.text }
