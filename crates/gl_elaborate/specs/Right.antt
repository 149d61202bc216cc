-- The shape of a query's plan: its columns, closing, pace, whether its rows come one by one, and leaves are the query's.
use Rattle.std.specs.Prelude.{ℕ, List, [], ◌∷◌, ◌++◌, Option, Some, None}
use Rattle.gl_schema.specs.declared.schema.Stream.{Stream}
use Rattle.gl_schema.specs.Schemas.{kinds_of}
use Rattle.gl_query.specs.Shapes.{QueryShape}
use Rattle.gl_query.specs.Shapes as shape
use Rattle.gl_query.specs.Columns.{arrives, columns_of, is_closing, pace_of}
use Rattle.gl_query.specs.Columns as query
use Rattle.gl_algebra.specs.declared.node.PlanNode.{PlanNode}
use Rattle.gl_algebra.specs.declared.node.PlanNode.TheVariants as node
use Rattle.gl_algebra.specs.Shapes.{Shape, Pace, unsteady, once, with_stream, with_body}

-- the pace of a leaf
abbrev pub pace_at : PlanNode → Pace
pace_at (node.Stream number kinds) = with_stream number
pace_at (node.Body kinds) = with_body
pace_at (node.Compute child ops) = unsteady
pace_at (node.Select child column) = unsteady
pace_at (node.Project child items) = unsteady
pace_at (node.Frames child by items) = unsteady
pace_at (node.Aggregate child aggs) = unsteady
pace_at (node.Union left right) = unsteady
pace_at (node.Merge left right) = unsteady
pace_at (node.Beside left right) = unsteady
pace_at (node.Window source body size advance) = unsteady
pace_at (node.TimeWindow source body size advance) = unsteady
pace_at (node.Group source body key groups) = unsteady
pace_at (node.Partition source body key groups size advance) = unsteady

-- the pace of a query as that of a plan's node: none, one row, or in step with the node of a source
abbrev pub plan_pace : (List ℕ → PlanNode) → Option query.Pace → Pace
plan_pace read None = unsteady
plan_pace read (Some query.Once) = once
plan_pace read (Some (query.Step name)) = pace_at (read name)

-- the leaves that a query's rows come from, those in bodies left out
abbrev pub leaves_of : (List ℕ → PlanNode) → QueryShape → List PlanNode
leaves_of read (shape.Read name) = read name ∷ []
leaves_of read (shape.Rows pick filter source) = leaves_of read source
leaves_of read (shape.Total aggs source) = leaves_of read source
leaves_of read (shape.Frames items filter slots source) = leaves_of read source
leaves_of read (shape.Each measure var source size advance body) = leaves_of read source
leaves_of read (shape.PerGroup var source key groups body) = leaves_of read source
leaves_of read (shape.Partition var source key groups size advance body) = leaves_of read source
leaves_of read (shape.Union l r) = leaves_of read l ++ leaves_of read r
leaves_of read (shape.ByArrival l r) = leaves_of read l ++ leaves_of read r
leaves_of read (shape.AsOf l r slots) = leaves_of read r ++ leaves_of read l
leaves_of read (shape.Concat l r) = leaves_of read l ++ leaves_of read r

-- the shape that a query's node must have: its columns, closing, pace, whether its rows come one by one, and leaves
abbrev pub shape_for : (List ℕ → PlanNode) → List Stream → QueryShape → Shape
shape_for read sources q = record {
  kinds = kinds_of (columns_of sources q);
  closing = is_closing q;
  pace = plan_pace read (pace_of q);
  arrives = arrives q;
  leaves = leaves_of read q;
}
