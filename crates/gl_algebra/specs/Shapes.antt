-- What other nodes need to know of a node: its columns, whether it waits for the end, how steadily its rows come,
-- whether each comes of one row that came, and its leaves.
use Rattle.std.specs.Prelude.{ℕ, ◌≡◌, ◌<◌, length, Bool, true, false, ◌&&◌, List, [], ◌∷◌, ◌++◌, Option, Some, None, map}
use Rattle.gl_values.specs.declared.kind.Kind.{Kind}
use Rattle.gl_algebra.specs.declared.node.PlanKey.{PlanKey}
use Rattle.gl_algebra.specs.declared.node.PlanNode.{PlanNode}
use Rattle.gl_algebra.specs.declared.node.PlanNode.TheVariants.{Stream, Body, Compute, Select, Project, Frames, Aggregate, Union, Merge, Beside, Window, TimeWindow, Group, Partition}
use Rattle.gl_algebra.specs.Columns.{kind_of_column, kind_of_operand, kind_of_op, kind_of_agg, kind_of_frame}
use Rattle.gl_algebra.specs.Nodewise.{nodewise}

-- how rows come: one with each row of a stream or of the body's input, one with the end alone, or neither
pub data Pace : Type 0 where
  unsteady : Pace
  once : Pace
  with_stream : ℕ → Pace
  with_body : Pace

-- what a node is from outside: its columns, when its rows come, at what pace, and from which leaves
pub record Shape : Type 0 where
  -- the kinds of the columns, in order
  pub kinds : List Kind
  -- nothing comes before the end
  pub closing : Bool
  pub pace : Pace
  -- each row comes of one row that came
  pub arrives : Bool
  -- the streams and body inputs that the rows come from, those in bodies left out
  pub leaves : List PlanNode

-- the shape of what is no node
abbrev pub no_shape : Shape
no_shape = record { kinds = []; closing = false; pace = unsteady; arrives = false; leaves = [] }

-- rows that are parted by a key come at no steady pace
abbrev pub pace_by_key : Option PlanKey → Pace → Pace
pace_by_key None pace = pace
pace_by_key (Some by) pace = unsteady

-- a node's shape, from those of the nodes that it names
abbrev pub shape_from : (ℕ → Shape) → PlanNode → Shape
shape_from shapes (Stream number kinds) =
    record {
      kinds = kinds;
      closing = false;
      pace = with_stream number;
      arrives = true;
      leaves = Stream number kinds ∷ [];
    }
shape_from shapes (Body kinds) =
    record { kinds = kinds; closing = false; pace = with_body; arrives = true; leaves = Body kinds ∷ [] }
shape_from shapes (Compute child ops) =
    let of_child = shapes child in
    record of_child { kinds = of_child.kinds ++ map (kind_of_op of_child.kinds) ops }
shape_from shapes (Select child column) = record (shapes child) { pace = unsteady }
shape_from shapes (Project child items) =
    let of_child = shapes child in record of_child { kinds = map (kind_of_operand of_child.kinds) items }
shape_from shapes (Frames child by items) =
    let of_child = shapes child in
    record of_child { kinds = map (kind_of_frame of_child.kinds) items; pace = pace_by_key by of_child.pace }
shape_from shapes (Aggregate child aggs) =
    let of_child = shapes child in
    record of_child { kinds = map (kind_of_agg of_child.kinds) aggs; closing = true; pace = once; arrives = false }
shape_from shapes (Union left right) =
    let l = shapes left in let r = shapes right in
    record {
      kinds = l.kinds;
      closing = l.closing && r.closing;
      pace = unsteady;
      arrives = false;
      leaves = l.leaves ++ r.leaves;
    }
shape_from shapes (Merge left right) =
    let l = shapes left in let r = shapes right in
    record { kinds = l.kinds; closing = false; pace = unsteady; arrives = true; leaves = l.leaves ++ r.leaves }
shape_from shapes (Beside left right) =
    let l = shapes left in let r = shapes right in
    record {
      kinds = l.kinds ++ r.kinds;
      closing = l.closing && r.closing;
      pace = l.pace;
      arrives = false;
      leaves = l.leaves ++ r.leaves;
    }
shape_from shapes (Window source body size advance) =
    record (shapes source) { kinds = (shapes body).kinds; pace = unsteady; arrives = false }
shape_from shapes (TimeWindow source body size advance) =
    record (shapes source) { kinds = (shapes body).kinds; closing = false; pace = unsteady; arrives = false }
shape_from shapes (Group source body key groups) =
    record (shapes source) {
      kinds = kind_of_column (shapes source).kinds key ∷ (shapes body).kinds;
      closing = true;
      pace = unsteady;
      arrives = false;
    }
shape_from shapes (Partition source body key groups size advance) =
    record (shapes source) {
      kinds = kind_of_column (shapes source).kinds key ∷ (shapes body).kinds;
      pace = unsteady;
      arrives = false;
    }

-- the shape of a node
unfoldable pub shape_of : List PlanNode → ℕ → Shape
shape_of nodes = nodewise shape_from no_shape nodes

-- the kinds of a node's columns
abbrev pub kinds_of : List PlanNode → ℕ → List Kind
kinds_of nodes number = (shape_of nodes number).kinds

-- the kinds of the columns of a node over a plan
abbrev pub kinds_over : List PlanNode → PlanNode → List Kind
kinds_over nodes node = (shape_from (shape_of nodes) node).kinds

-- a closing node gives nothing before the end
abbrev pub is_closing : List PlanNode → ℕ → Bool
is_closing nodes number = (shape_of nodes number).closing

-- a node that is there, with its shape
pub record HasShape (nodes : List PlanNode) (number : ℕ) (shape : Shape) : Type 0 where
  pub within : number < length nodes
  pub is : shape_of nodes number ≡ shape

-- each node of the first plan is in the second one, with the same shape
abbrev pub KeepsShapes : List PlanNode → List PlanNode → Type 0
KeepsShapes old new = (number : ℕ) (shape : Shape) → HasShape old number shape → HasShape new number shape
