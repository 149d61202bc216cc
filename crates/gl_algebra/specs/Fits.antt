-- When a node fits a plan, and what a plan is.
use Rattle.std.specs.Prelude.{ℕ, ◌≡◌, ◌≢◌, ◌<◌, ◌≤◌, ◌&&◌, List, length, slice_get, Option, Some, None, All, IsTrue}
use Rattle.gl_bits.specs.Limits.{most_copies, most_groups, most_rows, most_windows}
use Rattle.gl_values.specs.Kinds.{IsKind}
use Rattle.gl_values.specs.declared.kind.Kind.{Kind}
use Rattle.gl_frames.specs.Results.{most_slots}
use Rattle.gl_algebra.specs.declared.node.PlanKey.{PlanKey}
use Rattle.gl_algebra.specs.declared.node.PlanNode.{PlanNode}
use Rattle.gl_algebra.specs.declared.node.PlanNode.TheVariants.{Stream, Body, Compute, Select, Project, Frames, Aggregate, Union, Merge, Beside, Window, TimeWindow, Group, Partition}
use Rattle.gl_algebra.specs.Columns.{bit_kind, OperandFits, OpFits, AggFits, FrameFits}
use Rattle.gl_algebra.specs.Nodewise.{named_by}
use Rattle.gl_algebra.specs.Shapes.{Shape, unsteady, shape_of, kinds_of}
use Rattle.gl_algebra.specs.Views.{copies_of_time, copies_of_window, copies_of_partition}

-- a number from 1 to a limit
pub record IsWithin (limit number : ℕ) : Type 0 where
  pub least : 1 ≤ number
  pub most : number ≤ limit

-- a key's column is there, and 1 to 4,096 groups are kept; rows need not be parted
abbrev pub KeyFits : List Kind → Option PlanKey → Type 0
KeyFits kinds None = Unit {0}
KeyFits kinds (Some by) = (by.key < length kinds) × IsWithin most_slots by.groups

-- a body for rows of a source: it waits for the end, and it reads nothing but its input, which has the source's columns
pub record IsBodyFor (source body : Shape) : Type 0 where
  pub closing : IsTrue body.closing
  pub leaves : All (λ leaf. leaf ≡ Body source.kinds) body.leaves

-- the columns, kinds, paces, bodies and limits of a node suit the nodes that it names, which have these shapes
abbrev pub Suits : (ℕ → Shape) → PlanNode → Type 0
Suits shapes (Stream number kinds) = All IsKind kinds
Suits shapes (Body kinds) = All IsKind kinds
Suits shapes (Compute child ops) = All (OpFits (shapes child).kinds) ops
Suits shapes (Select child column) = slice_get (shapes child).kinds column ≡ Some bit_kind
Suits shapes (Project child items) = All (OperandFits (shapes child).kinds) items
Suits shapes (Frames child by items) =
    All (FrameFits (shapes child).kinds) items × KeyFits (shapes child).kinds by
Suits shapes (Aggregate child aggs) = All (AggFits (shapes child).kinds) aggs
Suits shapes (Union left right) = (shapes left).kinds ≡ (shapes right).kinds
Suits shapes (Merge left right) =
    ((shapes left).kinds ≡ (shapes right).kinds) × IsTrue ((shapes left).arrives && (shapes right).arrives)
Suits shapes (Beside left right) = ((shapes left).pace ≡ (shapes right).pace) × ((shapes left).pace ≢ unsteady)
Suits shapes (Window source body size advance) =
    IsBodyFor (shapes source) (shapes body)
    × IsWithin most_rows size × IsWithin most_rows advance × (copies_of_window size advance ≤ most_copies)
Suits shapes (TimeWindow source body size advance) =
    IsBodyFor (shapes source) (shapes body)
    × IsWithin most_rows size × IsWithin most_rows advance × (copies_of_time size advance ≤ most_copies)
Suits shapes (Group source body key groups) =
    IsBodyFor (shapes source) (shapes body)
    × (key < length (shapes source).kinds) × IsWithin most_groups groups
Suits shapes (Partition source body key groups size advance) =
    IsBodyFor (shapes source) (shapes body)
    × (key < length (shapes source).kinds) × IsWithin most_groups groups
    × IsWithin most_rows size × IsWithin most_rows advance × (copies_of_window size advance ≤ most_copies)
    × (copies_of_partition groups size advance ≤ most_windows)

-- a window of time is over a stream itself, whose rows have times
abbrev pub IsOverStream : List PlanNode → PlanNode → Type 0
IsOverStream nodes (TimeWindow source body size advance) =
    (number : ℕ) × (kinds : List Kind) × (slice_get nodes source ≡ Some (Stream number kinds))
IsOverStream nodes node = Unit {0}

-- a node fits as the node of this number: the nodes that it names stand before it, and it suits them
pub record Fits (nodes : List PlanNode) (number : ℕ) (node : PlanNode) : Type 0 where
  pub before : All (λ child. child < number) (named_by node)
  pub suits : Suits (shape_of nodes) node
  pub timed : IsOverStream nodes node

-- a plan: each node fits, and no two are equal
pub record IsPlan (nodes : List PlanNode) : Type 0 where
  pub fits : (number : ℕ) (node : PlanNode) → slice_get nodes number ≡ Some node → Fits nodes number node
  pub distinct : (i j : ℕ) (node : PlanNode) → slice_get nodes i ≡ Some node → slice_get nodes j ≡ Some node → i ≡ j

-- the kinds of the columns of each node
pub record AreKinds (nodes : List PlanNode) (kinds : List (List Kind)) : Type 0 where
  pub as_many : length kinds ≡ length nodes
  pub each : (number : ℕ) → number < length nodes → slice_get kinds number ≡ Some (kinds_of nodes number)

-- a plan with the kinds of its columns
pub record IsPlanWith (nodes : List PlanNode) (kinds : List (List Kind)) : Type 0 where
  pub plan : IsPlan nodes
  pub columns : AreKinds nodes kinds
