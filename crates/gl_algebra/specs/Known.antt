-- When the parameters that are named are there, where the words of the parameters have these widths.
use Rattle.std.specs.Prelude.{ℕ, ◌≡◌, List, Some, slice_get, All, ⊤}
use Rattle.gl_values.specs.Kinds.{width_of}
use Rattle.gl_algebra.specs.declared.node.Operand.{Operand}
use Rattle.gl_algebra.specs.declared.node.Operand.TheVariants.{Column, Literal, Parameter}
use Rattle.gl_algebra.specs.declared.node.ColOp.{ColOp}
use Rattle.gl_algebra.specs.declared.node.ColOp.TheVariants.{Not, Flip, Cast, Binary}
use Rattle.gl_algebra.specs.declared.node.PlanAgg.{PlanAgg}
use Rattle.gl_algebra.specs.declared.node.PlanAgg.TheVariants.{Count, Sum, Min, Max, Avg, Wsum}
use Rattle.gl_algebra.specs.declared.node.PlanFrame.{PlanFrame}
use Rattle.gl_algebra.specs.declared.node.PlanFrame.TheVariants.{Own, Lag, Over}
use Rattle.gl_algebra.specs.declared.node.PlanFrameAgg.{PlanFrameAgg}
use Rattle.gl_algebra.specs.declared.node.PlanFrameAgg.TheVariants as over
use Rattle.gl_algebra.specs.declared.node.PlanNode.{PlanNode}
use Rattle.gl_algebra.specs.declared.node.PlanNode.TheVariants.{Compute, Project, Frames, Aggregate}

-- a parameter that is there, and whose word has its kind's width; a column and a literal name none
abbrev pub OperandKnown : List ℕ → Operand → Type 0
OperandKnown words (Column column) = ⊤
OperandKnown words (Literal word kind) = ⊤
OperandKnown words (Parameter number kind) = slice_get words number ≡ Some (width_of kind)

-- so are those of an operation
abbrev pub OpKnown : List ℕ → ColOp → Type 0
OpKnown words (Not operand) = OperandKnown words operand
OpKnown words (Flip operand) = OperandKnown words operand
OpKnown words (Cast operand kind) = OperandKnown words operand
OpKnown words (Binary operator left right) = OperandKnown words left × OperandKnown words right

-- so is that of an aggregate
abbrev pub AggKnown : List ℕ → PlanAgg → Type 0
AggKnown words Count = ⊤
AggKnown words (Sum operand) = OperandKnown words operand
AggKnown words (Min operand) = OperandKnown words operand
AggKnown words (Max operand) = OperandKnown words operand
AggKnown words (Avg operand) = OperandKnown words operand
AggKnown words (Wsum operand weights) = OperandKnown words operand

-- so is that of a function over the rows of a frame
abbrev pub FrameAggKnown : List ℕ → PlanFrameAgg → Type 0
FrameAggKnown words over.Count = ⊤
FrameAggKnown words (over.Sum operand) = OperandKnown words operand
FrameAggKnown words (over.Min operand) = OperandKnown words operand
FrameAggKnown words (over.Max operand) = OperandKnown words operand
FrameAggKnown words (over.Avg operand) = OperandKnown words operand
FrameAggKnown words (over.LastValue operand) = OperandKnown words operand

-- so is that of an item of a node of frames
abbrev pub FrameKnown : List ℕ → PlanFrame → Type 0
FrameKnown words (Own operand) = OperandKnown words operand
FrameKnown words (Lag operand back) = OperandKnown words operand
FrameKnown words (Over agg filter back) = FrameAggKnown words agg

-- so are those of a node
abbrev pub NodeKnown : List ℕ → PlanNode → Type 0
NodeKnown words (Compute child ops) = All (OpKnown words) ops
NodeKnown words (Project child items) = All (OperandKnown words) items
NodeKnown words (Frames child by items) = All (FrameKnown words) items
NodeKnown words (Aggregate child aggs) = All (AggKnown words) aggs
NodeKnown words node = ⊤

-- so are those of all nodes
pub record AreKnown (words : List ℕ) (nodes : List PlanNode) : Type 0 where
  pub each : (number : ℕ) (node : PlanNode) → slice_get nodes number ≡ Some node → NodeKnown words node
