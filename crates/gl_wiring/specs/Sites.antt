-- That nodes are a plan, and that figures are theirs, has one proof at most: what a site keeps beside its plan.
-- No promise rests on it.
use Rattle.std.specs.Prelude.{ℕ, ◌≡◌, List, slice_get, Option, Some, None}
use Rattle.std.specs.Coded.{Coded}
use Rattle.std.proofs.Common.{ap}
use Rattle.std.proofs.Props.{props}
use mathlib.Core.HLevel.{Σ_prop_path}
use Rattle.gl_values.specs.declared.kind.Kind.{Kind}
use Rattle.gl_values.specs.contracts.kind.Kind as kind
use Rattle.gl_values.specs.declared.op.Sort.{Sort}
use Rattle.gl_values.specs.declared.op.Sort.TheVariants.{Arithmetic, Comparison, Logic}
use Rattle.gl_algebra.specs.contracts.node.PlanNode as node
use Rattle.gl_algebra.specs.declared.figures.Figures.{Figures}
use Rattle.gl_algebra.specs.contracts.figures.Figures as figures
use Rattle.gl_algebra.specs.declared.node.PlanNode.{PlanNode}
use Rattle.gl_algebra.specs.declared.node.PlanNode.TheVariants.{Stream, Body, Compute, Select, Project, Frames, Aggregate, Union, Merge, Beside, Window, TimeWindow, Group, Partition}
use Rattle.gl_algebra.specs.declared.node.Operand.{Operand}
use Rattle.gl_algebra.specs.declared.node.Operand.TheVariants.{Column, Literal, Parameter}
use Rattle.gl_algebra.specs.declared.node.ColOp.{ColOp}
use Rattle.gl_algebra.specs.declared.node.ColOp.TheVariants.{Not, Flip, Cast, Binary}
use Rattle.gl_algebra.specs.declared.node.PlanAgg.{PlanAgg}
use Rattle.gl_algebra.specs.declared.node.PlanAgg.TheVariants.{Count, Sum, Min, Max, Avg, Wsum}
use Rattle.gl_algebra.specs.declared.node.PlanFrame.{PlanFrame}
use Rattle.gl_algebra.specs.declared.node.PlanFrame.TheVariants.{Own, Lag, Over}
use Rattle.gl_algebra.specs.declared.node.PlanFrameAgg.{PlanFrameAgg}
use Rattle.gl_algebra.specs.declared.node.PlanFrameAgg.TheVariants as over
use Rattle.gl_algebra.specs.declared.node.PlanKey.{PlanKey}
use Rattle.gl_algebra.specs.Columns.{OperandFits, SortFits, OpFits, AggFits, FrameAggFits, ConditionFits, BackFits, FrameFits}
use Rattle.gl_algebra.specs.Fits.{IsOverStream, IsPlan, KeyFits, Suits}
use Rattle.gl_algebra.specs.Shapes.{Shape}
use Rattle.gl_algebra.specs.Small.{AreFigures}

-- kinds, nodes and figures are told apart by their codes, so two are equal in one way at most
abbrev kind_code : Coded Kind
kind_code = kind.the_row.coded

abbrev node_code : Coded PlanNode
node_code = node.the_row.coded

abbrev figures_code : Coded Figures
figures_code = figures.the_row.coded

ruleset sets = (props, kind_code, node_code, figures_code)

-- that an operand, an operation, an aggregate and a node suit what they are over, by their forms
operand_prop : (kinds : List Kind) (operand : Operand) → IsProp (OperandFits kinds operand)
operand_prop kinds (Column column) = hlevel sets
operand_prop kinds (Literal word k) = hlevel sets
operand_prop kinds (Parameter number k) = hlevel sets

sort_prop : (sort : Sort) (k : Kind) → IsProp (SortFits sort k)
sort_prop Arithmetic k = hlevel sets
sort_prop Comparison k = hlevel sets
sort_prop Logic k = hlevel sets

op_prop : (kinds : List Kind) (op : ColOp) → IsProp (OpFits kinds op)
op_prop kinds (Not operand) = hlevel (sets, operand_prop)
op_prop kinds (Flip operand) = hlevel (sets, operand_prop)
op_prop kinds (Cast operand k) = hlevel (sets, operand_prop)
op_prop kinds (Binary operator left right) = hlevel (sets, operand_prop, sort_prop)

agg_prop : (kinds : List Kind) (agg : PlanAgg) → IsProp (AggFits kinds agg)
agg_prop kinds Count = hlevel sets
agg_prop kinds (Sum operand) = hlevel (sets, operand_prop)
agg_prop kinds (Min operand) = hlevel (sets, operand_prop)
agg_prop kinds (Max operand) = hlevel (sets, operand_prop)
agg_prop kinds (Avg operand) = hlevel (sets, operand_prop)
agg_prop kinds (Wsum operand weights) = hlevel (sets, operand_prop)

frame_agg_prop : (kinds : List Kind) (agg : PlanFrameAgg) → IsProp (FrameAggFits kinds agg)
frame_agg_prop kinds over.Count = hlevel sets
frame_agg_prop kinds (over.Sum operand) = hlevel (sets, operand_prop)
frame_agg_prop kinds (over.Min operand) = hlevel (sets, operand_prop)
frame_agg_prop kinds (over.Max operand) = hlevel (sets, operand_prop)
frame_agg_prop kinds (over.Avg operand) = hlevel (sets, operand_prop)
frame_agg_prop kinds (over.LastValue operand) = hlevel (sets, operand_prop)

condition_prop : (kinds : List Kind) (o : Option ℕ) → IsProp (ConditionFits kinds o)
condition_prop kinds None = hlevel sets
condition_prop kinds (Some column) = hlevel sets

back_prop : (o : Option ℕ) → IsProp (BackFits o)
back_prop None = hlevel sets
back_prop (Some back) = hlevel sets

frame_prop : (kinds : List Kind) (frame : PlanFrame) → IsProp (FrameFits kinds frame)
frame_prop kinds (Own operand) = hlevel (sets, operand_prop)
frame_prop kinds (Lag operand back) = hlevel (sets, operand_prop)
frame_prop kinds (Over agg filter back) = hlevel (sets, frame_agg_prop, condition_prop, back_prop)

key_prop : (kinds : List Kind) (o : Option PlanKey) → IsProp (KeyFits kinds o)
key_prop kinds None = hlevel sets
key_prop kinds (Some by) = hlevel sets

suits_prop : (shapes : ℕ → Shape) (n : PlanNode) → IsProp (Suits shapes n)
suits_prop shapes (Stream number kinds) = hlevel sets
suits_prop shapes (Body kinds) = hlevel sets
suits_prop shapes (Compute child ops) = hlevel (sets, op_prop)
suits_prop shapes (Select child column) = hlevel sets
suits_prop shapes (Project child items) = hlevel (sets, operand_prop)
suits_prop shapes (Frames child by items) = hlevel (sets, frame_prop, key_prop)
suits_prop shapes (Aggregate child aggs) = hlevel (sets, agg_prop)
suits_prop shapes (Union left right) = hlevel sets
suits_prop shapes (Merge left right) = hlevel sets
suits_prop shapes (Beside left right) = hlevel sets
suits_prop shapes (Window source body size advance) = hlevel sets
suits_prop shapes (TimeWindow source body size advance) = hlevel sets
suits_prop shapes (Group source body key groups) = hlevel sets
suits_prop shapes (Partition source body key groups size advance) = hlevel sets

-- an entry is a stream
abbrev IsStream : Option PlanNode → Type 0
IsStream o = (number : ℕ) × (kinds : List Kind) × (o ≡ Some (Stream number kinds))

-- it is one stream at most
kinds_same : (o : Option PlanNode) (n : ℕ) (k l : List Kind) → o ≡ Some (Stream n k) → o ≡ Some (Stream n l) → k ≡ l
kinds_same o n k l p q = cc

number_same : (o : Option PlanNode) (n m : ℕ) (k l : List Kind) → o ≡ Some (Stream n k) → o ≡ Some (Stream m l) → n ≡ m
number_same o n m k l p q = cc

-- it is a stream of this number, and of some number
unfoldable Kinds : Option PlanNode → ℕ → Type 0
Kinds o n = (kinds : List Kind) × (o ≡ Some (Stream n kinds))

unfoldable Parts : Option PlanNode → Type 0
Parts o = (number : ℕ) × Kinds o number

kinds_prop : (o : Option PlanNode) (n : ℕ) → IsProp (Kinds o n)
unfolding Kinds
kinds_prop o n = λ x y. Σ_prop_path (λ k. hlevel sets) (kinds_same o n x.0 y.0 x.1 y.1)

parts_prop : (o : Option PlanNode) → IsProp (Parts o)
unfolding Kinds Parts
parts_prop o = λ x y. Σ_prop_path (kinds_prop o) (number_same o x.0 y.0 x.1.0 y.1.0 x.1.1 y.1.1)

stream_prop : (o : Option PlanNode) → IsProp (IsStream o)
unfolding Kinds Parts
stream_prop o = λ x y.
    let from : Parts o → IsStream o = λ z. (z.0, z.1.0, z.1.1) in
    ap from (parts_prop o (x.0, (x.1, x.2)) (y.0, (y.1, y.2)))

over_prop : (nodes : List PlanNode) (n : PlanNode) → IsProp (IsOverStream nodes n)
over_prop nodes (TimeWindow source body size advance) = stream_prop (slice_get nodes source)
over_prop nodes (Stream number kinds) = hlevel sets
over_prop nodes (Body kinds) = hlevel sets
over_prop nodes (Compute child ops) = hlevel sets
over_prop nodes (Select child column) = hlevel sets
over_prop nodes (Project child items) = hlevel sets
over_prop nodes (Frames child by items) = hlevel sets
over_prop nodes (Aggregate child aggs) = hlevel sets
over_prop nodes (Union left right) = hlevel sets
over_prop nodes (Merge left right) = hlevel sets
over_prop nodes (Beside left right) = hlevel sets
over_prop nodes (Window source body size advance) = hlevel sets
over_prop nodes (Group source body key groups) = hlevel sets
over_prop nodes (Partition source body key groups size advance) = hlevel sets

-- that nodes are a plan
pub IsPlan-prop : (nodes : List PlanNode) → IsProp (IsPlan nodes)
IsPlan-prop nodes = hlevel (sets, suits_prop, over_prop)

-- that figures are theirs
pub Figures-prop : (nodes : List PlanNode) (figures : List Figures) → IsProp (AreFigures nodes figures)
Figures-prop nodes figures = hlevel sets
