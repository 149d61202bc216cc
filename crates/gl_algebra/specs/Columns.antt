-- The kinds of columns: of operands, of operations, of aggregates, and when they fit the columns that they are applied
-- to.
use Rattle.std.specs.Prelude.{ℕ, ◌≡◌, ◌<◌, ◌≤◌, Bool, not, List, length, Option, Some, None, slice_get, slice_index_or, All, IsTrue, ⊤}
use Rattle.gl_bits.specs.Limits.{most_rows, most_weights}
use Rattle.gl_bits.specs.Words.{Word, IsWord}
use Rattle.gl_values.specs.Kinds.{width_of, can_cast, is_number, IsKind}
use Rattle.gl_values.specs.declared.kind.Kind.{Kind}
use Rattle.gl_values.specs.declared.kind.Kind.TheVariants.{Unsigned}
use Rattle.gl_values.specs.declared.op.Op.{Op}
use Rattle.gl_values.specs.declared.op.Sort.{Sort}
use Rattle.gl_values.specs.declared.op.Sort.TheVariants.{Arithmetic, Comparison, Logic}
use Rattle.gl_values.specs.Operators.{is_shift, result_kind, shifts_within, sort_of}
use Rattle.gl_algebra.specs.declared.node.Operand.{Operand}
use Rattle.gl_algebra.specs.declared.node.Operand.TheVariants.{Column, Literal, Parameter}
use Rattle.gl_algebra.specs.declared.node.ColOp.{ColOp}
use Rattle.gl_algebra.specs.declared.node.ColOp.TheVariants.{Not, Flip, Cast, Binary}
use Rattle.gl_algebra.specs.declared.node.PlanAgg.{PlanAgg}
use Rattle.gl_algebra.specs.declared.node.PlanAgg.TheVariants.{Count, Sum, Min, Max, Avg, Wsum}
use Rattle.gl_algebra.specs.declared.node.PlanFrame.{PlanFrame}
use Rattle.gl_algebra.specs.declared.node.PlanFrame.TheVariants.{Own, Lag, Over}
use Rattle.gl_algebra.specs.declared.node.PlanFrameAgg.{PlanFrameAgg}
use Rattle.gl_algebra.specs.declared.node.PlanFrameAgg.TheVariants as over

-- the kind of one bit
abbrev pub bit_kind : Kind
bit_kind = Unsigned 1

-- the kind of a column
abbrev pub kind_of_column : List Kind → ℕ → Kind
kind_of_column kinds column = slice_index_or kinds column bit_kind

-- the kind of an operand over columns of these kinds
abbrev pub kind_of_operand : List Kind → Operand → Kind
kind_of_operand kinds (Column column) = kind_of_column kinds column
kind_of_operand kinds (Literal word kind) = kind
kind_of_operand kinds (Parameter number kind) = kind

-- the kind of the column that an operation makes
abbrev pub kind_of_op : List Kind → ColOp → Kind
kind_of_op kinds (Not operand) = bit_kind
kind_of_op kinds (Flip operand) = kind_of_operand kinds operand
kind_of_op kinds (Cast operand kind) = kind
kind_of_op kinds (Binary operator left right) = result_kind (sort_of operator) (kind_of_operand kinds left)

-- the kind of the column that an aggregate makes
abbrev pub kind_of_agg : List Kind → PlanAgg → Kind
kind_of_agg kinds Count = Unsigned 32
kind_of_agg kinds (Sum operand) = kind_of_operand kinds operand
kind_of_agg kinds (Min operand) = kind_of_operand kinds operand
kind_of_agg kinds (Max operand) = kind_of_operand kinds operand
kind_of_agg kinds (Avg operand) = kind_of_operand kinds operand
kind_of_agg kinds (Wsum operand weights) = kind_of_operand kinds operand

-- the kind of the column that a function over the rows of a frame makes
abbrev pub kind_of_frame_agg : List Kind → PlanFrameAgg → Kind
kind_of_frame_agg kinds over.Count = Unsigned 32
kind_of_frame_agg kinds (over.Sum operand) = kind_of_operand kinds operand
kind_of_frame_agg kinds (over.Min operand) = kind_of_operand kinds operand
kind_of_frame_agg kinds (over.Max operand) = kind_of_operand kinds operand
kind_of_frame_agg kinds (over.Avg operand) = kind_of_operand kinds operand
kind_of_frame_agg kinds (over.LastValue operand) = kind_of_operand kinds operand

-- the kind of the column that an item of a node of frames makes
abbrev pub kind_of_frame : List Kind → PlanFrame → Kind
kind_of_frame kinds (Own operand) = kind_of_operand kinds operand
kind_of_frame kinds (Lag operand back) = kind_of_operand kinds operand
kind_of_frame kinds (Over agg filter back) = kind_of_frame_agg kinds agg

-- a column that is there, a literal of its kind's width, or a parameter
abbrev pub OperandFits : List Kind → Operand → Type 0
OperandFits kinds (Column column) = column < length kinds
OperandFits kinds (Literal word kind) = IsWord word × IsKind kind × (word.width ≡ width_of kind)
OperandFits kinds (Parameter number kind) = IsKind kind

-- what both operands of an operator are: numbers, of any kind, or bits
abbrev pub SortFits : Sort → Kind → Type 0
SortFits Arithmetic kind = IsTrue (is_number kind)
SortFits Comparison kind = ⊤
SortFits Logic kind = kind ≡ bit_kind

-- a shift goes by a literal below the width alone; any operand stands on the right of another operator
abbrev pub distance_fits : Op → Kind → Operand → Bool
distance_fits operator kind (Column column) = not (is_shift operator)
distance_fits operator kind (Literal word k) = shifts_within operator kind word.bits
distance_fits operator kind (Parameter number k) = not (is_shift operator)

-- an operation whose operands are there and have the kinds that it takes
abbrev pub OpFits : List Kind → ColOp → Type 0
OpFits kinds (Not operand) = OperandFits kinds operand × (kind_of_operand kinds operand ≡ bit_kind)
OpFits kinds (Flip operand) = OperandFits kinds operand × IsTrue (is_number (kind_of_operand kinds operand))
OpFits kinds (Cast operand kind) = OperandFits kinds operand × IsTrue (can_cast (kind_of_operand kinds operand) kind)
OpFits kinds (Binary operator left right) =
    OperandFits kinds left × OperandFits kinds right
    × (kind_of_operand kinds left ≡ kind_of_operand kinds right)
    × SortFits (sort_of operator) (kind_of_operand kinds left)
    × IsTrue (distance_fits operator (kind_of_operand kinds left) right)

-- a weight is a number of its operand's kind
pub record WeightFits (kind : Kind) (weight : Word) : Type 0 where
  pub word : IsWord weight
  pub width : weight.width ≡ width_of kind

-- an aggregate whose operand is there and has a kind that it takes
abbrev pub AggFits : List Kind → PlanAgg → Type 0
AggFits kinds Count = ⊤
AggFits kinds (Sum operand) = OperandFits kinds operand × IsTrue (is_number (kind_of_operand kinds operand))
AggFits kinds (Min operand) = OperandFits kinds operand
AggFits kinds (Max operand) = OperandFits kinds operand
AggFits kinds (Avg operand) = OperandFits kinds operand × IsTrue (is_number (kind_of_operand kinds operand))
AggFits kinds (Wsum operand weights) =
    OperandFits kinds operand × IsTrue (is_number (kind_of_operand kinds operand))
    × (length weights ≤ most_weights) × All (WeightFits (kind_of_operand kinds operand)) weights

-- a function over the rows of a frame whose operand is there and has a kind that it takes
abbrev pub FrameAggFits : List Kind → PlanFrameAgg → Type 0
FrameAggFits kinds over.Count = ⊤
FrameAggFits kinds (over.Sum operand) = OperandFits kinds operand × IsTrue (is_number (kind_of_operand kinds operand))
FrameAggFits kinds (over.Min operand) = OperandFits kinds operand
FrameAggFits kinds (over.Max operand) = OperandFits kinds operand
FrameAggFits kinds (over.Avg operand) = OperandFits kinds operand × IsTrue (is_number (kind_of_operand kinds operand))
FrameAggFits kinds (over.LastValue operand) = OperandFits kinds operand

-- the column of a condition has one bit, where there is a condition
abbrev pub ConditionFits : List Kind → Option ℕ → Type 0
ConditionFits kinds None = ⊤
ConditionFits kinds (Some column) = slice_get kinds column ≡ Some bit_kind

-- a frame has at most 65,536 rows, the row itself among them; or all rows up to the row itself
abbrev pub BackFits : Option ℕ → Type 0
BackFits None = ⊤
BackFits (Some back) = back < most_rows

-- an item of a node of frames: its operands are there and have kinds that it takes, and it looks back over some rows
-- and not too many
abbrev pub FrameFits : List Kind → PlanFrame → Type 0
FrameFits kinds (Own operand) = OperandFits kinds operand
FrameFits kinds (Lag operand back) = OperandFits kinds operand × (1 ≤ back) × (back < most_rows)
FrameFits kinds (Over agg filter back) = FrameAggFits kinds agg × ConditionFits kinds filter × BackFits back
