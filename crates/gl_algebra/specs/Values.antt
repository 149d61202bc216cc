-- The values of operations on one row. A row is the list of its words' numbers, in the order of the columns.
use Rattle.std.specs.Prelude.{ℕ, List, slice_index}
use Rattle.gl_values.specs.Kinds.{width_of}
use Rattle.gl_values.specs.Operators.{cast_of, operate}
use Rattle.gl_bits.specs.Words.{not_of}
use Rattle.gl_values.specs.declared.kind.Kind.{Kind}
use Rattle.gl_algebra.specs.declared.node.Operand.{Operand}
use Rattle.gl_algebra.specs.declared.node.Operand.TheVariants.{Column, Literal, Parameter}
use Rattle.gl_algebra.specs.declared.node.ColOp.{ColOp}
use Rattle.gl_algebra.specs.declared.node.ColOp.TheVariants.{Not, Flip, Cast, Binary}
use Rattle.gl_algebra.specs.Columns.{kind_of_operand}

-- the words of the parameters, by their numbers
abbrev pub Sets : Type 0
Sets = ℕ → ℕ

-- the value of an operand
abbrev pub value_of_operand : Sets → List ℕ → Operand → ℕ
value_of_operand sets row (Column column) = slice_index row column
value_of_operand sets row (Literal word kind) = word.bits
value_of_operand sets row (Parameter number kind) = sets number

-- the value of an operation on a row whose columns have these kinds
abbrev pub value_of_op : Sets → List Kind → List ℕ → ColOp → ℕ
value_of_op sets kinds row (Not operand) = not_of 1 (value_of_operand sets row operand)
value_of_op sets kinds row (Flip operand) =
    not_of (width_of (kind_of_operand kinds operand)) (value_of_operand sets row operand)
value_of_op sets kinds row (Cast operand kind) =
    cast_of (kind_of_operand kinds operand) kind (value_of_operand sets row operand)
value_of_op sets kinds row (Binary operator left right) =
    operate operator (kind_of_operand kinds left) (value_of_operand sets row left) (value_of_operand sets row right)
