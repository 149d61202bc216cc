-- How the operators of an expression bind.
use Rattle.std.specs.Prelude.{ℕ}
use Rattle.gl_values.specs.declared.op.Op.{Op}
use Rattle.gl_values.specs.declared.op.Op.TheVariants as op

-- how loosely an operator binds
abbrev pub looseness : Op → ℕ
looseness op.Mul = 2
looseness op.Add = 3
looseness op.Sub = 3
looseness op.ShiftLeft = 4
looseness op.ShiftRight = 4
looseness op.BitAnd = 5
looseness op.BitXor = 6
looseness op.BitOr = 7
looseness op.Eq = 8
looseness op.Ne = 8
looseness op.Lt = 8
looseness op.Le = 8
looseness op.Gt = 8
looseness op.Ge = 8
looseness op.And = 10
looseness op.Or = 11

-- how loose its left side may be: comparisons do not follow one another, all else groups to the left
abbrev pub left_looseness : Op → ℕ
left_looseness op.Mul = 2
left_looseness op.Add = 3
left_looseness op.Sub = 3
left_looseness op.ShiftLeft = 4
left_looseness op.ShiftRight = 4
left_looseness op.BitAnd = 5
left_looseness op.BitXor = 6
left_looseness op.BitOr = 7
left_looseness op.Eq = 7
left_looseness op.Ne = 7
left_looseness op.Lt = 7
left_looseness op.Le = 7
left_looseness op.Gt = 7
left_looseness op.Ge = 7
left_looseness op.And = 10
left_looseness op.Or = 11
