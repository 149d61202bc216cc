-- The gate of each operator, and whether it takes the right operand first: there is no gate for > and >=. A shift is made
-- of no such gate, and what is said of one here is of no use.
use Rattle.std.specs.Prelude.{ℕ, ◌-◌, ◌^◌, Bool, true, false, bit_xor, if◌then◌else◌}
use Rattle.gl_values.specs.declared.op.Op.{Op}
use Rattle.gl_net.specs.declared.node.BinaryOp.{BinaryOp}
use Rattle.gl_net.specs.declared.node.BinaryOp.TheVariants as Gate
use Rattle.gl_net.specs.Net.{binary_of}

-- the gate that an operator uses; greater than is less than with its operands turned
abbrev pub gate_of : Op → BinaryOp
gate_of Op.Add = Gate.Add
gate_of Op.Sub = Gate.Sub
gate_of Op.Mul = Gate.Mul
gate_of Op.BitAnd = Gate.And
gate_of Op.BitOr = Gate.Or
gate_of Op.BitXor = Gate.Xor
gate_of Op.ShiftLeft = Gate.Mul
gate_of Op.ShiftRight = Gate.Mul
gate_of Op.Eq = Gate.Eq
gate_of Op.Ne = Gate.Ne
gate_of Op.Lt = Gate.Lt
gate_of Op.Le = Gate.Le
gate_of Op.Gt = Gate.Lt
gate_of Op.Ge = Gate.Le
gate_of Op.And = Gate.And
gate_of Op.Or = Gate.Or

-- the operator's gate takes the right operand first
abbrev pub is_turned : Op → Bool
is_turned Op.Add = false
is_turned Op.Sub = false
is_turned Op.Mul = false
is_turned Op.BitAnd = false
is_turned Op.BitOr = false
is_turned Op.BitXor = false
is_turned Op.ShiftLeft = false
is_turned Op.ShiftRight = false
is_turned Op.Eq = false
is_turned Op.Ne = false
is_turned Op.Lt = false
is_turned Op.Le = false
is_turned Op.Gt = true
is_turned Op.Ge = true
is_turned Op.And = false
is_turned Op.Or = false

-- what it gives of two words of a width
abbrev pub gated : Op → ℕ → ℕ → ℕ → ℕ
gated op width x y = if is_turned op then binary_of (gate_of op) width y x else binary_of (gate_of op) width x y

-- whether an operator orders its operands
abbrev pub is_order : Op → Bool
is_order Op.Add = false
is_order Op.Sub = false
is_order Op.Mul = false
is_order Op.BitAnd = false
is_order Op.BitOr = false
is_order Op.BitXor = false
is_order Op.ShiftLeft = false
is_order Op.ShiftRight = false
is_order Op.Eq = false
is_order Op.Ne = false
is_order Op.Lt = true
is_order Op.Le = true
is_order Op.Gt = true
is_order Op.Ge = true
is_order Op.And = false
is_order Op.Or = false

-- a word of a width whose highest bit is turned
abbrev pub top_turned : ℕ → ℕ → ℕ
top_turned width x = bit_xor x (2 ^ (width - 1))
