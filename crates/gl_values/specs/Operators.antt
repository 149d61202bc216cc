-- What binary operators do, and what they give of two words of one kind; and what CAST gives.
-- After IEEE 1364-2005, clause 5, for operands of one width.
use Rattle.std.specs.Prelude.{ℕ, ◌*◌, ◌/◌, ◌^◌, Bool, true, false, not, ◌||◌, bit_and, bit_or, bit_xor, nat_lt, if◌then◌else◌}
use Rattle.gl_bits.specs.Words.{bit, sum_of, difference_of, product_of, not_of, eq_of}
use Rattle.gl_values.specs.Kinds.{width_of, number_of, word_of, is_number, is_below, is_at_most, shifted_down}
use Rattle.gl_values.specs.declared.kind.Kind.{Kind}
use Rattle.gl_values.specs.declared.kind.Kind.TheVariants.{Unsigned}
use Rattle.gl_values.specs.contracts.kind.KindPartialEq.TheImpl as OfKind
use Rattle.gl_values.specs.declared.op.Op.{Op}
use Rattle.gl_values.specs.declared.op.Op.TheVariants.{Add, Sub, Mul, BitAnd, BitOr, BitXor, ShiftLeft, ShiftRight, Eq, Ne, Lt, Le, Gt, Ge, And, Or}
use Rattle.gl_values.specs.declared.op.Sort.{Sort}
use Rattle.gl_values.specs.declared.op.Sort.TheVariants.{Arithmetic, Comparison, Logic}

-- what an operator does
abbrev pub sort_of : Op → Sort
sort_of Add = Arithmetic
sort_of Sub = Arithmetic
sort_of Mul = Arithmetic
sort_of BitAnd = Arithmetic
sort_of BitOr = Arithmetic
sort_of BitXor = Arithmetic
sort_of ShiftLeft = Arithmetic
sort_of ShiftRight = Arithmetic
sort_of Eq = Comparison
sort_of Ne = Comparison
sort_of Lt = Comparison
sort_of Le = Comparison
sort_of Gt = Comparison
sort_of Ge = Comparison
sort_of And = Logic
sort_of Or = Logic

-- an operator that shifts its left operand by its right one, a literal
abbrev pub is_shift : Op → Bool
is_shift Add = false
is_shift Sub = false
is_shift Mul = false
is_shift BitAnd = false
is_shift BitOr = false
is_shift BitXor = false
is_shift ShiftLeft = true
is_shift ShiftRight = true
is_shift Eq = false
is_shift Ne = false
is_shift Lt = false
is_shift Le = false
is_shift Gt = false
is_shift Ge = false
is_shift And = false
is_shift Or = false

-- a shift goes by fewer places than its kind has bits; every other operator takes any word on its right
abbrev pub shifts_within : Op → Kind → ℕ → Bool
shifts_within op kind y = not (is_shift op) || nat_lt y (width_of kind)

-- an operator that calculates, or works on bits
abbrev pub is_arithmetic : Sort → Bool
is_arithmetic Arithmetic = true
is_arithmetic Comparison = false
is_arithmetic Logic = false

-- what is calculated, and what is made of bits, has its operands' kind; all else gives one bit
abbrev pub result_kind : Sort → Kind → Kind
result_kind Arithmetic kind = kind
result_kind Comparison kind = Unsigned 1
result_kind Logic kind = Unsigned 1

-- what an operator gives of two words of a kind, which compare as the numbers that they stand for
abbrev pub operate : Op → Kind → ℕ → ℕ → ℕ
operate Add kind x y = sum_of (width_of kind) x y
operate Sub kind x y = difference_of (width_of kind) x y
operate Mul kind x y = product_of (width_of kind) x y
operate BitAnd kind x y = bit_and x y
operate BitOr kind x y = bit_or x y
operate BitXor kind x y = bit_xor x y
operate ShiftLeft kind x y = product_of (width_of kind) x (2 ^ y)
operate ShiftRight kind x y = shifted_down kind x y
operate Eq kind x y = eq_of x y
operate Ne kind x y = not_of 1 (eq_of x y)
operate Lt kind x y = bit (is_below kind x y)
operate Le kind x y = bit (is_at_most kind x y)
operate Gt kind x y = bit (is_below kind y x)
operate Ge kind x y = bit (is_at_most kind y x)
operate And kind x y = bit_and x y
operate Or kind x y = bit_or x y

-- a number as the word of the new width that stands for it, which wraps; of a text the first bytes, or all of them with
-- zero bytes behind
abbrev pub cast_of : Kind → Kind → ℕ → ℕ
cast_of from to x =
    if is_number from then word_of (width_of to) (number_of from x) else x * 2 ^ width_of to / 2 ^ width_of from

-- two kinds are one
abbrev pub same_kind : Kind → Kind → Bool
same_kind = OfKind.ghosts.eq
