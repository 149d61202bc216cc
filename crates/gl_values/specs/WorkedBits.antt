-- Worked words of 8 bits: what the operators on bits give. A word above 127 stands for a number below 0 where the kind has
-- a sign: 249 for -7, 254 for -2, 128 for -128, 252 for -4, 192 for -64.
use Rattle.std.specs.Prelude.{◌≡◌}
use Rattle.gl_values.specs.declared.kind.Kind.TheVariants.{Unsigned, Signed}
use Rattle.gl_values.specs.declared.op.Op.TheVariants.{BitAnd, BitOr, BitXor, ShiftLeft, ShiftRight}
use Rattle.gl_values.specs.Operators.{operate}

-- what the operators on bits give of some words
pub record WorkedBits : Type 0 where
  pub both : operate BitAnd (Unsigned 8) 7 6 ≡ 6
  pub either : operate BitOr (Unsigned 8) 9 6 ≡ 15
  pub one_alone : operate BitXor (Unsigned 8) 255 6 ≡ 249
  -- the highest bits go
  pub up : operate ShiftLeft (Unsigned 8) 255 1 ≡ 254
  -- up into the sign: 64 becomes -128
  pub up_signed : operate ShiftLeft (Signed 8) 64 1 ≡ 128
  -- zero bits come above a number without a sign
  pub down : operate ShiftRight (Unsigned 8) 255 1 ≡ 127
  -- the sign stays: half of -7, toward minus infinity, is -4
  pub down_signed : operate ShiftRight (Signed 8) 249 1 ≡ 252
  -- a number with a sign that is not below 0
  pub down_above : operate ShiftRight (Signed 8) 7 1 ≡ 3
  -- the least number by one place, and by seven
  pub least : operate ShiftRight (Signed 8) 128 1 ≡ 192
  pub all_sign : operate ShiftRight (Signed 8) 128 7 ≡ 255
