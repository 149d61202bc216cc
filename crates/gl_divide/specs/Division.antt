-- Division digit by digit, with two digits, as it is done by hand: a restoring division, from the highest digit on.
use Rattle.std.specs.Prelude.{ℕ, zero, suc, ◌+◌, ◌-◌, ◌*◌, ◌%◌, ◌^◌, Bool, nat_eq, nat_le, if◌then◌else◌}
use Rattle.gl_bits.specs.Words.{bit, cut_of}

-- the highest bit of a word of this width
unfoldable pub highest : ℕ → ℕ → Bool
highest width x = nat_eq (cut_of (width - 1) (width - 1) x) 1

-- the word one place higher, with a bit behind it; its highest bit is lost
unfoldable pub with_bit : ℕ → ℕ → Bool → ℕ
with_bit width x b = (2 * x + bit b) % 2 ^ width

-- whether the bottom fits into what is left with one more digit
unfoldable pub fits : ℕ → ℕ → Bool → Bool
fits rest bottom next = nat_le bottom (2 * rest + bit next)

-- what is left behind a digit: the rest with the next digit, less the divisor where that fits
unfoldable pub left : ℕ → ℕ → Bool → ℕ
left rest bottom next = if fits rest bottom next then 2 * rest + bit next - bottom else 2 * rest + bit next

-- a division under way: the digits of the top that are to come, with those of the quotient behind them; what is left of
-- the digits that are gone; and the bottom
pub record Division : Type 0 where
  pub digits : ℕ
  pub rest : ℕ
  pub bottom : ℕ

-- the digit that comes next
abbrev pub next_digit : ℕ → Division → Bool
next_digit width d = highest width d.digits

-- the divisor fits into the rest with the next digit behind it
abbrev pub fits_next : ℕ → Division → Bool
fits_next width d = fits d.rest d.bottom (next_digit width d)

-- one digit more, of a top of this width
abbrev pub one_digit : ℕ → Division → Division
one_digit width d = record {
  digits = with_bit width d.digits (fits_next width d);
  rest = left d.rest d.bottom (next_digit width d);
  bottom = d.bottom;
}

-- so many digits
abbrev pub digits_on : ℕ → ℕ → Division → Division
digits_on width zero d = d
digits_on width (suc n) d = one_digit width (digits_on width n d)

-- before the first digit
abbrev pub undivided : ℕ → ℕ → Division
undivided top bottom = record { digits = top; rest = 0; bottom = bottom }
