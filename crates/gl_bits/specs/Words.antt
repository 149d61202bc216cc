-- Words: numbers below a power of two, with their width, and what the operators give.
-- After IEEE 1364-2005, clause 5, for operands of one width.
use Rattle.std.specs.Prelude.{ℕ, ◌+◌, ◌-◌, ◌*◌, ◌/◌, ◌%◌, ◌^◌, ◌<◌, ◌≤◌, Bool, true, false, List, map, nat_eq, nat_lt, nat_le, if◌then◌else◌}

-- a word: its number and its width in bits
pub record Word : Type 0 where
  pub bits : ℕ
  pub width : ℕ

-- a width that a word may have
pub record IsWidth (width : ℕ) : Type 0 where
  pub some' : 1 ≤ width
  pub most : width ≤ 128

-- the number is below 2 ^ width
pub record IsWord (w : Word) : Type 0 where
  pub width : IsWidth w.width
  pub fits : w.bits < 2 ^ w.width

-- the numbers of a list of words
abbrev pub bits_of : List Word → List ℕ
bits_of words = map (λ w. w.bits) words

-- the widths of a list of words
abbrev pub widths_of : List Word → List ℕ
widths_of words = map (λ w. w.width) words

-- one bit: 1 for true, 0 for false
abbrev pub bit : Bool → ℕ
bit true = 1
bit false = 0

-- the sum of two words, modulo two to the power of the width
unfoldable pub sum_of : ℕ → ℕ → ℕ → ℕ
sum_of w x y = (x + y) % 2 ^ w

-- the difference of two words, modulo two to the power of the width
unfoldable pub difference_of : ℕ → ℕ → ℕ → ℕ
difference_of w x y = (x + (2 ^ w - y)) % 2 ^ w

-- the product of two words, modulo two to the power of the width
unfoldable pub product_of : ℕ → ℕ → ℕ → ℕ
product_of w x y = (x * y) % 2 ^ w

-- every bit inverted
unfoldable pub not_of : ℕ → ℕ → ℕ
not_of w x = 2 ^ w - 1 - x

-- one bit that tells whether two words are equal
unfoldable pub eq_of : ℕ → ℕ → ℕ
eq_of x y = bit (nat_eq x y)

-- one bit that tells whether the first word is below the second
unfoldable pub lt_of : ℕ → ℕ → ℕ
lt_of x y = bit (nat_lt x y)

-- one bit that tells whether the first word is at most the second
unfoldable pub le_of : ℕ → ℕ → ℕ
le_of x y = bit (nat_le x y)

-- the first part above the second, which is `low` bits wide
unfoldable pub join_of : ℕ → ℕ → ℕ → ℕ
join_of low x y = x * 2 ^ low + y

-- the bits from `low` to `high`
unfoldable pub cut_of : ℕ → ℕ → ℕ → ℕ
cut_of high low x = (x / 2 ^ low) % 2 ^ (high + 1 - low)

-- the first where the test is 1, else the second
unfoldable pub choose_of : ℕ → ℕ → ℕ → ℕ
choose_of test yes' no' = if nat_eq test 1 then yes' else no'
