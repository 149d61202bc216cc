-- Numbers that are compared with a power of two, whatever their size.
use Rattle.std.specs.Prelude.{ℕ, ◌+◌, ◌*◌, ◌/◌, ◌%◌, List, [], ◌∷◌, nat_eq, if◌then◌else◌}

-- the number of limbs of 32 bits, the lowest first
abbrev pub value_of : List ℕ → ℕ
value_of [] = 0
value_of (l ∷ ls) = l + 4294967296 * value_of ls

-- limbs times a radix, and a digit more
abbrev pub grown : ℕ → ℕ → List ℕ → List ℕ
grown radix carry [] = if nat_eq carry 0 then [] else carry ∷ []
grown radix carry (l ∷ ls) = ((l * radix + carry) % 4294967296) ∷ grown radix ((l * radix + carry) / 4294967296) ls
