-- Powers of two: the bits of a number, and the words of a ring in a memory.
use Rattle.std.specs.Prelude.{ℕ, zero, suc, ◌+◌, ◌^◌, nat_le, if◌then◌else◌}

-- the least exponent, of so many from this one on, whose power of two is at least a depth
abbrev pub least_exponent : ℕ → ℕ → ℕ → ℕ
least_exponent zero exponent depth = exponent
least_exponent (suc more) exponent depth =
    if nat_le depth (2 ^ exponent) then exponent else least_exponent more (suc exponent) depth

-- the words of a ring that holds so many entries: the least power of two that is at least 2 and at least the depth
unfoldable pub ring : ℕ → ℕ
ring depth = 2 ^ least_exponent depth 1 depth

-- the bits of a number: the least exponent whose power of two is above it, 0 for 0
abbrev pub digits : ℕ → ℕ
digits number = least_exponent (number + 1) 0 (number + 1)
