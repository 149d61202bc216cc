-- A kind by cases on the bytes of its text, as the reader finds it.
-- A middle layer, proved equal to `SchemaText`: no promise rests on it.
use Rattle.std.specs.Prelude.{ℕ, ◌+◌, ◌-◌, ◌*◌, Bool, ◌&&◌, List, [], ◌∷◌, Option, Some, None, nat_le, ◌==◌, if◌then◌else◌}
use Rattle.gl_values.specs.declared.kind.Kind.{Kind}
use Rattle.gl_values.specs.declared.kind.Kind.TheVariants.{Unsigned, Signed, Text}

-- a byte from low to 9
abbrev pub is_digit_from : ℕ → ℕ → Bool
is_digit_from low b = nat_le low b && nat_le b 57

-- the number that one or two digits spell, the first not 0; 0 for anything else
abbrev pub small_number : List ℕ → ℕ
small_number [] = 0
small_number (a ∷ []) = if is_digit_from 49 a then a - 48 else 0
small_number (a ∷ b ∷ []) = if is_digit_from 49 a && is_digit_from 48 b then 10 * (a - 48) + (b - 48) else 0
small_number (a ∷ b ∷ c ∷ cs) = 0

-- a size that a kind may have, from the least to the most
abbrev pub sized : (ℕ → Kind) → ℕ → ℕ → ℕ → Option Kind
sized kind least most n = if nat_le least n && nat_le n most then Some (kind n) else None

-- a kind that begins with `text`, and a size from 1 to 8
abbrev pub text_read : List ℕ → Option Kind
text_read [] = None
text_read (a ∷ []) = None
text_read (a ∷ b ∷ []) = None
text_read (a ∷ b ∷ c ∷ []) = None
text_read (a ∷ b ∷ c ∷ d ∷ digits) =
    if (a == 116) && (b == 101) && (c == 120) && (d == 116) then sized Text 1 8 (small_number digits) else None

-- a kind that begins with `s`, and a size from 2 to 64; anything else may still be a text
abbrev pub signed_read : List ℕ → Option Kind
signed_read [] = None
signed_read (a ∷ digits) = if a == 115 then sized Signed 2 64 (small_number digits) else text_read (a ∷ digits)

-- a kind that begins with `u`, and a size from 1 to 64; anything else may still be signed or a text
abbrev pub kind_read : List ℕ → Option Kind
kind_read [] = None
kind_read (a ∷ digits) = if a == 117 then sized Unsigned 1 64 (small_number digits) else signed_read (a ∷ digits)
