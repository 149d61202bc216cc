-- Names of streams, columns and results.
use Rattle.std.specs.Prelude.{ℕ, Bool, false, not, ◌&&◌, ◌||◌, List, [], ◌∷◌, length, codes, bytes_eq, nat_le, ◌==◌, IsTrue}
use Rattle.std.specs.List.{list_any, list_all}
use Rattle.gl_bits.specs.Limits.{most_bytes}

-- a byte from a to z
abbrev pub is_lower : ℕ → Bool
is_lower b = nat_le 97 b && nat_le b 122

-- a byte from 0 to 9
abbrev pub is_digit : ℕ → Bool
is_digit b = nat_le 48 b && nat_le b 57

-- a byte that may stand in a name: a small letter, a digit or an underscore
abbrev pub is_name_byte : ℕ → Bool
is_name_byte b = is_lower b || is_digit b || (b == 95)

-- each byte may stand in a name
unfoldable pub has_name_bytes : List ℕ → Bool
has_name_bytes bytes = list_all is_name_byte bytes

-- the first byte is a small letter
unfoldable pub begins_with_letter : List ℕ → Bool
begins_with_letter [] = false
begins_with_letter (b ∷ bs) = is_lower b

-- an underscore stands last or before another underscore
unfoldable pub has_loose_underscore : List ℕ → Bool
has_loose_underscore [] = false
has_loose_underscore (a ∷ []) = a == 95
has_loose_underscore (a ∷ b ∷ bs) = ((a == 95) && (b == 95)) || has_loose_underscore (b ∷ bs)

-- the keywords of the query language in lower case
unfoldable pub keywords : List (List ℕ)
keywords =
    codes "select" ∷ codes "from" ∷ codes "where" ∷ codes "group" ∷ codes "by" ∷ codes "groups" ∷ codes "each"
    ∷ codes "in"
    ∷ codes "size" ∷ codes "advance" ∷ codes "tuples" ∷ codes "time" ∷ codes "union" ∷ codes "concat" ∷ codes "into"
    ∷ codes "as"
    ∷ codes "and" ∷ codes "or" ∷ codes "not" ∷ codes "cast" ∷ codes "count" ∷ codes "sum" ∷ codes "min" ∷ codes "max"
    ∷ codes "avg"
    ∷ codes "wsum" ∷ []

-- words with a meaning of their own in a tuple file or on a module's ports
unfoldable pub reserved : List (List ℕ)
reserved = codes "end" ∷ codes "tick" ∷ codes "valid" ∷ codes "eos" ∷ []

-- a word with another meaning
unfoldable pub is_taken : List ℕ → Bool
is_taken bytes = list_any (bytes_eq bytes) keywords || list_any (bytes_eq bytes) reserved

-- a small letter, then small letters, digits and single underscores, none last: at most 32 bytes, and no word with
-- another meaning
unfoldable pub is_name : List ℕ → Bool
is_name bytes =
    nat_le (length bytes) most_bytes && begins_with_letter bytes && has_name_bytes bytes && not
    (has_loose_underscore bytes)
    && not (is_taken bytes)

-- these bytes are a name
abbrev pub IsName : List ℕ → Type 0
IsName bytes = IsTrue (is_name bytes)
