-- Values of fields.
use Rattle.std.specs.Prelude.{ℕ, pos, ◌+◌, ◌-◌, ◌*◌, Bool, false, not, ◌&&◌, List, [], ◌∷◌, length, drop, Option, Some, None, nat_le, ◌==◌, if◌then◌else◌}
use Rattle.std.specs.List.{fold, list_all}
use Rattle.std.specs.Str.Lossy.{utf8_valid_len}
use Rattle.gl_values.specs.declared.kind.Kind.{Kind}
use Rattle.gl_values.specs.Kinds.{bytes_in, has_negative, in_range, negative_word, width_of}
use Rattle.gl_values.specs.Kinds as kinds
use Rattle.gl_bits.specs.Words.{Word}
use Rattle.gl_schema.specs.Names.{is_digit}
use Rattle.gl_schema.specs.Schemas.{text_word}

-- a field is UTF-8
unfoldable pub is_utf8 : List ℕ → Bool
is_utf8 field = utf8_valid_len field == length field

-- each byte is a decimal digit
unfoldable pub are_digits : List ℕ → Bool
are_digits field = list_all is_digit field

-- a field of at least one byte, each a decimal digit
unfoldable pub is_number : List ℕ → Bool
is_number field = not (length field == 0) && are_digits field

-- the number that digits spell
unfoldable pub number_in : List ℕ → ℕ
number_in digits = fold (λ n b. 10 * n + (b - 48)) 0 digits

-- the number of a field, if it is one
unfoldable pub number_of : List ℕ → Option ℕ
number_of field = if is_number field then Some (number_in field) else None

-- each byte is one of 0x20 to 0x7E
abbrev pub is_printable : ℕ → Bool
is_printable b = nat_le 32 b && nat_le b 126

-- a field whose bytes can all be printed
unfoldable pub is_plain : List ℕ → Bool
is_plain field = list_all is_printable field

-- the word of a number, where it is in range
abbrev pub fitting : Kind → Option ℕ → Option Word
fitting kind None = None
fitting kind (Some n) =
    if in_range kind (pos n) then Some (record { bits = kinds.word_of (width_of kind) (pos n); width = width_of kind })
    else None

-- the word of a number behind a minus sign, where the kind has it
abbrev pub fitting_negative : Kind → Option ℕ → Option Word
fitting_negative kind None = None
fitting_negative kind (Some n) =
    if has_negative kind n then Some (record { bits = negative_word kind n; width = width_of kind }) else None

-- a minus sign stands first
abbrev pub has_minus : List ℕ → Bool
has_minus [] = false
has_minus (b ∷ bs) = b == 45

-- the word of digits, or of a minus sign and digits
abbrev pub integer_word : Kind → List ℕ → Option Word
integer_word kind field =
    if has_minus field then fitting_negative kind (number_of (drop 1 field)) else fitting kind (number_of field)

-- the word of a plain text, where it has no more bytes than the kind
abbrev pub short_enough : Kind → List ℕ → Option Word
short_enough kind field =
    if nat_le (length field) (bytes_in kind) && is_plain field
    then Some (record { bits = text_word (bytes_in kind) field; width = width_of kind }) else None

-- the word of a field in a column of a kind
unfoldable pub word_of : Kind → List ℕ → Option Word
word_of kind field = if kinds.is_number kind then integer_word kind field else short_enough kind field
