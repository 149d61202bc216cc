-- Kinds of columns: numbers without and with a sign, and short texts.
use Rattle.std.specs.Prelude.{ℕ, ℤ, pos, ◌+ℤ◌, ◌-ℤ◌, neg_ℤ, ◌-◌, ◌*◌, ◌/◌, ◌^◌, ◌≤◌, Bool, true, false, ◌&&◌, int_le, int_lt, nat_le, nat_lt, unsigned_abs, if◌then◌else◌}
use Rattle.std.specs.Int.{int_rem_euclid}
use Rattle.gl_values.specs.declared.kind.Family.{Family}
use Rattle.gl_values.specs.declared.kind.Family.TheVariants.{Numbers, Texts}
use Rattle.gl_values.specs.declared.kind.Kind.{Kind}
use Rattle.gl_values.specs.declared.kind.Kind.TheVariants.{Unsigned, Signed, Text}

-- ---- what each kind answers for itself

-- the bits of a value: eight for each byte of a text
abbrev pub width_of : Kind → ℕ
width_of (Unsigned w) = w
width_of (Signed w) = w
width_of (Text n) = 8 * n

-- the fewest bits that a kind may have
abbrev pub fewest : Kind → ℕ
fewest (Unsigned w) = 1
fewest (Signed w) = 2
fewest (Text n) = 8

-- what its values are
abbrev pub family_of : Kind → Family
family_of (Unsigned w) = Numbers
family_of (Signed w) = Numbers
family_of (Text n) = Texts

-- whether its values have a sign
abbrev pub is_signed : Kind → Bool
is_signed (Unsigned w) = false
is_signed (Signed w) = true
is_signed (Text n) = false

-- ---- what follows for all of them

-- the number that a word of a width stands for in two's complement
abbrev pub signed_number : ℕ → ℕ → ℤ
signed_number width word = if nat_lt word (2 ^ (width - 1)) then pos word else pos word -ℤ pos (2 ^ width)

-- the number that a word of so many bits stands for, where a kind says whether it has a sign
abbrev pub number_in : Kind → ℕ → ℕ → ℤ
number_in kind bits word = if is_signed kind then signed_number bits word else pos word

-- the number that a word of a kind stands for: a text stands for its bytes, the first one highest
abbrev pub number_of : Kind → ℕ → ℤ
number_of kind word = number_in kind (width_of kind) word

-- the least number that so many bits of a kind hold: without a sign none is below 0
abbrev pub lowest : Kind → ℕ → ℤ
lowest kind bits = if is_signed kind then pos 0 -ℤ pos (2 ^ (bits - 1)) else pos 0

-- a kind has at most 64 bits, so a text has 1 to 8 bytes
abbrev pub IsKind : Kind → Type 0
IsKind kind = (fewest kind ≤ width_of kind) × (width_of kind ≤ 64)

-- a kind whose width is allowed: at least its fewest bits, and at most 64
abbrev pub is_kind : Kind → Bool
is_kind kind = nat_le (fewest kind) (width_of kind) && nat_le (width_of kind) 64

-- the bytes of a text
abbrev pub bytes_in : Kind → ℕ
bytes_in kind = width_of kind / 8

-- two families are one
abbrev pub are_alike : Family → Family → Bool
are_alike Numbers Numbers = true
are_alike Numbers Texts = false
are_alike Texts Numbers = false
are_alike Texts Texts = true

-- values of the kind are numbers
abbrev pub is_number : Kind → Bool
is_number kind = are_alike (family_of kind) Numbers

-- values of the kind are texts
abbrev pub is_text : Kind → Bool
is_text kind = are_alike (family_of kind) Texts

-- both kinds are of numbers, or both of texts
abbrev pub same_family : Kind → Kind → Bool
same_family first second = are_alike (family_of first) (family_of second)

-- words of one kind compare as their numbers
abbrev pub is_below : Kind → ℕ → ℕ → Bool
is_below kind x y = int_lt (number_of kind x) (number_of kind y)

-- a word stands for no greater number than another of its kind
abbrev pub is_at_most : Kind → ℕ → ℕ → Bool
is_at_most kind x y = int_le (number_of kind x) (number_of kind y)

-- a number is one of the 2 ^ width that words of a kind stand for, from the lowest on
abbrev pub in_range : Kind → ℤ → Bool
in_range kind number =
    int_le (lowest kind (width_of kind)) number
    && int_lt number (lowest kind (width_of kind) +ℤ pos (2 ^ width_of kind))

-- the word of a width that stands for a number, which wraps
abbrev pub word_of : ℕ → ℤ → ℕ
word_of width number = unsigned_abs (int_rem_euclid number (pos (2 ^ width)))

-- a kind with a sign has numbers behind a minus sign, 0 too, down to its lowest; no other kind has any
abbrev pub has_negative : Kind → ℕ → Bool
has_negative kind number = is_signed kind && nat_le number (2 ^ (width_of kind - 1))

-- the word that stands for a number behind a minus sign
abbrev pub negative_word : Kind → ℕ → ℕ
negative_word kind number = word_of (width_of kind) (neg_ℤ (pos number))

-- the word of a kind that stands for the bits of a word from a place on: above them stand bits like the sign, or zero
-- bits where the kind has none
abbrev pub shifted_down : Kind → ℕ → ℕ → ℕ
shifted_down kind x by = word_of (width_of kind) (number_in kind (width_of kind - by) (x / 2 ^ by))

-- a number as so many bits of a kind hold it: from the lowest on, a multiple of 2 ^ bits away
abbrev pub wrapped : Kind → ℕ → ℤ → ℤ
wrapped kind bits number =
    lowest kind bits +ℤ int_rem_euclid (number -ℤ lowest kind bits) (pos (2 ^ bits))

-- a CAST goes from numbers to numbers and from texts to texts, to a kind that there is
abbrev pub can_cast : Kind → Kind → Bool
can_cast from to = same_family from to && is_kind to
