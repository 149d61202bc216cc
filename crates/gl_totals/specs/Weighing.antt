-- Weights, and which of them is that of the next value: a word with one bit, which moves up with each value, tells its
-- place.
use Rattle.std.specs.Prelude.{◌≡◌, ℕ, ◌+◌, ◌*◌, ◌/◌, ◌%◌, ◌^◌, List, [], ◌∷◌, length, Bool, false, ◌||◌, nat_eq, if◌then◌else◌}
use Rattle.gl_bits.specs.Words.{Word, choose_of, eq_of, product_of}
use Rattle.gl_net.specs.declared.node.Bus.{Bus}
use Rattle.gl_net.specs.Net.{Net}
use Rattle.gl_rows.specs.Made.{Carries}

-- a word of this width
abbrev pub HasWidth : ℕ → Word → Type 0
HasWidth width word = word.width ≡ width

-- the weight at the place of the lowest bit that is 1, and 0 where there is none
abbrev pub picked : List ℕ → ℕ → ℕ
picked [] place = 0
picked (n ∷ ns) place = if nat_eq (place % 2) 1 then n else picked ns (place / 2)

-- a bus that carries that, from this bit of the place on
abbrev pub IsPicked : Net → Net → List ℕ → ℕ → Bus → ℕ → Bus → Type 0
IsPicked old new weights width place from out =
    Carries old new (3 * length weights + 1) width (λ run t. picked weights (run.at t place.node / 2 ^ from)) out

-- a number is one of these
abbrev pub is_among : ℕ → List ℕ → Bool
is_among number [] = false
is_among number (n ∷ ns) = nat_eq number n || is_among number ns

-- a weight needs no choice of its own: 0 does not, nor one that comes again
abbrev pub is_told : ℕ → List ℕ → Bool
is_told weight others = nat_eq weight 0 || is_among weight others

-- a number where it is one of these, and else 0
abbrev pub among : List ℕ → ℕ → ℕ
among [] number = 0
among (n ∷ ns) number = if nat_eq number n then n else among ns number

-- a bus that carries the product of a value and a weight where that is picked, and else another bus
abbrev pub IsChosen : Net → Net → ℕ → Bus → Bus → ℕ → Bus → Bus → Type 0
IsChosen old new nodes number value weight behind out =
    Carries old new (nodes + 3) value.width (λ run t. choose_of (eq_of (run.at t number.node) weight)
    (product_of value.width (run.at t value.node) weight) (run.at t behind.node)) out

-- a bus that carries the product of a value and a number that is one of these weights, and else 0
abbrev pub IsWeighed : Net → Net → ℕ → List ℕ → Bus → Bus → Bus → Type 0
IsWeighed old new nodes weights number value out =
    Carries old new (nodes + 1) value.width
    (λ run t. product_of value.width (run.at t value.node) (among weights (run.at t number.node))) out

-- a bus that carries the product of a value and the weight at the place: three nodes a weight pick it, and five multiply
abbrev pub IsPart : Net → Net → List ℕ → Bus → Bus → Bus → Type 0
IsPart old new weights place value out =
    Carries old new (8 * length weights + 4) value.width
    (λ run t. product_of value.width (picked weights (run.at t place.node)) (run.at t value.node)) out
