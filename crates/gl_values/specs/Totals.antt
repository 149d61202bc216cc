-- Totals over the values of a column, each a word of one kind. Each is 0 over no values.
use Rattle.std.specs.Prelude.{ℕ, ℤ, pos, ◌+ℤ◌, ◌+◌, ◌*◌, ◌%◌, ◌^◌, List, [], ◌∷◌, length, fold, sum, nat_eq, int_div, if◌then◌else◌}
use Rattle.gl_values.specs.declared.kind.Kind.{Kind}
use Rattle.gl_values.specs.Kinds.{width_of, number_of, wrapped, word_of, is_below}

-- how many, which wraps in 32 bits
unfoldable pub count_of : {A : Type 0} → List A → ℕ
count_of xs = length xs % 2 ^ 32

-- the sum, which wraps in the width
unfoldable pub sum_total : ℕ → List ℕ → ℕ
sum_total width xs = sum xs % 2 ^ width

-- the lesser of two words of one kind, by the numbers that they stand for
abbrev pub lesser : Kind → ℕ → ℕ → ℕ
lesser kind x y = if is_below kind y x then y else x

-- the greater of two words of one kind, by the numbers that they stand for
abbrev pub greater : Kind → ℕ → ℕ → ℕ
greater kind x y = if is_below kind x y then y else x

-- the least word, by its number
unfoldable pub least_of : Kind → List ℕ → ℕ
least_of kind [] = 0
least_of kind (x ∷ xs) = fold (lesser kind) x xs

-- the greatest word, by its number
unfoldable pub greatest_of : Kind → List ℕ → ℕ
greatest_of kind [] = 0
greatest_of kind (x ∷ xs) = fold (greater kind) x xs

-- the sum of the numbers that words of a kind stand for
abbrev pub sum_of_numbers : Kind → List ℕ → ℤ
sum_of_numbers kind xs = fold (λ a x. a +ℤ number_of kind x) (pos 0) xs

-- the quotient, toward 0; and 0 where there is nothing to divide by
abbrev pub quotient_of : ℤ → ℕ → ℤ
quotient_of top bottom = if nat_eq bottom 0 then pos 0 else int_div top (pos bottom)

-- the sum of the numbers, in 32 bits more than the width, by their count, in the width
unfoldable pub average_of : Kind → List ℕ → ℕ
average_of kind xs =
    word_of (width_of kind) (quotient_of (wrapped kind (width_of kind + 32) (sum_of_numbers kind xs)) (count_of xs))

-- the values by their weights, the oldest first; values past the last weight count 0
abbrev pub weighted : List ℕ → List ℕ → ℕ
weighted [] xs = 0
weighted (n ∷ weights) [] = 0
weighted (n ∷ weights) (x ∷ xs) = n * x + weighted weights xs

-- the sum of values by their weights, modulo two to the power of the width
unfoldable pub weighted_sum : ℕ → List ℕ → List ℕ → ℕ
weighted_sum width weights xs = weighted weights xs % 2 ^ width
