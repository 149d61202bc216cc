-- A column or a parameter, by whether its name begins with a colon.
use Rattle.std.proofs.Common.{◌≡◌, ℕ, true, false, List, [], ◌∷◌, refl, sym, ap, ◌∙◌, inl, inr}
use Rattle.std.specs.Prelude.{◌==◌}
use Rattle.std.proofs.lemmas.Bool.{and_parts, cases_Bool, eqb-true, true≢false}
use Rattle.gl_bits.proofs.Bools.{by_cases}
use Rattle.gl_query_tokens.specs.Tokens.{class_of}
use Rattle.gl_query_tokens.proofs.Sound.{IsNameWord, are_letters, is_letter}
use Rattle.gl_query_reader.specs.Written.{Column, Parameter, level}
use Rattle.gl_query_printer.specs.Canonical.{column_of, name_of}

pub column_level : (name : List ℕ) → 0 ≡ level (column_of name)
column_level [] = refl
column_level (b ∷ name) = by_cases (b == 58) (λ e. rw e refl) (λ e. rw e refl)

-- no letter, digit or underscore is a colon
letter_no_colon : (b : ℕ) → is_letter (class_of b) ≡ true → (b == 58) ≡ false
unfolding class_of
letter_no_colon b h = elim (cases_Bool (b == 58)) [
  | inl colon ↦ absurd (true≢false (sym h ∙ ap (λ (c : ℕ). is_letter (class_of c)) (eqb-true b 58 colon)))
  | inr other ↦ other
]

-- a name is that of a column
pub name_column : (name : List ℕ) → IsNameWord name → column_of name ≡ Column (name_of name)
name_column [] h = refl
name_column (b ∷ name) h = rw (letter_no_colon b (and_parts (is_letter (class_of b)) (are_letters name) h.word).0) refl

-- behind a colon it is that of a parameter
pub parameter_column : (b : ℕ) (name : List ℕ) → b ≡ 58 → column_of (b ∷ name) ≡ Parameter 0 (name_of name)
parameter_column b name e = rw e refl
