-- Reading goes on over a piece of a text: what it is then, whatever follows.
use Rattle.std.proofs.Common.{◌≡◌, ℕ, suc, ◌+◌, Bool, true, false, not, List, [], ◌∷◌, ◌++◌, length, Some, None, Ok, sym, ap, subst, ◌∙◌, append_assoc, append-nil, arith, length-append}
use Rattle.std.specs.List.{list_any}
use Rattle.std.proofs.lemmas.Bool.{cond-false, cond-true, or_parts}
use Rattle.gl_bits.proofs.Bools.{not_true}
use Rattle.gl_schema.specs.SchemaText.{is_blank}
use Rattle.gl_vcd.specs.Reading.{Reading, Step, dump_from, next, ◌>>=◌}
use Rattle.gl_vcd.specs.Tokens.{Token, tokens_from}

abbrev pub token : ℕ → List ℕ → Token
token at bytes = record { at = at; bytes = bytes }

-- bytes that are one token
abbrev pub is_word : List ℕ → Bool
is_word [] = false
is_word (b ∷ bs) = not (list_any is_blank (b ∷ bs))

-- ---- the token of a word with white space behind it

word_on : (bs : List ℕ) (from at blank : ℕ) (held rest : List ℕ) → list_any is_blank bs ≡ false → is_blank blank ≡ true
    → tokens_from (Some (token from held)) at (bs ++ blank ∷ rest) ≡ token from (held ++ bs) ∷ tokens_from None (at + (length bs + 1)) rest
word_on [] from at blank held rest none white =
    cond-true (is_blank blank) _ _ white ∙ ap (λ (x : List ℕ). token from x ∷ tokens_from None (at + 1) rest) (sym (append-nil held))
word_on (b ∷ bs) from at blank held rest none white =
    let parts = or_parts (is_blank b) (list_any is_blank bs) none in
    let place : at + 1 + (length bs + 1) ≡ at + (suc (length bs) + 1) = omega arith in
    cond-false (is_blank b) _ _ parts.0
    ∙ word_on bs from (at + 1) blank (held ++ b ∷ []) rest parts.1 white
    ∙ ap (λ (x : List ℕ). token from x ∷ tokens_from None (at + 1 + (length bs + 1)) rest) (append_assoc held (b ∷ []) bs)
    ∙ ap (λ (n : ℕ). token from (held ++ b ∷ bs) ∷ tokens_from None n rest) place

token_word : (b : ℕ) (bs : List ℕ) (at blank : ℕ) (rest : List ℕ) → list_any is_blank (b ∷ bs) ≡ false → is_blank blank ≡ true
    → tokens_from None at ((b ∷ bs) ++ blank ∷ rest) ≡ token at (b ∷ bs) ∷ tokens_from None (at + (suc (length bs) + 1)) rest
token_word b bs at blank rest none white =
    let parts = or_parts (is_blank b) (list_any is_blank bs) none in
    let place : at + 1 + (length bs + 1) ≡ at + (suc (length bs) + 1) = omega arith in
    cond-false (is_blank b) _ _ parts.0
    ∙ word_on bs at (at + 1) blank (b ∷ []) rest parts.1 white
    ∙ ap (λ (n : ℕ). token at (b ∷ bs) ∷ tokens_from None n rest) place

-- ---- pieces

pub record Reads (r : Reading) (piece : List ℕ) (r' : Reading) : Type 0 where
  pub goes : (len at : ℕ) (rest : List ℕ)
      → dump_from len (tokens_from None at (piece ++ rest)) r ≡ dump_from len (tokens_from None (at + length piece) rest) r'

pub reads_none : (r : Reading) → Reads r [] r
reads_none r = record { goes = λ len at rest. ap (λ (n : ℕ). dump_from len (tokens_from None n rest) r) (let e : at ≡ at + 0 = omega arith in e) }

pub reads_then : (r s t : Reading) (x y : List ℕ) → Reads r x s → Reads s y t → Reads r (x ++ y) t
reads_then r s t x y p q = record {
  goes = λ len at rest.
      ap (λ (bytes : List ℕ). dump_from len (tokens_from None at bytes) r) (append_assoc x y rest)
      ∙ p.goes len at (y ++ rest) ∙ q.goes len (at + length x) rest
      ∙ ap (λ (n : ℕ). dump_from len (tokens_from None n rest) t) (let e : at + length x + length y ≡ at + length (x ++ y) = omega (arith, length-append x y) in e);
}

pub reads_same : (r s : Reading) (x y : List ℕ) → x ≡ y → Reads r x s → Reads r y s
reads_same r s x y e p = subst (λ (bytes : List ℕ). Reads r bytes s) e p

pub reads_to : (r s t : Reading) (x : List ℕ) → s ≡ t → Reads r x s → Reads r x t
reads_to r s t x e p = subst (Reads r x) e p

-- ---- words

go_word : (len at blank : ℕ) (word rest : List ℕ) (r r' : Reading) → is_word word ≡ true → is_blank blank ≡ true → next r (token at word) ≡ Ok r'
    → dump_from len (tokens_from None at ((word ++ blank ∷ []) ++ rest)) r ≡ dump_from len (tokens_from None (at + length (word ++ blank ∷ [])) rest) r'
go_word len at blank [] rest r r' is white step = absurd cc
go_word len at blank (b ∷ bs) rest r r' is white step =
    let place : at + (suc (length bs) + 1) ≡ at + length ((b ∷ bs) ++ blank ∷ []) = omega (arith, length-append (b ∷ bs) (blank ∷ [])) in
    ap (λ (bytes : List ℕ). dump_from len (tokens_from None at bytes) r) (append_assoc (b ∷ bs) (blank ∷ []) rest)
    ∙ ap (λ (ts : List Token). dump_from len ts r) (token_word b bs at blank rest (not_true (list_any is_blank (b ∷ bs)) is) white)
    ∙ ap (λ (s : Step). s >>= dump_from len (tokens_from None (at + (suc (length bs) + 1)) rest)) step
    ∙ ap (λ (n : ℕ). dump_from len (tokens_from None n rest) r') place

-- a word, and white space
pub reads_word : (r r' : Reading) (word : List ℕ) (blank : ℕ) → is_word word ≡ true → is_blank blank ≡ true
    → ((at : ℕ) → next r (token at word) ≡ Ok r') → Reads r (word ++ blank ∷ []) r'
reads_word r r' word blank is white step = record { goes = λ len at rest. go_word len at blank word rest r r' is white (step at) }

-- two words, of which the first leaves its place behind
pub reads_pair : (r t : Reading) (between : ℕ → Reading) (first second : List ℕ) (blank behind : ℕ)
    → is_word first ≡ true → is_word second ≡ true → is_blank blank ≡ true → is_blank behind ≡ true
    → ((at : ℕ) → next r (token at first) ≡ Ok (between at)) → ((at later : ℕ) → next (between at) (token later second) ≡ Ok t)
    → Reads r ((first ++ blank ∷ []) ++ (second ++ behind ∷ [])) t
reads_pair r t between first second blank behind is_first is_second white white' step step' = record {
  goes = λ len at rest.
      let x = first ++ blank ∷ [] in
      let y = second ++ behind ∷ [] in
      ap (λ (bytes : List ℕ). dump_from len (tokens_from None at bytes) r) (append_assoc x y rest)
      ∙ go_word len at blank first (y ++ rest) r (between at) is_first white (step at)
      ∙ go_word len (at + length x) behind second rest (between at) t is_second white' (step' at (at + length x))
      ∙ ap (λ (n : ℕ). dump_from len (tokens_from None n rest) t) (let e : at + length x + length y ≡ at + length (x ++ y) = omega (arith, length-append x y) in e);
}
