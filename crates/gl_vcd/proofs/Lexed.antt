-- The first token from a place on: behind white space, up to white space.
use Rattle.std.proofs.Common.{◌≡◌, ℕ, suc, ◌+◌, ◌-◌, ◌<◌, ◌≤◌, Bool, true, false, cond, not, List, [], ◌∷◌, ◌++◌, length, take, drop, Option, Some, None, inl, inr, refl, sym, ap, ◌∙◌, append_assoc, append-nil, arith, length-drop, subst}
use Rattle.std.specs.Prelude.{nat_lt, position, unwrap_or, if◌then◌else◌}
use Rattle.std.specs.List.{position_or_len}
use Rattle.std.proofs.lemmas.Bool.{cases_lt, cond-false, cond-true, le-ltb, lt-ltb}
use Rattle.std.proofs.lemmas.List.{drop-drop, drop_all}
use Rattle.gl_bits.proofs.AllLists.{heads}
use Rattle.gl_schema.specs.SchemaText.{is_blank}
use Rattle.gl_vcd.specs.Lexing.{tokens_behind}
use Rattle.gl_vcd.specs.Tokens.{Token, tokens_from}
use Rattle.gl_vcd.proofs.Bytes.{token}

-- no white space
abbrev pub is_dark : ℕ → Bool
is_dark b = not (is_blank b)

-- white space in front is passed over
pub skipped : (xs : List ℕ) (at : ℕ) → tokens_from None at xs ≡ tokens_from None (at + position_or_len is_dark xs) (drop (position_or_len is_dark xs) xs)
skipped [] at = refl
skipped (b ∷ bs) at = by (is_blank b) refl (skipped bs (at + 1))
  where
    k : ℕ
    k = position_or_len is_dark bs

    by : (white : Bool) → is_blank b ≡ white → tokens_from None (at + 1) bs ≡ tokens_from None (at + 1 + position_or_len is_dark bs) (drop (position_or_len is_dark bs) bs)
        → tokens_from None at (b ∷ bs) ≡ tokens_from None (at + cond (not (not white)) (1 + k) 0) (drop (cond (not (not white)) (1 + k) 0) (b ∷ bs))
    by true e rest =
        ap (λ (w : Bool). if w then tokens_from None (at + 1) bs else tokens_from (Some (token at (b ∷ []))) (at + 1) bs) e
        ∙ rest
        ∙ ap (λ (n : ℕ). tokens_from None n (drop k bs)) (let z : at + 1 + k ≡ at + (1 + k) = omega arith in z)
        ∙ ap (λ (n : ℕ). tokens_from None (at + (1 + k)) (drop n (b ∷ bs))) (let z : suc k ≡ 1 + k = omega arith in z)
    by false e rest = ap (λ (n : ℕ). tokens_from None n (b ∷ bs)) (let z : at ≡ at + 0 = omega arith in z)

-- a token that is begun goes to white space
ended : (bs held : List ℕ) (from at : ℕ)
    → tokens_from (Some (token from held)) at bs ≡ token from (held ++ take (position_or_len is_blank bs) bs) ∷ tokens_from None (at + position_or_len is_blank bs) (drop (position_or_len is_blank bs) bs)
ended [] held from at = ap (λ (x : List ℕ). token from x ∷ []) (sym (append-nil held))
ended (b ∷ bs) held from at = by (is_blank b) refl (ended bs (held ++ b ∷ []) from (at + 1))
  where
    k : ℕ
    k = position_or_len is_blank bs

    by : (white : Bool) → is_blank b ≡ white
        → tokens_from (Some (token from (held ++ b ∷ []))) (at + 1) bs
        ≡ token from ((held ++ b ∷ []) ++ take (position_or_len is_blank bs) bs) ∷ tokens_from None (at + 1 + position_or_len is_blank bs) (drop (position_or_len is_blank bs) bs)
        → tokens_from (Some (token from held)) at (b ∷ bs)
        ≡ token from (held ++ take (cond (not white) (1 + k) 0) (b ∷ bs)) ∷ tokens_from None (at + cond (not white) (1 + k) 0) (drop (cond (not white) (1 + k) 0) (b ∷ bs))
    by true e rest =
        ap (λ (w : Bool). if w then token from held ∷ tokens_from None (at + 1) bs else tokens_from (Some (token from (held ++ b ∷ []))) (at + 1) bs) e
        ∙ ap (λ (x : List ℕ). token from x ∷ tokens_from None (at + 1) bs) (sym (append-nil held))
        ∙ ap (λ (ts : List Token). token from (held ++ []) ∷ ts)
        (ap (λ (n : ℕ). tokens_from None (n + 1) bs) (let z : at ≡ at + 0 = omega arith in z)
        ∙ sym (ap (λ (w : Bool). if w then tokens_from None (at + 0 + 1) bs else tokens_from (Some (token (at + 0) (b ∷ []))) (at + 0 + 1) bs) e))
    by false e rest =
        ap (λ (w : Bool). if w then token from held ∷ tokens_from None (at + 1) bs else tokens_from (Some (token from (held ++ b ∷ []))) (at + 1) bs) e
        ∙ rest
        ∙ ap (λ (x : List ℕ). token from x ∷ tokens_from None (at + 1 + k) (drop k bs)) (append_assoc held (b ∷ []) (take k bs))
        ∙ ap (λ (n : ℕ). token from (held ++ b ∷ take k bs) ∷ tokens_from None n (drop k bs)) (let z : at + 1 + k ≡ at + (1 + k) = omega arith in z)
        ∙ ap (λ (n : ℕ). token from (held ++ take n (b ∷ bs)) ∷ tokens_from None (at + (1 + k)) (drop n (b ∷ bs))) (let z : suc k ≡ 1 + k = omega arith in z)

-- a token begins with a byte that is no white space
pub first_of : (b : ℕ) (bs : List ℕ) (at : ℕ) → is_blank b ≡ false
    → tokens_from None at (b ∷ bs) ≡ token at (take (position_or_len is_blank (b ∷ bs)) (b ∷ bs)) ∷ tokens_from None (at + position_or_len is_blank (b ∷ bs)) (drop (position_or_len is_blank (b ∷ bs)) (b ∷ bs))
first_of b bs at dark =
    let k = position_or_len is_blank bs in
    let n : cond (not (is_blank b)) (1 + k) 0 ≡ suc k = ap (λ (w : Bool). cond (not w) (1 + k) 0) dark ∙ (let z : 1 + k ≡ suc k = omega arith in z) in
    ap (λ (w : Bool). if w then tokens_from None (at + 1) bs else tokens_from (Some (token at (b ∷ []))) (at + 1) bs) dark
    ∙ ended bs (b ∷ []) at (at + 1)
    ∙ ap (λ (m : ℕ). token at (b ∷ take k bs) ∷ tokens_from None m (drop k bs)) (let z : at + 1 + k ≡ at + suc k = omega arith in z)
    ∙ ap (λ (m : ℕ). token at (take m (b ∷ bs)) ∷ tokens_from None (at + m) (drop m (b ∷ bs))) (sym n)

-- the same in a text, where white space of this length is passed over
pub first_in : (text : List ℕ) (from skip : ℕ) (b : ℕ) (bs : List ℕ) → skip ≡ position_or_len is_dark (drop from text) → drop (from + skip) text ≡ b ∷ bs → is_blank b ≡ false
    → tokens_behind text from ≡ token (from + skip) (take (position_or_len is_blank (b ∷ bs)) (b ∷ bs)) ∷ tokens_behind text (from + skip + position_or_len is_blank (b ∷ bs))
first_in text from skip b bs e here dark =
    let n = position_or_len is_blank (b ∷ bs) in
    skipped (drop from text) from
    ∙ ap (λ (k : ℕ). tokens_from None (from + k) (drop k (drop from text))) (sym e)
    ∙ ap (tokens_from None (from + skip)) (drop-drop skip from text ∙ here)
    ∙ first_of b bs (from + skip) dark
    ∙ ap (λ (rest : List ℕ). token (from + skip) (take n (b ∷ bs)) ∷ tokens_from None (from + skip + n) rest) (ap (drop n) (sym here) ∙ drop-drop n (from + skip) text)

-- white space alone has no token
pub none_in : (text : List ℕ) (from : ℕ) → length (drop from text) ≤ position_or_len is_dark (drop from text) → tokens_behind text from ≡ []
none_in text from le =
    skipped (drop from text) from
    ∙ ap (tokens_from None (from + position_or_len is_dark (drop from text))) (drop_all (position_or_len is_dark (drop from text)) (drop from text) le)

-- ---- what is found there

pub place_short : (p : ℕ → Bool) (xs : List ℕ) → position_or_len p xs ≤ length xs
place_short p [] = omega arith
place_short p (x ∷ xs) = by (p x) (place_short p xs)
  where
    by : (b : Bool) → position_or_len p xs ≤ length xs → cond (not b) (1 + position_or_len p xs) 0 ≤ suc (length xs)
    by true le = omega arith
    by false le = omega (arith, le)

-- what stands behind white space is none
dark_behind : (xs : List ℕ) (b : ℕ) (bs : List ℕ) → drop (position_or_len is_dark xs) xs ≡ b ∷ bs → is_blank b ≡ false
dark_behind [] b bs e = absurd cc
dark_behind (x ∷ xs) b bs e = by (is_blank x) refl (dark_behind xs b bs) e
  where
    by : (white : Bool) → is_blank x ≡ white → (drop (position_or_len is_dark xs) xs ≡ b ∷ bs → is_blank b ≡ false) → drop (cond (not (not white)) (1 + position_or_len is_dark xs) 0) (x ∷ xs) ≡ b ∷ bs → is_blank b ≡ false
    by true q rest h = rest (ap (λ (n : ℕ). drop n (x ∷ xs)) (let z : suc (position_or_len is_dark xs) ≡ 1 + position_or_len is_dark xs = omega arith in z) ∙ h)
    by false q rest h = let same : x ≡ b = heads x b xs bs h in ap is_blank (sym same) ∙ q

word_some : (b : ℕ) (bs : List ℕ) → is_blank b ≡ false → 1 ≤ position_or_len is_blank (b ∷ bs)
word_some b bs dark = subst (λ (w : Bool). 1 ≤ cond (not w) (1 + position_or_len is_blank bs) 0) (sym dark) (omega arith)

abbrev pub IsFound : List ℕ → ℕ → ℕ → ℕ → List ℕ → Type 0
IsFound text from at end' bytes =
    (from < end') × (end' ≤ length text) × (tokens_behind text from ≡ token at bytes ∷ tokens_behind text end')

pub token_found : (text rest : List ℕ) (from skip len : ℕ) → from ≤ length text → skip ≡ position_or_len is_dark (drop from text) → rest ≡ drop (from + skip) text
    → len ≡ position_or_len is_blank rest → 0 < length rest → IsFound text from (from + skip) (from + skip + len) (take len rest)
token_found text [] from skip len inside at there end' some' = absurd (omega (arith, some'))
token_found text (b ∷ bs) from skip len inside at there end' some' =
    let n = position_or_len is_blank (b ∷ bs) in
    let dark : is_blank b ≡ false = dark_behind (drop from text) b bs (ap (λ (k : ℕ). drop k (drop from text)) (sym at) ∙ drop-drop skip from text ∙ sym there) in
    let long : length (b ∷ bs) ≡ length text - (from + skip) = ap length there ∙ length-drop (from + skip) text in
    let short : n ≤ length (b ∷ bs) = place_short is_blank (b ∷ bs) in
    let one : 1 ≤ n = word_some b bs dark in (
      omega (arith, end', one),
      omega (arith, end', short, long, some'),
      first_in text from skip b bs at (sym there) dark
          ∙ ap (λ (k : ℕ). token (from + skip) (take k (b ∷ bs)) ∷ tokens_behind text (from + skip + k)) (sym end'),
    )

pub none_found : (text rest : List ℕ) (from skip : ℕ) → skip ≡ position_or_len is_dark (drop from text) → rest ≡ drop (from + skip) text → length rest ≡ 0 → tokens_behind text from ≡ []
none_found text rest from skip at there empty =
    let long : length rest ≡ length (drop from text) - skip = ap length (there ∙ sym (drop-drop skip from text)) ∙ length-drop skip (drop from text) in
    none_in text from (omega (arith, at, long, empty))

-- the first place, or the length
pub or_len : (p : ℕ → Bool) (xs : List ℕ) → unwrap_or (position p xs) (length xs) ≡ position_or_len p xs
or_len p xs = elim (cases_lt (position_or_len p xs) (length xs)) [
  | inl lt ↦ ap (λ (o : Option ℕ). unwrap_or o (length xs)) (cond-true (nat_lt (position_or_len p xs) (length xs)) (Some (position_or_len p xs)) None (lt-ltb (position_or_len p xs) (length xs) lt))
  | inr le ↦ ap (λ (o : Option ℕ). unwrap_or o (length xs)) (cond-false (nat_lt (position_or_len p xs) (length xs)) (Some (position_or_len p xs)) None (le-ltb (position_or_len p xs) (length xs) le))
      ∙ (let short = place_short p xs in let e : length xs ≡ position_or_len p xs = omega (arith, le, short) in e)
]
