-- The places of a text's tokens, byte by byte.
use Rattle.std.proofs.Common.{◌≡◌, ℕ, zero, suc, ◌+◌, ◌<◌, ◌≤◌, ◌⊎◌, inl, inr, List, [], ◌∷◌, ◌++◌, length, take, Some, refl, sym, ap, subst, ◌∙◌, arith, append_assoc, length-append}
use Rattle.std.specs.Prelude.{slice_get}
use Rattle.std.proofs.Math.Seq.{take-append_seam, take-length}
use Rattle.std.proofs.lemmas.List.{append-nil}
use Rattle.std.proofs.lemmas.Bool.{cases_eq, cases_order}
use Rattle.gl_verilog.specs.Tokens.{Token, Between, to, scan, last_of}
use Rattle.gl_verilog_tokens.specs.declared.token.Lexeme.{Lexeme}
use Rattle.gl_verilog_tokens.specs.View.{tokens_in}
use Rattle.gl_verilog_tokens.specs.declared.standing.Standing.{Standing}
use Rattle.gl_verilog_tokens.specs.declared.standing.Standing.TheVariants as standing_is
use Rattle.gl_verilog_tokens.specs.Lexed.{mode_of}
use Rattle.gl_verilog_tokens.specs.Placed.{ArePlaces, IsFront, IsNext, count, AreSoFar, places_in, opened}
use Rattle.gl_verilog_tokens.proofs.LexSteps.{front_tokens}

-- ---- fronts

front_by : (a b c : List ℕ) → b ≡ a ++ c → IsFront a b
front_by a b c e = subst (IsFront a) (sym e) (take-append_seam a c)

-- nothing stays open
pub front_closed : (ps xs : List ℕ) (at : ℕ) → take (length (ps ++ [])) ((ps ++ xs) ++ at ∷ []) ≡ ps ++ []
front_closed ps xs at = front_by (ps ++ []) ((ps ++ xs) ++ at ∷ []) (xs ++ at ∷ []) (append_assoc ps xs (at ∷ []) ∙ ap (λ (l : List ℕ). l ++ (xs ++ at ∷ [])) (sym (append-nil ps)))

pub front_none : (ps : List ℕ) (at : ℕ) → take (length (ps ++ [])) (ps ++ at ∷ []) ≡ ps ++ []
front_none ps at = front_by (ps ++ []) (ps ++ at ∷ []) (at ∷ []) (ap (λ (l : List ℕ). l ++ at ∷ []) (sym (append-nil ps)))

-- a token of the byte alone is complete
pub front_alone : (ps : List ℕ) (at : ℕ) → take (length ((ps ++ at ∷ []) ++ [])) (ps ++ at ∷ []) ≡ (ps ++ at ∷ []) ++ []
front_alone ps at = front_by ((ps ++ at ∷ []) ++ []) (ps ++ at ∷ []) [] (sym (append-nil (ps ++ at ∷ [])) ∙ sym (append-nil ((ps ++ at ∷ []) ++ [])))

-- a quote, and a base letter, behind a number
pub front_quote : (ps : List ℕ) (s at : ℕ) → take (length (ps ++ s ∷ at ∷ [])) ((ps ++ s ∷ []) ++ at ∷ []) ≡ ps ++ s ∷ at ∷ []
front_quote ps s at = front_by (ps ++ s ∷ at ∷ []) ((ps ++ s ∷ []) ++ at ∷ []) [] (append_assoc ps (s ∷ []) (at ∷ []) ∙ sym (append-nil (ps ++ s ∷ at ∷ [])))

pub front_base : (ps : List ℕ) (s q at : ℕ) → take (length (ps ++ s ∷ q ∷ at ∷ [])) ((ps ++ s ∷ q ∷ []) ++ at ∷ []) ≡ ps ++ s ∷ q ∷ at ∷ []
front_base ps s q at = front_by (ps ++ s ∷ q ∷ at ∷ []) ((ps ++ s ∷ q ∷ []) ++ at ∷ []) [] (append_assoc ps (s ∷ q ∷ []) (at ∷ []) ∙ sym (append-nil (ps ++ s ∷ q ∷ at ∷ [])))

-- and they are one token with a digit behind them
pub front_digits : (ps : List ℕ) (s q from at : ℕ) → take (length (ps ++ s ∷ [])) ((ps ++ s ∷ q ∷ from ∷ []) ++ at ∷ []) ≡ ps ++ s ∷ []
front_digits ps s q from at = front_by (ps ++ s ∷ []) ((ps ++ s ∷ q ∷ from ∷ []) ++ at ∷ []) (q ∷ from ∷ at ∷ []) (append_assoc ps (s ∷ q ∷ from ∷ []) (at ∷ []) ∙ sym (append_assoc ps (s ∷ []) (q ∷ from ∷ at ∷ [])))

pub ruleset fronts = (take-length, take-append_seam, front_closed, front_none, front_alone, front_quote, front_base, front_digits)

-- ---- one byte more

get_push : (xs : List ℕ) (x k p : ℕ) → slice_get (xs ++ x ∷ []) k ≡ Some p → (slice_get xs k ≡ Some p) ⊎ ((k ≡ length xs) × (p ≡ x))
get_push [] x zero p h = inr (refl, (let e : x ≡ p = cc in sym e))
get_push [] x (suc k) p h = absurd cc
get_push (y ∷ xs) x zero p h = inl h
get_push (y ∷ xs) x (suc k) p h = elim (get_push xs x k p h) [ inl e ↦ inl e | inr e ↦ inr ((let f : k ≡ length xs = e.0 in omega arith), e.1) ]

get_front : (n : ℕ) (xs : List ℕ) (k p : ℕ) → slice_get (take n xs) k ≡ Some p → slice_get xs k ≡ Some p
get_front zero xs k p h = absurd cc
get_front (suc n) [] k p h = absurd cc
get_front (suc n) (x ∷ xs) zero p h = h
get_front (suc n) (x ∷ xs) (suc k) p h = get_front n xs k p h

get_below : (xs : List ℕ) (k p : ℕ) → slice_get xs k ≡ Some p → k < length xs
get_below [] k p h = absurd cc
get_below (x ∷ xs) zero p h = omega arith
get_below (x ∷ xs) (suc k) p h = let b : k < length xs = get_below xs k p h in omega arith

pub places_next : (text : List ℕ) (at : ℕ) (old new : List ℕ) → length old ≡ count text at → length new ≡ count text (at + 1) → AreSoFar text at old → IsNext at old new → AreSoFar text (at + 1) new
places_next text at old new n m far next k p h =
    let below : k < length new = get_below new k p h in
    let there : slice_get (old ++ at ∷ []) k ≡ Some p = get_front (length new) (old ++ at ∷ []) k p (subst (λ (l : List ℕ). slice_get l k ≡ Some p) (sym next) h) in
    elim (get_push old at k p there) [
      | inl e ↦ (let f = far k p e in (
        (let g : p ≤ at = f.0 in omega arith),
        f.1,
        λ q l u. elim (cases_eq q (at + 1)) [
          | inl s ↦ subst (λ (x : ℕ). k < count text x) (sym s) (omega arith)
          | inr d ↦ f.2 q l (omega (arith, cases_order q (at + 1)))
        ],
      ))
      | inr e ↦ (
        (let g : p ≡ at = e.1 in omega arith),
        subst (λ (x : ℕ). count text x ≤ k) (sym e.1) (let a : k ≡ length old = e.0 in omega arith),
        λ q l u. (let g : p ≡ at = e.1 in let s : q ≡ at + 1 = omega arith in subst (λ (x : ℕ). k < count text x) (sym s) (omega arith)),
      )
    ]

pub places_end : (text places : List ℕ) → AreSoFar text (length text) places → ArePlaces text places
places_end text places far k p h = let f = far k p h in record { within = f.0; before = f.1; behind = λ q l u. f.2 q l u }

-- ---- how many there are

opened_size : (text : List ℕ) (at : ℕ) (s : Standing) → length (opened s) ≡ length (last_of (mode_of text at s))
opened_size text at standing_is.Between = refl
opened_size text at (standing_is.InWord from) = refl
opened_size text at (standing_is.InNumber from) = refl
opened_size text at (standing_is.AtQuote size quote) = refl
opened_size text at (standing_is.AtBase base) = refl
opened_size text at (standing_is.InDigits literal) = refl
opened_size text at (standing_is.Half b from) = refl
opened_size text at standing_is.InLine = refl
opened_size text at (standing_is.InBlock from) = refl
opened_size text at (standing_is.AtStar from) = refl

as_many : (xs : List Lexeme) → length (places_in xs) ≡ length (tokens_in xs)
as_many [] = refl
as_many (x ∷ xs) = ap suc (as_many xs)

pub count_is : (text : List ℕ) (at : ℕ) (s : Standing) (xs : List Lexeme) → scan Between (take at text) ≡ to (mode_of text at s) (tokens_in xs) → length (places_in xs ++ opened s) ≡ count text at
count_is text at s xs h =
    let all : count text at ≡ length (tokens_in xs ++ last_of (mode_of text at s)) = ap (λ (l : List Token). length l) (front_tokens text at (mode_of text at s) (tokens_in xs) h) in
    omega (arith, all, opened_size text at s, as_many xs, length-append (places_in xs) (opened s), length-append (tokens_in xs) (last_of (mode_of text at s)))
