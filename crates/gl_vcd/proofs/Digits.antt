-- Binary digits, one after the other.
use Rattle.std.proofs.Common.{◌≡◌, ℕ, zero, suc, ◌+◌, ◌-◌, ◌/◌, ◌%◌, ◌*◌, ◌^◌, ◌<◌, ◌≤◌, false, List, [], ◌∷◌, ◌++◌, drop, length, refl, sym, ap, ◌∙◌, arith, add-one, ne_eqb, pow-suc}
use Rattle.std.specs.Prelude.{slice_set, decimal, nat_eq}
use Rattle.std.specs.Fmt.{digits_onto}
use Rattle.std.proofs.lemmas.Bool.{cond-false}
use Rattle.std.proofs.lemmas.List.{drop-set, drop_all}
use Rattle.gl_bits.specs.Words.{Word}
use Rattle.gl_vcd.specs.Written.{binary, value_text}

digits_next : (k v : ℕ) (acc : List ℕ) → 1 < v → digits_onto (suc k) 2 false v acc ≡ digits_onto k 2 false (v / 2) ((48 + v % 2) ∷ acc)
digits_next k v acc lt = grind arith

digits_last : (k v : ℕ) (acc : List ℕ) → v ≤ 1 → digits_onto (suc k) 2 false v acc ≡ (48 + v) ∷ acc
digits_last k v acc le = grind arith

-- a power of two is twice the one below
doubled : (k : ℕ) → 2 ^ (k + 1) ≡ 2 ^ k * 2
doubled k = ap (λ (n : ℕ). 2 ^ n) (add-one k) ∙ pow-suc 2 k

-- in front of the first digit
digits_of : (k v : ℕ) (into : List ℕ) → length into ≤ k → digits_onto k 2 false v (drop k into) ≡ digits_onto k 2 false v []
digits_of k v into le = ap (λ (acc : List ℕ). digits_onto k 2 false v acc) (drop_all k into le)

pub digits_first : (v : ℕ) (into : List ℕ) → length into ≡ 128 → digits_onto (127 + 1) 2 false v (drop (127 + 1) into) ≡ binary v
unfolding binary
digits_first v into long = digits_of 128 v into (omega (arith, long))

-- a number that has digits left has room left
pub room_left : (at rest : ℕ) → 1 < rest → rest < 2 ^ (at + 1) → 1 ≤ at
room_left zero rest lt small = (let one : 2 ^ (zero + 1) ≡ 2 = refl in absurd (omega (arith, lt, small, one)))
room_left (suc n) rest lt small = omega arith

-- and half of it fits what is left
pub half_fits : (at rest : ℕ) → 1 ≤ at → rest < 2 ^ (at + 1) → rest / 2 < 2 ^ (at - 1 + 1)
half_fits at rest room small =
    let here : at - 1 + 1 ≡ at = omega arith in
    let half : rest / 2 < 2 ^ at = omega (arith, doubled at, small) in
    rw here half

-- one digit more in front of those that stand
pub digit_put : (at rest : ℕ) (into all : List ℕ) → at < length into → 1 ≤ at → 1 < rest
    → digits_onto (at + 1) 2 false rest (drop (at + 1) into) ≡ all
    → digits_onto (at - 1 + 1) 2 false (rest / 2) (drop (at - 1 + 1) (slice_set into at (48 + rest % 2))) ≡ all
digit_put at rest into all long room lt so_far =
    let here : at - 1 + 1 ≡ at = omega arith in
    rw (here, drop-set into at (48 + rest % 2) long)
    (sym (digits_next at rest (drop (at + 1) into) lt) ∙ ap (λ (k : ℕ). digits_onto k 2 false rest (drop (at + 1) into)) (sym (add-one at)) ∙ so_far)

-- the first digit
pub digit_first : (at rest : ℕ) (into all : List ℕ) → at < length into → rest ≤ 1
    → digits_onto (at + 1) 2 false rest (drop (at + 1) into) ≡ all → drop at (slice_set into at (48 + rest)) ≡ all
digit_first at rest into all long le so_far =
    drop-set into at (48 + rest) long ∙ sym (digits_last at rest (drop (at + 1) into) le) ∙ ap (λ (k : ℕ). digits_onto k 2 false rest (drop (at + 1) into)) (sym (add-one at)) ∙ so_far

-- a value of more bits than one
pub wide_text : (w : Word) → (w.width ≡ 1 → ⊥) → 98 ∷ (binary w.bits ++ 32 ∷ []) ≡ value_text w
wide_text w h = sym (cond-false (nat_eq w.width 1) (decimal w.bits) (98 ∷ (binary w.bits ++ 32 ∷ [])) (ne_eqb w.width 1 h))
