-- A list in two halves.
use Rattle.std.proofs.Common.{◌≡◌, ℕ, suc, ◌+◌, ◌/◌, ◌<◌, ◌≤◌, List, [], ◌∷◌, ◌++◌, length, Some, sym, ap, ◌∙◌, arith, take, drop, length-append, take-append-drop}
use Rattle.std.specs.Prelude.{slice_get}
use Rattle.gl_wire_registers.proofs.RegisterLemmas.{length_taken}

pub get_behind : {A : Type 0} (xs ys : List A) (i : ℕ) (x : A) → slice_get ys i ≡ Some x → slice_get (xs ++ ys) (length xs + i) ≡ Some x
get_behind [] ys i x h = let e : 0 + i ≡ i = omega arith in ap (slice_get ys) e ∙ h
get_behind (z ∷ xs) ys i x h = let e : suc (length xs) + i ≡ suc (length xs + i) = omega arith in ap (slice_get (z ∷ xs ++ ys)) e ∙ get_behind xs ys i x h

-- what comes of a cut in the middle
pub record AreHalves {A : Type 0} (xs ys zs : List A) : Type 0 where
  pub whole : ys ++ zs ≡ xs
  pub left : 1 ≤ length ys
  pub right : 1 ≤ length zs
  pub fewer_left : length ys < length xs
  pub fewer_right : length zs < length xs

pub halves : {A : Type 0} (xs ys zs : List A) → 2 ≤ length xs → ys ≡ take (length xs / 2) xs → zs ≡ drop (length xs / 2) xs → AreHalves xs ys zs
halves xs ys zs some front back =
    let whole : ys ++ zs ≡ xs = ap (λ l. l ++ zs) front ∙ ap (λ l. take (length xs / 2) xs ++ l) back ∙ take-append-drop (length xs / 2) xs in
    let first : length ys ≡ length xs / 2 = ap length front ∙ length_taken xs (length xs / 2) (omega (arith, some)) in
    let both : length ys + length zs ≡ length xs = sym (length-append ys zs) ∙ ap length whole in
    record {
      whole = whole;
      left = omega (arith, some, first);
      right = omega (arith, some, first, both);
      fewer_left = omega (arith, some, first);
      fewer_right = omega (arith, some, first, both);
    }
