-- Windows of time: the window at a place, and one element more.
use Rattle.std.proofs.Common.{◌≡◌, ℕ, zero, suc, ◌+◌, ◌*◌, ◌/◌, ◌<◌, ◌≤◌, Bool, true, false, ◌&&◌, List, [], ◌∷◌, ◌++◌, length, length-append, refl, sym, ap, ◌∙◌, arith, inl, inr}
use Rattle.std.specs.Prelude.{Option, Some, None, slice_get, nat_le, nat_lt, if◌then◌else◌}
use Rattle.std.proofs.lemmas.Bool.Decides.{leb_tells}
use Rattle.std.proofs.Math.Nat.{le-div_iff_mul-le}
use Rattle.gl_bits.proofs.AllLists.{get_past, get_last}
use Rattle.gl_values.specs.Times.{tpart, tfirsts, tslices}

-- ---- the window at a place

tfirsts-long : {A : Type 0} (size advance n : ℕ) (times : List ℕ) (xs : List A) → length (tfirsts size advance n times xs) ≡ n
tfirsts-long size advance zero times xs = refl
tfirsts-long size advance (suc n) times xs =
    let whole = length-append (tfirsts size advance n times xs) (tpart (n * advance) size times xs ∷ []) in
    omega (arith, whole, tfirsts-long size advance n times xs)

-- what is in front of the last is as before
get-front : {A : Type 0} (xs : List A) (x : A) (i : ℕ) → i < length xs → slice_get (xs ++ x ∷ []) i ≡ slice_get xs i
get-front [] x i lt = absurd (omega arith)
get-front (y ∷ ys) x zero lt = refl
get-front (y ∷ ys) x (suc i) lt = get-front ys x i (omega arith)

get-tfirsts : {A : Type 0} (size advance n : ℕ) (times : List ℕ) (xs : List A) (j : ℕ) → j < n → slice_get (tfirsts size advance n times xs) j ≡ Some (tpart (j * advance) size times xs)
get-tfirsts size advance zero times xs j lt = absurd (omega arith)
get-tfirsts {A = A} size advance (suc n) times xs j lt =
    let front : List (List A) = tfirsts size advance n times xs in
    let last : List A = tpart (n * advance) size times xs in
    let long : length front ≡ n = tfirsts-long size advance n times xs in
    elim (leb_tells (suc j) n) [
      | inl t ↦ get-front front last j (omega (arith, long, t.1)) ∙ get-tfirsts size advance n times xs j t.1
      | inr t ↦
          let same : j ≡ n = omega (arith, t.1, lt) in
          ap (slice_get (front ++ last ∷ [])) (same ∙ sym long) ∙ get_last front last ∙ ap (λ (k : ℕ). Some (tpart (k * advance) size times xs)) (sym same)
    ]

pub get-tslices : {A : Type 0} (size advance ticks : ℕ) (times : List ℕ) (xs : List A) (j : ℕ) → 1 ≤ advance
    → slice_get (tslices size advance times ticks xs) j ≡ (if nat_le (j * advance) ticks then Some (tpart (j * advance) size times xs) else None)
get-tslices {A = A} size advance ticks times xs j some =
    let n : ℕ = suc (ticks / advance) in
    let found : Bool → Option (List A) = λ b. if b then Some (tpart (j * advance) size times xs) else None in
    elim (leb_tells (j * advance) ticks) [
      | inl t ↦
          let below : j ≤ ticks / advance = (le-div_iff_mul-le {k = advance} {x = j} {y = ticks} some).1 t.1 in
          get-tfirsts size advance n times xs j (omega (arith, below)) ∙ sym (ap found t.0)
      | inr t ↦
          let past : length (tfirsts size advance n times xs) ≤ j =
          elim (leb_tells j (ticks / advance)) [
            | inl le ↦ absurd (let there : j * advance ≤ ticks = (le-div_iff_mul-le {k = advance} {x = j} {y = ticks} some).0 le.1 in omega (arith, there, t.1))
            | inr lt ↦ omega (arith, tfirsts-long size advance n times xs, lt.1)
          ] in
          get_past (tfirsts size advance n times xs) j past ∙ sym (ap found t.0)
    ]

-- ---- one element more

-- an element joins the window that its time is in, and no other
pub tpart-more : {A : Type 0} (from size t : ℕ) (ts : List ℕ) (x : A) (xs : List A) → length ts ≡ length xs
    → tpart from size (ts ++ t ∷ []) (xs ++ x ∷ []) ≡ tpart from size ts xs ++ (if nat_le from t && nat_lt t (from + size) then x ∷ [] else [])
tpart-more from size t [] x [] h = refl
tpart-more from size t [] x (y ∷ ys) h = absurd (cc)
tpart-more from size t (s ∷ ts) x [] h = absurd (cc)
tpart-more from size t (s ∷ ts) x (y ∷ ys) h = by (nat_le from s && nat_lt s (from + size)) (tpart-more from size t ts x ys (omega (arith, h)))
  where
    by : (b : Bool) → tpart from size (ts ++ t ∷ []) (ys ++ x ∷ []) ≡ tpart from size ts ys ++ (if nat_le from t && nat_lt t (from + size) then x ∷ [] else [])
        → (if b then y ∷ tpart from size (ts ++ t ∷ []) (ys ++ x ∷ []) else tpart from size (ts ++ t ∷ []) (ys ++ x ∷ []))
        ≡ (if b then y ∷ tpart from size ts ys else tpart from size ts ys) ++ (if nat_le from t && nat_lt t (from + size) then x ∷ [] else [])
    by true ih = ap (λ z. y ∷ z) ih
    by false ih = ih
