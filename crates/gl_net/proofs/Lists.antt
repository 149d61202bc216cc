-- Elements of a list that grows at its end, and of one in which an element is replaced.
use Rattle.std.proofs.Common.{◌≡◌, ℕ, zero, suc, List, [], ◌∷◌, ◌++◌, length, Some, None, ◌+◌, ◌∙◌, refl, sym, ap, inl, inr, ◌⊎◌}
use Rattle.std.specs.Prelude.{slice_get, slice_set, sum_by}
use Rattle.std.proofs.lemmas.List.Sums.{sum_by-cons}

pub get_push_other : {A : Type 0} (xs : List A) (y : A) (n : ℕ) → (n ≡ length xs → ⊥) → slice_get (xs ++ y ∷ []) n ≡ slice_get xs n
get_push_other [] y zero h = absurd (h refl)
get_push_other [] y (suc n) h = refl
get_push_other (z ∷ xs) y zero h = refl
get_push_other (z ∷ xs) y (suc n) h = get_push_other xs y n (λ e. h (ap suc e))

pub get_push_cases : {A : Type 0} (xs : List A) (y : A) (n : ℕ) (x : A) → slice_get (xs ++ y ∷ []) n ≡ Some x → (slice_get xs n ≡ Some x) ⊎ ((n ≡ length xs) × (y ≡ x))
get_push_cases [] y zero x h = inr (refl, cc)
get_push_cases [] y (suc n) x h = absurd (cc)
get_push_cases (z ∷ xs) y zero x h = inl h
get_push_cases (z ∷ xs) y (suc n) x h = elim (get_push_cases xs y n x h) [ inl p ↦ inl p | inr p ↦ inr (ap suc p.0, p.1) ]

pub get_past : {A : Type 0} (xs : List A) → slice_get xs (length xs) ≡ None
get_past [] = refl
get_past (z ∷ xs) = get_past xs

pub get_set_same : {A : Type 0} (xs : List A) (n : ℕ) (x y : A) → slice_get xs n ≡ Some x → slice_get (slice_set xs n y) n ≡ Some y
get_set_same [] n x y h = cc
get_set_same (z ∷ xs) zero x y h = refl
get_set_same (z ∷ xs) (suc n) x y h = get_set_same xs n x y h

pub get_set_other : {A : Type 0} (xs : List A) (n k : ℕ) (y : A) → (n ≡ k → ⊥) → slice_get (slice_set xs n y) k ≡ slice_get xs k
get_set_other [] n k y h = refl
get_set_other (z ∷ xs) zero zero y h = absurd (h refl)
get_set_other (z ∷ xs) zero (suc k) y h = refl
get_set_other (z ∷ xs) (suc n) zero y h = refl
get_set_other (z ∷ xs) (suc n) (suc k) y h = get_set_other xs n k y (λ e. h (ap suc e))

-- an element of the same share in the place of another
pub sum_by-replaced : {A : Type 0} (f : A → ℕ) (xs : List A) (n : ℕ) (x y : A) → slice_get xs n ≡ Some x → f y ≡ f x → sum_by f (slice_set xs n y) ≡ sum_by f xs
sum_by-replaced f [] n x y h e = refl
sum_by-replaced f (z ∷ xs) zero x y h e =
    let q : z ≡ x = cc in
    sum_by-cons f y xs ∙ ap (λ k. k + sum_by f xs) (e ∙ ap f (sym q)) ∙ sym (sum_by-cons f z xs)
sum_by-replaced f (z ∷ xs) (suc n) x y h e =
    sum_by-cons f z (slice_set xs n y) ∙ ap (λ k. f z + k) (sum_by-replaced f xs n x y h e) ∙ sym (sum_by-cons f z xs)
