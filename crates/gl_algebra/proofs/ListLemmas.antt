-- Elements of lists by place.
use Rattle.std.proofs.Common.{Bool, true, false, ◌⊎◌, inl, inr, ◌≡◌, ℕ, zero, suc, ◌+◌, ◌<◌, List, [], ◌∷◌, ◌++◌, length, Some, slice_get, All, refl, sym, ap, ◌∙◌, subst, arith, length-append}
use Rattle.std.proofs.Math.Numerals.{one-add}
use Rattle.std.proofs.lemmas.List.{get_or_append_left, get_or-append-add}
use Rattle.gl_bits.proofs.AllLists.{get_last}
use Rattle.gl_bits.proofs.Bools.{by_cases}
use Rattle.std.specs.List.{list_any, position_or_len}
use Rattle.indexmap.specs.IndexSet.{insert_key}

-- an element of the first list stands at its place in the joined one
pub get-append : {A : Type 0} (xs ys : List A) (i : ℕ) → i < length xs → slice_get (xs ++ ys) i ≡ slice_get xs i
get-append [] ys i h = absurd (omega arith)
get-append (x ∷ xs) ys zero h = refl
get-append (x ∷ xs) ys (suc i) h = get-append xs ys i (omega arith)

-- what stands in a list with one more element stands in the list, or is that element at its end
pub data IsAtPlace {A : Type 0} (xs : List A) (x : A) (i : ℕ) (y : A) : Type 0 where
  earlier : i < length xs → slice_get xs i ≡ Some y → IsAtPlace xs x i y
  last : i ≡ length xs → y ≡ x → IsAtPlace xs x i y

pub place_in_append : {A : Type 0} (xs : List A) (x : A) (i : ℕ) (y : A) → slice_get (xs ++ x ∷ []) i ≡ Some y → IsAtPlace xs x i y
place_in_append [] x zero y h = last refl (cc)
place_in_append [] x (suc i) y h = absurd (cc)
place_in_append (z ∷ zs) x zero y h = earlier (omega arith) h
place_in_append (z ∷ zs) x (suc i) y h =
    elim (place_in_append zs x i y h) [
      | earlier below is ↦ earlier (omega arith) is
      | last at same ↦ last (omega arith) same
    ]

module _ {K : Type 0} (test : K → Bool) where
  -- an element that passes
  pub any_at : (xs : List K) (i : ℕ) (x : K) → slice_get xs i ≡ Some x → test x ≡ true → list_any test xs ≡ true
  any_at [] i x is h = absurd (cc)
  any_at (y ∷ ys) zero x is h = let same : y ≡ x = cc in rw (same, h)
  any_at (y ∷ ys) (suc i) x is h = let later = any_at ys i x is h in
      by_cases (test y) (λ e. rw e) (λ e. rw (e, later))

  -- the element at the first place that passes passes
  pub first_passes : (xs : List K) → list_any test xs ≡ true → (x : K) × (slice_get xs (position_or_len test xs) ≡ Some x) × (test x ≡ true)
  first_passes [] h = absurd (cc)
  first_passes (y ∷ ys) h =
      by_cases (test y) (λ e. (y, rw e refl, e))
      (λ e. let rest = first_passes ys (rw e at h) in (rest.0, rw (e, one-add) rest.1, rest.2))

  -- without one the place is the length
  pub place_of_none : (xs : List K) → list_any test xs ≡ false → position_or_len test xs ≡ length xs
  place_of_none [] h = refl
  place_of_none (y ∷ ys) h =
      by_cases (test y) (λ e. absurd (let lost = rw e at h in cc)) (λ e. rw (e, one-add, place_of_none ys (rw e at h)))

-- what inserting an element that equals itself alone leaves: the list where it has the element, else one with it at the end
pub record IsInserted {K : Type 0} (eq : K → K → Bool) (xs : List K) (x : K) : Type 0 where
  pub number : slice_get (insert_key eq xs x) (position_or_len (eq x) xs) ≡ Some x
  pub known : list_any (eq x) xs ≡ true → insert_key eq xs x ≡ xs
  pub grows : (insert_key eq xs x ≡ xs) ⊎ (insert_key eq xs x ≡ xs ++ x ∷ [])

module _ {K : Type 0} (eq : K → K → Bool) (same : (x y : K) → eq x y ≡ true → x ≡ y) where
  pub inserted : (xs : List K) (x : K) → IsInserted eq xs x
  inserted xs x =
      by_cases (list_any (eq x) xs)
      (λ e.
      let first = first_passes (eq x) xs e in
      record {
        number = rw e (first.1 ∙ ap Some (sym (same x first.0 first.2)));
        known = λ _. rw e refl;
        grows = inl (rw e refl);
      })
      (λ e. record {
        number = rw (e, place_of_none (eq x) xs e) (get_last xs x);
        known = λ h. absurd (cc);
        grows = inr (rw e refl);
      })

-- what holds of all elements of a joined list holds of those of each part
module _ {A : Type 0} (P : A → Type 0) (xs ys : List A) (h : All P (xs ++ ys)) where
  pub all_left : All P xs
  all_left k d below =
      let long = length-append xs ys in subst P (get_or_append_left xs ys d k below) (h k d (omega arith))

  pub all_right : All P ys
  all_right k d below =
      let long = length-append xs ys in subst P (get_or-append-add xs ys k d) (h (length xs + k) d (omega arith))
