-- What is made of the rows up to each, at its place: changed or left out, and the same by two makings.
use Rattle.std.proofs.Common.{◌≡◌, List, [], ◌∷◌, ◌++◌, Option, Some, None, Bool, true, false, refl, ap}
use Rattle.std.specs.Prelude.{if◌then◌else◌, option_and_then, option_map}
use Rattle.std.specs.List.{AllByRecursion, cons_option}
use Rattle.gl_bits.proofs.AllLists.{all_append}
use Rattle.gl_arrival.specs.Places.{Placed, at_place, rows_of}
use Rattle.gl_arrival.specs.Changes.{each_at, kept_at, mapped_at, stepped_at}
use Rattle.gl_asof.specs.Laws.{picked_of}

-- a step of what is made of the rows up to each is made of these rows
module _ {A B C : Type 0} (step : B → Option C) (f : List A → Option B) where
  pub each_stepped : (seen : List A) (xs : List (Placed A)) → stepped_at step (each_at f seen xs) ≡ each_at (λ l. option_and_then step (f l)) seen xs
  each_stepped seen [] = refl
  each_stepped seen (x ∷ xs) = by (f (seen ++ x.row ∷ [])) (each_stepped (seen ++ x.row ∷ []) xs)
    where
      by : (o : Option B) → stepped_at step (each_at f (seen ++ x.row ∷ []) xs) ≡ each_at (λ l. option_and_then step (f l)) (seen ++ x.row ∷ []) xs
          → stepped_at step (cons_option (option_map (λ y. at_place y x.place) o) (each_at f (seen ++ x.row ∷ []) xs))
          ≡ cons_option (option_map (λ z. at_place z x.place) (option_and_then step o)) (each_at (λ l. option_and_then step (f l)) (seen ++ x.row ∷ []) xs)
      by None e = e
      by (Some y) e = ap (λ l. cons_option (option_map (λ z. at_place z x.place) (step y)) l) e

-- two makings that are one over rows with a property
module _ {A B : Type 0} (P : A → Type 0) (f g : List A → Option B) (same : (l : List A) → AllByRecursion P l → f l ≡ g l) where
  pub each_same : (seen : List A) (xs : List (Placed A)) → AllByRecursion P seen → AllByRecursion P (rows_of xs) → each_at f seen xs ≡ each_at g seen xs
  each_same seen [] h k = refl
  each_same seen (x ∷ xs) h k =
      let more : AllByRecursion P (seen ++ x.row ∷ []) = all_append P seen (x.row ∷ []) h (k.0, tt) in
      let here = same (seen ++ x.row ∷ []) more in
      let rest = each_same (seen ++ x.row ∷ []) xs more k.1 in
      λ i. cons_option (option_map (λ (y : B). at_place y x.place) (here i)) (rest i)

-- what is kept and changed is picked
pub picked_stepped : {C D : Type 0} (passes : D → Bool) (change : D → C) (xs : List (Placed D)) → mapped_at change (kept_at passes xs) ≡ stepped_at (picked_of passes change) xs
picked_stepped passes change [] = refl
picked_stepped {C = C} {D = D} passes change (x ∷ xs) = by (passes x.row) (picked_stepped passes change xs)
  where
    by : (b : Bool) → mapped_at change (kept_at passes xs) ≡ stepped_at (picked_of passes change) xs
        → mapped_at change (if b then x ∷ kept_at passes xs else kept_at passes xs)
        ≡ cons_option (option_map (λ y. at_place y x.place) (if b then Some (change x.row) else None)) (stepped_at (picked_of passes change) xs)
    by true e = ap (λ l. at_place (change x.row) x.place ∷ l) e
    by false e = e
