-- Changes that keep places: without places they are those of lists of rows, and no row comes behind one at a later place.
use Rattle.std.proofs.Common.{◌≡◌, ℕ, ◌≤◌, List, [], ◌∷◌, ◌++◌, Option, Some, None, Bool, true, false, length, refl, sym, ap, ◌∙◌, arith}
use Rattle.std.specs.Prelude.{filter, filter_map, if◌then◌else◌, map, option_map}
use Rattle.std.specs.List.{AllByRecursion, cons_option}
use Rattle.gl_frames.specs.Frames.{each_of}
use Rattle.gl_arrival.specs.Places.{IsNoLater, NeverFall, Placed, at_place, at_places, brought, rows_of}
use Rattle.gl_arrival.specs.Changes.{each_at, kept_at, mapped_at, moved, stepped_at}

module _ {A : Type 0} (passes : A → Bool) where
  pub rows_kept : (xs : List (Placed A)) → rows_of (kept_at passes xs) ≡ filter passes (rows_of xs)
  rows_kept [] = refl
  rows_kept (x ∷ xs) = by (passes x.row) (rows_kept xs)
    where
      by : (b : Bool) → rows_of (kept_at passes xs) ≡ filter passes (rows_of xs)
          → rows_of (if b then x ∷ kept_at passes xs else kept_at passes xs) ≡ (if b then x.row ∷ filter passes (rows_of xs) else filter passes (rows_of xs))
      by true e = ap (λ l. x.row ∷ l) e
      by false e = e

  all_kept : (P : Placed A → Type 0) (xs : List (Placed A)) → AllByRecursion P xs → AllByRecursion P (kept_at passes xs)
  all_kept P [] h = tt
  all_kept P (x ∷ xs) h = by (passes x.row) (all_kept P xs h.1)
    where
      by : (b : Bool) → AllByRecursion P (kept_at passes xs) → AllByRecursion P (if b then x ∷ kept_at passes xs else kept_at passes xs)
      by true k = (h.0, k)
      by false k = k

  pub kept_never_falls : (xs : List (Placed A)) → NeverFall xs → NeverFall (kept_at passes xs)
  kept_never_falls [] h = tt
  kept_never_falls (x ∷ xs) h = by (passes x.row) (kept_never_falls xs h.1)
    where
      by : (b : Bool) → NeverFall (kept_at passes xs) → NeverFall (if b then x ∷ kept_at passes xs else kept_at passes xs)
      by true k = (all_kept (IsNoLater x) xs h.0, k)
      by false k = k

module _ {A B : Type 0} (f : A → B) where
  pub rows_mapped : (xs : List (Placed A)) → rows_of (mapped_at f xs) ≡ map f (rows_of xs)
  rows_mapped [] = refl
  rows_mapped (x ∷ xs) = ap (λ l. f x.row ∷ l) (rows_mapped xs)

  all_mapped : (p : ℕ) (xs : List (Placed A)) → AllByRecursion (λ (y : Placed A). p ≤ y.place) xs → AllByRecursion (λ (y : Placed B). p ≤ y.place) (mapped_at f xs)
  all_mapped p [] h = tt
  all_mapped p (x ∷ xs) h = (h.0, all_mapped p xs h.1)

  pub mapped_never_falls : (xs : List (Placed A)) → NeverFall xs → NeverFall (mapped_at f xs)
  mapped_never_falls [] h = tt
  mapped_never_falls (x ∷ xs) h = (all_mapped x.place xs h.0, mapped_never_falls xs h.1)

module _ {A B : Type 0} (f : List A → Option B) where
  pub rows_each : (seen : List A) (xs : List (Placed A)) → rows_of (each_at f seen xs) ≡ each_of f seen (rows_of xs)
  rows_each seen [] = refl
  rows_each seen (x ∷ xs) = by (f (seen ++ x.row ∷ [])) (rows_each (seen ++ x.row ∷ []) xs)
    where
      by : (o : Option B) → rows_of (each_at f (seen ++ x.row ∷ []) xs) ≡ each_of f (seen ++ x.row ∷ []) (rows_of xs)
          → rows_of (cons_option (option_map (λ y. at_place y x.place) o) (each_at f (seen ++ x.row ∷ []) xs)) ≡ cons_option o (each_of f (seen ++ x.row ∷ []) (rows_of xs))
      by None e = e
      by (Some y) e = ap (λ l. y ∷ l) e

  all_each : (p : ℕ) (seen : List A) (xs : List (Placed A)) → AllByRecursion (λ (x : Placed A). p ≤ x.place) xs → AllByRecursion (λ (y : Placed B). p ≤ y.place) (each_at f seen xs)
  all_each p seen [] h = tt
  all_each p seen (x ∷ xs) h = by (f (seen ++ x.row ∷ [])) (all_each p (seen ++ x.row ∷ []) xs h.1)
    where
      by : (o : Option B) → AllByRecursion (λ (y : Placed B). p ≤ y.place) (each_at f (seen ++ x.row ∷ []) xs)
          → AllByRecursion (λ (y : Placed B). p ≤ y.place) (cons_option (option_map (λ y. at_place y x.place) o) (each_at f (seen ++ x.row ∷ []) xs))
      by None k = k
      by (Some y) k = (h.0, k)

  pub each_never_falls : (seen : List A) (xs : List (Placed A)) → NeverFall xs → NeverFall (each_at f seen xs)
  each_never_falls seen [] h = tt
  each_never_falls seen (x ∷ xs) h = by (f (seen ++ x.row ∷ [])) (each_never_falls (seen ++ x.row ∷ []) xs h.1)
    where
      by : (o : Option B) → NeverFall (each_at f (seen ++ x.row ∷ []) xs) → NeverFall (cons_option (option_map (λ y. at_place y x.place) o) (each_at f (seen ++ x.row ∷ []) xs))
      by None k = k
      by (Some y) k = (all_each x.place (seen ++ x.row ∷ []) xs h.0, k)

pub rows_brought : {A B : Type 0} (row_in : B → Option A) (cycle_of : B → ℕ) (beats : List B) → rows_of (brought row_in cycle_of beats) ≡ filter_map row_in beats
rows_brought row_in cycle_of [] = refl
rows_brought {A = A} row_in cycle_of (b ∷ bs) = by (row_in b) (rows_brought row_in cycle_of bs)
  where
    by : (o : Option A) → rows_of (brought row_in cycle_of bs) ≡ filter_map row_in bs
        → rows_of (cons_option (option_map (λ row. at_place row (cycle_of b)) o) (brought row_in cycle_of bs)) ≡ cons_option o (filter_map row_in bs)
    by None e = e
    by (Some x) e = ap (λ l. x ∷ l) e

-- ---- steps

pub stepped_kept : {A : Type 0} (passes : A → Bool) (xs : List (Placed A)) → stepped_at (λ x. if passes x then Some x else None) xs ≡ kept_at passes xs
stepped_kept passes [] = refl
stepped_kept {A = A} passes (x ∷ xs) = by (passes x.row) (stepped_kept passes xs)
  where
    by : (b : Bool) → stepped_at (λ y. if passes y then Some y else None) xs ≡ kept_at passes xs
        → cons_option (option_map (λ y. at_place y x.place) (if b then Some x.row else None)) (stepped_at (λ y. if passes y then Some y else None) xs) ≡ (if b then x ∷ kept_at passes xs else kept_at passes xs)
    by true e = ap (λ l. x ∷ l) e
    by false e = e

pub stepped_mapped : {A B : Type 0} (f : A → B) (xs : List (Placed A)) → stepped_at (λ x. Some (f x)) xs ≡ mapped_at f xs
stepped_mapped f [] = refl
stepped_mapped f (x ∷ xs) = ap (λ l. at_place (f x.row) x.place ∷ l) (stepped_mapped f xs)

pub stepped_moved : {A B : Type 0} (step : A → Option B) (g : ℕ → ℕ) (xs : List (Placed A)) → stepped_at step (moved g xs) ≡ moved g (stepped_at step xs)
stepped_moved step g [] = refl
stepped_moved {A = A} {B = B} step g (x ∷ xs) = by (step x.row) (stepped_moved step g xs)
  where
    by : (o : Option B) → stepped_at step (moved g xs) ≡ moved g (stepped_at step xs)
        → cons_option (option_map (λ y. at_place y (g x.place)) o) (stepped_at step (moved g xs)) ≡ moved g (cons_option (option_map (λ y. at_place y x.place) o) (stepped_at step xs))
    by None e = e
    by (Some y) e = ap (λ l. at_place y (g x.place) ∷ l) e

pub moved_by_none : {A : Type 0} (xs : List (Placed A)) → moved (λ n. n) xs ≡ xs
moved_by_none [] = refl
moved_by_none (x ∷ xs) = ap (λ l. x ∷ l) (moved_by_none xs)

-- rows at places are the rows
pub rows_at_places : {A : Type 0} (xs : List A) (ps : List ℕ) → rows_of (at_places xs ps) ≡ xs
rows_at_places [] ps = refl
rows_at_places (x ∷ xs) [] = ap (λ l. x ∷ l) (rows_at_places xs [])
rows_at_places (x ∷ xs) (p ∷ ps) = ap (λ l. x ∷ l) (rows_at_places xs ps)

-- rows at places, and more of them
pub at_places_append : {A : Type 0} (xs ys : List A) (ps qs : List ℕ) → length xs ≡ length ps → at_places (xs ++ ys) (ps ++ qs) ≡ at_places xs ps ++ at_places ys qs
at_places_append [] ys [] qs h = refl
at_places_append [] ys (p ∷ ps) qs h = absurd (omega (arith, h))
at_places_append (x ∷ xs) ys [] qs h = absurd (omega (arith, h))
at_places_append (x ∷ xs) ys (p ∷ ps) qs h = ap (λ l. at_place x p ∷ l) (at_places_append xs ys ps qs (omega (arith, h)))

-- ---- places changed

pub rows_moved : {A : Type 0} (g : ℕ → ℕ) (xs : List (Placed A)) → rows_of (moved g xs) ≡ rows_of xs
rows_moved g [] = refl
rows_moved g (x ∷ xs) = ap (λ l. x.row ∷ l) (rows_moved g xs)

pub kept_moved : {A : Type 0} (passes : A → Bool) (g : ℕ → ℕ) (xs : List (Placed A)) → kept_at passes (moved g xs) ≡ moved g (kept_at passes xs)
kept_moved passes g xs =
    sym (stepped_kept passes (moved g xs)) ∙ stepped_moved (λ x. if passes x then Some x else None) g xs ∙ ap (λ l. moved g l) (stepped_kept passes xs)

pub mapped_moved : {A B : Type 0} (f : A → B) (g : ℕ → ℕ) (xs : List (Placed A)) → mapped_at f (moved g xs) ≡ moved g (mapped_at f xs)
mapped_moved f g xs = sym (stepped_mapped f (moved g xs)) ∙ stepped_moved (λ x. Some (f x)) g xs ∙ ap (λ l. moved g l) (stepped_mapped f xs)

pub each_moved : {A B : Type 0} (f : List A → Option B) (g : ℕ → ℕ) (seen : List A) (xs : List (Placed A)) → each_at f seen (moved g xs) ≡ moved g (each_at f seen xs)
each_moved f g seen [] = refl
each_moved {A = A} {B = B} f g seen (x ∷ xs) = by (f (seen ++ x.row ∷ [])) (each_moved f g (seen ++ x.row ∷ []) xs)
  where
    by : (o : Option B) → each_at f (seen ++ x.row ∷ []) (moved g xs) ≡ moved g (each_at f (seen ++ x.row ∷ []) xs)
        → cons_option (option_map (λ y. at_place y (g x.place)) o) (each_at f (seen ++ x.row ∷ []) (moved g xs))
        ≡ moved g (cons_option (option_map (λ y. at_place y x.place) o) (each_at f (seen ++ x.row ∷ []) xs))
    by None e = e
    by (Some y) e = ap (λ l. at_place y (g x.place) ∷ l) e
