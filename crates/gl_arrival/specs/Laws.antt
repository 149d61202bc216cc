-- The laws of the order of arrival, and of changes that keep places.
use Rattle.std.specs.Prelude.{◌≡◌, ℕ, ◌<◌, ◌≤◌, Bool, not, List, [], ◌∷◌, ◌++◌, Option, Some, None, map, filter, filter_map, nat_lt, if◌then◌else◌}
use Rattle.std.specs.List.{AllByRecursion}
use Rattle.gl_values.specs.Lists.{IsInterleaving}
use Rattle.gl_frames.specs.Frames.{framed, framed_by_key}
use Rattle.gl_arrival.specs.Places.{Placed, NeverFall, brought, rows_of}
use Rattle.gl_arrival.specs.Arrival.{AreInOrder, AreTold, by_arrival}
use Rattle.gl_arrival.specs.Changes.{framed_at, framed_by_key_at, kept_at, mapped_at, moved, stepped_at}

-- the rows of two lists by arrival are one of the interleavings of both
pub record Interleaves (A : Type 0) : Type 0 where
  pub with_places : (xs ys : List (Placed A)) → IsInterleaving xs ys (by_arrival xs ys)
  pub rows : (xs ys : List (Placed A)) → IsInterleaving (rows_of xs) (rows_of ys) (rows_of (by_arrival xs ys))

-- of the rows by arrival, those of the first list are that list, and the others are the second one
pub record Restores (A : Type 0) : Type 0 where
  pub first : (is_first : Placed A → Bool) (xs ys : List (Placed A)) → AreTold is_first xs ys
      → filter is_first (by_arrival xs ys) ≡ xs
  pub second : (is_first : Placed A → Bool) (xs ys : List (Placed A)) → AreTold is_first xs ys
      → filter (λ z. not (is_first z)) (by_arrival xs ys) ≡ ys

-- the rows by arrival are in order, and no other interleaving of both lists is
pub record IsTheOrder (A : Type 0) : Type 0 where
  pub never_falls : (xs ys : List (Placed A)) → NeverFall xs → NeverFall ys → NeverFall (by_arrival xs ys)
  pub in_order : (is_first : Placed A → Bool) (xs ys : List (Placed A)) → AreTold is_first xs ys → NeverFall xs
      → NeverFall ys → AreInOrder is_first (by_arrival xs ys)
  pub alone : (is_first : Placed A → Bool) (xs ys zs : List (Placed A)) → AreTold is_first xs ys
      → IsInterleaving xs ys zs → AreInOrder is_first zs → by_arrival xs ys ≡ zs

-- ---- for circuits: a row more

-- a row more of the first list goes last where all rows of the second are at earlier places
abbrev pub FirstGoesLast : Type 0 → Type 0
FirstGoesLast A =
    (xs ys : List (Placed A)) (x : Placed A) → AllByRecursion (λ y. y.place < x.place) ys
    → by_arrival (xs ++ x ∷ []) ys ≡ by_arrival xs ys ++ x ∷ []

-- a row more of the second list goes last where no row of the first is at a later place
abbrev pub SecondGoesLast : Type 0 → Type 0
SecondGoesLast A =
    (xs ys : List (Placed A)) (y : Placed A) → AllByRecursion (λ x. x.place ≤ y.place) xs
    → by_arrival xs (ys ++ y ∷ []) ≡ by_arrival xs ys ++ y ∷ []

-- ---- what does not count

-- a change of places keeps the order of a row of each list, whichever they are
abbrev pub KeepsOrder : {A : Type 0} → (ℕ → ℕ) → List (Placed A) → List (Placed A) → Type 0
KeepsOrder g xs ys =
    AllByRecursion (λ x. AllByRecursion (λ y. nat_lt (g y.place) (g x.place) ≡ nat_lt y.place x.place) ys) xs

-- a change of places keeps every order
abbrev pub Rises : (ℕ → ℕ) → Type 0
Rises g = (m n : ℕ) → nat_lt (g m) (g n) ≡ nat_lt m n

-- only the order of places counts, and no row does
pub record GoesByOrder (A B : Type 0) : Type 0 where
  pub places : (g : ℕ → ℕ) (xs ys : List (Placed A)) → KeepsOrder g xs ys
      → by_arrival (moved g xs) (moved g ys) ≡ moved g (by_arrival xs ys)
  pub rows : (f : A → B) (xs ys : List (Placed A))
      → by_arrival (mapped_at f xs) (mapped_at f ys) ≡ mapped_at f (by_arrival xs ys)

-- ---- changes that keep places

-- without places they are those of lists of rows
pub record ChangesGoByRows (A B : Type 0) : Type 0 where
  pub kept : (passes : A → Bool) (xs : List (Placed A)) → rows_of (kept_at passes xs) ≡ filter passes (rows_of xs)
  pub mapped : (f : A → B) (xs : List (Placed A)) → rows_of (mapped_at f xs) ≡ map f (rows_of xs)
  pub frames : (f : List A → B) (xs : List (Placed A)) → rows_of (framed_at f xs) ≡ framed f (rows_of xs)
  pub by_key : (n : ℕ) (key_of : A → ℕ) (f : List A → B) (xs : List (Placed A))
      → rows_of (framed_by_key_at n key_of f xs) ≡ framed_by_key n key_of f (rows_of xs)
  pub coming : (row_in : B → Option A) (cycle_of : B → ℕ) (beats : List B)
      → rows_of (brought row_in cycle_of beats) ≡ filter_map row_in beats

-- WHERE and items are steps
pub record ChangesAreSteps (A B : Type 0) : Type 0 where
  pub kept : (passes : A → Bool) (xs : List (Placed A))
      → stepped_at (λ x. if passes x then Some x else None) xs ≡ kept_at passes xs
  pub mapped : (f : A → B) (xs : List (Placed A)) → stepped_at (λ x. Some (f x)) xs ≡ mapped_at f xs
  pub places : (step : A → Option B) (g : ℕ → ℕ) (xs : List (Placed A))
      → stepped_at step (moved g xs) ≡ moved g (stepped_at step xs)

-- they put no row behind one at a later place
pub record ChangesNeverFall (A B : Type 0) : Type 0 where
  pub kept : (passes : A → Bool) (xs : List (Placed A)) → NeverFall xs → NeverFall (kept_at passes xs)
  pub mapped : (f : A → B) (xs : List (Placed A)) → NeverFall xs → NeverFall (mapped_at f xs)
  pub frames : (f : List A → B) (xs : List (Placed A)) → NeverFall xs → NeverFall (framed_at f xs)
  pub by_key : (n : ℕ) (key_of : A → ℕ) (f : List A → B) (xs : List (Placed A)) → NeverFall xs
      → NeverFall (framed_by_key_at n key_of f xs)
