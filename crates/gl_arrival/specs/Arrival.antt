-- The order in which the rows of two lists came. Neither list has a row behind one at a later place.
use Rattle.std.specs.Prelude.{◌≡◌, ℕ, ◌<◌, ◌≤◌, Bool, true, false, List, [], ◌∷◌, ◌++◌, nat_lt, if◌then◌else◌}
use Rattle.std.specs.List.{AllByRecursion}
use Rattle.gl_arrival.specs.Places.{Placed, EachBefore}

-- the rows at the front of a list, up to the first one that is not at an earlier place than this
abbrev pub earlier : {A : Type 0} → ℕ → List (Placed A) → List (Placed A)
earlier p [] = []
earlier p (y ∷ ys) = if nat_lt y.place p then y ∷ earlier p ys else []

-- the rows behind those
abbrev pub not_earlier : {A : Type 0} → ℕ → List (Placed A) → List (Placed A)
not_earlier p [] = []
not_earlier p (y ∷ ys) = if nat_lt y.place p then not_earlier p ys else y ∷ ys

-- UNION BY ARRIVAL: in front of each row of the first list stand the rows of the second one that are at earlier places,
-- as far as they do not stand already; the others stand at the end
abbrev pub by_arrival : {A : Type 0} → List (Placed A) → List (Placed A) → List (Placed A)
by_arrival [] ys = ys
by_arrival (x ∷ xs) ys = earlier x.place ys ++ x ∷ by_arrival xs (not_earlier x.place ys)

-- ---- the order alone, of rows of which a test tells whether they are of the first list

-- one row may stand in front of another: it is at no later place, and one of the second list is at an earlier place
-- than one of the first
pub record MayPrecede {A : Type 0} (is_first : Placed A → Bool) (z w : Placed A) : Type 0 where
  pub no_later : z.place ≤ w.place
  pub first_ahead : is_first z ≡ false → is_first w ≡ true → z.place < w.place

-- each row may stand in front of all rows behind it
abbrev pub AreInOrder : {A : Type 0} → (Placed A → Bool) → List (Placed A) → Type 0
AreInOrder is_first zs = EachBefore (MayPrecede is_first) zs

-- the test tells the rows of two lists from each other
pub record AreTold {A : Type 0} (is_first : Placed A → Bool) (xs ys : List (Placed A)) : Type 0 where
  pub first : AllByRecursion (λ x. is_first x ≡ true) xs
  pub second : AllByRecursion (λ y. is_first y ≡ false) ys
