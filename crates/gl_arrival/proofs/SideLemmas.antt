-- Of an interleaving, what is of either side; and changes of its elements.
use Rattle.std.proofs.Common.{◌≡◌, ℕ, List, [], ◌∷◌, ◌++◌, Bool, true, false, refl, sym, ap, ◌∙◌}
use Rattle.std.specs.Prelude.{filter, if◌then◌else◌, map, nat_lt, not}
use Rattle.std.specs.List.{AllByRecursion}
use Rattle.std.proofs.lemmas.List.{map-append}
use Rattle.gl_values.specs.Lists.{IsInterleaving, nothing, from_first, from_second}
use Rattle.gl_arrival.specs.Places.{Placed, at_place}
use Rattle.gl_arrival.specs.Arrival.{by_arrival, earlier, not_earlier}
use Rattle.gl_arrival.specs.Changes.{mapped_at, moved}
use Rattle.gl_arrival.specs.Laws.{KeepsOrder, Rises}

module _ {A : Type 0} (is_first : A → Bool) where
  pub first_restored : (xs ys zs : List A) → IsInterleaving xs ys zs → AllByRecursion (λ x. is_first x ≡ true) xs → AllByRecursion (λ y. is_first y ≡ false) ys → filter is_first zs ≡ xs
  first_restored _ _ _ nothing h k = refl
  first_restored _ _ _ (from_first x xs ys zs rest) h k = ap (λ (b : Bool). if b then x ∷ filter is_first zs else filter is_first zs) h.0 ∙ ap (λ l. x ∷ l) (first_restored xs ys zs rest h.1 k)
  first_restored _ _ _ (from_second y xs ys zs rest) h k = ap (λ (b : Bool). if b then y ∷ filter is_first zs else filter is_first zs) k.0 ∙ first_restored xs ys zs rest h k.1

  pub second_restored : (xs ys zs : List A) → IsInterleaving xs ys zs → AllByRecursion (λ x. is_first x ≡ true) xs → AllByRecursion (λ y. is_first y ≡ false) ys → filter (λ z. not (is_first z)) zs ≡ ys
  second_restored _ _ _ nothing h k = refl
  second_restored _ _ _ (from_first x xs ys zs rest) h k = ap (λ (b : Bool). if not b then x ∷ filter (λ z. not (is_first z)) zs else filter (λ z. not (is_first z)) zs) h.0 ∙ second_restored xs ys zs rest h.1 k
  second_restored _ _ _ (from_second y xs ys zs rest) h k = ap (λ (b : Bool). if not b then y ∷ filter (λ z. not (is_first z)) zs else filter (λ z. not (is_first z)) zs) k.0 ∙ ap (λ l. y ∷ l) (second_restored xs ys zs rest h k.1)

pub interleaving_mapped : {A B : Type 0} (f : A → B) (xs ys zs : List A) → IsInterleaving xs ys zs → IsInterleaving (map f xs) (map f ys) (map f zs)
interleaving_mapped f _ _ _ nothing = nothing
interleaving_mapped f _ _ _ (from_first x xs ys zs rest) = from_first (f x) (map f xs) (map f ys) (map f zs) (interleaving_mapped f xs ys zs rest)
interleaving_mapped f _ _ _ (from_second y xs ys zs rest) = from_second (f y) (map f xs) (map f ys) (map f zs) (interleaving_mapped f xs ys zs rest)

-- ---- changes that keep the order of a row of each side

module _ {A B : Type 0} (f : Placed A → Placed B) where
  -- a change keeps the order of these two
  abbrev Keeps : Placed A → Placed A → Type 0
  Keeps x y = nat_lt (f y).place (f x).place ≡ nat_lt y.place x.place

  mapped_earlier : (x : Placed A) (ys : List (Placed A)) → AllByRecursion (Keeps x) ys → earlier (f x).place (map f ys) ≡ map f (earlier x.place ys)
  mapped_earlier x [] h = refl
  mapped_earlier x (y ∷ ys) h = ap (λ (b : Bool). if b then f y ∷ earlier (f x).place (map f ys) else []) h.0 ∙ by (nat_lt y.place x.place) (mapped_earlier x ys h.1)
    where
      by : (b : Bool) → earlier (f x).place (map f ys) ≡ map f (earlier x.place ys) → (if b then f y ∷ earlier (f x).place (map f ys) else []) ≡ map f (if b then y ∷ earlier x.place ys else [])
      by true e = ap (λ l. f y ∷ l) e
      by false e = refl

  mapped_not_earlier : (x : Placed A) (ys : List (Placed A)) → AllByRecursion (Keeps x) ys → not_earlier (f x).place (map f ys) ≡ map f (not_earlier x.place ys)
  mapped_not_earlier x [] h = refl
  mapped_not_earlier x (y ∷ ys) h = ap (λ (b : Bool). if b then not_earlier (f x).place (map f ys) else map f (y ∷ ys)) h.0 ∙ by (nat_lt y.place x.place) (mapped_not_earlier x ys h.1)
    where
      by : (b : Bool) → not_earlier (f x).place (map f ys) ≡ map f (not_earlier x.place ys) → (if b then not_earlier (f x).place (map f ys) else map f (y ∷ ys)) ≡ map f (if b then not_earlier x.place ys else y ∷ ys)
      by true e = e
      by false e = refl

  fewer_kept : (p : ℕ) (x : Placed A) (ys : List (Placed A)) → AllByRecursion (Keeps x) ys → AllByRecursion (Keeps x) (not_earlier p ys)
  fewer_kept p x [] h = tt
  fewer_kept p x (y ∷ ys) h = by (nat_lt y.place p) (fewer_kept p x ys h.1)
    where
      by : (b : Bool) → AllByRecursion (Keeps x) (not_earlier p ys) → AllByRecursion (Keeps x) (if b then not_earlier p ys else y ∷ ys)
      by true k = k
      by false k = h

  all_fewer : (p : ℕ) (xs ys : List (Placed A)) → AllByRecursion (λ (x : Placed A). AllByRecursion (Keeps x) ys) xs → AllByRecursion (λ (x : Placed A). AllByRecursion (Keeps x) (not_earlier p ys)) xs
  all_fewer p [] ys h = tt
  all_fewer p (x ∷ xs) ys h = (fewer_kept p x ys h.0, all_fewer p xs ys h.1)

  pub by_arrival_mapped : (xs ys : List (Placed A)) → AllByRecursion (λ (x : Placed A). AllByRecursion (Keeps x) ys) xs → by_arrival (map f xs) (map f ys) ≡ map f (by_arrival xs ys)
  by_arrival_mapped [] ys h = refl
  by_arrival_mapped (x ∷ xs) ys h =
      let rest : List (Placed A) = not_earlier x.place ys in
      ap (λ l. l ++ f x ∷ by_arrival (map f xs) (not_earlier (f x).place (map f ys))) (mapped_earlier x ys h.0)
      ∙ ap (λ l. map f (earlier x.place ys) ++ f x ∷ by_arrival (map f xs) l) (mapped_not_earlier x ys h.0)
      ∙ ap (λ l. map f (earlier x.place ys) ++ f x ∷ l) (by_arrival_mapped xs rest (all_fewer x.place xs ys h.1))
      ∙ sym (map-append f (earlier x.place ys) (x ∷ by_arrival xs rest))

pub by_arrival_moved : {A : Type 0} (g : ℕ → ℕ) (xs ys : List (Placed A)) → KeepsOrder g xs ys → by_arrival (moved g xs) (moved g ys) ≡ moved g (by_arrival xs ys)
by_arrival_moved {A = A} g xs ys h = by_arrival_mapped (λ (x : Placed A). at_place x.row (g x.place)) xs ys h

all_keep : {A : Type 0} (g : ℕ → ℕ) → Rises g → (x : Placed A) (ys : List (Placed A)) → AllByRecursion (λ (y : Placed A). nat_lt (g y.place) (g x.place) ≡ nat_lt y.place x.place) ys
all_keep g r x [] = tt
all_keep g r x (y ∷ ys) = (r y.place x.place, all_keep g r x ys)

pub keeps_order : {A : Type 0} (g : ℕ → ℕ) → Rises g → (xs ys : List (Placed A)) → KeepsOrder g xs ys
keeps_order g r [] ys = tt
keeps_order g r (x ∷ xs) ys = (all_keep g r x ys, keeps_order g r xs ys)

-- a change of rows alone keeps every order
module _ {A B : Type 0} (f : A → B) where
  abbrev changed : Placed A → Placed B
  changed x = at_place (f x.row) x.place

  each_kept : (x : Placed A) (ys : List (Placed A)) → AllByRecursion (λ (y : Placed A). nat_lt (changed y).place (changed x).place ≡ nat_lt y.place x.place) ys
  each_kept x [] = tt
  each_kept x (y ∷ ys) = (refl, each_kept x ys)

  all_kept : (xs ys : List (Placed A)) → AllByRecursion (λ (x : Placed A). AllByRecursion (λ (y : Placed A). nat_lt (changed y).place (changed x).place ≡ nat_lt y.place x.place) ys) xs
  all_kept [] ys = tt
  all_kept (x ∷ xs) ys = (each_kept x ys, all_kept xs ys)

  pub by_arrival_of_mapped : (xs ys : List (Placed A)) → by_arrival (mapped_at f xs) (mapped_at f ys) ≡ mapped_at f (by_arrival xs ys)
  by_arrival_of_mapped xs ys = by_arrival_mapped changed xs ys (all_kept xs ys)
