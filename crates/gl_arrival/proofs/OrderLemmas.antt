-- Two lists by arrival: one row at a time, a row more at the end, and the order.
use Rattle.std.proofs.Common.{◌≡◌, ℕ, ◌<◌, ◌≤◌, List, [], ◌∷◌, ◌++◌, Bool, true, false, refl, sym, ap, ◌∙◌, subst, arith, inl, inr, append_assoc}
use Rattle.std.specs.Prelude.{if◌then◌else◌, nat_lt}
use Rattle.std.specs.List.{AllByRecursion}
use Rattle.std.proofs.lemmas.Bool.{cases_lt, lt-ltb, le-ltb}
use Rattle.gl_bits.proofs.AllLists.{all_weaker}
use Rattle.gl_values.specs.Lists.{IsInterleaving, nothing, from_first, from_second}
use Rattle.gl_arrival.specs.Places.{EachBefore, IsNoLater, NeverFall, Placed}
use Rattle.gl_arrival.specs.Arrival.{AreInOrder, AreTold, MayPrecede, by_arrival, earlier, not_earlier}

module _ {A : Type 0} where
  -- ---- the rows at earlier places

  earlier_all : (p : ℕ) (ys : List (Placed A)) → AllByRecursion (λ (y : Placed A). y.place < p) ys → earlier p ys ≡ ys
  earlier_all p [] h = refl
  earlier_all p (y ∷ ys) h = ap (λ (b : Bool). if b then y ∷ earlier p ys else []) (lt-ltb y.place p h.0) ∙ ap (λ l. y ∷ l) (earlier_all p ys h.1)

  not_earlier_all : (p : ℕ) (ys : List (Placed A)) → AllByRecursion (λ (y : Placed A). y.place < p) ys → not_earlier p ys ≡ []
  not_earlier_all p [] h = refl
  not_earlier_all p (y ∷ ys) h = ap (λ (b : Bool). if b then not_earlier p ys else y ∷ ys) (lt-ltb y.place p h.0) ∙ not_earlier_all p ys h.1

  -- a row more that is not at an earlier place
  earlier_push : (p : ℕ) (ys : List (Placed A)) (y : Placed A) → p ≤ y.place → earlier p (ys ++ y ∷ []) ≡ earlier p ys
  earlier_push p [] y le = ap (λ (b : Bool). if b then y ∷ [] else []) (le-ltb y.place p le)
  earlier_push p (z ∷ ys) y le = by (nat_lt z.place p) (earlier_push p ys y le)
    where
      by : (b : Bool) → earlier p (ys ++ y ∷ []) ≡ earlier p ys → (if b then z ∷ earlier p (ys ++ y ∷ []) else []) ≡ (if b then z ∷ earlier p ys else [])
      by true e = ap (λ l. z ∷ l) e
      by false e = refl

  not_earlier_push : (p : ℕ) (ys : List (Placed A)) (y : Placed A) → p ≤ y.place → not_earlier p (ys ++ y ∷ []) ≡ not_earlier p ys ++ y ∷ []
  not_earlier_push p [] y le = ap (λ (b : Bool). if b then [] else y ∷ []) (le-ltb y.place p le)
  not_earlier_push p (z ∷ ys) y le = by (nat_lt z.place p) (not_earlier_push p ys y le)
    where
      by : (b : Bool) → not_earlier p (ys ++ y ∷ []) ≡ not_earlier p ys ++ y ∷ [] → (if b then not_earlier p (ys ++ y ∷ []) else z ∷ ys ++ y ∷ []) ≡ (if b then not_earlier p ys else z ∷ ys) ++ y ∷ []
      by true e = e
      by false e = refl

  all_not_earlier : (P : Placed A → Type 0) (p : ℕ) (ys : List (Placed A)) → AllByRecursion P ys → AllByRecursion P (not_earlier p ys)
  all_not_earlier P p [] h = tt
  all_not_earlier P p (y ∷ ys) h = by (nat_lt y.place p) (all_not_earlier P p ys h.1)
    where
      by : (b : Bool) → AllByRecursion P (not_earlier p ys) → AllByRecursion P (if b then not_earlier p ys else y ∷ ys)
      by true k = k
      by false k = h

  parted : (p : ℕ) (ys : List (Placed A)) → earlier p ys ++ not_earlier p ys ≡ ys
  parted p [] = refl
  parted p (y ∷ ys) = by (nat_lt y.place p) (parted p ys)
    where
      by : (b : Bool) → earlier p ys ++ not_earlier p ys ≡ ys → (if b then y ∷ earlier p ys else []) ++ (if b then not_earlier p ys else y ∷ ys) ≡ y ∷ ys
      by true e = ap (λ l. y ∷ l) e
      by false e = refl

  -- ---- one row at a time

  pub second_next : (x y : Placed A) (xs ys : List (Placed A)) → y.place < x.place → by_arrival (x ∷ xs) (y ∷ ys) ≡ y ∷ by_arrival (x ∷ xs) ys
  second_next x y xs ys lt =
      ap (λ (b : Bool). (if b then y ∷ earlier x.place ys else []) ++ x ∷ by_arrival xs (if b then not_earlier x.place ys else y ∷ ys)) (lt-ltb y.place x.place lt)

  pub first_next : (x y : Placed A) (xs ys : List (Placed A)) → x.place ≤ y.place → by_arrival (x ∷ xs) (y ∷ ys) ≡ x ∷ by_arrival xs (y ∷ ys)
  first_next x y xs ys le =
      ap (λ (b : Bool). (if b then y ∷ earlier x.place ys else []) ++ x ∷ by_arrival xs (if b then not_earlier x.place ys else y ∷ ys)) (le-ltb y.place x.place le)

  -- ---- a row more

  pub first_goes_last : (xs ys : List (Placed A)) (x : Placed A) → AllByRecursion (λ (y : Placed A). y.place < x.place) ys → by_arrival (xs ++ x ∷ []) ys ≡ by_arrival xs ys ++ x ∷ []
  first_goes_last [] ys x h = ap (λ l. l ++ x ∷ not_earlier x.place ys) (earlier_all x.place ys h) ∙ ap (λ l. ys ++ x ∷ l) (not_earlier_all x.place ys h)
  first_goes_last (z ∷ xs) ys x h =
      ap (λ l. earlier z.place ys ++ z ∷ l) (first_goes_last xs (not_earlier z.place ys) x (all_not_earlier (λ (y : Placed A). y.place < x.place) z.place ys h))
      ∙ sym (append_assoc (earlier z.place ys) (z ∷ by_arrival xs (not_earlier z.place ys)) (x ∷ []))

  pub second_goes_last : (xs ys : List (Placed A)) (y : Placed A) → AllByRecursion (λ (x : Placed A). x.place ≤ y.place) xs → by_arrival xs (ys ++ y ∷ []) ≡ by_arrival xs ys ++ y ∷ []
  second_goes_last [] ys y h = refl
  second_goes_last (x ∷ xs) ys y h =
      ap (λ l. l ++ x ∷ by_arrival xs (not_earlier x.place (ys ++ y ∷ []))) (earlier_push x.place ys y h.0)
      ∙ ap (λ l. earlier x.place ys ++ x ∷ by_arrival xs l) (not_earlier_push x.place ys y h.0)
      ∙ ap (λ l. earlier x.place ys ++ x ∷ l) (second_goes_last xs (not_earlier x.place ys) y h.1)
      ∙ sym (append_assoc (earlier x.place ys) (x ∷ by_arrival xs (not_earlier x.place ys)) (y ∷ []))

  -- ---- one of the interleavings

  second_alone : (ys : List (Placed A)) → IsInterleaving [] ys ys
  second_alone [] = nothing
  second_alone (y ∷ ys) = from_second y [] ys ys (second_alone ys)

  behind_second : (fs xs ys zs : List (Placed A)) → IsInterleaving xs ys zs → IsInterleaving xs (fs ++ ys) (fs ++ zs)
  behind_second [] xs ys zs h = h
  behind_second (f ∷ fs) xs ys zs h = from_second f xs (fs ++ ys) (fs ++ zs) (behind_second fs xs ys zs h)

  pub interleaves : (xs ys : List (Placed A)) → IsInterleaving xs ys (by_arrival xs ys)
  interleaves [] ys = second_alone ys
  interleaves (x ∷ xs) ys =
      let rest : List (Placed A) = not_earlier x.place ys in
      subst (λ (l : List (Placed A)). IsInterleaving (x ∷ xs) l (by_arrival (x ∷ xs) ys)) (parted x.place ys)
      (behind_second (earlier x.place ys) (x ∷ xs) rest (x ∷ by_arrival xs rest) (from_first x xs rest (by_arrival xs rest) (interleaves xs rest)))

-- ---- what holds of both sides

pub all_of_both : {A : Type 0} (P : A → Type 0) (xs ys zs : List A) → IsInterleaving xs ys zs → AllByRecursion P xs → AllByRecursion P ys → AllByRecursion P zs
all_of_both P _ _ _ nothing h k = tt
all_of_both P _ _ _ (from_first x xs ys zs rest) h k = (h.0, all_of_both P xs ys zs rest h.1 k)
all_of_both P _ _ _ (from_second y xs ys zs rest) h k = (k.0, all_of_both P xs ys zs rest h k.1)

all_of_first : {A : Type 0} (P : A → Type 0) (xs ys zs : List A) → IsInterleaving xs ys zs → AllByRecursion P zs → AllByRecursion P xs
all_of_first P _ _ _ nothing h = tt
all_of_first P _ _ _ (from_first x xs ys zs rest) h = (h.0, all_of_first P xs ys zs rest h.1)
all_of_first P _ _ _ (from_second y xs ys zs rest) h = all_of_first P xs ys zs rest h.1

all_of_second : {A : Type 0} (P : A → Type 0) (xs ys zs : List A) → IsInterleaving xs ys zs → AllByRecursion P zs → AllByRecursion P ys
all_of_second P _ _ _ nothing h = tt
all_of_second P _ _ _ (from_first x xs ys zs rest) h = all_of_second P xs ys zs rest h.1
all_of_second P _ _ _ (from_second y xs ys zs rest) h = (h.0, all_of_second P xs ys zs rest h.1)

-- ---- the order

-- a row of each side stand so to each other, whichever comes first
record Meet {A : Type 0} (R : Placed A → Placed A → Type 0) (x y : Placed A) : Type 0 where
  pub first : x.place ≤ y.place → R x y
  pub second : y.place < x.place → R y x

-- all that is asked of both sides
record Given {A : Type 0} (R : Placed A → Placed A → Type 0) (xs ys : List (Placed A)) : Type 0 where
  pub first : EachBefore R xs
  pub second : EachBefore R ys
  pub first_rises : NeverFall xs
  pub second_rises : NeverFall ys
  pub meet : AllByRecursion (λ (x : Placed A). AllByRecursion (Meet R x) ys) xs

module _ {A : Type 0} (R : Placed A → Placed A → Type 0) where
  without_second : (y : Placed A) (xs ys : List (Placed A)) → AllByRecursion (λ (x : Placed A). AllByRecursion (Meet R x) (y ∷ ys)) xs → AllByRecursion (λ (x : Placed A). AllByRecursion (Meet R x) ys) xs
  without_second y [] ys h = tt
  without_second y (x ∷ xs) ys h = (h.0.1, without_second y xs ys h.1)

  -- a row of the second side at an earlier place goes before each of the first
  before_first : (x y : Placed A) (xs ys : List (Placed A)) → y.place < x.place → AllByRecursion (IsNoLater x) xs → AllByRecursion (λ (z : Placed A). AllByRecursion (Meet R z) (y ∷ ys)) xs → AllByRecursion (R y) xs
  before_first x y [] ys lt h m = tt
  before_first x y (z ∷ xs) ys lt h m = (let le = h.0 in m.0.0.second (omega (arith, lt, le)), before_first x y xs ys lt h.1 m.1)

  -- a row of the first side goes before each of the second that is not at an earlier place
  before_second : (x y : Placed A) (ys : List (Placed A)) → x.place ≤ y.place → AllByRecursion (IsNoLater y) ys → AllByRecursion (Meet R x) ys → AllByRecursion (R x) ys
  before_second x y [] le h m = tt
  before_second x y (z ∷ ys) le h m = (let far = h.0 in m.0.first (omega (arith, le, far)), before_second x y ys le h.1 m.1)

  -- the first side with one row more, where it is known without
  next : (x : Placed A) (xs : List (Placed A)) → ((ys : List (Placed A)) → Given R xs ys → EachBefore R (by_arrival xs ys)) → (ys : List (Placed A)) → Given R (x ∷ xs) ys → EachBefore R (by_arrival (x ∷ xs) ys)
  next x xs on [] g =
      let rest : Given R xs [] = record { first = g.first.1; second = tt; first_rises = g.first_rises.1; second_rises = tt; meet = g.meet.1 } in
      (all_of_both (R x) xs [] (by_arrival xs []) (interleaves xs []) g.first.0 tt, on [] rest)
  next x xs on (y ∷ ys) g = elim (cases_lt y.place x.place) [
    | inl lt ↦ (let rest : Given R (x ∷ xs) ys =
        record { first = g.first; second = g.second.1; first_rises = g.first_rises; second_rises = g.second_rises.1; meet = without_second y (x ∷ xs) ys g.meet } in
        let head : AllByRecursion (R y) (by_arrival (x ∷ xs) ys) =
        all_of_both (R y) (x ∷ xs) ys (by_arrival (x ∷ xs) ys) (interleaves (x ∷ xs) ys) (g.meet.0.0.second lt, before_first x y xs ys lt g.first_rises.0 g.meet.1) g.second.0 in
        subst (EachBefore R) (sym (second_next x y xs ys lt)) (head, next x xs on ys rest))
    | inr le ↦ (let rest : Given R xs (y ∷ ys) =
        record { first = g.first.1; second = g.second; first_rises = g.first_rises.1; second_rises = g.second_rises; meet = g.meet.1 } in
        let head : AllByRecursion (R x) (by_arrival xs (y ∷ ys)) =
        all_of_both (R x) xs (y ∷ ys) (by_arrival xs (y ∷ ys)) (interleaves xs (y ∷ ys)) g.first.0 (g.meet.0.0.first le, before_second x y ys le g.second_rises.0 g.meet.0.1) in
        subst (EachBefore R) (sym (first_next x y xs ys le)) (head, on (y ∷ ys) rest))
  ]

  each_before : (xs ys : List (Placed A)) → Given R xs ys → EachBefore R (by_arrival xs ys)
  each_before [] ys g = g.second
  each_before (x ∷ xs) ys g = next x xs (λ zs h. each_before xs zs h) ys g

  -- what holds of any two rows of both sides holds of all pairs
  all_meet : (xs ys : List (Placed A)) → ((x y : Placed A) → Meet R x y) → AllByRecursion (λ (x : Placed A). AllByRecursion (Meet R x) ys) xs
  all_meet [] ys f = tt
  all_meet (x ∷ xs) ys f = (each ys, all_meet xs ys f)
    where
      each : (zs : List (Placed A)) → AllByRecursion (Meet R x) zs
      each [] = tt
      each (z ∷ zs) = (f x z, each zs)

pub never_falls : {A : Type 0} (xs ys : List (Placed A)) → NeverFall xs → NeverFall ys → NeverFall (by_arrival xs ys)
never_falls xs ys h k =
    each_before IsNoLater xs ys
    (record { first = h; second = k; first_rises = h; second_rises = k; meet = all_meet IsNoLater xs ys (λ x y. record { first = λ le. le; second = λ lt. let z : y.place ≤ x.place = omega (arith, lt) in z }) })

module _ {A : Type 0} (is_first : Placed A → Bool) where
  -- within a side only the places count
  of_first : (xs : List (Placed A)) → AllByRecursion (λ x. is_first x ≡ true) xs → NeverFall xs → AreInOrder is_first xs
  of_first [] h k = tt
  of_first (x ∷ xs) h k = (all_weaker (IsNoLater x) (MayPrecede is_first x) (λ w le. record { no_later = le; first_ahead = λ e f. absurd (let t = h.0 in cc (t, e)) }) xs k.0, of_first xs h.1 k.1)

  of_second : (ys : List (Placed A)) → AllByRecursion (λ y. is_first y ≡ false) ys → NeverFall ys → AreInOrder is_first ys
  of_second [] h k = tt
  of_second (y ∷ ys) h k = (each ys h.1 k.0, of_second ys h.1 k.1)
    where
      each : (zs : List (Placed A)) → AllByRecursion (λ z. is_first z ≡ false) zs → AllByRecursion (IsNoLater y) zs → AllByRecursion (MayPrecede is_first y) zs
      each [] f g = tt
      each (z ∷ zs) f g = (record { no_later = g.0; first_ahead = λ e d. absurd (let t = f.0 in cc (t, d)) }, each zs f.1 g.1)

  -- a row of each side
  meet_told : (x y : Placed A) → is_first x ≡ true → is_first y ≡ false → Meet (MayPrecede is_first) x y
  meet_told x y e d = record {
    first = λ le. record { no_later = le; first_ahead = λ f g. absurd (cc (e, f)) };
    second = λ lt. record { no_later = omega (arith, lt); first_ahead = λ f g. lt };
  }

  all_told : (xs ys : List (Placed A)) → AllByRecursion (λ x. is_first x ≡ true) xs → AllByRecursion (λ y. is_first y ≡ false) ys → AllByRecursion (λ (x : Placed A). AllByRecursion (Meet (MayPrecede is_first) x) ys) xs
  all_told [] ys h k = tt
  all_told (x ∷ xs) ys h k = (all_weaker (λ y. is_first y ≡ false) (Meet (MayPrecede is_first) x) (λ y d. meet_told x y h.0 d) ys k, all_told xs ys h.1 k)

  pub in_order : (xs ys : List (Placed A)) → AreTold is_first xs ys → NeverFall xs → NeverFall ys → AreInOrder is_first (by_arrival xs ys)
  in_order xs ys told h k =
      each_before (MayPrecede is_first) xs ys
      (record { first = of_first xs told.first h; second = of_second ys told.second k; first_rises = h; second_rises = k; meet = all_told xs ys told.first told.second })

  -- ---- no other interleaving is in order

  first_now : (x : Placed A) (xs ys : List (Placed A)) → AllByRecursion (MayPrecede is_first x) ys → by_arrival (x ∷ xs) ys ≡ x ∷ by_arrival xs ys
  first_now x xs [] h = refl
  first_now x xs (y ∷ ys) h = first_next x y xs ys (h.0).no_later

  second_now : (y : Placed A) (xs ys : List (Placed A)) → is_first y ≡ false → AllByRecursion (λ x. is_first x ≡ true) xs → AllByRecursion (MayPrecede is_first y) xs → by_arrival xs (y ∷ ys) ≡ y ∷ by_arrival xs ys
  second_now y [] ys d h k = refl
  second_now y (x ∷ xs) ys d h k = second_next x y xs ys ((k.0).first_ahead d h.0)

  alone_by : (xs ys zs : List (Placed A)) → IsInterleaving xs ys zs → AllByRecursion (λ x. is_first x ≡ true) xs → AllByRecursion (λ y. is_first y ≡ false) ys → AreInOrder is_first zs → by_arrival xs ys ≡ zs
  alone_by _ _ _ nothing h k o = refl
  alone_by _ _ _ (from_first x xs ys zs rest) h k o =
      first_now x xs ys (all_of_second (MayPrecede is_first x) xs ys zs rest o.0) ∙ ap (λ l. x ∷ l) (alone_by xs ys zs rest h.1 k o.1)
  alone_by _ _ _ (from_second y xs ys zs rest) h k o =
      second_now y xs ys k.0 h (all_of_first (MayPrecede is_first y) xs ys zs rest o.0) ∙ ap (λ l. y ∷ l) (alone_by xs ys zs rest h k.1 o.1)

  pub alone : (xs ys zs : List (Placed A)) → AreTold is_first xs ys → IsInterleaving xs ys zs → AreInOrder is_first zs → by_arrival xs ys ≡ zs
  alone xs ys zs told i o = alone_by xs ys zs i told.first told.second o
