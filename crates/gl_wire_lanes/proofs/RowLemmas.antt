-- The rows of a lane, where each is made of another's: of the same lane, or of one some cycles before.
use Rattle.std.proofs.Common.{◌≡◌, ℕ, zero, suc, ◌+◌, ◌≤◌, List, [], ◌∷◌, ◌++◌, map, length, Bool, true, false, refl, sym, ap, ◌∙◌, arith}
use Rattle.std.specs.Prelude.{if◌then◌else◌, nat_eq}
use Rattle.std.proofs.lemmas.List.{length-map, map-append}
use Rattle.gl_wire_lanes.specs.Lanes.{Lane, Begins, IsLaneBehind, row_in, rows_before, rows_now}

module _ {B D : Type 0} (f : B → D) where
  -- one cycle: whether it is the slot's own, whether its stream ends
  stepped : (s e : Bool) (xs : List B) (ys : List D) (own : List B) (mine : List D) → ys ≡ map f xs → mine ≡ map f own
      → (if s then (if e then [] else ys ++ mine) else ys) ≡ map f (if s then (if e then [] else xs ++ own) else xs)
  stepped true true xs ys own mine p q = refl
  stepped true false xs ys own mine p q = ap (λ z. z ++ mine) p ∙ ap (λ z. map f xs ++ z) q ∙ sym (map-append f xs own)
  stepped false e xs ys own mine p q = p

  one_row : (v : Bool) (r : B) (x : D) → (v ≡ true → x ≡ f r) → (if v then x ∷ [] else []) ≡ map f (if v then r ∷ [] else [])
  one_row true r x is = ap (λ y. y ∷ []) (is refl)
  one_row false r x is = refl

  module _ (l : Lane) (row : ℕ → B) (made : ℕ → D) (is : (c : ℕ) → l.valid c ≡ true → made c ≡ f (row c)) where
    own_through : (c : ℕ) → row_in l made c ≡ map f (row_in l row c)
    own_through c = one_row (l.valid c) (row c) (made c) (is c)

    before_through : (k c : ℕ) → rows_before l made k c ≡ map f (rows_before l row k c)
    before_through k zero = refl
    before_through k (suc c) =
        stepped (nat_eq (l.slot c) k) (l.ends c) (rows_before l row k c) (rows_before l made k c) (row_in l row c) (row_in l made c) (before_through k c) (own_through c)

    pub rows_through : (c : ℕ) → rows_now l made c ≡ map f (rows_now l row c)
    rows_through c =
        ap (λ z. z ++ row_in l made c) (before_through (l.slot c) c) ∙ ap (λ z. map f (rows_before l row (l.slot c) c) ++ z) (own_through c)
        ∙ sym (map-append f (rows_before l row (l.slot c) c) (row_in l row c))

-- there are as many, whatever they are
counted : {B : Type 0} (l : Lane) (row : ℕ → B) (c : ℕ) → length (rows_now l row c) ≡ length (rows_now l (λ (t : ℕ). t) c)
counted l row c =
    let of_row = rows_through {D = ℕ} (λ r. 0) l row (λ (t : ℕ). 0) (λ t p. refl) c in
    let of_cycle = rows_through {D = ℕ} (λ t. 0) l (λ (t : ℕ). t) (λ (t : ℕ). 0) (λ t p. refl) c in
    sym (length-map {B = ℕ} (rows_now l row c) (λ r. 0)) ∙ ap length (sym of_row ∙ of_cycle) ∙ length-map {B = ℕ} (rows_now l (λ (t : ℕ). t) c) (λ t. 0)

pub rows_many : {B D : Type 0} (l : Lane) (row : ℕ → B) (other : ℕ → D) (c : ℕ) → length (rows_now l row c) ≡ length (rows_now l other c)
rows_many l row other c = counted l row c ∙ sym (counted l other c)

-- the rows of a lane behind, where each is made of the lane's
module _ {B D : Type 0} (m : ℕ) (f : B → D) (l d : Lane) (row : ℕ → B) (made : ℕ → D) (b : Begins l) (h : IsLaneBehind m l d) (valid : (c : ℕ) → d.valid (c + m) ≡ l.valid c)
    (is : (c : ℕ) → l.valid c ≡ true → made (c + m) ≡ f (row c)) where
  own_rows : (c : ℕ) → row_in d made (c + m) ≡ map f (row_in l row c)
  own_rows c = ap (λ v. if v then made (c + m) ∷ [] else []) (valid c) ∙ one_row f (l.valid c) (row c) (made (c + m)) (is c)

  still : (s e : Bool) (xs ys : List D) → xs ≡ [] → ys ≡ [] → (if s then (if e then [] else xs ++ ys) else xs) ≡ []
  still true true xs ys p q = refl
  still true false xs ys p q = ap (λ z. z ++ ys) p ∙ q
  still false e xs ys p q = p

  no_own : (v : Bool) (r : D) → v ≡ false → (if v then r ∷ [] else []) ≡ []
  no_own true r p = absurd (cc)
  no_own false r p = refl

  none_yet : (k c : ℕ) → c ≤ m → rows_before d made k c ≡ []
  none_yet k zero le = refl
  none_yet k (suc c) le =
      still (nat_eq (d.slot c) k) (d.ends c) (rows_before d made k c) (row_in d made c) (none_yet k c (omega (arith, le))) (no_own (d.valid c) (made c) (h.no_row c (omega (arith, le))))

  first_none : (k : ℕ) → rows_before l row k 1 ≡ []
  first_none k = by (nat_eq (l.slot 0) k) (l.ends 0) (l.valid 0) b.no_row
    where
      by : (s e v : Bool) → v ≡ false → (if s then (if e then [] else [] ++ (if v then row 0 ∷ [] else [])) else []) ≡ []
      by true true v p = refl
      by true false true p = absurd (cc)
      by true false false p = refl
      by false e v p = refl

  pub rows_behind : (k c : ℕ) → rows_before d made k (suc c + m) ≡ map f (rows_before l row k (suc c))
  rows_behind k zero =
      let e : suc zero + m ≡ suc m = omega arith in
      let z : 0 + m ≡ m = omega arith in
      ap (rows_before d made k) e
      ∙ still (nat_eq (d.slot m) k) (d.ends m) (rows_before d made k m) (row_in d made m) (none_yet k m (omega arith)) (no_own (d.valid m) (made m) (sym (ap d.valid z) ∙ valid 0 ∙ b.no_row))
      ∙ sym (ap (map f) (first_none k))
  rows_behind k (suc c) =
      let e : suc (suc c) + m ≡ suc (suc c + m) = omega arith in
      ap (rows_before d made k) e
      ∙ ap (λ s. if nat_eq s k then (if d.ends (suc c + m) then [] else rows_before d made k (suc c + m) ++ row_in d made (suc c + m)) else rows_before d made k (suc c + m)) (h.slots c)
      ∙ ap (λ x. if nat_eq (l.slot (suc c)) k then (if x then [] else rows_before d made k (suc c + m) ++ row_in d made (suc c + m)) else rows_before d made k (suc c + m)) (h.ends (suc c))
      ∙ stepped f (nat_eq (l.slot (suc c)) k) (l.ends (suc c)) (rows_before l row k (suc c)) (rows_before d made k (suc c + m)) (row_in l row (suc c)) (row_in d made (suc c + m)) (rows_behind k c) (own_rows (suc c))

  pub now_behind : (c : ℕ) → rows_now d made (suc c + m) ≡ map f (rows_now l row (suc c))
  now_behind c =
      ap (λ k. rows_before d made k (suc c + m) ++ row_in d made (suc c + m)) (h.slots c)
      ∙ ap (λ z. z ++ row_in d made (suc c + m)) (rows_behind (l.slot (suc c)) c) ∙ ap (λ z. map f (rows_before l row (l.slot (suc c)) (suc c)) ++ z) (own_rows (suc c))
      ∙ sym (map-append f (rows_before l row (l.slot (suc c)) (suc c)) (row_in l row (suc c)))
