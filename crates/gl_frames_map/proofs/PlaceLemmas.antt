-- Lists of keys, and words that have the place of each key and the key at each place.
use Rattle.std.proofs.Common.{◌≡◌, ℕ, zero, suc, ◌+◌, ◌<◌, ◌≤◌, List, [], ◌∷◌, ◌++◌, Option, Some, None, Bool, true, false, length, length-append, refl, sym, ap, ◌∙◌, arith, inl, inr, eq-eqb, ne_eqb, eqb-true, lt-ltb, le-ltb}
use Rattle.std.specs.Prelude.{not, ◌&&◌, ◌||◌, if◌then◌else◌, nat_eq, nat_lt, slice_get}
use Rattle.std.specs.List.{list_any}
use Rattle.std.proofs.lemmas.Bool.{cases_lt, ltb-true}
use Rattle.std.proofs.lemmas.List.Folds.{list_any-append}
use Rattle.gl_bits.proofs.AllLists.{get_below, get_front, get_last}
use Rattle.gl_bits.proofs.Bools.{and_left, and_right, by_cases, not_true, or_cases, or_left, or_none, or_right}
use Rattle.gl_values.specs.Tables.{with_key}
use Rattle.gl_net.proofs.Lists.{get_push_cases}
use Rattle.gl_slots.specs.Slots.{same_key}
use Rattle.gl_frames_keys.proofs.OpenLemmas.{not_listed}

-- words that tell where each of some keys stands, and what stands at each place
pub record Marks (ks : List ℕ) (place kept : ℕ → ℕ) : Type 0 where
  pub at_key : (j y : ℕ) → slice_get ks j ≡ Some y → place y ≡ j
  pub at_slot : (j y : ℕ) → slice_get ks j ≡ Some y → kept j ≡ y

pub marks_none : (ks : List ℕ) (place kept : ℕ → ℕ) → length ks ≡ 0 → Marks ks place kept
marks_none ks place kept none = record {
  at_key = λ j y h. absurd (omega (arith, none, get_below ks j y h));
  at_slot = λ j y h. absurd (omega (arith, none, get_below ks j y h));
}

pub marks_same : (ks : List ℕ) (place kept later after : ℕ → ℕ) → ((k : ℕ) → later k ≡ place k) → ((j : ℕ) → after j ≡ kept j) → Marks ks place kept → Marks ks later after
marks_same ks place kept later after p q m = record {
  at_key = λ j y h. p y ∙ m.at_key j y h;
  at_slot = λ j y h. q j ∙ m.at_slot j y h;
}

-- a key that is none of these goes behind them
module _ (ks : List ℕ) (y : ℕ) (place kept later after : ℕ → ℕ) (m : Marks ks place kept) (new : list_any (nat_eq y) ks ≡ false)
    (p : (k : ℕ) → later k ≡ (if nat_eq y k then length ks else place k)) (q : (j : ℕ) → after j ≡ (if nat_eq (length ks) j then y else kept j)) where
  other : (j z : ℕ) → slice_get ks j ≡ Some z → nat_eq y z ≡ false
  other j z h = ap (λ o. same_key o y) (sym h) ∙ not_listed ks y j new

  before : (j z : ℕ) → slice_get ks j ≡ Some z → nat_eq (length ks) j ≡ false
  before j z h = ne_eqb (length ks) j (λ e. omega (arith, e, get_below ks j z h))

  at_key : (j z : ℕ) → slice_get (ks ++ y ∷ []) j ≡ Some z → later z ≡ j
  at_key j z h = elim (get_push_cases ks y j z h) [
    | inl e ↦ p z ∙ ap (λ (b : Bool). if b then length ks else place z) (other j z e) ∙ m.at_key j z e
    | inr e ↦ p z ∙ ap (λ (b : Bool). if b then length ks else place z) (eq-eqb y z e.1) ∙ sym e.0
  ]

  at_slot : (j z : ℕ) → slice_get (ks ++ y ∷ []) j ≡ Some z → after j ≡ z
  at_slot j z h = elim (get_push_cases ks y j z h) [
    | inl e ↦ q j ∙ ap (λ (b : Bool). if b then y else kept j) (before j z e) ∙ m.at_slot j z e
    | inr e ↦ q j ∙ ap (λ (b : Bool). if b then y else kept j) (eq-eqb (length ks) j (sym e.0)) ∙ e.1
  ]

  pub marks_push : Marks (ks ++ y ∷ []) later after
  marks_push = record { at_key = at_key; at_slot = at_slot }

-- a key of a list stands at a place, and what stands at a place is one
pub listed_at : (ks : List ℕ) (y : ℕ) → list_any (nat_eq y) ks ≡ true → (j : ℕ) × (slice_get ks j ≡ Some y)
listed_at [] y e = absurd (cc)
listed_at (x ∷ ks) y e = elim (or_cases (nat_eq y x) (list_any (nat_eq y) ks) e) [
  | inl p ↦ (0, ap Some (sym (eqb-true y x p)))
  | inr p ↦ (let z = listed_at ks y p in (suc z.0, z.1))
]

pub any_at : (ks : List ℕ) (j y : ℕ) → slice_get ks j ≡ Some y → list_any (nat_eq y) ks ≡ true
any_at [] j y h = absurd (let z = get_below [] j y h in omega (arith, z))
any_at (x ∷ ks) zero y h = let e : x ≡ y = cc in or_left (nat_eq y x) (list_any (nat_eq y) ks) (eq-eqb y x (sym e))
any_at (x ∷ ks) (suc j) y h = or_right (nat_eq y x) (list_any (nat_eq y) ks) (any_at ks j y h)

pub same_some : (o : Option ℕ) (y : ℕ) → same_key o y ≡ true → o ≡ Some y
same_some None y e = absurd (cc)
same_some (Some x) y e = ap Some (sym (eqb-true y x e))

pub same_there : (o : Option ℕ) (y : ℕ) → o ≡ Some y → same_key o y ≡ true
same_there o y e = ap (λ z. same_key z y) e ∙ eq-eqb y y refl

-- ---- a key that comes

-- whether it takes a place
abbrev pub is_added : ℕ → List ℕ → ℕ → Bool
is_added n ks y = nat_lt (length ks) n && not (list_any (nat_eq y) ks)

pub added_is : (n : ℕ) (ks : List ℕ) (y : ℕ) → is_added n ks y ≡ true → with_key n ks y ≡ ks ++ y ∷ []
unfolding with_key
added_is n ks y e = rw e refl

pub same_is : (n : ℕ) (ks : List ℕ) (y : ℕ) → is_added n ks y ≡ false → with_key n ks y ≡ ks
unfolding with_key
same_is n ks y e = rw e refl

pub with_front : (n : ℕ) (ks : List ℕ) (y j z : ℕ) → slice_get ks j ≡ Some z → slice_get (with_key n ks y) j ≡ Some z
with_front n ks y j z h = by_cases (is_added n ks y)
    (λ e. ap (λ xs. slice_get xs j) (added_is n ks y e) ∙ get_front ks (y ∷ []) j z h)
    (λ e. ap (λ xs. slice_get xs j) (same_is n ks y e) ∙ h)

-- a list that grows has the key at its end
pub with_last : (n : ℕ) (ks : List ℕ) (y : ℕ) → length ks < length (with_key n ks y) → slice_get (with_key n ks y) (length ks) ≡ Some y
with_last n ks y l = by_cases (is_added n ks y)
    (λ e. ap (λ xs. slice_get xs (length ks)) (added_is n ks y e) ∙ get_last ks y)
    (λ e. absurd (let z = ap length (same_is n ks y e) in omega (arith, z, l)))

pub with_longer : (n : ℕ) (ks : List ℕ) (y : ℕ) → is_added n ks y ≡ true → length (with_key n ks y) ≡ length ks + 1
with_longer n ks y e = ap length (added_is n ks y e) ∙ length-append ks (y ∷ [])

-- a key that was not there is the one that came
pub with_new : (n : ℕ) (ks : List ℕ) (y z : ℕ) → list_any (nat_eq z) (with_key n ks y) ≡ true → list_any (nat_eq z) ks ≡ false → (z ≡ y) × (length ks < length (with_key n ks y))
with_new n ks y z h none = by_cases (is_added n ks y)
    (λ e. (let there = sym (ap (list_any (nat_eq z)) (added_is n ks y e) ∙ list_any-append (nat_eq z) ks (y ∷ [])) ∙ h in (own there, omega (arith, with_longer n ks y e))))
    (λ e. absurd (let u = sym (ap (list_any (nat_eq z)) (same_is n ks y e)) ∙ h in cc (u, none)))
  where
    own : (list_any (nat_eq z) ks || (nat_eq z y || false)) ≡ true → z ≡ y
    own t = eqb-true z y (sym (ap (λ b. b || (nat_eq z y || false)) none ∙ or_none (nat_eq z y)) ∙ t)

pub room_is : (n x : ℕ) → x ≤ n → nat_lt x n ≡ not (nat_eq x n)
room_is n x le = elim (cases_lt x n) [
  | inl l ↦ lt-ltb x n l ∙ sym (ap not (ne_eqb x n (λ e. omega (arith, e, l))))
  | inr l ↦ le-ltb x n l ∙ sym (ap not (eq-eqb x n (omega (arith, l, le))))
]

-- with the key that came the list has it, or is full without it
pub listed_with : (n : ℕ) (ks : List ℕ) (y : ℕ) → list_any (nat_eq y) (with_key n ks y) ≡ (list_any (nat_eq y) ks || nat_lt (length ks) n)
listed_with n ks y = by_cases (is_added n ks y)
    (λ e. ap (list_any (nat_eq y)) (added_is n ks y e) ∙ list_any-append (nat_eq y) ks (y ∷ [])
    ∙ ap (λ b. list_any (nat_eq y) ks || (b || false)) (eq-eqb y y refl)
    ∙ sym (ap (λ b. list_any (nat_eq y) ks || b) (and_left (nat_lt (length ks) n) (not (list_any (nat_eq y) ks)) e)))
    (λ e. ap (list_any (nat_eq y)) (same_is n ks y e) ∙ by (nat_lt (length ks) n) (list_any (nat_eq y) ks) e)
  where
    by : (r l : Bool) → (r && not l) ≡ false → l ≡ (l || r)
    by true true e = refl
    by true false e = absurd (cc)
    by false true e = refl
    by false false e = refl

pub added_new : (n : ℕ) (ks : List ℕ) (y : ℕ) → is_added n ks y ≡ true → list_any (nat_eq y) ks ≡ false
added_new n ks y e = not_true (list_any (nat_eq y) ks) (and_right (nat_lt (length ks) n) (not (list_any (nat_eq y) ks)) e)

pub added_room : (n : ℕ) (ks : List ℕ) (y : ℕ) → is_added n ks y ≡ true → length ks < n
added_room n ks y e = ltb-true (length ks) n (and_left (nat_lt (length ks) n) (not (list_any (nat_eq y) ks)) e)
