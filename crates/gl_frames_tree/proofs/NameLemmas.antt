-- Lists of names: each stands at one place, and one that comes leaves the others where they are.
use Rattle.std.proofs.Common.{◌≡◌, ℕ, zero, suc, ◌+◌, ◌<◌, ◌≤◌, List, [], ◌∷◌, ◌++◌, Some, Bool, true, false, length, refl, sym, ap, ◌∙◌, subst, arith, inl, inr, ne_eqb, lt-ltb}
use Rattle.std.specs.Prelude.{not, ◌||◌, if◌then◌else◌, nat_eq, nat_lt, slice_get}
use Rattle.std.specs.List.{list_any}
use Rattle.std.proofs.lemmas.List.Folds.{list_any-append}
use Rattle.gl_bits.proofs.AllLists.{get_below}
use Rattle.gl_bits.proofs.Bools.{by_cases, no_and, not_both, or_none, or_right}
use Rattle.gl_values.specs.Tables.{with_key}
use Rattle.gl_net.proofs.Lists.{get_push_cases}
use Rattle.gl_frames_map.proofs.PlaceLemmas.{added_is, added_new, added_room, any_at, is_added, listed_at, listed_with, same_is, with_front, with_longer}
use Rattle.gl_frames_tree.specs.Growing.{nodes_before}

-- each name stands at one place
abbrev pub Once : List ℕ → Type 0
Once ks = (j k y : ℕ) → slice_get ks j ≡ Some y → slice_get ks k ≡ Some y → j ≡ k

pub once_none : Once []
once_none j k y h i = absurd (let z = get_below [] j y h in omega (arith, z))

not_there : (ks : List ℕ) (y z j : ℕ) → list_any (nat_eq y) ks ≡ false → slice_get ks j ≡ Some z → y ≡ z → ⊥
not_there ks y z j new h e = not_both (list_any (nat_eq y) ks) (any_at ks j y (h ∙ ap Some (sym e))) new

once_push : (ks : List ℕ) (y : ℕ) → Once ks → list_any (nat_eq y) ks ≡ false → Once (ks ++ y ∷ [])
once_push ks y o new j k z h i = elim (get_push_cases ks y j z h) [
  | inl p ↦ elim (get_push_cases ks y k z i) [
    | inl q ↦ o j k z p q
    | inr q ↦ absurd (not_there ks y z j new p q.1)
  ]
  | inr p ↦ elim (get_push_cases ks y k z i) [
    | inl q ↦ absurd (not_there ks y z k new q p.1)
    | inr q ↦ p.0 ∙ sym q.0
  ]
]

pub once_with : (n : ℕ) (ks : List ℕ) (y : ℕ) → Once ks → Once (with_key n ks y)
once_with n ks y o = by_cases (is_added n ks y)
    (λ e. subst (λ (xs : List ℕ). Once xs) (sym (added_is n ks y e)) (once_push ks y o (added_new n ks y e)))
    (λ e. subst (λ (xs : List ℕ). Once xs) (sym (same_is n ks y e)) o)

-- ---- a name that comes

pub other_listed : (n : ℕ) (ks : List ℕ) (y z : ℕ) → (z ≡ y → ⊥) → list_any (nat_eq z) (with_key n ks y) ≡ list_any (nat_eq z) ks
other_listed n ks y z ne = by_cases (is_added n ks y)
    (λ e. ap (list_any (nat_eq z)) (added_is n ks y e) ∙ list_any-append (nat_eq z) ks (y ∷ [])
    ∙ ap (λ b. list_any (nat_eq z) ks || (b || false)) (ne_eqb z y ne) ∙ or_none (list_any (nat_eq z) ks))
    (λ e. ap (list_any (nat_eq z)) (same_is n ks y e))

pub stays_listed : (n : ℕ) (ks : List ℕ) (y z : ℕ) → list_any (nat_eq z) ks ≡ true → list_any (nat_eq z) (with_key n ks y) ≡ true
stays_listed n ks y z h = let w = listed_at ks z h in any_at (with_key n ks y) w.0 z (with_front n ks y w.0 z w.1)

pub room_listed : (n : ℕ) (ks : List ℕ) (y : ℕ) → length ks < n → list_any (nat_eq y) (with_key n ks y) ≡ true
room_listed n ks y l = listed_with n ks y ∙ or_right (list_any (nat_eq y) ks) (nat_lt (length ks) n) (lt-ltb (length ks) n l)

pub known_same : (n : ℕ) (ks : List ℕ) (y : ℕ) → list_any (nat_eq y) ks ≡ true → with_key n ks y ≡ ks
known_same n ks y h = same_is n ks y (no_and (nat_lt (length ks) n) (not (list_any (nat_eq y) ks)) (λ e. ap not h))

pub unlisted_same : (n : ℕ) (ks : List ℕ) (y : ℕ) → list_any (nat_eq y) (with_key n ks y) ≡ false → with_key n ks y ≡ ks
unlisted_same n ks y h = by_cases (is_added n ks y)
    (λ e. absurd (not_both (list_any (nat_eq y) (with_key n ks y)) (room_listed n ks y (added_room n ks y e)) h))
    (λ e. same_is n ks y e)

pub few_with : (n : ℕ) (ks : List ℕ) (y : ℕ) → length ks ≤ n → length (with_key n ks y) ≤ n
few_with n ks y le = by_cases (is_added n ks y)
    (λ e. omega (arith, with_longer n ks y e, added_room n ks y e))
    (λ e. omega (arith, ap length (same_is n ks y e), le))

pub one_longer : (n : ℕ) (ks : List ℕ) (y : ℕ) → length (with_key n ks y) ≤ length ks + 1
one_longer n ks y = by_cases (is_added n ks y)
    (λ e. omega (arith, with_longer n ks y e))
    (λ e. omega (arith, ap length (same_is n ks y e)))

-- ---- the nodes of a level

module _ (n : ℕ) (asks : ℕ → Bool) (name : ℕ → ℕ) (ends : ℕ → Bool) where
  abbrev qs : ℕ → List ℕ
  qs c = nodes_before n asks name ends c

  pub at_end : (c : ℕ) → ends c ≡ true → qs (suc c) ≡ []
  at_end c e = ap (λ (b : Bool). if b then [] else (if asks c then with_key n (qs c) (name c) else qs c)) e

  pub at_row : (c : ℕ) → ends c ≡ false → asks c ≡ true → qs (suc c) ≡ with_key n (qs c) (name c)
  at_row c e s =
      ap (λ (b : Bool). if b then [] else (if asks c then with_key n (qs c) (name c) else qs c)) e
      ∙ ap (λ (b : Bool). if b then with_key n (qs c) (name c) else qs c) s

  pub at_none : (c : ℕ) → ends c ≡ false → asks c ≡ false → qs (suc c) ≡ qs c
  at_none c e s =
      ap (λ (b : Bool). if b then [] else (if asks c then with_key n (qs c) (name c) else qs c)) e
      ∙ ap (λ (b : Bool). if b then with_key n (qs c) (name c) else qs c) s

  pub nodes_once : (c : ℕ) → Once (qs c)
  nodes_once zero = once_none
  nodes_once (suc c) = by (nodes_once c) (ends c) (asks c)
    where
      by : Once (qs c) → (e s : Bool) → Once (if e then [] else (if s then with_key n (qs c) (name c) else qs c))
      by o true s = once_none
      by o false true = once_with n (qs c) (name c) o
      by o false false = o

  pub nodes_few : (c : ℕ) → length (qs c) ≤ n
  nodes_few zero = omega arith
  nodes_few (suc c) = by (nodes_few c) (ends c) (asks c)
    where
      by : length (qs c) ≤ n → (e s : Bool) → length (if e then [] else (if s then with_key n (qs c) (name c) else qs c)) ≤ n
      by le true s = omega arith
      by le false true = few_with n (qs c) (name c) le
      by le false false = le

  pub nodes_begin : asks 0 ≡ false → qs 1 ≡ []
  nodes_begin q = by (ends 0) (asks 0) q
    where
      by : (e s : Bool) → s ≡ false → (if e then [] else (if s then with_key n [] (name 0) else [])) ≡ []
      by true s p = refl
      by false true p = absurd (cc)
      by false false p = refl
