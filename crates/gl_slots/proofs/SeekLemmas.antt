-- A key is found where the list of keys has it, and else goes behind the last one.
use Rattle.std.proofs.Common.{◌≡◌, ℕ, zero, suc, ◌+◌, ◌-◌, ◌<◌, ◌≤◌, List, [], ◌∷◌, ◌++◌, length, Some, None, Bool, true, false, refl, sym, ap, ◌∙◌, subst, arith, inl, inr, ◌⊎◌, length-append, lt-ltb}
use Rattle.std.specs.Prelude.{slice_get, not, ◌&&◌, ◌||◌, if◌then◌else◌, nat_eq, nat_lt, is_some}
use Rattle.std.specs.List.{list_any}
use Rattle.std.proofs.lemmas.Bool.{cases_lt, eq-eqb, ne_eqb}
use Rattle.std.proofs.lemmas.Bool.Decides.{eqb_tells, leb_tells}
use Rattle.std.proofs.lemmas.List.Folds.{list_any-append}
use Rattle.std.proofs.Math.Bool.{and-true, and-false, or-true}
use Rattle.gl_bits.proofs.AllLists.{get_last, get_past}
use Rattle.gl_bits.proofs.Bools.{or_join, or_none}
use Rattle.gl_values.specs.Tables.{with_key}
use Rattle.gl_wire_registers.specs.Lines.{any_to}
use Rattle.gl_wire_registers.proofs.LineLemmas.{any_same}
use Rattle.gl_slots.specs.Seeking.{Sought, asked, asks, found, has, is_new, is_next, kept, matches, takes}
use Rattle.gl_slots.specs.Slots.{same_key}

and_join : (a b c : Bool) → ((a && b) && c) ≡ (a && (b && c))
and_join true b c = refl
and_join false b c = refl

lt_tells : (a b : ℕ) → ((nat_lt a b ≡ true) × (a < b)) ⊎ ((nat_lt a b ≡ false) × (b < suc a))
lt_tells a b = leb_tells (suc a) b

-- what follows from the registers alone, and whether one has the key comes behind it
swap : (a b c : Bool) → ((a && b) && c) ≡ ((a && c) && b)
swap true true true = refl
swap true true false = refl
swap true false true = refl
swap true false false = refl
swap false b c = refl

pub asked_last : (count : ℕ) (s : Sought) (k : ℕ) → asked count s k ≡ (asks s k && not (any_to count (found s)))
asked_last count s zero = refl
asked_last count s (suc k) = swap s.ask (not (any_to count (found s))) (kept s k)

pub takes_last : (count : ℕ) (s : Sought) (k : ℕ) → takes count s k ≡ (is_next s k && not (any_to count (found s)))
takes_last count s k = ap (λ b. b && not (kept s k)) (asked_last count s k) ∙ swap (asks s k) (not (any_to count (found s))) (not (kept s k))

-- a slot that is used keeps its key, and one that takes the key has it
pub next_used : (count : ℕ) (s : Sought) (k : ℕ) → has count s k ≡ true → is_next s k ≡ takes count s k
next_used count s k h = by (kept s k) (asks s k) (asked count s k) (sym (takes_last count s k)) h
  where
    by : (b a t : Bool) → (((a && not b) && not (any_to count (found s))) ≡ (t && not b)) → (b || (t && not b)) ≡ true → (a && not b) ≡ (t && not b)
    by true a t e q = and-false a ∙ sym (and-false t)
    by false true t e q = let z : (t && true) ≡ true = q in sym z
    by false false t e q = e

-- one of so many places has this key exactly if the list has it
any_shift : (n : ℕ) (f : ℕ → Bool) → any_to (suc n) f ≡ (f 0 || any_to n (λ k. f (suc k)))
any_shift zero f = sym (or_none (f 0))
any_shift (suc n) f = ap (λ b. b || f (suc n)) (any_shift n f) ∙ or_join (f 0) (any_to n (λ k. f (suc k))) (f (suc n))

any_nothing : (n : ℕ) (ks : List ℕ) (y : ℕ) → length ks ≡ 0 → any_to n (λ k. same_key (slice_get ks k) y) ≡ false
any_nothing zero ks y none = refl
any_nothing (suc n) ks y none = let a = any_nothing n ks y none in let b = get_past ks n (omega (arith, none)) in rw (a, b) refl

any_listed : (n : ℕ) (ks : List ℕ) (y : ℕ) → length ks ≤ n → any_to n (λ k. same_key (slice_get ks k) y) ≡ list_any (nat_eq y) ks
any_listed zero [] y l = refl
any_listed zero (x ∷ ks) y l = absurd (omega (arith, l))
any_listed (suc n) [] y l = any_nothing (suc n) [] y refl
any_listed (suc n) (x ∷ ks) y l = any_shift n (λ k. same_key (slice_get (x ∷ ks) k) y) ∙ ap (λ b. nat_eq y x || b) (any_listed n ks y (omega (arith, l)))

pub get_some : (ks : List ℕ) (k : ℕ) → is_some (slice_get ks k) ≡ nat_lt k (length ks)
get_some ks k = elim (lt_tells k (length ks)) [
  | inl h ↦ (let a = h.0 in rw a (there ks k h.1))
  | inr h ↦ (let a = h.0 in let b = get_past ks k (omega (arith, h.1)) in rw (a, b) refl)
]
  where
    there : (ks : List ℕ) (k : ℕ) → k < length ks → is_some (slice_get ks k) ≡ true
    there [] k l = absurd (omega (arith, l))
    there (x ∷ ks) zero l = refl
    there (x ∷ ks) (suc k) l = there ks k (omega (arith, l))

get_before : (ks : List ℕ) (y k : ℕ) → k < length ks → slice_get (ks ++ y ∷ []) k ≡ slice_get ks k
get_before [] y k l = absurd (omega (arith, l))
get_before (x ∷ ks) y zero l = refl
get_before (x ∷ ks) y (suc k) l = get_before ks y k (omega (arith, l))

-- a key that is none of these takes the place behind them
abbrev pub taken_at : List ℕ → ℕ → ℕ → Bool
taken_at ks y k = not (list_any (nat_eq y) ks) && nat_eq k (length ks)

pub with_key_at : (count : ℕ) (ks : List ℕ) (y k : ℕ) → k < count → slice_get (with_key count ks y) k ≡ (if taken_at ks y k then Some y else slice_get ks k)
unfolding with_key
with_key_at count ks y k l = by (list_any (nat_eq y) ks)
  where
    far : (b : Bool) → (k ≡ length ks → ⊥) → slice_get (if b then ks ++ y ∷ [] else ks) k ≡ slice_get ks k
    far false other = refl
    far true other = elim (cases_lt k (length ks)) [
      | inl m ↦ get_before ks y k m
      | inr m ↦
          (let past : length ks < k = elim (cases_lt (length ks) k) [ inl n ↦ n | inr n ↦ absurd (other (omega (arith, m, n))) ] in
          get_past (ks ++ y ∷ []) k (omega (arith, past, length-append ks (y ∷ []))) ∙ sym (get_past ks k (omega (arith, past))))
    ]

    by : (b : Bool) → slice_get (if nat_lt (length ks) count && not b then ks ++ y ∷ [] else ks) k ≡ (if not b && nat_eq k (length ks) then Some y else slice_get ks k)
    by true = ap (λ b. slice_get (if b then ks ++ y ∷ [] else ks) k) (and-false (nat_lt (length ks) count))
    by false = elim (eqb_tells k (length ks)) [
      | inl h ↦
          (let a = h.0 in
          let room = lt-ltb (length ks) count (omega (arith, h.1, l)) in
          rw (a, room) (ap (slice_get (ks ++ y ∷ [])) h.1 ∙ get_last ks y))
      | inr h ↦ (let a = h.0 in rw a (far (nat_lt (length ks) count && true) h.1))
    ]

pub with_key_few : (count : ℕ) (ks : List ℕ) (y : ℕ) → length ks ≤ count → length (with_key count ks y) ≤ count
unfolding with_key
with_key_few count ks y few = elim (lt_tells (length ks) count) [
  | inl h ↦ (let a = h.0 in rw a (by (not (list_any (nat_eq y) ks)) h.1))
  | inr h ↦ (let a = h.0 in rw a few)
]
  where
    by : (b : Bool) → length ks < count → length (if b then ks ++ y ∷ [] else ks) ≤ count
    by true l = omega (arith, l, length-append ks (y ∷ []))
    by false l = few

-- a new key is left over where the last place is taken
left_over : (count n : ℕ) (ks : List ℕ) (y : ℕ) → count ≡ n + 1 → length ks ≤ count → (not (list_any (nat_eq y) ks) && nat_lt n (length ks)) ≡ not (list_any (nat_eq y) (with_key count ks y))
unfolding with_key
left_over count n ks y last few = elim (lt_tells (length ks) count) [
  | inl h ↦ (let a = h.0 in rw a (by (list_any (nat_eq y) ks) refl (elim (lt_tells n (length ks)) [ inl q ↦ absurd (omega (arith, h.1, q.1, last)) | inr q ↦ q.0 ])))
  | inr h ↦ (let a = h.0 in let full = lt-ltb n (length ks) (omega (arith, h.1, last)) in rw (a, full) (and-true (not (list_any (nat_eq y) ks))))
]
  where
    by : (b : Bool) → list_any (nat_eq y) ks ≡ b → nat_lt n (length ks) ≡ false → (not b && nat_lt n (length ks)) ≡ not (list_any (nat_eq y) (if not b then ks ++ y ∷ [] else ks))
    by true e none = rw e refl
    by false e none = let own = eq-eqb y y refl in rw (none, list_any-append (nat_eq y) ks (y ∷ []), e, own) refl

-- the first place that is free is behind one that is not
place_tells : (k n : ℕ) → (nat_lt k n && not (nat_lt (k + 1) n)) ≡ nat_eq (k + 1) n
place_tells k n = elim (lt_tells k n) [
  | inl h ↦ elim (lt_tells (k + 1) n) [
    | inl g ↦ (let a = h.0 in let b = g.0 in let e = ne_eqb (k + 1) n (λ q. omega (arith, q, g.1)) in rw (a, b, e) refl)
    | inr g ↦ (let a = h.0 in let b = g.0 in let e = eq-eqb (k + 1) n (omega (arith, h.1, g.1)) in rw (a, b, e) refl)
  ]
  | inr h ↦ (let a = h.0 in let e = ne_eqb (k + 1) n (λ q. omega (arith, q, h.1)) in rw (a, e) refl)
]

first_tells : (n : ℕ) → not (nat_lt 0 n) ≡ nat_eq 0 n
first_tells n = elim (lt_tells 0 n) [
  | inl h ↦ (let a = h.0 in let e = ne_eqb 0 n (λ q. omega (arith, q, h.1)) in rw (a, e) refl)
  | inr h ↦ (let a = h.0 in let e = eq-eqb 0 n (omega (arith, h.1)) in rw (a, e) refl)
]

-- ---- the slots show a list of keys

module _ (count : ℕ) (ks : List ℕ) (s : Sought) (shown : (k : ℕ) → k < count → slice_get ks k ≡ (if kept s k then Some (s.key k) else None)) (few : length ks ≤ count) where
  kept_is : (k : ℕ) → k < count → kept s k ≡ nat_lt k (length ks)
  kept_is k l = by (kept s k) ∙ ap is_some (sym (shown k l)) ∙ get_some ks k
    where
      by : (b : Bool) → b ≡ is_some (if b then Some (s.key k) else None)
      by true = refl
      by false = refl

  found_is : (k : ℕ) → k < count → found s k ≡ same_key (slice_get ks k) s.value
  found_is k l = by (kept s k) ∙ ap (λ o. same_key o s.value) (sym (shown k l))
    where
      by : (b : Bool) → (b && nat_eq s.value (s.key k)) ≡ same_key (if b then Some (s.key k) else None) s.value
      by true = refl
      by false = refl

  pub new_is : is_new count s ≡ (s.ask && not (list_any (nat_eq s.value) ks))
  new_is = ap (λ b. s.ask && not b) (any_same count (found s) (λ k. same_key (slice_get ks k) s.value) (λ k l. found_is k l) ∙ any_listed count ks s.value few)

  takes_is : (k : ℕ) → k < count → takes count s k ≡ (s.ask && taken_at ks s.value k)
  takes_is zero l =
      ap (λ b. b && not (kept s 0)) new_is ∙ ap (λ b. (s.ask && not (list_any (nat_eq s.value) ks)) && not b) (kept_is 0 l)
      ∙ ap (λ b. (s.ask && not (list_any (nat_eq s.value) ks)) && b) (first_tells (length ks)) ∙ and_join s.ask (not (list_any (nat_eq s.value) ks)) (nat_eq 0 (length ks))
  takes_is (suc k) l =
      let here : k + 1 ≡ suc k = omega arith in
      let place : (nat_lt k (length ks) && not (nat_lt (suc k) (length ks))) ≡ nat_eq (suc k) (length ks) = subst (λ n. (nat_lt k (length ks) && not (nat_lt n (length ks))) ≡ nat_eq n (length ks)) here (place_tells k (length ks)) in
      ap (λ b. (b && kept s k) && not (kept s (suc k))) new_is
      ∙ ap (λ b. ((s.ask && not (list_any (nat_eq s.value) ks)) && b) && not (kept s (suc k))) (kept_is k (omega (arith, l)))
      ∙ ap (λ b. ((s.ask && not (list_any (nat_eq s.value) ks)) && nat_lt k (length ks)) && not b) (kept_is (suc k) l)
      ∙ and_join (s.ask && not (list_any (nat_eq s.value) ks)) (nat_lt k (length ks)) (not (nat_lt (suc k) (length ks)))
      ∙ ap (λ b. (s.ask && not (list_any (nat_eq s.value) ks)) && b) place
      ∙ and_join s.ask (not (list_any (nat_eq s.value) ks)) (nat_eq (suc k) (length ks))

-- the keys with what comes
abbrev pub joined : ℕ → Bool → ℕ → List ℕ → List ℕ
joined count v y ks = if v then with_key count ks y else ks

module _ (count : ℕ) (ks : List ℕ) (s : Sought) (shown : (k : ℕ) → k < count → slice_get ks k ≡ (if kept s k then Some (s.key k) else None)) (few : length ks ≤ count) where
  abbrev pub later : List ℕ
  later = joined count s.ask s.value ks

  pub later_at : (k : ℕ) → k < count → slice_get later k ≡ (if takes count s k then Some s.value else (if kept s k then Some (s.key k) else None))
  later_at k l =
      by s.ask
      ∙ ap (λ b. if b then Some s.value else slice_get ks k) (sym (takes_is count ks s shown few k l))
      ∙ ap (λ o. if takes count s k then Some s.value else o) (shown k l)
    where
      by : (v : Bool) → slice_get (joined count v s.value ks) k ≡ (if v && taken_at ks s.value k then Some s.value else slice_get ks k)
      by true = with_key_at count ks s.value k l
      by false = refl

  pub has_is : (k : ℕ) → k < count → has count s k ≡ is_some (slice_get later k)
  has_is k l = by (kept s k) (takes count s k) ∙ ap is_some (sym (later_at k l))
    where
      by : (b c : Bool) → (b || c) ≡ is_some (if c then Some s.value else (if b then Some (s.key k) else None))
      by true true = refl
      by true false = refl
      by false true = refl
      by false false = refl

  pub matches_is : (k : ℕ) → k < count → matches count s k ≡ same_key (slice_get later k) s.value
  matches_is k l = by (kept s k) (takes count s k) ∙ ap (λ o. same_key o s.value) (sym (later_at k l))
    where
      own : nat_eq s.value s.value ≡ true
      own = eq-eqb s.value s.value refl

      by : (b c : Bool) → ((b && nat_eq s.value (s.key k)) || c) ≡ same_key (if c then Some s.value else (if b then Some (s.key k) else None)) s.value
      by b true = or-true (b && nat_eq s.value (s.key k)) ∙ sym own
      by true false = or_none (nat_eq s.value (s.key k))
      by false false = refl

  -- what the slots show next
  pub next_at : (k : ℕ) → k < count → slice_get later k ≡ (if has count s k then Some (if takes count s k then s.value else s.key k) else None)
  next_at k l = later_at k l ∙ by (kept s k) (takes count s k)
    where
      by : (b c : Bool) → (if c then Some s.value else (if b then Some (s.key k) else None)) ≡ (if b || c then Some (if c then s.value else s.key k) else None)
      by true true = refl
      by true false = refl
      by false true = refl
      by false false = refl

  pub later_few : length later ≤ count
  later_few = by s.ask
    where
      by : (v : Bool) → length (joined count v s.value ks) ≤ count
      by true = with_key_few count ks s.value few
      by false = few

  -- whether a key is left over
  pub left_is : 1 ≤ count → asked count s count ≡ (s.ask && not (list_any (nat_eq s.value) later))
  left_is some =
      let last : count ≡ (count - 1) + 1 = omega (arith, some) in
      let place : count ≡ suc (count - 1) = omega (arith, some) in
      ap (asked count s) place ∙ ap (λ b. b && kept s (count - 1)) (new_is count ks s shown few)
      ∙ ap (λ b. (s.ask && not (list_any (nat_eq s.value) ks)) && b) (kept_is count ks s shown few (count - 1) (omega (arith, some)))
      ∙ and_join s.ask (not (list_any (nat_eq s.value) ks)) (nat_lt (count - 1) (length ks)) ∙ by s.ask last
    where
      by : (v : Bool) → count ≡ (count - 1) + 1 → (v && (not (list_any (nat_eq s.value) ks) && nat_lt (count - 1) (length ks))) ≡ (v && not (list_any (nat_eq s.value) (joined count v s.value ks)))
      by true last = left_over count (count - 1) ks s.value last few
      by false last = refl
