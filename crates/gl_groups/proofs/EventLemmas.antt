-- At most one slot has an event in a cycle, so one wire carries them all.
use Rattle.std.proofs.Common.{◌≡◌, ℕ, zero, suc, ◌<◌, List, [], ◌∷◌, ◌++◌, Option, Some, None, Bool, true, false, refl, sym, ap, ◌∙◌, subst, inl, inr, eqb-true, eq-eqb}
use Rattle.std.specs.Prelude.{slice_get, not, ◌&&◌, ◌||◌, if◌then◌else◌, nat_eq, nat_lt, length}
use Rattle.std.specs.List.{list_any}
use Rattle.gl_values.specs.Results.{Row}
use Rattle.gl_values.specs.Tables.{with_key}
use Rattle.gl_bits.proofs.Bools.{and_left, and_parts, and_right, by_cases, neither_parts, not_both, or_cases, or_left, or_right, same_when}
use Rattle.gl_net.proofs.Lists.{get_push_cases}
use Rattle.gl_wire.specs.Wire.{Carried}
use Rattle.gl_wire_lanes.specs.Lanes.{Begins, IsFresh, Lane, is_open}
use Rattle.gl_wire_registers.specs.Lines.{any_to}
use Rattle.gl_slots.proofs.OneLemmas.{any_here, any_there, not_listed}
use Rattle.gl_slots.specs.Slots.{Slots, freed, keys_at, keys_now, of_slot, same_key, slot_ends, slot_now, slot_takes, slots_at, slots_next, with_tuple}

-- ---- one of some lines

any_only : (n : ℕ) (f : ℕ → Bool) (k : ℕ) → k < n → ((j : ℕ) → j < n → f j ≡ true → j ≡ k) → any_to n f ≡ f k
any_only n f k l only =
    same_when (any_to n f) (f k) (λ h. let p = any_there n f h in subst (λ i. f i ≡ true) (only p.0 p.1 p.2) p.2) (any_here n f k l)

-- ---- a lane of slots of which one at most has an event

pub record IsOne (n : ℕ) (takes ends : ℕ → ℕ → Bool) (l : Lane) : Type 0 where
  pub unique : (j k c : ℕ) → j < n → k < n → (takes j c || ends j c) ≡ true → (takes k c || ends k c) ≡ true → j ≡ k
  pub no_row : l.valid 0 ≡ false
  pub no_end : l.ends 0 ≡ false
  pub row : (c : ℕ) → l.valid (suc c) ≡ any_to n (λ k. takes k c)
  pub end : (c : ℕ) → l.ends (suc c) ≡ any_to n (λ k. ends k c)
  pub slot : (k c : ℕ) → k < n → (takes k c || ends k c) ≡ true → l.slot (suc c) ≡ k

-- and it tells where a stream begins
pub record TellsFirst (n : ℕ) (takes ends was : ℕ → ℕ → Bool) (l : Lane) : Type 0 where
  pub before : (k : ℕ) → was k 0 ≡ false
  pub after : (k c : ℕ) → k < n → was k (suc c) ≡ ((takes k c || was k c) && not (ends k c))
  pub no_first : l.first 0 ≡ false
  pub begins : (c : ℕ) → l.first (suc c) ≡ any_to n (λ k. (takes k c || ends k c) && not (was k c))

module _ (n : ℕ) (takes ends : ℕ → ℕ → Bool) (l : Lane) (h : IsOne n takes ends l) where
  abbrev event : ℕ → ℕ → Bool
  event k c = takes k c || ends k c

  -- what a lane carries for one slot
  share_line : (f : ℕ → ℕ → Bool) → ((k c : ℕ) → f k c ≡ true → event k c ≡ true) → (k c : ℕ) → k < n → (nat_eq (l.slot (suc c)) k && any_to n (λ j. f j c)) ≡ f k c
  share_line f some k c less = same_when (nat_eq (l.slot (suc c)) k && any_to n (λ j. f j c)) (f k c) there here
    where
      there : (nat_eq (l.slot (suc c)) k && any_to n (λ j. f j c)) ≡ true → f k c ≡ true
      there e =
          let parts = and_parts (nat_eq (l.slot (suc c)) k) (any_to n (λ j. f j c)) e in
          let p = any_there n (λ j. f j c) parts.1 in
          let at : l.slot (suc c) ≡ k = eqb-true (l.slot (suc c)) k parts.0 in
          subst (λ i. f i c ≡ true) (sym (h.slot p.0 c p.1 (some p.0 c p.2)) ∙ at) p.2

      here : f k c ≡ true → (nat_eq (l.slot (suc c)) k && any_to n (λ j. f j c)) ≡ true
      here e =
          let a = eq-eqb (l.slot (suc c)) k (h.slot k c less (some k c e)) in
          let b = any_here n (λ j. f j c) k less e in
          rw (a, b) refl

  pub share_row : (A : Option Row) (k c : ℕ) → k < n → (if nat_eq (l.slot (suc c)) k then (if l.valid (suc c) then A else None) else None) ≡ (if takes k c then A else None)
  share_row A k c less =
      ap (λ b. if nat_eq (l.slot (suc c)) k then (if b then A else None) else None) (h.row c) ∙ by (nat_eq (l.slot (suc c)) k) (any_to n (λ j. takes j c))
      ∙ ap (λ b. if b then A else None) (share_line takes (λ j d e. or_left (takes j d) (ends j d) e) k c less)
    where
      by : (a b : Bool) → (if a then (if b then A else None) else None) ≡ (if a && b then A else None)
      by true b = refl
      by false b = refl

  pub share_end : (k c : ℕ) → k < n → (nat_eq (l.slot (suc c)) k && l.ends (suc c)) ≡ ends k c
  share_end k c less =
      ap (λ b. nat_eq (l.slot (suc c)) k && b) (h.end c) ∙ share_line ends (λ j d e. or_right (takes j d) (ends j d) e) k c less

  -- an event's slot, and whether it begins a stream
  end_here : (k c : ℕ) → k < n → event k c ≡ true → l.ends (suc c) ≡ ends k c
  end_here k c less e = h.end c ∙ any_only n (λ j. ends j c) k less (λ j m f. h.unique j k c m less (or_right (takes j c) (ends j c) f) e)

  pub within : (c : ℕ) → (l.valid (suc c) || l.ends (suc c)) ≡ true → l.slot (suc c) < n
  within c e = elim (or_cases (l.valid (suc c)) (l.ends (suc c)) e) [
    | inl v ↦ (let p = any_there n (λ k. takes k c) (sym (h.row c) ∙ v) in subst (λ i. i < n) (sym (h.slot p.0 c p.1 (or_left (takes p.0 c) (ends p.0 c) p.2))) p.1)
    | inr v ↦ (let p = any_there n (λ k. ends k c) (sym (h.end c) ∙ v) in subst (λ i. i < n) (sym (h.slot p.0 c p.1 (or_right (takes p.0 c) (ends p.0 c) p.2))) p.1)
  ]

  module _ (was : ℕ → ℕ → Bool) (told : TellsFirst n takes ends was l) where
    first_here : (k c : ℕ) → k < n → event k c ≡ true → l.first (suc c) ≡ not (was k c)
    first_here k c less e =
        told.begins c ∙ any_only n (λ j. event j c && not (was j c)) k less (λ j m f. h.unique j k c m less (and_left (event j c) (not (was j c)) f) e)
        ∙ ap (λ b. b && not (was k c)) e

    quiet : (c : ℕ) → ((k : ℕ) → k < n → event k c ≡ true → ⊥) → (l.ends (suc c) ≡ false) × (l.first (suc c) ≡ false)
    quiet c none = (
      h.end c ∙ no_one (λ j. ends j c) (λ k less e. none k less (or_right (takes k c) (ends k c) e)),
      told.begins c ∙ no_one (λ j. event j c && not (was j c)) (λ k less e. none k less (and_left (event k c) (not (was k c)) e)),
    )
      where
        no_one : (f : ℕ → Bool) → ((k : ℕ) → k < n → f k ≡ true → ⊥) → any_to n f ≡ false
        no_one f none = by_cases (any_to n f) (λ e. let p = any_there n f e in absurd (none p.0 p.1 p.2)) (λ e. e)

    open_first : (k : ℕ) → is_open l k 1 ≡ was k 0
    open_first k =
        ap (λ b. if nat_eq (l.slot 0) k then (if b then false else (l.first 0 || false)) else false) h.no_end ∙ ap (λ b. if nat_eq (l.slot 0) k then (b || false) else false) told.no_first
        ∙ by (nat_eq (l.slot 0) k) ∙ sym (told.before k)
      where
        by : (b : Bool) → (if b then (false || false) else false) ≡ false
        by true = refl
        by false = refl

    open_come : (k c : ℕ) → k < n → is_open l k (suc c) ≡ was k c → event k c ≡ true → is_open l k (suc (suc c)) ≡ ((takes k c || was k c) && not (ends k c))
    open_come k c less old e =
        let at = eq-eqb (l.slot (suc c)) k (h.slot k c less e) in
        ap (λ b. if b then (if l.ends (suc c) then false else (l.first (suc c) || is_open l k (suc c))) else is_open l k (suc c)) at
        ∙ ap (λ b. if b then false else (l.first (suc c) || is_open l k (suc c))) (end_here k c less e)
        ∙ ap (λ b. if ends k c then false else (b || is_open l k (suc c))) (first_here k c less e)
        ∙ ap (λ b. if ends k c then false else (not (was k c) || b)) old ∙ by (takes k c) (ends k c) (was k c) e
      where
        by : (t f w : Bool) → (t || f) ≡ true → (if f then false else (not w || w)) ≡ ((t || w) && not f)
        by true true w q = refl
        by true false true q = refl
        by true false false q = refl
        by false true true q = refl
        by false true false q = refl
        by false false w q = absurd (cc)

    open_stay : (k c : ℕ) → k < n → is_open l k (suc c) ≡ was k c → event k c ≡ false → is_open l k (suc (suc c)) ≡ ((takes k c || was k c) && not (ends k c))
    open_stay k c less old e =
        let parts = neither_parts (takes k c) (ends k c) e in
        by_cases (nat_eq (l.slot (suc c)) k)
        (λ at. let calm = quiet c (λ j m f. other j m f at) in
        ap (λ b. if b then (if l.ends (suc c) then false else (l.first (suc c) || is_open l k (suc c))) else is_open l k (suc c)) at
        ∙ ap (λ b. if b then false else (l.first (suc c) || is_open l k (suc c))) calm.0 ∙ ap (λ b. b || is_open l k (suc c)) calm.1 ∙ old ∙ same (takes k c) (ends k c) (was k c) parts.0 parts.1)
        (λ away. ap (λ b. if b then (if l.ends (suc c) then false else (l.first (suc c) || is_open l k (suc c))) else is_open l k (suc c)) away ∙ old ∙ same (takes k c) (ends k c) (was k c) parts.0 parts.1)
      where
        -- where the slot is this one, no other has an event
        other : (j : ℕ) → j < n → event j c ≡ true → nat_eq (l.slot (suc c)) k ≡ true → ⊥
        other j m f at =
            let here : j ≡ k = sym (h.slot j c m f) ∙ eqb-true (l.slot (suc c)) k at in
            let own : event k c ≡ true = subst (λ i. event i c ≡ true) here f in
            not_both (event k c) own e

        same : (t f w : Bool) → t ≡ false → f ≡ false → w ≡ ((t || w) && not f)
        same true f w a b = absurd (cc)
        same false true w a b = absurd (cc)
        same false false true a b = refl
        same false false false a b = refl

    open_is : (k c : ℕ) → k < n → is_open l k (suc c) ≡ was k c
    open_is k zero less = open_first k
    open_is k (suc c) less = let old = open_is k c less in by_cases (event k c) (open_come k c less old) (open_stay k c less old) ∙ sym (told.after k c less)

    fresh_here : (k c : ℕ) → k < n → event k c ≡ true → IsFresh l (suc c)
    fresh_here k c less e = first_here k c less e ∙ ap not (sym (open_is k c less) ∙ ap (λ i. is_open l i (suc c)) (sym (h.slot k c less e)))

    pub begins_are : Begins l
    begins_are = record {
      no_row = h.no_row;
      no_end = h.no_end;
      no_first = told.no_first;
      rows = rows;
      ends = ending;
      only = only;
    }
      where
        rows : (c : ℕ) → l.valid c ≡ true → IsFresh l c
        rows zero e = let z = h.no_row in absurd (cc)
        rows (suc c) e = let p = any_there n (λ k. takes k c) (sym (h.row c) ∙ e) in fresh_here p.0 c p.1 (or_left (takes p.0 c) (ends p.0 c) p.2)

        ending : (c : ℕ) → l.ends c ≡ true → IsFresh l c
        ending zero e = let z = h.no_end in absurd (cc)
        ending (suc c) e = let p = any_there n (λ k. ends k c) (sym (h.end c) ∙ e) in fresh_here p.0 c p.1 (or_right (takes p.0 c) (ends p.0 c) p.2)

        only : (c : ℕ) → l.first c ≡ true → is_open l (l.slot c) c ≡ false
        only zero e = refl
        only (suc c) e =
            let p = any_there n (λ k. event k c && not (was k c)) (sym (told.begins c) ∙ e) in
            let parts = and_parts (event p.0 c) (not (was p.0 c)) p.2 in
            ap (λ i. is_open l i (suc c)) (h.slot p.0 c p.1 parts.0) ∙ open_is p.0 c p.1 ∙ low (was p.0 c) parts.1
          where
            low : (w : Bool) → not w ≡ true → w ≡ false
            low true q = absurd (cc)
            low false q = refl

-- ---- the machine's slots: no two have one key

abbrev pub Apart : List ℕ → Type 0
Apart ks = (j k x : ℕ) → slice_get ks j ≡ Some x → slice_get ks k ≡ Some x → j ≡ k

apart_with : (count : ℕ) (ks : List ℕ) (y : ℕ) → Apart ks → Apart (with_key count ks y)
unfolding with_key
apart_with count ks y apart = by (nat_lt (length ks) count) (list_any (nat_eq y) ks) refl
  where
    by : (room there : Bool) → list_any (nat_eq y) ks ≡ there → Apart (if room && not there then ks ++ y ∷ [] else ks)
    by false there e = apart
    by true true e = apart
    by true false e = λ j k x a b. elim (get_push_cases ks y j x a) [
      | inl p ↦ elim (get_push_cases ks y k x b) [
        | inl q ↦ apart j k x p q
        | inr q ↦ absurd (not_listed ks y j e (subst (λ z. slice_get ks j ≡ Some z) (sym q.1) p))
      ]
      | inr p ↦ elim (get_push_cases ks y k x b) [
        | inl q ↦ absurd (not_listed ks y k e (subst (λ z. slice_get ks k ≡ Some z) (sym p.1) q))
        | inr q ↦ p.0 ∙ sym q.0
      ]
    ]

module _ (count : ℕ) (key : Row → ℕ) (stride : ℕ) (a : Carried) where
  apart_tuple : (o : Option Row) (ks : List ℕ) → Apart ks → Apart (with_tuple count key o ks)
  apart_tuple None ks h = h
  apart_tuple (Some r) ks h = apart_with count ks (key r) h

  apart_freed : (s : Slots) → Apart s.keys → Apart (freed s)
  apart_freed s h = by s.flush
    where
      by : (b : Bool) → Apart (if b then [] else s.keys)
      by true = λ j k x p q. absurd (cc)
      by false = h

  apart_now : (e : Bool) (o : Option Row) (s : Slots) → Apart s.keys → Apart (keys_now count key e o s)
  apart_now true o s h = apart_tuple o (freed s) (apart_freed s h)
  apart_now false (Some r) s h = apart_with count (freed s) (key r) (apart_freed s h)
  apart_now false None s h = h

  kept_next : (e : Bool) (o : Option Row) (ks : List ℕ) (s : Slots) → (slots_next stride e o ks s).keys ≡ ks
  kept_next true o ks s = refl
  kept_next false (Some r) ks s = refl
  kept_next false None ks s = refl

  apart_slots : (c : ℕ) → Apart (slots_at count key stride a c).keys
  apart_slots zero = λ j k x p q. absurd (cc)
  apart_slots (suc c) =
      subst Apart (sym (kept_next (a.ends c) (a.tuple c) (keys_at count key stride a c) (slots_at count key stride a c)))
      (apart_now (a.ends c) (a.tuple c) (slots_at count key stride a c) (apart_slots c))

  pub apart_keys : (c : ℕ) → Apart (keys_at count key stride a c)
  apart_keys c = apart_now (a.ends c) (a.tuple c) (slots_at count key stride a c) (apart_slots c)

-- what takes a row, and what ends, in one cycle
module _ (key : Row → ℕ) (ks : List ℕ) (s : Slots) (apart : Apart ks) where
  same_slot : (o : Option ℕ) (x : ℕ) → same_key o x ≡ true → o ≡ Some x
  same_slot None x h = absurd (cc)
  same_slot (Some y) x h = ap Some (sym (eqb-true x y h))

  some_if : (b : Bool) (o : Option Row) (r : Row) → (if b then o else None) ≡ Some r → b ≡ true
  some_if true o r h = refl
  some_if false o r h = absurd (cc)

  -- the slot of a row is where its cycle's event is
  pub takes_where : (e : Bool) (o : Option Row) (j k : ℕ) (x y : Row) → slot_takes key e o ks s j ≡ Some x → slot_takes key e o ks s k ≡ Some y → j ≡ k
  takes_where true o j k x y p q =
      let a = some_if (nat_lt 0 (length ks) && nat_eq j 0) (of_slot key ks j o) x p in
      let b = some_if (nat_lt 0 (length ks) && nat_eq k 0) (of_slot key ks k o) y q in
      eqb-true j 0 (and_right (nat_lt 0 (length ks)) (nat_eq j 0) a) ∙ sym (eqb-true k 0 (and_right (nat_lt 0 (length ks)) (nat_eq k 0) b))
  takes_where false (Some r) j k x y p q =
      let a = some_if (same_key (slice_get ks j) (key r)) (Some r) x p in
      let b = some_if (same_key (slice_get ks k) (key r)) (Some r) y q in
      apart j k (key r) (same_slot (slice_get ks j) (key r) a) (same_slot (slice_get ks k) (key r) b)
  takes_where false None j k x y p q =
      let w = (s.flush && nat_eq s.wait 0) && nat_lt s.turn (length ks) in
      let a = some_if (w && nat_eq j s.turn) (of_slot key ks j s.held) x p in
      let b = some_if (w && nat_eq k s.turn) (of_slot key ks k s.held) y q in
      eqb-true j s.turn (and_right w (nat_eq j s.turn) a) ∙ sym (eqb-true k s.turn (and_right w (nat_eq k s.turn) b))

  pub takes_turn : (e : Bool) (o : Option Row) (j : ℕ) (x : Row) → slot_takes key e o ks s j ≡ Some x → slot_ends e o ks s ≡ true → j ≡ slot_now e s
  takes_turn true o j x p f =
      let a = some_if (nat_lt 0 (length ks) && nat_eq j 0) (of_slot key ks j o) x p in
      eqb-true j 0 (and_right (nat_lt 0 (length ks)) (nat_eq j 0) a)
  takes_turn false (Some r) j x p f = absurd (cc)
  takes_turn false None j x p f =
      let w = (s.flush && nat_eq s.wait 0) && nat_lt s.turn (length ks) in
      let a = some_if (w && nat_eq j s.turn) (of_slot key ks j s.held) x p in
      eqb-true j s.turn (and_right w (nat_eq j s.turn) a)
