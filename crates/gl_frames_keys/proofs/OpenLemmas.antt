-- A lane by key tells where the streams of its slots begin.
use Rattle.std.proofs.Common.{◌≡◌, ℕ, zero, suc, ◌<◌, ◌≤◌, List, [], ◌∷◌, ◌++◌, Option, Some, None, Bool, true, false, length, length-take, take, append-nil, refl, sym, ap, ◌∙◌, arith, inl, inr, eq-eqb, eqb-true}
use Rattle.std.specs.Prelude.{not, ◌&&◌, ◌||◌, if◌then◌else◌, is_some, nat_eq, option_to_list, slice_get}
use Rattle.std.specs.List.{list_any}
use Rattle.std.proofs.lemmas.Bool.{cases_lt}
use Rattle.gl_bits.proofs.AllLists.{get_past}
use Rattle.gl_bits.proofs.Bools.{and_left, neither_left, neither_right, not_true}
use Rattle.gl_values.specs.Lists.{keys_of}
use Rattle.gl_values.specs.Results.{Row}
use Rattle.gl_values.specs.Tables.{with_key}
use Rattle.gl_frames_keys.specs.Lanes.{IsKeyedLane, first_keys, is_first, is_kept}
use Rattle.gl_frames_keys.specs.Laws.{KeyedLanesOpen}
use Rattle.gl_frames_wire.specs.Since.{Opens, all_ends, has_begun}
use Rattle.gl_slots.specs.Slots.{of_slot, same_key}
use Rattle.gl_slots.proofs.KeyLemmas.{keys-push}
use Rattle.gl_slots.proofs.SeekLemmas.{with_key_at, with_key_few}
use Rattle.gl_wire.specs.Wire.{Carried, pending, stream}
use Rattle.gl_wire_lanes.specs.Lanes.{Lane}

-- a key that a list has not stands at none of its places
pub not_listed : (ks : List ℕ) (y k : ℕ) → list_any (nat_eq y) ks ≡ false → same_key (slice_get ks k) y ≡ false
not_listed [] y k e = ap (λ o. same_key o y) (get_past [] k (omega arith))
not_listed (x ∷ ks) y zero e = neither_left (nat_eq y x) (list_any (nat_eq y) ks) e
not_listed (x ∷ ks) y (suc k) e = not_listed ks y k (neither_right (nat_eq y x) (list_any (nat_eq y) ks) e)

some_key : (o : Option ℕ) (y : ℕ) → same_key o y ≡ true → is_some o ≡ true
some_key None y e = absurd (cc)
some_key (Some x) y e = refl

-- whether a slot takes a row, over truth values
told : {A : Type 0} (s v m : Bool) (x z : A) → (if s then (if v then x ∷ [] else []) else []) ≡ option_to_list (if m then Some z else None) → (s && v) ≡ m
told true true true x z e = refl
told true true false x z e = absurd (cc)
told true false true x z e = absurd (cc)
told true false false x z e = refl
told false v true x z e = absurd (cc)
told false v false x z e = refl

never_begun : (s f v n b : Bool) → f ≡ (v && n) → (s && v) ≡ false → b ≡ false → (if s then f || b else b) ≡ false
never_begun false f v n b p q e = e
never_begun true f true n b p q e = absurd (cc)
never_begun true true false n b p q e = absurd (cc)
never_begun true false false n b p q e = e

begun_with : (s f t : Bool) (o : Option ℕ) (y : ℕ) → (s && f) ≡ t → (if s then f || is_some o else is_some o) ≡ is_some (if t then Some y else o)
begun_with true true true o y e = refl
begun_with true true false o y e = absurd (cc)
begun_with true false true o y e = absurd (cc)
begun_with true false false o y e = refl
begun_with false f true o y e = absurd (cc)
begun_with false f false o y e = refl

begun_without : (s f b : Bool) → f ≡ false → (if s then f || b else b) ≡ b
begun_without true true b e = absurd (cc)
begun_without true false b e = refl
begun_without false f b e = refl

and_none : (v n : Bool) → n ≡ false → (v && n) ≡ false
and_none true n e = e
and_none false n e = refl

and_all : (v n : Bool) → n ≡ true → (v && n) ≡ v
and_all true n e = e
and_all false n e = refl

module _ (groups : ℕ) (key : Row → ℕ) (a : Carried) (l : Lane) (row : ℕ → Row) (h : IsKeyedLane groups key a l row) where
  -- the first keys before a cycle
  abbrev ks : ℕ → List ℕ
  ks c = take groups (keys_of key (pending a c))

  few : (c : ℕ) → length (ks c) ≤ groups
  few c = omega (arith, length-take groups (keys_of key (pending a c)))

  module _ (c : ℕ) (r : Row) (p : a.tuple c ≡ Some r) where
    abbrev y : ℕ
    y = key r

    abbrev known : Bool
    known = list_any (nat_eq y) (ks c)

    abbrev later : List ℕ
    later = with_key groups (ks c) y

    same_keys : first_keys groups key a c ≡ later
    same_keys = ap (λ o. take groups (keys_of key (pending a c ++ option_to_list o))) p ∙ keys-push groups key (pending a c) r

    first_is : l.first c ≡ (l.valid c && not known)
    first_is = h.first c ∙ ap (is_first groups key a c) p ∙ ap (λ b. b && not known) (sym (h.valid c ∙ ap (is_kept groups key a c) p))

    own : (k : ℕ) → (nat_eq (l.slot c) k && l.valid c) ≡ same_key (slice_get later k) y
    own k =
        told (nat_eq (l.slot c) k) (l.valid c) (same_key (slice_get (first_keys groups key a c) k) y) (row c) r
        (h.takes c k ∙ ap (λ o. option_to_list (of_slot key (first_keys groups key a c) k o)) p)
        ∙ ap (λ zs. same_key (slice_get zs k) y) same_keys

    past : (k : ℕ) → groups ≤ k → slice_get later k ≡ None
    past k far = get_past later k (omega (arith, far, with_key_few groups (ks c) y (few c)))

    at : (k : ℕ) → k < groups → (b : Bool) → known ≡ b → slice_get later k ≡ (if not b && nat_eq k (length (ks c)) then Some y else slice_get (ks c) k)
    at k lt b e = with_key_at groups (ks c) y k lt ∙ ap (λ z. if not z && nat_eq k (length (ks c)) then Some y else slice_get (ks c) k) e

    -- a key that is new is met at its place alone
    new_at : (k : ℕ) → known ≡ false → (t : Bool) → same_key (if t then Some y else slice_get (ks c) k) y ≡ t
    new_at k e true = eq-eqb y y refl
    new_at k e false = not_listed (ks c) y k e

    grown : (k : ℕ) → (if nat_eq (l.slot c) k then l.first c || is_some (slice_get (ks c) k) else is_some (slice_get (ks c) k)) ≡ is_some (slice_get (first_keys groups key a c) k)
    grown k = elim (cases_lt k groups) [ inl lt ↦ by known refl lt | inr far ↦ none far ] ∙ sym (ap (λ zs. is_some (slice_get zs k)) same_keys)
      where
        none : groups ≤ k → (if nat_eq (l.slot c) k then l.first c || is_some (slice_get (ks c) k) else is_some (slice_get (ks c) k)) ≡ is_some (slice_get later k)
        none far =
            never_begun (nat_eq (l.slot c) k) (l.first c) (l.valid c) (not known) (is_some (slice_get (ks c) k)) first_is
            (own k ∙ ap (λ o. same_key o y) (past k far)) (ap is_some (get_past (ks c) k (omega (arith, far, few c))))
            ∙ sym (ap is_some (past k far))

        by : (b : Bool) → known ≡ b → k < groups → (if nat_eq (l.slot c) k then l.first c || is_some (slice_get (ks c) k) else is_some (slice_get (ks c) k)) ≡ is_some (slice_get later k)
        by true e lt =
            begun_without (nat_eq (l.slot c) k) (l.first c) (is_some (slice_get (ks c) k)) (first_is ∙ and_none (l.valid c) (not known) (ap not e))
            ∙ sym (ap is_some (at k lt true e))
        by false e lt =
            let whole : l.first c ≡ l.valid c = first_is ∙ and_all (l.valid c) (not known) (ap not e) in
            begun_with (nat_eq (l.slot c) k) (l.first c) (nat_eq k (length (ks c))) (slice_get (ks c) k) y
            (ap (λ b. nat_eq (l.slot c) k && b) whole ∙ own k ∙ ap (λ o. same_key o y) (at k lt false e) ∙ new_at k e (nat_eq k (length (ks c))))
            ∙ sym (ap is_some (at k lt false e))

    -- where a row comes its key is known exactly if its slot has one
    slot_known : l.valid c ≡ true → known ≡ is_some (slice_get (ks c) (l.slot c))
    slot_known v = elim (cases_lt k groups) [ inl lt ↦ by known refl lt | inr far ↦ absurd (let z = ap (λ o. same_key o y) (past k far) in let q = met in cc (z, q)) ]
      where
        k : ℕ
        k = l.slot c

        met : same_key (slice_get later k) y ≡ true
        met = sym (own k) ∙ ap (λ b. b && l.valid c) (eq-eqb k k refl) ∙ v

        new : (t : Bool) → nat_eq k (length (ks c)) ≡ t → known ≡ false → k < groups → false ≡ is_some (slice_get (ks c) k)
        new true q e lt = sym (ap is_some (get_past (ks c) k (omega (arith, eqb-true k (length (ks c)) q))))
        new false q e lt =
            let found = met in
            let same = at k lt false e in
            let other = ap (λ (b : Bool). if b then Some y else slice_get (ks c) k) q in
            let none = not_listed (ks c) y k e in
            let z : same_key (slice_get later k) y ≡ false = ap (λ o. same_key o y) (same ∙ other) ∙ none in
            absurd (cc (z, found))

        by : (b : Bool) → known ≡ b → k < groups → known ≡ is_some (slice_get (ks c) k)
        by true e lt = e ∙ sym (some_key (slice_get (ks c) k) y (ap (λ o. same_key o y) (sym (at k lt true e)) ∙ met))
        by false e lt = e ∙ new (nat_eq k (length (ks c))) refl e lt

  none_yet : (k : ℕ) → is_some (slice_get (take groups (keys_of key [])) k) ≡ false
  none_yet k = ap is_some (get_past (take groups (keys_of key [])) k (omega (arith, length-take groups (keys_of key []))))

  -- without a row nothing begins
  same_without : (c k : ℕ) → a.tuple c ≡ None → (if nat_eq (l.slot c) k then l.first c || is_some (slice_get (ks c) k) else is_some (slice_get (ks c) k)) ≡ is_some (slice_get (first_keys groups key a c) k)
  same_without c k p =
      begun_without (nat_eq (l.slot c) k) (l.first c) (is_some (slice_get (ks c) k)) (h.first c ∙ ap (is_first groups key a c) p)
      ∙ sym (ap (λ o. is_some (slice_get (take groups (keys_of key (pending a c ++ option_to_list o))) k)) p
      ∙ ap (λ xs. is_some (slice_get (take groups (keys_of key xs)) k)) (append-nil (pending a c)))

  step : (c k : ℕ) (o : Option Row) → a.tuple c ≡ o → (if nat_eq (l.slot c) k then l.first c || is_some (slice_get (ks c) k) else is_some (slice_get (ks c) k)) ≡ is_some (slice_get (first_keys groups key a c) k)
  step c k None p = same_without c k p
  step c k (Some r) p = grown c r p k

  begun : (c k : ℕ) → has_begun (all_ends l) l k c ≡ is_some (slice_get (ks c) k)
  begun zero k = sym (none_yet k)
  begun (suc c) k = by (l.ends c) (a.ends c) (h.ends c) (has_begun (all_ends l) l k c) (begun c k)
    where
      by : (e d : Bool) → e ≡ d → (b : Bool) → b ≡ is_some (slice_get (ks c) k)
          → (if e then false else (if nat_eq (l.slot c) k then l.first c || b else b)) ≡ is_some (slice_get (take groups (keys_of key (if d then [] else stream a c))) k)
      by true true q b e = sym (none_yet k)
      by true false q b e = absurd (cc)
      by false true q b e = absurd (cc)
      by false false q b e = ap (λ z. if nat_eq (l.slot c) k then l.first c || z else z) e ∙ step c k (a.tuple c) refl

  row_of : (c : ℕ) → l.valid c ≡ true → (r : Row) × (a.tuple c ≡ Some r)
  row_of c v = by (a.tuple c) refl
    where
      by : (o : Option Row) → a.tuple c ≡ o → (r : Row) × (a.tuple c ≡ Some r)
      by None p = absurd (let z = h.valid c ∙ ap (is_kept groups key a c) p in cc (z, v))
      by (Some r) p = (r, p)

  begins : (c : ℕ) → l.valid c ≡ true → l.first c ≡ not (has_begun (all_ends l) l (l.slot c) c)
  begins c v =
      let x = row_of c v in
      first_is c x.0 x.1 ∙ ap (λ b. b && not (known c x.0 x.1)) v ∙ ap not (slot_known c x.0 x.1 v ∙ sym (begun c (l.slot c)))

  -- what begins is a row
  first_row : (c : ℕ) → l.first c ≡ true → l.valid c ≡ true
  first_row c f = by (a.tuple c) refl
    where
      by : (o : Option Row) → a.tuple c ≡ o → l.valid c ≡ true
      by None p = absurd (let z = h.first c ∙ ap (is_first groups key a c) p in cc (z, f))
      by (Some r) p = and_left (l.valid c) (not (known c r p)) (sym (first_is c r p) ∙ f)

  pub opens : a.tuple 0 ≡ None → Opens (all_ends l) l
  opens none = record {
    no_row = h.valid 0 ∙ ap (is_kept groups key a 0) none;
    no_first = h.first 0 ∙ ap (is_first groups key a 0) none;
    rows = begins;
    only = λ c f. not_true (has_begun (all_ends l) l (l.slot c) c) (sym (begins c (first_row c f)) ∙ f);
  }

pub lanes_open : KeyedLanesOpen
lanes_open groups key a l row h none = opens groups key a l row h none
