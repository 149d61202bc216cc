-- The machine of slots one cycle behind a source, told by one wire.
use Rattle.std.proofs.Common.{◌≡◌, ℕ, zero, suc, ◌<◌, Some, None, Bool, true, false, refl, sym, ap, ◌∙◌, inl, inr, eqb-true}
use Rattle.std.specs.Prelude.{is_some, ◌&&◌, ◌||◌, if◌then◌else◌, nat_eq}
use Rattle.gl_values.specs.Results.{Row}
use Rattle.gl_bits.proofs.Bools.{and_parts, or_cases}
use Rattle.gl_wire.specs.Wire.{Carried}
use Rattle.gl_slots.specs.Slots.{keys_at, slot_at, slot_ends_at, slot_takes, slots_at}
use Rattle.gl_groups.proofs.EventLemmas.{apart_keys, takes_turn, takes_where}

-- ---- no two slots have an event in one cycle

module _ (count stride : ℕ) (key : Row → ℕ) (a : Carried) (row : ℕ → Row) (taken ended : ℕ → ℕ → Bool)
    (takes : (k c : ℕ) → k < count → (if taken k c then Some (row c) else None) ≡ slot_takes key (a.ends c) (a.tuple c) (keys_at count key stride a c) (slots_at count key stride a c) k)
    (ends : (k c : ℕ) → k < count → ended k c ≡ (slot_ends_at count key stride a c && nat_eq k (slot_at count key stride a c))) where
  row_of : (k c : ℕ) → k < count → taken k c ≡ true → slot_takes key (a.ends c) (a.tuple c) (keys_at count key stride a c) (slots_at count key stride a c) k ≡ Some (row c)
  row_of k c l e = sym (takes k c l) ∙ ap (λ (b : Bool). if b then Some (row c) else None) e

  end_of : (k c : ℕ) → k < count → ended k c ≡ true → (slot_ends_at count key stride a c ≡ true) × (k ≡ slot_at count key stride a c)
  end_of k c l e =
      let p = and_parts (slot_ends_at count key stride a c) (nat_eq k (slot_at count key stride a c)) (sym (ends k c l) ∙ e) in
      (p.0, eqb-true k (slot_at count key stride a c) p.1)

  turn_of : (j k c : ℕ) → j < count → k < count → taken j c ≡ true → ended k c ≡ true → j ≡ k
  turn_of j k c l m e f =
      let p = end_of k c m f in
      takes_turn key (keys_at count key stride a c) (slots_at count key stride a c) (apart_keys count key stride a c) (a.ends c) (a.tuple c) j (row c) (row_of j c l e) p.0 ∙ sym p.1

  pub unique_event : (j k c : ℕ) → j < count → k < count → (taken j c || ended j c) ≡ true → (taken k c || ended k c) ≡ true → j ≡ k
  unique_event j k c l m e f = elim (or_cases (taken j c) (ended j c) e) [
    | inl p ↦ elim (or_cases (taken k c) (ended k c) f) [
      | inl q ↦ takes_where key (keys_at count key stride a c) (slots_at count key stride a c) (apart_keys count key stride a c) (a.ends c) (a.tuple c) j k (row c) (row c) (row_of j c l p) (row_of k c m q)
      | inr q ↦ turn_of j k c l m p q
    ]
    | inr p ↦ elim (or_cases (taken k c) (ended k c) f) [
      | inl q ↦ sym (turn_of k j c m l q p)
      | inr q ↦ (end_of j c l p).1 ∙ sym (end_of k c m q).1
    ]
  ]

  -- whether a slot takes a row
  pub takes_some : (k c : ℕ) → k < count → taken k c ≡ is_some (slot_takes key (a.ends c) (a.tuple c) (keys_at count key stride a c) (slots_at count key stride a c) k)
  takes_some k c l = by (taken k c) ∙ ap is_some (takes k c l)
    where
      by : (b : Bool) → b ≡ is_some (if b then Some (row c) else None)
      by true = refl
      by false = refl

-- ---- a source, and the same one cycle later

module _ (count stride : ℕ) (key : Row → ℕ) (a b : Carried) (no_tuple : b.tuple 0 ≡ None) (no_end : b.ends 0 ≡ false) (tuples : (c : ℕ) → b.tuple (suc c) ≡ a.tuple c) (ends : (c : ℕ) → b.ends (suc c) ≡ a.ends c) where
  pub slots_late : (c : ℕ) → slots_at count key stride b (suc c) ≡ slots_at count key stride a c
  slots_late zero = rw (no_tuple, no_end) refl
  slots_late (suc c) = let x = slots_late c in rw (tuples c, ends c, x) refl

  pub keys_late : (c : ℕ) → keys_at count key stride b (suc c) ≡ keys_at count key stride a c
  keys_late c = let x = slots_late c in rw (tuples c, ends c, x) refl

  pub takes_late : (k c : ℕ) → slot_takes key (b.ends (suc c)) (b.tuple (suc c)) (keys_at count key stride b (suc c)) (slots_at count key stride b (suc c)) k
      ≡ slot_takes key (a.ends c) (a.tuple c) (keys_at count key stride a c) (slots_at count key stride a c) k
  takes_late k c = let x = slots_late c in rw (tuples c, ends c, x) refl

  pub ends_late : (k c : ℕ) → (slot_ends_at count key stride b (suc c) && nat_eq k (slot_at count key stride b (suc c))) ≡ (slot_ends_at count key stride a c && nat_eq k (slot_at count key stride a c))
  ends_late k c = let x = slots_late c in rw (tuples c, ends c, x) refl
