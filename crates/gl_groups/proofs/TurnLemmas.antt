-- A slot takes its end in its turn of a flush alone, so few visits end: none while no end comes, and after one at most one for each slot.
use Rattle.std.proofs.Common.{◌≡◌, ℕ, zero, suc, ◌+◌, ◌-◌, ◌*◌, ◌<◌, ◌≤◌, List, length, Option, Some, None, Bool, true, false, ◌&&◌, refl, sym, ap, ◌∙◌, arith, inl, inr, mul-le-mul_right}
use Rattle.std.specs.Prelude.{nat_eq, nat_lt, slice_get}
use Rattle.std.proofs.lemmas.Bool.{cases_lt, eqb-true, and_parts, le-ltb, ltb-true}
use Rattle.gl_values.specs.Results.{Row}
use Rattle.gl_wire.specs.Apart.{Carries, an_end}
use Rattle.gl_wire.specs.Wire.{stream}
use Rattle.gl_wire.specs.Lift.{Visits, visits, with_visit}
use Rattle.gl_wire.specs.Timed.{NoEnd, Rested}
use Rattle.gl_slots.specs.Slots.{Slots, keys_now, slot_ends, slots_at, keys_at, slot_now, slot_ends_at, slot_at, who_slots}
use Rattle.gl_slots.proofs.Setting.{Setting}
use Rattle.gl_wire.proofs.NumberLemmas.{mul_below}
use Rattle.gl_slots.proofs.KeyLemmas.{key_below}
use Rattle.gl_wire.proofs.VisitLemmas.{visits_none}
use Rattle.gl_wire.proofs.TurnLemmas.{turn_of}
use Rattle.gl_slots.proofs.SlotLemmas.{Step, step_at, few_keys, of_group}
use Rattle.gl_slots.proofs.PhaseLemmas.{Phase, flows, flushes, phase}

module _ (front : Setting) where
  open front use {count, key, stride, a, ins}

  abbrev who : Visits
  who = who_slots count key stride a

  abbrev pub slot : ℕ → ℕ
  slot c = slot_at count key stride a c

  -- a slot takes its end in its turn of a flush alone
  pub record Turn (c : ℕ) : Type 0 where
    pub u : ℕ
    pub end : a.ends u ≡ true
    pub time : c ≡ u + slot_at count key stride a c * stride
    pub less : slot_at count key stride a c < count

  turn_by : (c : ℕ) (s : Slots) (e : Bool) (o : Option Row) → Step front c e o s → Phase front c s → slot_ends e o (keys_now count key e o s) s ≡ true → Turn c
  turn_by c s true o step h p = record { u = c; end = step.is_end; time = rw step.slot (omega arith); less = rw step.slot front.slots_some }
  turn_by c s false (Some r) step h p = absurd (cc)
  turn_by c s false None step (flows lo xs f b) p = absurd (
      let x = and_parts (s.flush && nat_eq s.wait 0) (nat_lt s.turn (length s.keys)) p in
      let z = le-ltb s.turn (length s.keys) (f.calm (and_parts s.flush (nat_eq s.wait 0) x.0).0) in
      let y = x.1 in cc (y, z))
  turn_by c s false None step (flushes lo u xs f b) p =
      let x = and_parts (s.flush && nat_eq s.wait 0) (nat_lt s.turn (length s.keys)) p in
      let zero_wait : s.wait ≡ 0 = eqb-true s.wait 0 (and_parts s.flush (nat_eq s.wait 0) x.0).1 in
      let there : s.turn < length s.keys = (elim (cases_lt s.turn (length s.keys)) [ inl l ↦ l | inr l ↦ absurd (let z = le-ltb s.turn (length s.keys) l in let y = x.1 in cc (y, z)) ]) in
      record { u = u; end = f.end; time = rw step.slot (omega (arith, f.time, zero_wait)); less = rw step.slot (omega (arith, there, few_keys front (stream a u) s.keys f.keys)) }

  pub turn : (c : ℕ) → slot_ends_at count key stride a c ≡ true → Turn c
  turn c p = turn_by c (slots_at count key stride a c) (a.ends c) (a.tuple c) (step_at front c) (phase front c) p

  -- a visit is such a turn
  pub visit_turn : (c k : ℕ) → who (suc c) ≡ Some k → (slot_ends_at count key stride a c ≡ true) × (slot c ≡ k)
  visit_turn c k h = turn_of (slot_ends_at count key stride a c) (slot c) k h

  has_key : (e : Bool) (o : Option Row) (ks : List ℕ) (s : Slots) → slot_ends e o ks s ≡ true → slot_now e s < length ks
  has_key true o ks s h = ltb-true 0 (length ks) h
  has_key false (Some r) ks s h = absurd (cc)
  has_key false None ks s h = ltb-true s.turn (length ks) (and_parts (s.flush && nat_eq s.wait 0) (nat_lt s.turn (length ks)) h).1

  -- its slot has a key then
  pub visit_key : (v k : ℕ) → who v ≡ Some k → (y : ℕ) × (slice_get (slots_at count key stride a v).keys k ≡ Some y)
  visit_key zero k h = absurd (cc)
  visit_key (suc c) k h =
      let x = visit_turn c k h in
      let step = step_at front c in
      let y = key_below (keys_at count key stride a c) (slot c) (has_key (a.ends c) (a.tuple c) (keys_at count key stride a c) (slots_at count key stride a c) x.0) in
      (y.0, ap (λ z. slice_get z k) step.stays ∙ ap (slice_get (keys_at count key stride a c)) (sym x.1) ∙ y.1)

  -- each visit is a turn of a flush; without one there is none
  pub no_slots_end : (x n : ℕ) → Rested (count * stride) a x → NoEnd a x (x + n) → length (visits who ins (suc x) n) ≤ 0
  no_slots_end x n rest quiet = let z = ap length (visits_none (of_group front) who ins n (suc x) (λ v k l m w. none v k l m w)) in omega (arith, z)
    where
      none : (v k : ℕ) → suc x ≤ v → v < suc x + n → who v ≡ Some k → ⊥
      none zero k l m w = omega (arith, l)
      none (suc c) k l m w =
          let t = turn c (visit_turn c k w).0 in
          let r : slot c * stride ≤ count * stride = mul-le-mul_right stride (omega (arith, t.less)) in
          elim (cases_lt t.u x) [
            | inl q ↦ (let z = rest.over t.u t.end q in omega (arith, z, r, t.time, l))
            | inr q ↦ (let z = quiet.none t.u q (omega (arith, t.time, m)) in let y = t.end in cc (z, y))
          ]

  -- all visits of one flush: at most one a slot
  turns_count : (n c i u : ℕ) → ((v k : ℕ) → c ≤ v → v < c + n → who v ≡ Some k → (j : ℕ) × (v ≡ suc u + j * stride) × (i ≤ j) × (j < count)) → length (visits who ins c n) ≤ count - i
  turns_count zero c i u h = omega arith
  turns_count (suc n) c i u h = by (who c) refl (λ j g. turns_count n (suc c) j u g)
    where
      by : (o : Option ℕ) → who c ≡ o → ((j : ℕ) → ((v k : ℕ) → suc c ≤ v → v < suc c + n → who v ≡ Some k → (l : ℕ) × (v ≡ suc u + l * stride) × (j ≤ l) × (l < count)) → length (visits who ins (suc c) n) ≤ count - j)
          → length (with_visit o c (λ k. stream (ins k) c) (visits who ins (suc c) n)) ≤ count - i
      by None p ih = ih i (λ v k l m w. h v k (omega (arith, l)) (omega (arith, m)) w)
      by (Some k) p ih =
          let x = h c k (omega arith) (omega arith) p in
          let rest = ih (suc x.0) (λ v q l m w.
          let y = h v q (omega (arith, l)) (omega (arith, m)) w in
          let less : x.0 < y.0 = mul_below x.0 y.0 stride (omega (arith, x.1, y.1, l)) in
          (y.0, y.1, less, y.3))
          in
          omega (arith, rest, x.2, x.3)

  pub many_slots : (x u n : ℕ) → Rested (count * stride) a x → x ≤ u → u < x + n → NoEnd a x u → a.ends u ≡ true → ((y : ℕ) → u < y → y < x + n → Carries a y → ⊥) → length (visits who ins (suc x) n) ≤ count
  many_slots x u n rest l m quiet e still = let z = turns_count n (suc x) 0 u each in omega (arith, z)
    where
      each : (v k : ℕ) → suc x ≤ v → v < suc x + n → who v ≡ Some k → (j : ℕ) × (v ≡ suc u + j * stride) × (0 ≤ j) × (j < count)
      each zero k g q w = absurd (cc)
      each (suc c) k g q w =
          let t = turn c (visit_turn c k w).0 in
          let r : slot c * stride ≤ count * stride = mul-le-mul_right stride (omega (arith, t.less)) in
          let same : t.u ≡ u = (elim (cases_lt t.u x) [
            | inl z ↦ absurd (let y = rest.over t.u t.end z in omega (arith, y, r, t.time, g))
            | inr z ↦ elim (cases_lt t.u u) [
              | inl y ↦ absurd (let i = quiet.none t.u z y in let j = t.end in cc (i, j))
              | inr y ↦ elim (cases_lt u t.u) [ inl i ↦ absurd (still t.u i (omega (arith, t.time, q)) (an_end t.end)) | inr i ↦ omega (arith, y, i) ]
            ]
          ]) in
          (slot c, omega (arith, t.time, same), omega arith, t.less)
