-- A front of groups schedules the visits of its slots.
use Rattle.std.proofs.Common.{◌≡◌, ℕ, zero, suc, ◌+◌, ◌-◌, ◌*◌, ◌<◌, ◌≤◌, List, Option, Some, None, Bool, true, false, ◌&&◌, refl, sym, ap, ◌∙◌, arith, inl, inr, mul-le-mul_right}
use Rattle.std.specs.Prelude.{if◌then◌else◌, nat_eq, slice_get}
use Rattle.std.proofs.lemmas.Bool.{cases_lt}
use Rattle.gl_values.specs.Results.{Row}
use Rattle.gl_algebra.specs.declared.figures.Figures.{Figures}
use Rattle.gl_wire.specs.Apart.{Carries, a_tuple, an_end}
use Rattle.gl_wire.specs.Lift.{Visits, Schedules}
use Rattle.gl_slots.specs.Slots.{Slots, same_key, of_slot, slot_now, slot_ends, slot_takes, slots_at, keys_at, slot_ends_at, slot_at, who_slots}
use Rattle.gl_slots.proofs.Setting.{Setting}
use Rattle.gl_wire.proofs.NumberLemmas.{mul_below}
use Rattle.gl_wire.proofs.TurnLemmas.{turns_schedule}
use Rattle.gl_groups.proofs.TurnLemmas.{Turn, turn, visit_turn}

module _ (front : Setting) where
  open front use {count, key, stride, a, ins}

  abbrev who : Visits
  who = who_slots count key stride a

  abbrev slot : ℕ → ℕ
  slot c = slot_at count key stride a c

  pub early : (i : ℕ) → i < count → i * stride ≤ (count - 1) * stride
  early i l = mul-le-mul_right stride (omega (arith, l))

  then_comes : (x y : ℕ) → Turn front x → Carries a y → x < y → x + front.gap_end ≤ y
  then_comes x y t j l =
      let z = front.timed.after t.u y t.end j (omega (arith, t.time, l)) in
      omega (arith, z, early (slot x) t.less, t.time, front.far)

  turns_apart : (x y : ℕ) → Turn front x → Turn front y → x < y → ((slot x ≡ slot y → x + front.gap_end ≤ y) × (x + stride ≤ y))
  turns_apart x y t j l = elim (cases_lt t.u j.u) [
    | inl m ↦ (let z = front.timed.after t.u j.u t.end (an_end j.end) m in let w = early (slot x) t.less in (λ e. omega (arith, z, w, t.time, j.time, front.far), omega (arith, z, w, t.time, j.time, front.far, front.strides)))
    | inr m ↦ elim (cases_lt j.u t.u) [
      | inl n ↦ absurd (let z = front.timed.after j.u t.u j.end (an_end t.end) n in let w = early (slot y) j.less in omega (arith, z, w, j.time, t.time, front.far, l))
      | inr n ↦
          let e : t.u ≡ j.u = omega (arith, m, n) in
          let more : slot x < slot y = mul_below (slot x) (slot y) stride (omega (arith, l, t.time, j.time, e)) in
          let one : suc (slot x) * stride ≤ slot y * stride = mul-le-mul_right stride more in
          (λ q. omega (arith, q, more), omega (arith, one, t.time, j.time, e))
    ]
  ]

  comes_then : (x y : ℕ) → Carries a x → a.ends x ≡ false → Turn front y → x < y → x + front.g1 ≤ y
  comes_then x y k calm j l = elim (cases_lt x j.u) [
    | inl m ↦ (let z = front.timed.apart x j.u k (an_end j.end) m in omega (arith, z, j.time))
    | inr m ↦ elim (cases_lt j.u x) [
      | inl n ↦ absurd (let z = front.timed.after j.u x j.end k n in let w = early (slot y) j.less in omega (arith, z, w, j.time, front.far, l))
      | inr n ↦ absurd (let e : j.u ≡ x = omega (arith, m, n) in let z = ap a.ends e in let w = j.end in cc (z, w, calm))
    ]
  ]

  of_slot_some : (ks : List ℕ) (k : ℕ) (o : Option Row) (r : Row) → of_slot key ks k o ≡ Some r → o ≡ Some r
  of_slot_some ks k None r h = absurd (cc)
  of_slot_some ks k (Some q) r h = by (same_key (slice_get ks k) (key q)) h
    where
      by : (b : Bool) → (if b then Some q else None) ≡ Some r → Some q ≡ Some r
      by true e = e
      by false e = absurd (cc)

  out_of : (e : Bool) (o : Option Row) (ks : List ℕ) (s : Slots) (k : ℕ) (r : Row) → slot_takes key e o ks s k ≡ Some r → (slot_ends e o ks s && nat_eq k (slot_now e s)) ≡ false → (e ≡ false) × (o ≡ Some r)
  out_of true o ks s k r h n = absurd (let z = ap (λ (b : Bool). if b then of_slot key ks k o else None) n in cc (h, z))
  out_of false None ks s k r h n = absurd (let z = ap (λ (b : Bool). if b then of_slot key ks k s.held else None) n in cc (h, z))
  out_of false (Some q) ks s k r h n = (refl, of_slot_some ks k (Some q) r h)

  pub tuple_turn : (k c : ℕ) (r : Row) → k < count → (ins k).tuple (suc c) ≡ Some r → (ins k).ends (suc c) ≡ false → (a.ends c ≡ false) × (a.tuple c ≡ Some r)
  tuple_turn k c r l h n = out_of (a.ends c) (a.tuple c) (keys_at count key stride a c) (slots_at count key stride a c) k r (sym (front.law.tuples k c l) ∙ h) (sym (front.law.ends k c l) ∙ n)

  pub slot_caused : (k c : ℕ) (r : Row) → k < count → (ins k).tuple c ≡ Some r → (ins k).ends c ≡ false → (x : ℕ) × (c ≡ suc x) × Carries a x
  slot_caused k zero r l h n = absurd (let z = front.law.no_tuple k l in cc (z, h))
  slot_caused k (suc x) r l h n = (x, refl, a_tuple r (tuple_turn k x r l h n).1)

  pub slot_origin : (v k : ℕ) → who v ≡ Some k → (u : ℕ) × (a.ends u ≡ true) × (suc u ≤ v) × (v ≤ suc u + (count - 1) * stride)
  slot_origin zero k h = absurd (cc)
  slot_origin (suc x) k h =
      let t = turn front x (visit_turn front x k h).0 in
      let w = early (slot x) t.less in (t.u, t.end, omega (arith, t.time), omega (arith, t.time, w))

  pub slots_schedule : (f : Figures) → f.ge ≡ front.gap_end → f.gt ≤ front.g1 → front.stride ≡ f.le - f.a + 1 → Schedules f count who ins
  slots_schedule f ge_is gt_near interval = turns_schedule f count who (slot_ends_at count key stride a) slot a ins (record {
    first = refl;
    next = λ c. refl;
    no_tuple = front.law.no_tuple;
    no_end = front.law.no_end;
    ends = front.law.ends;
    tuples = tuple_turn;
    within = λ c p. (turn front c p).less;
    in_one = λ x y p q m e. let z = (turns_apart x y (turn front x p) (turn front y q) m).0 e in omega (arith, z, ge_is);
    any = λ x y p q m. let z = (turns_apart x y (turn front x p) (turn front y q) m).1 in omega (arith, z, interval);
    then_comes = λ k x y r l p e h n m. let z = then_comes x y (turn front x p) (a_tuple r (tuple_turn k y r l h n).1) m in omega (arith, z, ge_is);
    comes_then = λ x y k calm q m. let z = comes_then x y k calm (turn front y q) m in omega (arith, z, gt_near);
    apart = λ x y k j m. let z = front.timed.apart x y k j m in omega (arith, z, gt_near);
  })
