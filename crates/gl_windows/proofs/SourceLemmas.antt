-- Why a copy behind a front of windows takes an end, and how few do while none comes.
use Rattle.std.proofs.Common.{◌≡◌, ℕ, zero, suc, ◌+◌, ◌*◌, ◌%◌, ◌<◌, ◌≤◌, ◌++◌, length, Option, Some, None, Bool, true, false, ◌&&◌, refl, sym, ap, ◌∙◌, arith, inl, inr, mul-le-mul_right}
use Rattle.std.specs.Prelude.{option_to_list, if◌then◌else◌, nat_eq}
use Rattle.std.proofs.lemmas.Bool.{cases_lt, eqb-true, and_parts}
use Rattle.gl_values.specs.Results.{Row}
use Rattle.gl_wire.specs.Apart.{Carries, a_tuple, an_end}
use Rattle.gl_wire.specs.Wire.{rows}
use Rattle.gl_wire.specs.Lift.{Visits, visits}
use Rattle.gl_wire.specs.Timed.{NoEnd, Rested}
use Rattle.gl_wire.proofs.TurnLemmas.{turn_of}
use Rattle.gl_windows.specs.Front.{Front, opening, closing, taken, states, mid, closes, oldest, who_ends}
use Rattle.gl_windows.proofs.Setting.{Setting}
use Rattle.gl_windows.proofs.CopyLemmas.{Step, step_at}
use Rattle.gl_windows.proofs.PhaseLemmas.{Phase, flows, flushes, phase}

module _ (front : Setting) where
  open front use {size, advance, count, most, stride, a, ins}

  abbrev who : Visits
  who = who_ends size advance count stride a

  -- ---- why a copy takes an end

  -- in the flush that began at this end, the copy whose turn it is
  pub record Turn (c : ℕ) : Type 0 where
    pub u : ℕ
    pub i : ℕ
    pub end : a.ends u ≡ true
    pub time : c ≡ u + i * stride
    pub once : 1 ≤ i
    pub less : i < most
    pub copy : (mid size advance count stride a c).closed ≡ (mid size advance count stride a u).closed + i

  pub data Source (c : ℕ) : Type 0 where
    comes : Carries a c → Source c
    in_turn : Turn c → Source c

  source_of : (c : ℕ) (s : Front) (e : Bool) (o : Option Row) → Step front c e o s → Phase front c s → closing count e o (opening advance count o s) ≡ true → Source c
  source_of c s true o step h p = comes (an_end step.is_end)
  source_of c s false (Some r) step h p = comes (a_tuple r step.is_tuple)
  source_of c s false None step (flows lo base f b) p =
      let x = and_parts (s.flush && nat_eq s.wait 0) (s.is_open (s.closed % count)) p in
      let y : s.flush ≡ true = (and_parts s.flush (nat_eq s.wait 0) x.0).0 in
      elim (cases_lt f.d f.q) [
        | inl l ↦ absurd (let z = f.is.calm l in cc (y, z))
        | inr l ↦ absurd (let off = (f.is.copies.off s.closed (omega (arith, f.is.opened, f.is.closed, l)) (omega (arith, front.copies_some))).0 in let z = x.1 in cc (off, z))
      ]
  source_of c s false None step (flushes lo base q u f b) p =
      let x = and_parts (s.flush && nat_eq s.wait 0) (s.is_open (s.closed % count)) p in
      let zero_wait : s.wait ≡ 0 = eqb-true s.wait 0 (and_parts s.flush (nat_eq s.wait 0) x.0).1 in
      let there : f.d < q = (elim (cases_lt f.d q) [
        | inl l ↦ l
        | inr l ↦ absurd (let off = (f.is.copies.off s.closed (omega (arith, f.is.opened, f.is.closed, l)) (omega (arith, front.copies_some))).0 in let y = x.1 in cc (off, y))
      ]) in
      in_turn (record {
        u = u;
        i = f.i;
        end = f.is.end;
        time = omega (arith, f.is.time, zero_wait);
        once = f.is.once;
        less = omega (arith, f.is.soon there, there);
        copy = step.turn ∙ f.is.turn there;
      })

  pub source : (c : ℕ) → closes size advance count stride a c ≡ true → Source c
  source c p = source_of c (states size advance count stride a c) (a.ends c) (a.tuple c) (step_at front c) (phase front c) p

  -- without an end, at most as many as tuples come
  few_by : (n x : ℕ) → ((y : ℕ) → x ≤ y → y < x + n → closes size advance count stride a y ≡ true → (r : Row) × (a.tuple y ≡ Some r)) → length (visits who ins (suc x) n) ≤ length (rows a x n)
  few_by zero x h = omega arith
  few_by (suc n) x h = by (closes size advance count stride a x) refl (a.tuple x) refl (few_by n (suc x) (λ y l m e. h y (omega (arith, l)) (omega (arith, m)) e))
    where
      by : (z : Bool) → closes size advance count stride a x ≡ z → (o : Option Row) → a.tuple x ≡ o → length (visits who ins (suc (suc x)) n) ≤ length (rows a (suc x) n) → length (visits who ins (suc x) (suc n)) ≤ length (option_to_list o ++ rows a (suc x) n)
      by true p (Some r) q ih = rw p (omega (arith, ih))
      by true p None q ih = absurd (let g = h x (omega arith) (omega arith) p in let y = g.1 in cc (y, q))
      by false p (Some r) q ih = rw p (omega (arith, ih))
      by false p None q ih = rw p ih

  pub few_windows : (x n : ℕ) → Rested (most * stride) a x → NoEnd a x (x + n) → length (visits who ins (suc x) n) ≤ length (rows a x n)
  few_windows x n rest quiet = few_by n x (λ y l m e. why y l m (source y e))
    where
      why : (y : ℕ) → x ≤ y → y < x + n → Source y → (r : Row) × (a.tuple y ≡ Some r)
      why y l m (comes (a_tuple r e)) = (r, e)
      why y l m (comes (an_end e)) = absurd (let z = quiet.none y l m in cc (z, e))
      why y l m (in_turn k) = absurd (elim (cases_lt k.u x) [
        | inl p ↦ (let z = rest.over k.u k.end p in let w : k.i * stride ≤ most * stride = mul-le-mul_right stride (omega (arith, k.less)) in omega (arith, z, w, k.time, l))
        | inr p ↦ (let z = quiet.none k.u p (omega (arith, k.time, m)) in let w = k.end in cc (z, w))
      ])

  -- ---- what a copy takes comes of the source

  pub visit_source : (c k : ℕ) → who (suc c) ≡ Some k → (closes size advance count stride a c ≡ true) × (oldest size advance count stride a c ≡ k)
  visit_source c k h = turn_of (closes size advance count stride a c) (oldest size advance count stride a c) k h

  out_of : (e : Bool) (o : Option Row) (t : Front) (k : ℕ) (r : Row) → taken count e o t k ≡ Some r → (closing count e o t && nat_eq k (t.closed % count)) ≡ false → (e ≡ false) × (o ≡ Some r)
  out_of true o t k r h n = absurd (let z = ap (λ (b : Bool). if b then o else None) n in cc (h, z))
  out_of false None t k r h n = absurd (let z = ap (λ (b : Bool). if b then t.held else None) n in cc (h, z))
  out_of false (Some q) t k r h n = (refl, by (t.is_open k) h)
    where
      by : (b : Bool) → (if b then Some q else None) ≡ Some r → Some q ≡ Some r
      by true e = e
      by false e = absurd (cc)

  pub tuple_source : (k c : ℕ) (r : Row) → k < count → (ins k).tuple (suc c) ≡ Some r → (ins k).ends (suc c) ≡ false → (a.ends c ≡ false) × (a.tuple c ≡ Some r)
  tuple_source k c r l h n = out_of (a.ends c) (a.tuple c) (mid size advance count stride a c) k r (sym (front.law.tuples k c l) ∙ h) (sym (front.law.ends k c l) ∙ n)
