-- Copies that take their ends in turn, one at a time, and whose beats come far enough apart: their visits are scheduled.
use Rattle.std.proofs.Common.{◌≡◌, ℕ, zero, suc, ◌+◌, ◌<◌, ◌≤◌, Option, Some, None, Bool, true, false, ◌&&◌, refl, sym, ap, ◌∙◌, subst, arith}
use Rattle.std.specs.Prelude.{if◌then◌else◌, nat_eq}
use Rattle.std.proofs.lemmas.Bool.{eqb-true, eq-eqb, and_parts, and_from}
use Rattle.gl_values.specs.Results.{Row}
use Rattle.gl_bits.proofs.Options.{some_same}
use Rattle.gl_algebra.specs.declared.figures.Figures.{Figures}
use Rattle.gl_wire.specs.Apart.{Carries, a_tuple}
use Rattle.gl_wire.specs.Beats.{beats_of, gap}
use Rattle.gl_wire.specs.Wire.{Carried}
use Rattle.gl_wire.specs.Lift.{Visits, Schedules}
use Rattle.gl_wire.proofs.VisitLemmas.{BeatOf, its_end, its_tuple, beat_of}

-- in which cycles a copy takes an end, and which one; what its wire carries a cycle later comes of the source or of such an end
pub record TakeTurns (f : Figures) (count : ℕ) (who : Visits) (ends_now : ℕ → Bool) (turn : ℕ → ℕ) (a : Carried) (ins : ℕ → Carried) : Type 0 where
  pub first : who 0 ≡ None
  pub next : (c : ℕ) → who (suc c) ≡ (if ends_now c then Some (turn c) else None)
  pub no_tuple : (k : ℕ) → k < count → (ins k).tuple 0 ≡ None
  pub no_end : (k : ℕ) → k < count → (ins k).ends 0 ≡ false
  pub ends : (k c : ℕ) → k < count → (ins k).ends (suc c) ≡ (ends_now c && nat_eq k (turn c))
  pub tuples : (k c : ℕ) (r : Row) → k < count → (ins k).tuple (suc c) ≡ Some r → (ins k).ends (suc c) ≡ false → (a.ends c ≡ false) × (a.tuple c ≡ Some r)
  pub within : (c : ℕ) → ends_now c ≡ true → turn c < count
  -- the ends of one copy, any two ends, and an end and a tuple of one copy, are far enough apart
  pub in_one : (x y : ℕ) → ends_now x ≡ true → ends_now y ≡ true → x < y → turn x ≡ turn y → x + f.ge ≤ y
  pub any : (x y : ℕ) → ends_now x ≡ true → ends_now y ≡ true → x < y → x + (f.le + 1) ≤ y + f.a
  pub then_comes : (k x y : ℕ) (r : Row) → k < count → ends_now x ≡ true → turn x ≡ k → (ins k).tuple (suc y) ≡ Some r → (ins k).ends (suc y) ≡ false → x < y → x + f.ge ≤ y
  pub comes_then : (x y : ℕ) → Carries a x → a.ends x ≡ false → ends_now y ≡ true → x < y → x + f.gt ≤ y
  pub apart : (x y : ℕ) → Carries a x → Carries a y → x < y → x + f.gt ≤ y

-- a visit is a turn
pub turn_of : (ends_now : Bool) (turn k : ℕ) → (if ends_now then Some turn else None) ≡ Some k → (ends_now ≡ true) × (turn ≡ k)
turn_of true turn k h = (refl, some_same turn k h)
turn_of false turn k h = absurd (cc)

module _ (f : Figures) (count : ℕ) (who : Visits) (ends_now : ℕ → Bool) (turn : ℕ → ℕ) (a : Carried) (ins : ℕ → Carried) (t : TakeTurns f count who ends_now turn a ins) where
  visit : (c k : ℕ) → who (suc c) ≡ Some k → (ends_now c ≡ true) × (turn c ≡ k)
  visit c k h = turn_of (ends_now c) (turn c) k (sym (t.next c) ∙ h)

  no_visit : (k : ℕ) → who 0 ≡ Some k → ⊥
  no_visit k h = let z = t.first in absurd (cc)

  end_turn : (k c : ℕ) → k < count → (ins k).ends (suc c) ≡ true → (ends_now c ≡ true) × (k ≡ turn c)
  end_turn k c l h = let x = and_parts (ends_now c) (nat_eq k (turn c)) (sym (t.ends k c l) ∙ h) in (x.0, eqb-true k (turn c) x.1)

  nothing_first : (k : ℕ) → k < count → (e : Bool) → BeatOf (ins k) 0 e → ⊥
  nothing_first k l true (its_end h) = let z = t.no_end k l in cc (h, z)
  nothing_first k l false (its_tuple r n h) = let z = t.no_tuple k l in cc (h, z)

  copy_apart : (k x y : ℕ) → k < count → (e d : Bool) → BeatOf (ins k) (suc x) e → BeatOf (ins k) (suc y) d → x < y → suc x + gap f e ≤ suc y
  copy_apart k x y l true true (its_end p) (its_end q) m =
      let v = end_turn k x l p in let w = end_turn k y l q in
      let z = t.in_one x y v.0 w.0 m (sym v.1 ∙ w.1) in omega (arith, z)
  copy_apart k x y l true false (its_end p) (its_tuple r n q) m =
      let v = end_turn k x l p in
      let z = t.then_comes k x y r l v.0 (sym v.1) q n m in omega (arith, z)
  copy_apart k x y l false true (its_tuple r n p) (its_end q) m =
      let v = t.tuples k x r l p n in let w = end_turn k y l q in
      let z = t.comes_then x y (a_tuple r v.1) v.0 w.0 m in omega (arith, z)
  copy_apart k x y l false false (its_tuple r n p) (its_tuple s o q) m =
      let v = t.tuples k x r l p n in let w = t.tuples k y s l q o in
      let z = t.apart x y (a_tuple r v.1) (a_tuple s w.1) m in omega (arith, z)

  copy_spaced : (k u v : ℕ) → k < count → (e d : Bool) → BeatOf (ins k) u e → BeatOf (ins k) v d → u < v → u + gap f e ≤ v
  copy_spaced k zero v l e d p q m = absurd (nothing_first k l e p)
  copy_spaced k (suc x) zero l e d p q m = absurd (omega (arith, m))
  copy_spaced k (suc x) (suc y) l e d p q m = copy_apart k x y l e d p q (omega (arith, m))

  no_beat_first : (k : ℕ) → k < count → (o : Option Bool) → beats_of (ins k) 0 ≡ o → beats_of (ins k) 0 ≡ None
  no_beat_first k l None e = e
  no_beat_first k l (Some b) e = absurd (nothing_first k l b (beat_of (ins k) 0 b e))

  who_copy : (c k : ℕ) → who c ≡ Some k → k < count
  who_copy zero k h = absurd (no_visit k h)
  who_copy (suc c) k h = let x = visit c k h in subst (λ j. j < count) x.1 (t.within c x.0)

  who_ends : (c k : ℕ) → who c ≡ Some k → (ins k).ends c ≡ true
  who_ends zero k h = absurd (no_visit k h)
  who_ends (suc c) k h = let x = visit c k h in t.ends k c (who_copy (suc c) k h) ∙ and_from _ _ x.0 (eq-eqb k (turn c) (sym x.1))

  who_no_other : (c k : ℕ) → k < count → (ins k).ends c ≡ true → who c ≡ Some k
  who_no_other zero k l h = absurd (let z = t.no_end k l in cc (z, h))
  who_no_other (suc c) k l h =
      let x = end_turn k c l h in
      t.next c ∙ ap (λ (b : Bool). if b then Some (turn c) else None) x.0 ∙ ap (λ (j : ℕ). Some j) (sym x.1)

  who_apart : (c d k l : ℕ) → who c ≡ Some k → who d ≡ Some l → c < d → c + (f.le + 1) ≤ d + f.a
  who_apart zero d k l p q m = absurd (no_visit k p)
  who_apart (suc c) zero k l p q m = absurd (omega (arith, m))
  who_apart (suc c) (suc d) k l p q m = let z = t.any c d (visit c k p).0 (visit d l q).0 (omega (arith, m)) in omega (arith, z)

  pub turns_schedule : Schedules f count who ins
  turns_schedule = record {
    copies = who_copy;
    ends = who_ends;
    no_other = who_no_other;
    apart = who_apart;
    spaced = λ k l. record {
      first = no_beat_first k l (beats_of (ins k) 0) refl;
      apart = λ u v e d p q m. copy_spaced k u v l e d (beat_of (ins k) u e p) (beat_of (ins k) v d q) m;
    };
  }
