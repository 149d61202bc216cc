-- A wire with late ends, over one stream.
use Rattle.std.proofs.Common.{◌≡◌, ℕ, ◌+◌, ◌-◌, ◌<◌, ◌≤◌, [], ◌++◌, Option, Some, None, Bool, true, false, refl, sym, ap, ◌∙◌, subst, arith, inl, inr, ◌⊎◌}
use Rattle.std.specs.Prelude.{option_to_list, if◌then◌else◌}
use Rattle.std.proofs.lemmas.Bool.{cases_lt}
use Rattle.std.proofs.lemmas.List.{append-nil}
use Rattle.gl_values.specs.Results.{Row}
use Rattle.gl_wire.specs.Apart.{Carries, CarriesApart, a_tuple, an_end}
use Rattle.gl_wire.specs.Wire.{Carried, pending, stream, rows}
use Rattle.gl_wire.proofs.RowsLemmas.{pending-rows, rows-split, rows-same, rows-quiet}
use Rattle.gl_spare.specs.LateEnds.{IsLate}
use Rattle.gl_spare.specs.Sources.{OneSource}

module _ (gap shift stride u : ℕ) (a b : Carried) (late : IsLate shift a b) (wide : stride ≤ gap + shift)
    (is : a.ends u ≡ true) (only : (c : ℕ) → a.ends c ≡ true → c ≡ u) (until : (c : ℕ) → Carries a c → c ≤ u) (apart : CarriesApart gap a) where
  late_end : (c : ℕ) → b.ends c ≡ true → c ≡ u + shift
  late_end c h = elim (cases_lt c shift) [
    | inl l ↦ absurd (let z = late.no_end c l in cc (z, h))
    | inr l ↦
        let e : c - shift + shift ≡ c = omega (arith, l) in
        let z : a.ends (c - shift) ≡ true = sym (late.ends (c - shift)) ∙ ap b.ends e ∙ h in
        omega (arith, only (c - shift) z, e)
  ]

  not_yet : (c : ℕ) → c < u + shift → b.ends c ≡ false
  not_yet c l = by (b.ends c) refl
    where
      by : (x : Bool) → b.ends c ≡ x → b.ends c ≡ false
      by false p = p
      by true p = absurd (omega (arith, late_end c p, l))

  no_end : (c : ℕ) → c < u → a.ends c ≡ false
  no_end c l = by (a.ends c) refl
    where
      by : (x : Bool) → a.ends c ≡ x → a.ends c ≡ false
      by false p = p
      by true p = absurd (omega (arith, only c p, l))

  -- what comes late is the end, and all else came before it
  carried_late : (c : ℕ) → Carries b c → (c ≡ u + shift) ⊎ ((c < u) × Carries a c)
  carried_late c (an_end h) = inl (late_end c h)
  carried_late c (a_tuple r h) = by (b.ends c) refl (a.ends c) refl
    where
      by : (x : Bool) → b.ends c ≡ x → (y : Bool) → a.ends c ≡ y → (c ≡ u + shift) ⊎ ((c < u) × Carries a c)
      by true p y q = inl (late_end c p)
      by false p true q = absurd (let z : b.tuple c ≡ None = late.alone c p ∙ ap (λ (e : Bool). if e then None else a.tuple c) q in cc (z, h))
      by false p false q =
          let z : a.tuple c ≡ Some r = sym (late.alone c p ∙ ap (λ (e : Bool). if e then None else a.tuple c) q) ∙ h in
          let low = until c (a_tuple r z) in
          inr (elim (cases_lt c u) [ inl l ↦ l | inr l ↦ absurd (let e : c ≡ u = omega (arith, l, low) in let f = ap a.ends e in cc (f, is, q)) ], a_tuple r z)

  pub one_source : OneSource gap stride b (u + shift)
  one_source = record {
    is = late.ends u ∙ is;
    only = late_end;
    until = λ c k. until_late c (carried_late c k);
    apart = λ c d k j l. apart_late c d (carried_late c k) (carried_late d j) l;
    before = λ c k l. before_late c (carried_late c k) l;
  }
    where
      until_late : (c : ℕ) → ((c ≡ u + shift) ⊎ ((c < u) × Carries a c)) → c ≤ u + shift
      until_late c (inl e) = omega (arith, e)
      until_late c (inr x) = omega (arith, x.0)

      apart_late : (c d : ℕ) → ((c ≡ u + shift) ⊎ ((c < u) × Carries a c)) → ((d ≡ u + shift) ⊎ ((d < u) × Carries a d)) → c < d → c + gap ≤ d
      apart_late c d (inl e) (inl f) l = absurd (omega (arith, e, f, l))
      apart_late c d (inl e) (inr y) l = absurd (omega (arith, e, y.0, l))
      apart_late c d (inr x) (inl f) l = let z = apart c u x.1 (an_end is) x.0 in omega (arith, z, f)
      apart_late c d (inr x) (inr y) l = apart c d x.1 y.1 l

      before_late : (c : ℕ) → ((c ≡ u + shift) ⊎ ((c < u) × Carries a c)) → c < u + shift → c + stride ≤ u + shift
      before_late c (inl e) l = absurd (omega (arith, e, l))
      before_late c (inr x) l = let z = apart c u x.1 (an_end is) x.0 in omega (arith, z, wide)

  same_before : (c : ℕ) → c < u → b.tuple c ≡ a.tuple c
  same_before c l = late.alone c (not_yet c (omega (arith, l))) ∙ ap (λ (e : Bool). if e then None else a.tuple c) (no_end c l)

  none_between : (c : ℕ) → u ≤ c → c < u + shift → b.tuple c ≡ None
  none_between c l m = late.alone c (not_yet c m) ∙ by (a.ends c) refl (a.tuple c) refl
    where
      by : (x : Bool) → a.ends c ≡ x → (o : Option Row) → a.tuple c ≡ o → (if x then None else a.tuple c) ≡ None
      by true p o q = refl
      by false p None q = q
      by false p (Some r) q = absurd (let e : c ≡ u = omega (arith, l, until c (a_tuple r q)) in let f = ap a.ends e in cc (f, is, p))

  -- the stream is the same
  pub late_stream : stream b (u + shift) ≡ stream a u
  late_stream =
      let n : 0 + (u + shift) ≡ u + shift = omega arith in
      let m : 0 + u ≡ u = omega arith in
      let all : pending b (u + shift) ≡ rows b 0 (u + shift) = subst (λ i. pending b i ≡ rows b 0 (u + shift)) n (pending-rows b (u + shift) 0 (λ c l q. not_yet c (omega (arith, q)))) in
      let own : pending a u ≡ rows a 0 u = subst (λ i. pending a i ≡ rows a 0 u) m (pending-rows a u 0 (λ c l q. no_end c (omega (arith, q)))) in
      let same : rows b 0 u ≡ rows a 0 u = rows-same b a u 0 (λ c l q. same_before c (omega (arith, q))) in
      let rest : rows b (0 + u) shift ≡ [] = rows-quiet b shift (0 + u) (λ c l q. none_between c (omega (arith, l)) (omega (arith, q))) in
      ap (λ o. pending b (u + shift) ++ option_to_list o) (late.with_end u is)
      ∙ ap (λ xs. xs ++ option_to_list (a.tuple u)) (all ∙ rows-split b u shift 0 ∙ ap (λ xs. rows b 0 u ++ xs) rest ∙ append-nil (rows b 0 u) ∙ same ∙ sym own)
