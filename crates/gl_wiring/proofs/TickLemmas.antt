-- Ticks and times beside wires whose tuples and ends come in the same cycles, and results beside them.
use Rattle.std.proofs.Common.{◌≡◌, ℕ, zero, suc, List, ◌++◌, Option, Some, None, Bool, true, false, refl, ap, ◌∙◌, subst, arith, inl, inr}
use Rattle.std.specs.Prelude.{is_some}
use Rattle.std.proofs.lemmas.Bool.{or_cases, or_from, or_right}
use Rattle.gl_bits.proofs.Bools.{same_when}
use Rattle.gl_values.specs.Results.{Row, Results}
use Rattle.gl_algebra.specs.declared.figures.Figures.{Figures}
use Rattle.gl_algebra.specs.FigureTable.{input_figures}
use Rattle.gl_wire.specs.Beats.{Beats, Ends}
use Rattle.gl_wire.specs.Once.{ServingOnce}
use Rattle.gl_wire.specs.Serves.{Fits}
use Rattle.gl_wire.specs.Serving.{Serving}
use Rattle.gl_wire.specs.Spills.{Lines, both_lines}
use Rattle.gl_wire.specs.Ticks.{ticks_at, ticks_before, times_at, times_before, times_of}
use Rattle.gl_wire.specs.Wire.{Carried, stream}

-- a stream ends with each beat that has the end, in its cycle, and only there
beat_of_end : (beats : Beats) (a : Carried) → Fits input_figures beats a → (c : ℕ) → a.ends c ≡ true → beats c ≡ Some true
beat_of_end beats a fits c h =
    let x = fits.ends c h in
    let low = x.low in let high = x.high in
    let same : x.beat ≡ c = omega arith in
    subst (λ (i : ℕ). beats i ≡ Some true) same x.is

pub end_of_beat : (beats : Beats) (a : Carried) → Fits input_figures beats a → (c : ℕ) → beats c ≡ Some true → a.ends c ≡ true
end_of_beat beats a fits c h =
    let x = fits.end c h in
    let low = x.here.low in let high = x.here.high in
    let same : x.at ≡ c = omega arith in
    subst (λ (i : ℕ). a.ends i ≡ true) same x.here.is

pub same_ends : (beats : Beats) (a b : Carried) → Fits input_figures beats a → Fits input_figures beats b → (c : ℕ) → a.ends c ≡ b.ends c
same_ends beats a b fa fb c =
    same_when (a.ends c) (b.ends c) (λ h. end_of_beat beats b fb c (beat_of_end beats a fa c h)) (λ h. end_of_beat beats a fa c (beat_of_end beats b fb c h))

module _ (tick : ℕ → Bool) (a b : Carried) (ends : (c : ℕ) → a.ends c ≡ b.ends c) where
  same_before : (c : ℕ) → ticks_before tick a c ≡ ticks_before tick b c
  same_before zero = refl
  same_before (suc c) = rw (ends c, same_before c) refl

  pub same_ticks : (c : ℕ) → ticks_at tick a c ≡ ticks_at tick b c
  same_ticks c = rw (same_before c) refl

  module _ (tuples : (c : ℕ) → is_some (a.tuple c) ≡ is_some (b.tuple c)) where
    one_time : (o p : Option Row) (time : ℕ) → is_some o ≡ is_some p → times_of o time ≡ times_of p time
    one_time None None time h = refl
    one_time None (Some r) time h = absurd (cc)
    one_time (Some r) None time h = absurd (cc)
    one_time (Some r) (Some q) time h = refl

    own_time : (c : ℕ) → times_of (a.tuple c) (ticks_at tick a c) ≡ times_of (b.tuple c) (ticks_at tick b c)
    own_time c = one_time (a.tuple c) (b.tuple c) (ticks_at tick a c) (tuples c) ∙ ap (times_of (b.tuple c)) (same_ticks c)

    same_times_before : (c : ℕ) → times_before tick a c ≡ times_before tick b c
    same_times_before zero = refl
    same_times_before (suc c) = rw (ends c, same_times_before c, own_time c) refl

    pub same_times : (c : ℕ) → times_at tick a c ≡ times_at tick b c
    same_times c =
        ap (λ (l : List ℕ). l ++ times_of (a.tuple c) (ticks_at tick a c)) (same_times_before c)
        ∙ ap (λ (l : List ℕ). times_before tick b c ++ l) (own_time c)

-- results at each beat, behind a wire that never spills, with the lines of both
pub serving_beside : (f g : Figures) (m n o : ℕ → Results) (la lb : Lines) (beats : Beats) (a b : Carried) → (s : Serving f m la beats a)
    → ((t : ℕ) → beats t ≡ Some true → s.spill t ≡ false) → Serving g n lb beats b
    → ((t : ℕ) (ys : List Row) (p : Bool) → beats t ≡ Some true → n t ys p → o t ys p) → Serving g o (both_lines la lb) beats b
serving_beside f g m n o la lb beats a b s still w h = record {
  fits = w.fits;
  spill = w.spill;
  right = λ t e p q. h t (stream b e) (w.spill t) p (w.right t e p q);
  low = λ c. or_from (la.passed c) (lb.passed c) (s.low c) (w.low c);
  told = λ en t p q. let x = w.told en t p q in (x.0, or_right (la.further x.0) (lb.further x.0) x.1);
  so = λ en c q. elim (or_cases (la.further c) (lb.further c) q) [
    | inl p ↦ absurd (let t = s.so en c p in let x = still t.0 t.1 in let y = t.2 in cc)
    | inr p ↦ w.so en c p
  ];
  late = λ en c q. elim (or_cases (la.further c) (lb.further c) q) [
    | inl p ↦ absurd (let t = s.so en c p in let x = still t.0 t.1 in let y = t.2 in cc)
    | inr p ↦ w.late en c p
  ];
}

-- and over one stream
pub once_beside : (f g : Figures) (m : ℕ → Results) (n o : Results) (la lb : Lines) (beats : Beats) (last : ℕ) (a b : Carried) → (s : Serving f m la beats a)
    → ((t : ℕ) → beats t ≡ Some true → s.spill t ≡ false) → Ends beats → ServingOnce g n lb last b → ((ys : List Row) (p : Bool) → n ys p → o ys p)
    → ServingOnce g o (both_lines la lb) last b
once_beside f g m n o la lb beats last a b s still en w h = record {
  ended = w.ended;
  low = w.low;
  high = w.high;
  ends = w.ends;
  once = w.once;
  none_later = w.none_later;
  spill = w.spill;
  right = h (stream b w.ended) w.spill w.right;
  unpassed = λ c. or_from (la.passed c) (lb.passed c) (s.low c) (w.unpassed c);
  told = λ q. let x = w.told q in (x.0, or_right (la.further x.0) (lb.further x.0) x.1);
  so = λ c q. elim (or_cases (la.further c) (lb.further c) q) [
    | inl p ↦ absurd (let t = s.so en c p in let x = still t.0 t.1 in let y = t.2 in cc)
    | inr p ↦ w.so c p
  ];
  late = λ c q. elim (or_cases (la.further c) (lb.further c) q) [
    | inl p ↦ absurd (let t = s.so en c p in let x = still t.0 t.1 in let y = t.2 in cc)
    | inr p ↦ w.late c p
  ];
}
