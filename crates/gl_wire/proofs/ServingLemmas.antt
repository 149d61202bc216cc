-- Wires that serve over fixed beats: leaves, and what blocks behind such wires give.
use Rattle.std.proofs.Common.{◌≡◌, ℕ, ◌+◌, ◌≤◌, List, Some, Bool, true, false, ◌||◌, refl, sym, ap, ◌∙◌, subst, arith, inl, inr}
use Rattle.std.proofs.lemmas.Bool.{or_cases, or_left, or_right, or_from}
use Rattle.gl_algebra.specs.declared.figures.Figures.{Figures}
use Rattle.gl_algebra.specs.FigureTable.{delayed, input_figures}
use Rattle.gl_values.specs.Results.{Row, Results, IsInput}
use Rattle.gl_wire.specs.Beats.{Beats}
use Rattle.gl_wire.specs.Wire.{Carried, stream}
use Rattle.gl_wire.specs.Serves.{Fits, Meaning, Served}
use Rattle.gl_wire.specs.Spills.{Relation, Relation2, Lines, SameLines, ServedWithLines, ServedWithLines2, both_lines}
use Rattle.gl_wire.specs.Serving.{Serving, through, through_both, through_lines}
use Rattle.gl_wire.specs.Shapes.{IsDelayed}
use Rattle.gl_wire.proofs.DelayLemmas.{delayed_fits, has_end_before, stream_delayed}

-- the same with another word for the results
pub serving_as : (f : Figures) (m n : ℕ → Results) (lines : Lines) (beats : Beats) (b : Carried) → ((t : ℕ) (ys : List Row) (p : Bool) → m t ys p → n t ys p) → Serving f m lines beats b → Serving f n lines beats b
serving_as f m n lines beats b h s = record {
  fits = s.fits;
  spill = s.spill;
  right = λ t e p q. h t (stream b e) (s.spill t) (s.right t e p q);
  low = s.low;
  told = s.told;
  so = s.so;
  late = s.late;
}

-- and with lines that are the same
pub serving_lines : (f : Figures) (m : ℕ → Results) (p q : Lines) (beats : Beats) (b : Carried) → SameLines p q → Serving f m q beats b → Serving f m p beats b
serving_lines f m p q beats b same s = record {
  fits = s.fits;
  spill = s.spill;
  right = s.right;
  low = λ c. same.passed c ∙ s.low c;
  told = λ en t h e. let x = s.told en t h e in (x.0, same.further x.0 ∙ x.1);
  so = λ en c e. s.so en c (sym (same.further c) ∙ e);
  late = λ en c e. s.late en c (sym (same.further c) ∙ e);
}

-- each end that comes out is that of a beat, and what came out since the end before is a result of it
pub each_end : (f : Figures) (m : ℕ → Results) (lines : Lines) (beats : Beats) (b : Carried) → (s : Serving f m lines beats b) → (e : ℕ) → b.ends e ≡ true → (t : ℕ) × (beats t ≡ Some true) × m t (stream b e) (s.spill t)
each_end f m lines beats b s e h = let q = s.fits.ends e h in (q.beat, q.is, s.right q.beat e q.is (record { is = h; low = q.low; high = q.high }))

-- a leaf's wire serves its own streams
pub leaf_serving : (lines : Lines) (beats : Beats) (a : Carried) → Fits input_figures beats a → ((c : ℕ) → lines.passed c ≡ false) → ((c : ℕ) → lines.further c ≡ false) → Serving input_figures (λ t. IsInput (stream a t)) lines beats a
leaf_serving lines beats a fits low none = record {
  fits = fits;
  spill = λ t. false;
  right = λ t e p q. let l = q.low in let h = q.high in let same : e ≡ t = omega arith in record { rows = ap (stream a) same; kept = refl };
  low = low;
  told = λ en t p q. absurd (cc);
  so = λ en c q. let x = none c in absurd (cc);
  late = λ en c q. let x = none c in absurd (cc);
}

-- an end that comes in is no later than one that comes out
later_end : (f g : Figures) (means : ℕ → Meaning) (beats : Beats) (a b : Carried) → Fits f beats a → Served f g means beats a b → (c e : ℕ) → c ≤ e → a.ends e ≡ true → (i : ℕ) × (c ≤ i) × (b.ends i ≡ true)
later_end f g means beats a b fits w c e l is =
    let i = fits.ends e is in
    let o = w.fits.end i.beat i.is in
    let l' = w.later i.beat e o.at i.is (record { is = is; low = i.low; high = i.high }) o.here in
    (o.at, omega (arith, l, l'), o.here.is)

-- a block without lines behind a wire
pub serving_through : (f g : Figures) (m : ℕ → Results) (n : Meaning) (lines : Lines) (beats : Beats) (a b : Carried) → Serving f m lines beats a → Served f g (λ t. n) beats a b → Serving g (λ t. through (m t) n) lines beats b
serving_through f g m n lines beats a b s w = record {
  fits = w.fits;
  spill = s.spill;
  right = λ t e p q. let o = s.fits.end t p in (stream a o.at, s.right t o.at p o.here, w.results t o.at e p o.here q);
  low = s.low;
  told = s.told;
  so = s.so;
  late = λ en c q. let x = s.late en c q in later_end f g (λ t. n) beats a b s.fits w c x.0 x.1 x.2;
}

-- a wire some cycles behind a wire
pub delayed_serving : (m : ℕ) (a b : Carried) → IsDelayed m a b → (f : Figures) (means : ℕ → Results) (lines : Lines) (beats : Beats) → Serving f means lines beats a → Serving (delayed m f) means lines beats b
delayed_serving m a b d f means lines beats s = record {
  fits = delayed_fits m a b d f beats s.fits;
  spill = s.spill;
  right = λ t e p q. let y = has_end_before m a b d f t e q in
      subst (λ ys. means t ys (s.spill t)) (sym (ap (stream b) y.1 ∙ stream_delayed m a b d y.0)) (s.right t y.0 p y.2);
  low = s.low;
  told = s.told;
  so = s.so;
  late = λ en c h. let z = s.late en c h in (z.0 + m, (let l = z.1 in omega (arith, l)), d.ends z.0 ∙ z.2);
}

-- a block with lines behind a wire
pub serving_then : (f g : Figures) (m : ℕ → Results) (n : Relation) (la lb : Lines) (beats : Beats) (a b : Carried) → Serving f m la beats a → ServedWithLines f g n lb beats a b → Serving g (λ t. through_lines (m t) n) (both_lines la lb) beats b
serving_then f g m n la lb beats a b s w = record {
  fits = w.served.fits;
  spill = λ t. s.spill t || w.spill t;
  right = λ t e p q. let o = s.fits.end t p in (stream a o.at, s.spill t, w.spill t, s.right t o.at p o.here, w.served.results t o.at e p o.here q, refl);
  low = λ c. or_from (la.passed c) (lb.passed c) (s.low c) (w.low c);
  told = λ en t h q. elim (or_cases (s.spill t) (w.spill t) q) [
    | inl p ↦ (let x = s.told en t h p in (x.0, or_left (la.further x.0) (lb.further x.0) x.1))
    | inr p ↦ (let x = w.told en t h p in (x.0, or_right (la.further x.0) (lb.further x.0) x.1))
  ];
  so = λ en c q. elim (or_cases (la.further c) (lb.further c) q) [
    | inl p ↦ (let t = s.so en c p in (t.0, t.1, or_left (s.spill t.0) (w.spill t.0) t.2))
    | inr p ↦ (let t = w.so en c p in (t.0, t.1, or_right (s.spill t.0) (w.spill t.0) t.2))
  ];
  late = λ en c q. elim (or_cases (la.further c) (lb.further c) q) [
    | inl p ↦ (let x = s.late en c p in later_end f g (λ t xs ys. n xs ys (w.spill t)) beats a b s.fits w.served c x.0 x.1 x.2)
    | inr p ↦ w.late en c p
  ];
}

-- a block of two inputs behind two wires
pub serving_then2 : (f g h : Figures) (m m' : ℕ → Results) (n : Relation2) (la lb lo : Lines) (beats : Beats) (a b o : Carried) → Serving f m la beats a → Serving g m' lb beats b → ServedWithLines2 f g h n lo beats a b o → Serving h (λ t. through_both (m t) (m' t) n) (both_lines (both_lines la lb) lo) beats o
serving_then2 f g h m m' n la lb lo beats a b o s s' w = record {
  fits = w.served.fits;
  spill = λ t. (s.spill t || s'.spill t) || w.spill t;
  right = λ t e p q. let i = s.fits.end t p in let j = s'.fits.end t p in
      (stream a i.at, stream b j.at, s.spill t, s'.spill t, w.spill t, s.right t i.at p i.here, s'.right t j.at p j.here, w.served.results t i.at j.at e p i.here j.here q, refl);
  low = λ c. or_from (la.passed c || lb.passed c) (lo.passed c) (or_from (la.passed c) (lb.passed c) (s.low c) (s'.low c)) (w.low c);
  told = λ en t h q. elim (or_cases (s.spill t || s'.spill t) (w.spill t) q) [
    | inl q' ↦ elim (or_cases (s.spill t) (s'.spill t) q') [
      | inl p ↦ (let x = s.told en t h p in (x.0, or_left (la.further x.0 || lb.further x.0) (lo.further x.0) (or_left (la.further x.0) (lb.further x.0) x.1)))
      | inr p ↦ (let x = s'.told en t h p in (x.0, or_left (la.further x.0 || lb.further x.0) (lo.further x.0) (or_right (la.further x.0) (lb.further x.0) x.1)))
    ]
    | inr p ↦ (let x = w.told en t h p in (x.0, or_right (la.further x.0 || lb.further x.0) (lo.further x.0) x.1))
  ];
  so = λ en c q. elim (or_cases (la.further c || lb.further c) (lo.further c) q) [
    | inl q' ↦ elim (or_cases (la.further c) (lb.further c) q') [
      | inl p ↦ (let t = s.so en c p in (t.0, t.1, or_left (s.spill t.0 || s'.spill t.0) (w.spill t.0) (or_left (s.spill t.0) (s'.spill t.0) t.2)))
      | inr p ↦ (let t = s'.so en c p in (t.0, t.1, or_left (s.spill t.0 || s'.spill t.0) (w.spill t.0) (or_right (s.spill t.0) (s'.spill t.0) t.2)))
    ]
    | inr p ↦ (let t = w.so en c p in (t.0, t.1, or_right (s.spill t.0 || s'.spill t.0) (w.spill t.0) t.2))
  ];
  late = λ en c q. elim (or_cases (la.further c || lb.further c) (lo.further c) q) [
    | inl q' ↦ elim (or_cases (la.further c) (lb.further c) q') [
      | inl p ↦ (let x = s.late en c p in let i = s.fits.ends x.0 x.2 in let z = w.served.fits.end i.beat i.is in
          let l = w.served.later i.beat x.0 z.at i.is (record { is = x.2; low = i.low; high = i.high }) z.here in (z.at, omega (arith, x.1, l), z.here.is))
      | inr p ↦ (let x = s'.late en c p in let i = s'.fits.ends x.0 x.2 in let z = w.served.fits.end i.beat i.is in
          let l = w.served.later2 i.beat x.0 z.at i.is (record { is = x.2; low = i.low; high = i.high }) z.here in (z.at, omega (arith, x.1, l), z.here.is))
    ]
    | inr p ↦ w.late en c p
  ];
}
