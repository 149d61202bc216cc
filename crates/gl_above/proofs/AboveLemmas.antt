-- Rows that are taken one by one behind a wire that serves one stream serve it too.
use Rattle.std.proofs.Common.{◌≡◌, ℕ, ◌+◌, ◌-◌, ◌<◌, ◌≤◌, Option, Some, None, Bool, true, false, refl, sym, ap, ◌∙◌, arith, inl, inr}
use Rattle.std.specs.Prelude.{option_and_then}
use Rattle.std.proofs.lemmas.Bool.{cases_lt}
use Rattle.gl_values.specs.Results.{Row, Results}
use Rattle.gl_algebra.specs.declared.figures.Figures.{Figures}
use Rattle.gl_algebra.specs.FigureTable.{delayed, input_figures}
use Rattle.gl_algebra.specs.Results.{IsPlanResult}
use Rattle.gl_wire.specs.Beats.{Spaced, beats_of, gap}
use Rattle.gl_wire.specs.Once.{ServingOnce}
use Rattle.gl_wire.specs.Serves.{HasEnd, Served}
use Rattle.gl_wire.specs.Serving.{through}
use Rattle.gl_wire.specs.Shapes.{Mapped, Steady}
use Rattle.gl_wire.specs.Spills.{Lines}
use Rattle.gl_wire.specs.Wire.{Carried, stream}
use Rattle.gl_wire.proofs.ClosingLemmas.{own_fits}
use Rattle.gl_wire.proofs.SteadyLemmas.{steady_serves}
use Rattle.gl_above.specs.Above.{RowsServeOnce}

module _ (f : Figures) (means : Results) (m : ℕ) (step : Row → Option Row) (lines : Lines) (last : ℕ) (a b : Carried) (first : beats_of a 0 ≡ None)
    (st : Steady m step a b) (s : ServingOnce f means lines last a) where
  -- an end that comes out came in
  earlier : (c : ℕ) → b.ends c ≡ true → (i : ℕ) × (c ≡ i + m) × (a.ends i ≡ true)
  earlier c h = elim (cases_lt c m) [
    | inl l ↦ absurd (let z = st.no_end c l in cc (z, h))
    | inr l ↦ (let e : c ≡ (c - m) + m = omega (arith, l) in (c - m, e, sym (st.ends (c - m)) ∙ ap b.ends (sym e) ∙ h))
  ]

  none_behind : (c : ℕ) → s.ended + m < c → b.tuple c ≡ None
  none_behind c l =
      let e : c ≡ (c - m) + m = omega (arith, l) in
      ap b.tuple e ∙ st.tuples (c - m) ∙ ap (option_and_then step) (s.none_later (c - m) (omega (arith, l)))

  -- what the wire carries are beats of its own, which a stream's figures fit
  close : (t u : ℕ) (e : Bool) → t < u → t + gap (delayed m input_figures) e ≤ u
  close t u true l = omega (arith, l)
  close t u false l = omega (arith, l)

  spaced : Spaced (delayed m input_figures) (beats_of a)
  spaced = record { first = first; apart = λ t u e d p q l. close t u e l }

  served : Served input_figures (delayed m input_figures) (λ t. Mapped step) (beats_of a) a b
  served = steady_serves m step a b input_figures st (beats_of a) spaced (own_fits a)

  end_beat : beats_of a s.ended ≡ Some true
  end_beat = let e = s.ends in rw e refl

  came_in : HasEnd input_figures a s.ended s.ended
  came_in = record { is = s.ends; low = omega arith; high = omega arith }

  goes_out : HasEnd (delayed m input_figures) b s.ended (s.ended + m)
  goes_out = record { is = st.ends s.ended ∙ s.ends; low = omega arith; high = omega arith }

  pub steady_once : ServingOnce (delayed m f) (through means (Mapped step)) lines last b
  steady_once = record {
    ended = s.ended + m;
    low = omega (arith, s.low);
    high = omega (arith, s.high);
    ends = st.ends s.ended ∙ s.ends;
    once = λ c h. let x = earlier c h in x.1 ∙ ap (λ i. i + m) (s.once x.0 x.2);
    none_later = none_behind;
    spill = s.spill;
    right = (stream a s.ended, s.right, served.results s.ended s.ended (s.ended + m) end_beat came_in goes_out);
    unpassed = s.unpassed;
    told = s.told;
    so = s.so;
    late = λ c h. let z = s.late c h in omega (arith, z);
  }

pub rows_serve_once : RowsServeOnce
rows_serve_once nodes id inputs f m step lines last a b first st s = steady_once f (IsPlanResult nodes id inputs) m step lines last a b first st s

-- figures whose interval has the other's in it
pub once_within : (f g : Figures) (means : Results) (lines : Lines) (last : ℕ) (b : Carried) → g.a ≤ f.a → f.le ≤ g.le → ServingOnce f means lines last b
    → ServingOnce g means lines last b
once_within f g means lines last b sooner later s = record {
  ended = s.ended;
  low = omega (arith, s.low, sooner);
  high = omega (arith, s.high, later);
  ends = s.ends;
  once = s.once;
  none_later = s.none_later;
  spill = s.spill;
  right = s.right;
  unpassed = s.unpassed;
  told = s.told;
  so = s.so;
  late = s.late;
}
