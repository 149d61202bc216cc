-- Where a wire serves with a choice of spill that is made elsewhere, its rows are dated with that choice.
use Rattle.std.proofs.Common.{◌≡◌, ℕ, Some, Bool, true, refl, sym, ap, ◌∙◌, subst}
use Rattle.gl_algebra.specs.declared.figures.Figures.{Figures}
use Rattle.gl_values.specs.Results.{Results}
use Rattle.gl_arrival.specs.Results.{Arrivals}
use Rattle.gl_wire.specs.Beats.{Beats}
use Rattle.gl_wire.specs.Serves.{HasEnd}
use Rattle.gl_wire.specs.Serving.{Serving}
use Rattle.gl_wire.specs.Spills.{Lines}
use Rattle.gl_wire.specs.Wire.{Carried, stream}
use Rattle.gl_turns.specs.Dated.{Dated, IsDated}
use Rattle.gl_turns.specs.Dates.{stream_at_beats}

-- a result with this choice of spill
abbrev pub WithSpill : (ℕ → Results) → (ℕ → Bool) → ℕ → Results
WithSpill m p t ys q = (m t ys q) × (q ≡ p t)

-- that of the rows that end for a beat
abbrev pub WithStream : (ℕ → Results) → (ℕ → Bool) → Figures → Carried → ℕ → Results
WithStream m p f b t ys q = (m t ys q) × (q ≡ p t) × ((e : ℕ) → HasEnd f b t e → ys ≡ stream b e)

module _ (f : Figures) (lines : Lines) (beats : Beats) (b : Carried) where
  -- a wire serves what is said of the rows that end for each beat
  abbrev pub serving_right : (m n : ℕ → Results) (s : Serving f m lines beats b) → ((t e : ℕ) → beats t ≡ Some true → HasEnd f b t e → n t (stream b e) (s.spill t)) → Serving f n lines beats b
  serving_right m n s right = record {
    fits = s.fits;
    spill = s.spill;
    right = right;
    low = s.low;
    told = s.told;
    so = s.so;
    late = s.late;
  }

  -- it serves with its own choice of spill
  pub with_spill : (m : ℕ → Results) (s : Serving f m lines beats b) → Serving f (WithSpill m s.spill) lines beats b
  with_spill m s = serving_right m (WithSpill m s.spill) s (λ t e is here. (s.right t e is here, refl))

  pub with_stream : (m : ℕ → Results) (s : Serving f m lines beats b) → Serving f (WithStream m s.spill f b) lines beats b
  with_stream m s =
      serving_right m (WithStream m s.spill f b) s
      (λ t e is here. let o = s.fits.end t is in (s.right t e is here, refl, λ d there. ap (stream b) (o.only e here ∙ sym (o.only d there))))

  -- the results alone
  abbrev pub results_alone : (m : ℕ → Results) (p : ℕ → Bool) → Serving f (WithSpill m p) lines beats b → Serving f m lines beats b
  results_alone m p s = serving_right (WithSpill m p) m s (λ t e is here. (s.right t e is here).0)

  -- rows that are dated with the choice are so with the wire's own
  pub dated_alone : (m : ℕ → Results) (p : ℕ → Bool) (s : Serving f (WithSpill m p) lines beats b) (arrivals : ℕ → Arrivals) (g : ℕ → ℕ → ℕ) → Dated f arrivals g p beats b
      → Dated f arrivals g s.spill beats b
  dated_alone m p s arrivals g d t e is here =
      subst (λ (q : Bool). IsDated (arrivals t) (g t) q (stream_at_beats f.a beats b e)) (sym (s.right t e is here).1) (d t e is here)
