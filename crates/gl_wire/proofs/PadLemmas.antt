-- A block of two inputs, each of them some cycles behind another wire.
use Rattle.std.proofs.Common.{ℕ, ◌+◌, List, arith, subst, ◌∙◌}
use Rattle.gl_values.specs.Results.{Row}
use Rattle.gl_algebra.specs.declared.figures.Figures.{Figures}
use Rattle.gl_algebra.specs.FigureTable.{delayed}
use Rattle.gl_wire.specs.Beats.{Beats}
use Rattle.gl_wire.specs.Serves.{Fits, HasEnd}
use Rattle.gl_wire.specs.Shapes.{IsDelayed}
use Rattle.gl_wire.specs.Spills.{Condition, Lines, Relation2, ServedWithLines2, ServesWhen2}
use Rattle.gl_wire.specs.Wire.{Carried, stream}
use Rattle.gl_wire.proofs.DelayLemmas.{delayed_fits, stream_delayed}

end_later : (m : ℕ) (s b : Carried) → IsDelayed m s b → (f : Figures) (t c : ℕ) → HasEnd f s t c → HasEnd (delayed m f) b t (c + m)
end_later m s b d f t c h = record { is = d.ends c ∙ h.is; low = (let l = h.low in omega arith); high = (let l = h.high in omega arith) }

-- what a block serves of two padded wires it serves of the wires before the pads, where their condition gives that of the padded ones
pub padded_when : (m n : ℕ) (p q h : Figures) (means : Relation2) (lines : Lines) (Cond Padded : Condition) (a a' b b' o : Carried) → IsDelayed m a a' → IsDelayed n b b'
    → ((beats : Beats) → Fits p beats a → Fits q beats b → Cond beats a b → Padded beats a' b')
    → ServesWhen2 Padded (delayed m p) (delayed n q) h means lines a' b' o → ServesWhen2 Cond p q h means lines a b o
padded_when m n p q h means lines Cond Padded a a' b b' o d d' cond serves beats spaced fa fb c = after (serves beats spaced (delayed_fits m a a' d p beats fa) (delayed_fits n b b' d' q beats fb) (cond beats fa fb c))
  where
    after : ServedWithLines2 (delayed m p) (delayed n q) h means lines beats a' b' o → ServedWithLines2 p q h means lines beats a b o
    after w = record {
      spill = w.spill;
      served = record {
        fits = w.served.fits;
        results = λ t i j e x hi hj he.
            subst (λ (xs : List Row). means xs (stream b j) (stream o e) (w.spill t)) (stream_delayed m a a' d i)
            (subst (λ (ys : List Row). means (stream a' (i + m)) ys (stream o e) (w.spill t)) (stream_delayed n b b' d' j)
            (w.served.results t (i + m) (j + n) e x (end_later m a a' d p t i hi) (end_later n b b' d' q t j hj) he));
        later = λ t i e x hi he. let l = w.served.later t (i + m) e x (end_later m a a' d p t i hi) he in omega arith;
        later2 = λ t j e x hj he. let l = w.served.later2 t (j + n) e x (end_later n b b' d' q t j hj) he in omega arith;
      };
      low = w.low;
      told = w.told;
      so = w.so;
      late = w.late;
    }
