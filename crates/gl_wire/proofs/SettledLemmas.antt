-- Wires on which only beats with the end cause something fit narrower figures.
use Rattle.std.proofs.Common.{◌≡◌, ℕ, zero, suc, ◌+◌, ◌-◌, ◌≤◌, length, Some, Bool, true, false, refl, sym, subst, arith}
use Rattle.gl_algebra.specs.declared.figures.Figures.{Figures}
use Rattle.gl_algebra.specs.FigureTable.{IsSound, settled, last_of}
use Rattle.gl_wire.specs.Beats.{Beats, last, most, Spaced}
use Rattle.gl_wire.specs.Wire.{Carried, rows}
use Rattle.gl_wire.specs.Serves.{Fits, Serves, Meaning}
use Rattle.gl_wire.proofs.DelayLemmas.{spaced_closer}
use Rattle.gl_wire.proofs.ClosingLemmas.{closing_caused}
use Rattle.gl_wire.proofs.RowsLemmas.{rows_fewer}

-- where beats without the end cause no tuple, their interval may be taken as one cycle
closed_fits : (f : Figures) (beats : Beats) (s : Carried) → Fits f beats s → Spaced f beats → f.nt ≡ 0 → IsSound f → Fits (record f { lt = f.a }) beats s
closed_fits f beats s fits spaced closing sound = record {
  tuples = λ c r h. let q = closing_caused f beats s fits spaced closing sound c r h in record { beat = q.beat; end = true; is = q.is; low = q.low; high = q.high };
  ends = λ c h. let q = fits.ends c h in record { beat = q.beat; is = q.is; low = q.low; high = q.high };
  few = few;
  end = λ t h. let o = fits.end t h in record {
    at = o.at;
    here = record { is = o.here.is; low = o.here.low; high = o.here.high };
    only = λ c e. o.only c (record { is = e.is; low = e.low; high = e.high });
    after = o.after;
  };
}
  where
    few : (t : ℕ) (e : Bool) → beats t ≡ Some e → length (rows s (t + f.a) (suc (last (record f { lt = f.a }) e) - f.a)) ≤ most (record f { lt = f.a }) e
    few t true h = fits.few t true h
    few t false h =
        let n : suc f.lt - f.a ≡ (suc f.a - f.a) + (f.lt - f.a) = omega (arith, sound.tuples_last) in
        let all : length (rows s (t + f.a) (suc f.lt - f.a)) ≤ f.nt = fits.few t false h in
        let less : length (rows s (t + f.a) ((suc f.a - f.a) + (f.lt - f.a))) ≤ f.nt = rw n at all in
        omega (arith, rows_fewer s (suc f.a - f.a) (f.lt - f.a) (t + f.a), less)

settled_fits : (f : Figures) (beats : Beats) (s : Carried) → Fits f beats s → Spaced f beats → IsSound f → Fits (settled f) beats s
settled_fits f beats s fits spaced sound = by f.nt refl
  where
    by : (n : ℕ) → f.nt ≡ n → Fits (record f { lt = last_of f.nt f.a f.lt }) beats s
    by zero p = subst (λ n. Fits (record f { lt = last_of n f.a f.lt }) beats s) (sym p) (closed_fits f beats s fits spaced p sound)
    by (suc k) p = subst (λ n. Fits (record f { lt = last_of n f.a f.lt }) beats s) (sym p) fits

-- a block serves with settled figures too
pub settled_serves : (f g : Figures) (m : Meaning) (a b : Carried) → IsSound g → Serves f g m a b → Serves f (settled g) m a b
settled_serves f g m a b sound h = λ beats spaced fits.
    let near = spaced_closer g (settled g) beats (record { gt = omega arith; ge = omega arith }) spaced in
    let x = h beats near fits in
    record {
      fits = settled_fits g beats b x.fits near sound;
      results = λ t d e p hd he. x.results t d e p hd (record { is = he.is; low = he.low; high = he.high });
      later = λ t d e p hd he. x.later t d e p hd (record { is = he.is; low = he.low; high = he.high });
    }
