-- A key in front of each row of a wire.
use Rattle.std.proofs.Common.{◌≡◌, ℕ, zero, suc, ◌+◌, ◌-◌, ◌<◌, ◌≤◌, ◌∷◌, ◌++◌, length, map, Option, Some, None, Bool, true, false, sym, ap, ◌∙◌, refl, arith}
use Rattle.std.specs.Prelude.{option_to_list}
use Rattle.gl_values.specs.Results.{Row, Results, IsChanged}
use Rattle.gl_algebra.specs.declared.figures.Figures.{Figures}
use Rattle.gl_algebra.specs.FigureTable.{IsSound}
use Rattle.gl_wire.specs.Beats.{Beats, Spaced, last}
use Rattle.gl_wire.specs.Serves.{HasEnd, Fits}
use Rattle.gl_wire.specs.Serving.{Serving}
use Rattle.gl_wire.specs.Spills.{Lines}
use Rattle.gl_wire.specs.Wire.{Carried, stream, rows}
use Rattle.gl_wire.proofs.ClosingLemmas.{closing_stream}
use Rattle.gl_wire.proofs.VisitLemmas.{BeatOf, its_end, its_tuple}
use Rattle.gl_slots.specs.Keys.{in_front, keyed}

module _ (key_at : ℕ → ℕ) (b : Carried) where
  came : (k : ℕ) (o : Option Row) (r : Row) → in_front k o ≡ Some r → (q : Row) × (o ≡ Some q)
  came k None r e = absurd (cc)
  came k (Some q) r e = (q, refl)

  length-keyed : (n c : ℕ) → length (rows (keyed key_at b) c n) ≡ length (rows b c n)
  length-keyed zero c = refl
  length-keyed (suc n) c = by (b.tuple c) (length-keyed n (suc c))
    where
      by : (o : Option Row) → length (rows (keyed key_at b) (suc c) n) ≡ length (rows b (suc c) n) → length (option_to_list (in_front (key_at c) o) ++ rows (keyed key_at b) (suc c) n) ≡ length (option_to_list o ++ rows b (suc c) n)
      by None e = e
      by (Some r) e = omega (arith, e)

  rows-keyed : (k n c : ℕ) → ((i : ℕ) → c ≤ i → i < c + n → key_at i ≡ k) → rows (keyed key_at b) c n ≡ map (λ r. k ∷ r) (rows b c n)
  rows-keyed k zero c h = refl
  rows-keyed k (suc n) c h = by (b.tuple c) (rows-keyed k n (suc c) (λ i l m. h i (omega (arith, l)) (omega (arith, m)))) (h c (omega arith) (omega arith))
    where
      by : (o : Option Row) → rows (keyed key_at b) (suc c) n ≡ map (λ r. k ∷ r) (rows b (suc c) n) → key_at c ≡ k → option_to_list (in_front (key_at c) o) ++ rows (keyed key_at b) (suc c) n ≡ map (λ r. k ∷ r) (option_to_list o ++ rows b (suc c) n)
      by None e q = e
      by (Some r) e q = ap (λ z. (z ∷ r) ∷ rows (keyed key_at b) (suc c) n) q ∙ ap (λ z. (k ∷ r) ∷ z) e

  keyed_end : (f : Figures) (t c : ℕ) → HasEnd f (keyed key_at b) t c → HasEnd f b t c
  keyed_end f t c e = record { is = e.is; low = e.low; high = e.high }

  keyed_fits : (f : Figures) (beats : Beats) → Fits f beats b → Fits f beats (keyed key_at b)
  keyed_fits f beats fits = record {
    tuples = λ c r e. let q = came (key_at c) (b.tuple c) r e in fits.tuples c q.0 q.1;
    ends = λ c e. fits.ends c e;
    few = λ t e h. omega (arith, length-keyed (suc (last f e) - f.a) (t + f.a), fits.few t e h);
    end = λ t h. let o = fits.end t h in record {
      at = o.at;
      here = record { is = o.here.is; low = o.here.low; high = o.here.high };
      only = λ c e. o.only c (keyed_end f t c e);
      after = λ c l m. ap (in_front (key_at c)) (o.after c l m);
    };
  }

  -- where one key stays through the interval of each beat, the wire of a body that waits for the end gives the changed rows
  pub keyed_serving : (f : Figures) (key_for : ℕ → ℕ) (means : ℕ → Results) (lines : Lines) (beats : Beats) → IsSound f → f.nt ≡ 0 → Spaced f beats
      → ((t c : ℕ) → beats t ≡ Some true → t + f.a ≤ c → c ≤ t + f.le → key_at c ≡ key_for t) → Serving f means lines beats b
      → Serving f (λ t. IsChanged (means t) (map (λ r. key_for t ∷ r))) lines beats (keyed key_at b)
  keyed_serving f key_for means lines beats sound closing spaced stays x = record {
    fits = keyed_fits f beats x.fits;
    spill = x.spill;
    right = λ t e p he. let own = keyed_end f t e he in
        record {
          rows = stream b e;
          of_source = x.right t e p own;
          changed = closing_stream f beats (keyed key_at b) (keyed_fits f beats x.fits) spaced closing sound t e p he
              ∙ rows-keyed (key_for t) (suc f.le - f.a) (t + f.a) (λ i l m. stays t i p l (omega (arith, m, l)))
              ∙ ap (map (λ r. key_for t ∷ r)) (sym (closing_stream f beats b x.fits spaced closing sound t e p own));
        };
    low = x.low;
    told = x.told;
    so = x.so;
    late = x.late;
  }

-- the beat of an end is an end of the wire
pub end_of : (b : Carried) (t : ℕ) (e : Bool) → e ≡ true → BeatOf b t e → b.ends t ≡ true
end_of b t true p (its_end q) = q
end_of b t false p (its_tuple r q z) = absurd (cc)
