-- A wire some cycles behind another: what it carries, and that it serves what the other does.
use Rattle.std.proofs.Common.{◌≡◌, ℕ, zero, suc, ◌+◌, ◌-◌, ◌≤◌, [], Some, None, Bool, true, false, refl, sym, ap, ◌∙◌, subst, arith, inl, inr}
use Rattle.std.proofs.lemmas.Bool.{cases_lt}
use Rattle.std.proofs.lemmas.List.{append-nil}
use Rattle.gl_algebra.specs.declared.figures.Figures.{Figures}
use Rattle.gl_algebra.specs.FigureTable.{NoCloser, delayed}
use Rattle.gl_values.specs.Results.{Row}
use Rattle.gl_wire.specs.Beats.{Beats, last, most, gap, Spaced}
use Rattle.gl_wire.specs.Wire.{Carried, pending, stream, rows}
use Rattle.gl_wire.specs.Serves.{HasEnd, OneEnd, Fits, Serves, Meaning}
use Rattle.gl_wire.specs.Shapes.{IsDelayed, Same}

gap_closer : (f g : Figures) → NoCloser f g → (e : Bool) → gap f e ≤ gap g e
gap_closer f g h true = h.ge
gap_closer f g h false = h.gt

-- beats that keep wider gaps keep narrower ones
pub spaced_closer : (f g : Figures) (beats : Beats) → NoCloser f g → Spaced g beats → Spaced f beats
spaced_closer f g beats h s = record { first = s.first; apart = λ t u e d p q l. omega (arith, s.apart t u e d p q l, gap_closer f g h e) }

pub closer_delayed : (m : ℕ) (f : Figures) → NoCloser f (delayed m f)
closer_delayed m f = record { gt = omega arith; ge = omega arith }

last_delayed : (m : ℕ) (f : Figures) (e : Bool) → last (delayed m f) e ≡ last f e + m
last_delayed m f true = refl
last_delayed m f false = refl

most_delayed : (m : ℕ) (f : Figures) (e : Bool) → most (delayed m f) e ≡ most f e
most_delayed m f true = refl
most_delayed m f false = refl

module _ (m : ℕ) (s b : Carried) (d : IsDelayed m s b) where
  quiet_pending : (n : ℕ) → n ≤ m → pending b n ≡ []
  quiet_pending zero l = refl
  quiet_pending (suc n) l = rw (d.no_end n (omega arith), d.before n (omega arith)) (append-nil (pending b n) ∙ quiet_pending n (omega arith))

  pending_delayed : (c : ℕ) → pending b (c + m) ≡ pending s c
  pending_delayed zero = let e : zero + m ≡ m = omega arith in rw e (quiet_pending m (omega arith))
  pending_delayed (suc c) = let e : suc c + m ≡ suc (c + m) = omega arith in rw (e, d.ends c, d.tuples c, pending_delayed c)

  pub stream_delayed : (c : ℕ) → stream b (c + m) ≡ stream s c
  stream_delayed c = rw (pending_delayed c, d.tuples c)

  rows_delayed : (n c : ℕ) → rows b (c + m) n ≡ rows s c n
  rows_delayed zero c = refl
  rows_delayed (suc n) c = let e : suc (c + m) ≡ suc c + m = omega arith in rw (d.tuples c, e, rows_delayed n (suc c))

  tuple_before : (c : ℕ) (r : Row) → b.tuple c ≡ Some r → (i : ℕ) × (c ≡ i + m) × (s.tuple i ≡ Some r)
  tuple_before c r h = elim (cases_lt c m) [
    | inl l ↦ absurd (let z = d.before c l in cc (z, h))
    | inr l ↦ (let e : c ≡ (c - m) + m = omega arith in (c - m, e, sym (d.tuples (c - m)) ∙ ap b.tuple (sym e) ∙ h))
  ]

  end_before : (c : ℕ) → b.ends c ≡ true → (i : ℕ) × (c ≡ i + m) × (s.ends i ≡ true)
  end_before c h = elim (cases_lt c m) [
    | inl l ↦ absurd (let z = d.no_end c l in cc (z, h))
    | inr l ↦ (let e : c ≡ (c - m) + m = omega arith in (c - m, e, sym (d.ends (c - m)) ∙ ap b.ends (sym e) ∙ h))
  ]

  pub has_end_before : (f : Figures) (t c : ℕ) → HasEnd (delayed m f) b t c → (i : ℕ) × (c ≡ i + m) × HasEnd f s t i
  has_end_before f t c h = let x = end_before c h.is in (x.0, x.1, record { is = x.2; low = omega (arith, h.low, x.1); high = omega (arith, h.high, x.1) })

  -- no tuple where the wire had none
  none_delayed : (i : ℕ) → s.tuple i ≡ None → b.tuple (i + m) ≡ None
  none_delayed i h = d.tuples i ∙ h

  end_delayed : (f : Figures) (t : ℕ) → OneEnd f s t → OneEnd (delayed m f) b t
  end_delayed f t o = record {
    at = o.at + m;
    here = record { is = d.ends o.at ∙ o.here.is; low = omega (arith, o.here.low); high = omega (arith, o.here.high) };
    only = λ c h. let x = has_end_before f t c h in x.1 ∙ ap (λ i. i + m) (o.only x.0 x.2);
    after = λ c l h. let e : c ≡ (c - m) + m = omega (arith, l) in ap b.tuple e ∙ none_delayed (c - m) (o.after (c - m) (omega (arith, l)) (omega (arith, h, l)));
  }

  pub delayed_fits : (f : Figures) (beats : Beats) → Fits f beats s → Fits (delayed m f) beats b
  delayed_fits f beats fits = record {
    tuples = λ c r h. let x = tuple_before c r h in let q = fits.tuples x.0 r x.2 in
        record { beat = q.beat; end = q.end; is = q.is; low = omega (arith, q.low, x.1); high = rw (last_delayed m f q.end) (omega (arith, q.high, x.1)) };
    ends = λ c h. let x = end_before c h in let q = fits.ends x.0 x.2 in
        record { beat = q.beat; is = q.is; low = omega (arith, q.low, x.1); high = omega (arith, q.high, x.1) };
    few = λ t e h.
        let n : suc (last (delayed m f) e) - (f.a + m) ≡ suc (last f e) - f.a = rw (last_delayed m f e) (omega arith) in
        let i : t + (f.a + m) ≡ t + f.a + m = omega arith in
        rw (n, i, most_delayed m f e, rows_delayed (suc (last f e) - f.a) (t + f.a)) (fits.few t e h);
    end = λ t h. end_delayed f t (fits.end t h);
  }

  -- a block with some cycles behind it serves the same, that much later
  pub delayed_serves : (f g : Figures) (means : Meaning) (a : Carried) → Serves f g means a s → Serves f (delayed m g) means a b
  delayed_serves f g means a h = λ beats spaced fits. let x = h beats (spaced_closer g (delayed m g) beats (closer_delayed m g) spaced) fits in record {
    fits = delayed_fits g beats x.fits;
    results = λ t i e p hi he. let y = has_end_before g t e he in
        subst (means (stream a i)) (sym (ap (stream b) y.1 ∙ stream_delayed y.0)) (x.results t i y.0 p hi y.2);
    later = λ t i e p hi he. let y = has_end_before g t e he in omega (arith, x.later t i y.0 p hi y.2, y.1);
  }

same_serves : (f : Figures) (a : Carried) → Serves f f Same a a
same_serves f a = λ beats spaced fits. record {
  fits = fits;
  results = λ t d e h hd he. let o = fits.end t h in ap (stream a) (o.only e he ∙ sym (o.only d hd));
  later = λ t d e h hd he. let o = fits.end t h in omega (arith, o.only d hd, o.only e he);
}

pub delay_serves : (m : ℕ) (a b : Carried) (f : Figures) → IsDelayed m a b → Serves f (delayed m f) Same a b
delay_serves m a b f d = delayed_serves m a b d f f Same a (same_serves f a)
