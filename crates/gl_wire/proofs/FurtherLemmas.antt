-- A test of a block's input that a line of its own tells of.
use Rattle.std.proofs.Common.{◌≡◌, ℕ, ◌≤◌, List, Option, Some, None, Bool, true, false, ◌||◌, refl, sym, ap, ◌∙◌, inl, inr}
use Rattle.std.proofs.lemmas.Bool.{or_cases, or_left, or_right, or_from}
use Rattle.gl_algebra.specs.declared.figures.Figures.{Figures}
use Rattle.gl_values.specs.Results.{Row}
use Rattle.gl_wire.specs.Beats.{Beats, Ends}
use Rattle.gl_wire.specs.Wire.{Carried, stream}
use Rattle.gl_wire.specs.Serves.{HasEnd, Fits}
use Rattle.gl_wire.specs.Spills.{Relation, Lines, ServedWithLines, both_lines}

-- the end in a beat's interval, as a function of the beat alone
module _ (f : Figures) (beats : Beats) (a : Carried) (fits : Fits f beats a) where
  abbrev pub end_by : (t : ℕ) (o : Option Bool) → beats t ≡ o → ℕ
  end_by t None e = 0
  end_by t (Some false) e = 0
  end_by t (Some true) e = (fits.end t e).at

  has_by : (t : ℕ) (o : Option Bool) (e : beats t ≡ o) → o ≡ Some true → HasEnd f a t (end_by t o e)
  has_by t None e h = absurd (cc)
  has_by t (Some false) e h = absurd (cc)
  has_by t (Some true) e h = (fits.end t e).here

  abbrev pub end_of : ℕ → ℕ
  end_of t = end_by t (beats t) refl

  pub has_end_of : (t : ℕ) → beats t ≡ Some true → HasEnd f a t (end_of t)
  has_end_of t p = has_by t (beats t) refl p

  pub is_end_of : (t d : ℕ) → beats t ≡ Some true → HasEnd f a t d → end_of t ≡ d
  is_end_of t d p e = let o = fits.end t p in o.only (end_of t) (has_end_of t p) ∙ sym (o.only d e)

-- a test of the input's stream that a line of its own tells
pub served_further : (f h : Figures) (m : Relation) (test : List Row → Bool) (line : ℕ → Bool) (own : Lines) (beats : Beats) (a b : Carried) → (fits : Fits f beats a)
    → (Ends beats → (d : ℕ) → a.ends d ≡ true → test (stream a d) ≡ true → (c : ℕ) × (line c ≡ true))
    → (Ends beats → (c : ℕ) → line c ≡ true → (d : ℕ) × (a.ends d ≡ true) × (test (stream a d) ≡ true))
    → (Ends beats → (c : ℕ) → line c ≡ true → (e : ℕ) × (c ≤ e) × (b.ends e ≡ true))
    → ServedWithLines f h m own beats a b
    → ServedWithLines f h (λ xs ys p. (q : Bool) × m xs ys q × (p ≡ (q || test xs))) (both_lines own (record { passed = λ c. false; further = line })) beats a b
served_further f h m test line own beats a b fits told so late x = record {
  spill = λ t. x.spill t || test (stream a (end_of f beats a fits t));
  served = record {
    fits = x.served.fits;
    results = λ t d e p hd he. (x.spill t, x.served.results t d e p hd he, ap (λ z. x.spill t || test (stream a z)) (is_end_of f beats a fits t d p hd));
    later = x.served.later;
  };
  low = λ c. or_from (own.passed c) false (x.low c) refl;
  told = λ en t p e. elim (or_cases (x.spill t) (test (stream a (end_of f beats a fits t))) e) [
    | inl q ↦ (let z = x.told en t p q in (z.0, or_left (own.further z.0) (line z.0) z.1))
    | inr q ↦ (let z = told en (end_of f beats a fits t) (has_end_of f beats a fits t p).is q in (z.0, or_right (own.further z.0) (line z.0) z.1))
  ];
  so = λ en c e. elim (or_cases (own.further c) (line c) e) [
    | inl q ↦ (let z = x.so en c q in (z.0, z.1, or_left (x.spill z.0) (test (stream a (end_of f beats a fits z.0))) z.2))
    | inr q ↦
        let z = so en c q in
        let w = fits.ends z.0 z.1 in
        let same = is_end_of f beats a fits w.beat z.0 w.is (record { is = z.1; low = w.low; high = w.high }) in
        (w.beat, w.is, or_right (x.spill w.beat) (test (stream a (end_of f beats a fits w.beat))) (ap (λ i. test (stream a i)) same ∙ z.2))
  ];
  late = λ en c e. elim (or_cases (own.further c) (line c) e) [ inl q ↦ x.late en c q | inr q ↦ late en c q ];
}
