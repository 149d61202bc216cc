-- A block that gives one row at each end serves the total of the stream.
use Rattle.std.proofs.Common.{◌≡◌, ℕ, zero, suc, ◌+◌, ◌-◌, ◌<◌, ◌≤◌, List, [], ◌∷◌, ◌++◌, length, Option, Some, None, Bool, true, false, refl, sym, ap, ◌∙◌, subst, arith, inl, inr, ◌⊎◌}
use Rattle.std.specs.Prelude.{option_to_list, if◌then◌else◌}
use Rattle.std.proofs.lemmas.Bool.{cases_lt}
use Rattle.gl_algebra.specs.declared.figures.Figures.{Figures}
use Rattle.gl_algebra.specs.FigureTable.{delayed, aggregate_figures}
use Rattle.gl_values.specs.Results.{Row}
use Rattle.gl_wire.specs.Beats.{Beats, last, most, Spaced}
use Rattle.gl_wire.specs.Wire.{Carried, pending, stream, rows}
use Rattle.gl_wire.specs.Serves.{HasEnd, OneEnd, EndCaused, Fits, Serves}
use Rattle.gl_wire.specs.Shapes.{totalled, AtEnds, Totalled}
use Rattle.gl_wire.proofs.DelayLemmas.{delayed_serves}
use Rattle.gl_wire.proofs.RowsLemmas.{rows-quiet}

-- where all tuples of some cycles stand in one cycle, there is one at most
one_row_at : (s : Carried) (at n c : ℕ) → ((k : ℕ) (r : Row) → c ≤ k → k < c + n → s.tuple k ≡ Some r → k ≡ at) → length (rows s c n) ≤ 1
one_row_at s at zero c h = omega arith
one_row_at s at (suc n) c h = one (s.tuple c) refl (one_row_at s at n (suc c) (λ k r l m e. h k r (omega arith) (omega arith) e))
  where
    none_after : (o : Option Row) (k : ℕ) → s.tuple k ≡ o → c < k → k < c + suc n → at ≡ c → o ≡ None
    none_after None k e l m q = refl
    none_after (Some r) k e l m q = absurd (omega (arith, h k r (omega arith) m e))

    one : (o : Option Row) → s.tuple c ≡ o → length (rows s (suc c) n) ≤ 1 → length (option_to_list (s.tuple c) ++ rows s (suc c) n) ≤ 1
    one None e rest = rw e rest
    one (Some r) e rest =
        let here : c ≡ at = h c r (omega arith) (omega arith) e in
        rw (e, rows-quiet s n (suc c) (λ k l m. none_after (s.tuple k) k refl (omega arith) (omega arith) (sym here))) (omega arith)

module _ (total : List Row → Row) (a : Carried) where
  -- between two ends nothing comes out
  pending_none : (c : ℕ) → pending (totalled total a) c ≡ []
  pending_none zero = refl
  pending_none (suc c) = next (a.ends c) (pending_none c)
    where
      next : (e : Bool) → pending (totalled total a) c ≡ [] → (if e then [] else pending (totalled total a) c ++ option_to_list (if e then Some (total (stream a c)) else None)) ≡ []
      next true h = refl
      next false h = ap (λ x. x ++ []) h

  totalled_stream : (c : ℕ) → a.ends c ≡ true → stream (totalled total a) c ≡ total (stream a c) ∷ []
  totalled_stream c h = rw (pending_none c, h) refl

  -- what comes out comes of an end
  came : (c : ℕ) (r : Row) → (if a.ends c then Some (total (stream a c)) else None) ≡ Some r → a.ends c ≡ true
  came c r h = one (a.ends c) refl h
    where
      one : (e : Bool) → a.ends c ≡ e → (if e then Some (total (stream a c)) else None) ≡ Some r → a.ends c ≡ true
      one true p q = p
      one false p q = absurd (cc)

  none_at : (c : ℕ) → (a.ends c ≡ true → ⊥) → (if a.ends c then Some (total (stream a c)) else None) ≡ None
  none_at c h = one (a.ends c) refl
    where
      one : (e : Bool) → a.ends c ≡ e → (if e then Some (total (stream a c)) else None) ≡ None
      one true p = absurd (h p)
      one false p = refl

  same_end : (f : Figures) (t c : ℕ) → HasEnd (aggregate_figures 0 f) (totalled total a) t c → HasEnd f a t c
  same_end f t c h = record { is = h.is; low = omega (arith, h.low); high = omega (arith, h.high) }

  module _ (f : Figures) (beats : Beats) (spaced : Spaced (aggregate_figures 0 f) beats) (fits : Fits f beats a) where
    -- at a beat without the end nothing comes
    quiet : (t : ℕ) → beats t ≡ Some false → a.ends (t + f.a) ≡ true → ⊥
    quiet t h e = let q = fits.ends (t + f.a) e in apart q (cases_lt q.beat t)
      where
        apart : (q : EndCaused f beats (t + f.a)) → (q.beat < t) ⊎ (t ≤ q.beat) → ⊥
        apart q (inl l) = omega (arith, spaced.apart q.beat t true false q.is h l, q.high)
        apart q (inr l) = let same : q.beat ≡ t = omega (arith, q.low) in let z = ap beats same in cc (q.is, h)

    few_in : (t : ℕ) (e : Bool) → beats t ≡ Some e → length (rows (totalled total a) (t + (f.a + 0)) (suc (last (aggregate_figures 0 f) e) - (f.a + 0))) ≤ most (aggregate_figures 0 f) e
    few_in t false h =
        let n : suc (last (aggregate_figures 0 f) false) - (f.a + 0) ≡ 1 = omega arith in
        let i : t + (f.a + 0) ≡ t + f.a = omega arith in
        rw (n, i, none_at (t + f.a) (quiet t h)) (omega arith)
    few_in t true h =
        let o = fits.end t h in
        one_row_at (totalled total a) o.at _ (t + (f.a + 0)) (λ k r l m e. o.only k (record { is = came k r e; low = omega (arith, l); high = omega (arith, m, l) }))

    end_in : (t : ℕ) → OneEnd f a t → OneEnd (aggregate_figures 0 f) (totalled total a) t
    end_in t o = record {
      at = o.at;
      here = record { is = o.here.is; low = omega (arith, o.here.low); high = omega (arith, o.here.high) };
      only = λ c h. o.only c (same_end f t c h);
      after = λ c l h. none_at c (λ e. let s = o.only c (record { is = e; low = omega (arith, o.here.low, l); high = omega (arith, h) }) in omega (arith, s, l));
    }

    totalled_fits : Fits (aggregate_figures 0 f) beats (totalled total a)
    totalled_fits = record {
      tuples = λ c r h. let q = fits.ends c (came c r h) in record { beat = q.beat; end = true; is = q.is; low = omega (arith, q.low); high = omega (arith, q.high) };
      ends = λ c h. let q = fits.ends c h in record { beat = q.beat; is = q.is; low = omega (arith, q.low); high = omega (arith, q.high) };
      few = few_in;
      end = λ t h. end_in t (fits.end t h);
    }

  totalled_serves : (f : Figures) → Serves f (aggregate_figures 0 f) (Totalled total) a (totalled total a)
  totalled_serves f = λ beats spaced fits. record {
    fits = totalled_fits f beats spaced fits;
    results = λ t d e h hd he. let o = fits.end t h in
        let same : d ≡ e = o.only d hd ∙ sym (o.only e (same_end f t e he)) in
        subst (λ k. stream (totalled total a) k ≡ total (stream a d) ∷ []) same (totalled_stream d hd.is);
    later = λ t d e h hd he. let o = fits.end t h in omega (arith, o.only d hd, o.only e (same_end f t e he));
  }

same_figures : (m : ℕ) (f : Figures) → delayed m (aggregate_figures 0 f) ≡ aggregate_figures m f
same_figures m f = let e : f.a + 0 ≡ f.a = omega arith in let l : f.le + 0 ≡ f.le = omega arith in rw (e, l) refl

pub ends_serve : (m : ℕ) (total : List Row → Row) (a b : Carried) (f : Figures) → AtEnds m total a b → Serves f (aggregate_figures m f) (Totalled total) a b
ends_serve m total a b f st = subst (λ g. Serves f g (Totalled total) a b) (same_figures m f) (delayed_serves m (totalled total a) b st f (aggregate_figures 0 f) (Totalled total) a (totalled_serves total a f))
