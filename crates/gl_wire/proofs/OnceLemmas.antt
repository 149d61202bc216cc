-- A wire that serves gives what it owes over one stream.
use Rattle.std.proofs.Common.{◌≡◌, ℕ, ◌+◌, ◌<◌, ◌≤◌, List, Some, Bool, true, false, refl, ap, sym, ◌∙◌, arith, inl, inr}
use Rattle.std.proofs.lemmas.Bool.{cases_lt}
use Rattle.gl_algebra.specs.declared.figures.Figures.{Figures}
use Rattle.gl_algebra.specs.FigureTable.{IsSound}
use Rattle.gl_values.specs.Results.{Row, Results}
use Rattle.gl_wire.specs.Beats.{Beats, Ends, Spaced, gap}
use Rattle.gl_wire.specs.Once.{OneStream, ServingOnce}
use Rattle.gl_wire.specs.Serves.{OneEnd, Caused}
use Rattle.gl_wire.specs.Serving.{Serving}
use Rattle.gl_wire.specs.Spills.{Lines, SameLines}
use Rattle.gl_wire.specs.Wire.{Carried, stream}
use Rattle.gl_wire.proofs.SideLemmas.{none_unless}

pub serving_once : (f : Figures) (means : ℕ → Results) (lines : Lines) (beats : Beats) (b : Carried) (last : ℕ)
    → IsSound f → Spaced f beats → OneStream beats last → Serving f means lines beats b → ServingOnce f (means last) lines last b
serving_once f means lines beats b last sound spaced one s = record {
  ended = end.at;
  low = end.here.low;
  high = end.here.high;
  ends = end.here.is;
  once = only_end;
  none_later = λ c l. none_unless (b.tuple c) (none_at c l);
  spill = s.spill last;
  right = s.right last end.at one.is end.here;
  unpassed = s.low;
  told = λ h. s.told all_end last one.is h;
  so = λ c h. let t = s.so all_end c h in ap s.spill (sym (one.only t.0 t.1)) ∙ t.2;
  late = λ c h. let x = s.late all_end c h in let e = only_end x.0 x.2 in omega (arith, x.1, e);
}
  where
    end : OneEnd f b last
    end = s.fits.end last one.is

    all_end : Ends beats
    all_end = record { ends = λ t e h. (last, one.until t e h, one.is) }

    only_end : (c : ℕ) → b.ends c ≡ true → c ≡ end.at
    only_end c h =
        let i = s.fits.ends c h in
        let t = one.only i.beat i.is in
        end.only c (record { is = h; low = omega (arith, i.low, t); high = omega (arith, i.high, t) })

    none_at : (c : ℕ) → end.at < c → (r : Row) → b.tuple c ≡ Some r → ⊥
    none_at c l r h = by (s.fits.tuples c r h)
      where
        by : Caused f beats c → ⊥
        by i = of i.end refl
          where
            of : (e : Bool) → i.end ≡ e → ⊥
            of true p =
                let t = one.only i.beat (i.is ∙ ap Some p) in
                let m : c ≤ i.beat + f.le = rw p at i.high in
                let z = end.after c l (omega (arith, m, t)) in cc (z, h)
            of false p =
                let m : c ≤ i.beat + f.lt = rw p at i.high in
                let before = one.until i.beat i.end i.is in
                let low = end.here.low in
                elim (cases_lt i.beat last) [
                  | inl k ↦ (let apart = rw p at (spaced.apart i.beat last i.end true i.is one.is k) in
                      omega (arith, apart, m, low, l, sound.tuples_gap, sound.tuples_last))
                  | inr k ↦ (let same : i.beat ≡ last = omega (arith, k, before) in let z = ap beats same in let w = i.is in let v = one.is in cc (z, w, v, p))
                ]

-- the same with other words for what is right
pub once_as : (f : Figures) (means other : Results) (lines : Lines) (last : ℕ) (b : Carried) → ((ys : List Row) (p : Bool) → means ys p → other ys p)
    → ServingOnce f means lines last b → ServingOnce f other lines last b
once_as f means other lines last b goes s = record {
  ended = s.ended;
  low = s.low;
  high = s.high;
  ends = s.ends;
  once = s.once;
  none_later = s.none_later;
  spill = s.spill;
  right = goes (stream b s.ended) s.spill s.right;
  unpassed = s.unpassed;
  told = s.told;
  so = s.so;
  late = s.late;
}

-- and with the same lines
pub once_lines : (f : Figures) (means : Results) (lines other : Lines) (last : ℕ) (b : Carried) → SameLines lines other
    → ServingOnce f means other last b → ServingOnce f means lines last b
once_lines f means lines other last b same s = record {
  ended = s.ended;
  low = s.low;
  high = s.high;
  ends = s.ends;
  once = s.once;
  none_later = s.none_later;
  spill = s.spill;
  right = s.right;
  unpassed = λ c. same.passed c ∙ s.unpassed c;
  told = λ e. let x = s.told e in (x.0, same.further x.0 ∙ x.1);
  so = λ c e. s.so c (sym (same.further c) ∙ e);
  late = λ c e. s.late c (sym (same.further c) ∙ e);
}

-- over one stream the gap after an end is never asked for
pub spaced_once : (f g : Figures) (beats : Beats) (last : ℕ) → f.gt ≤ g.gt → OneStream beats last → Spaced g beats → Spaced f beats
spaced_once f g beats last closer one spaced = record { first = spaced.first; apart = apart }
  where
    apart : (t u : ℕ) (e d : Bool) → beats t ≡ Some e → beats u ≡ Some d → t < u → t + gap f e ≤ u
    apart t u true d p q l = absurd (omega (arith, one.only t p, one.until u d q, l))
    apart t u false d p q l = let z = spaced.apart t u false d p q l in omega (arith, z, closer)
