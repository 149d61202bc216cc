-- A wire that leaves rows of further keys out, and tells of them.
use Rattle.std.proofs.Common.{◌≡◌, ℕ, zero, suc, ◌+◌, ◌-◌, ◌<◌, ◌≤◌, List, Bool, true, false, ◌||◌, refl, sym, ap, ◌∙◌, arith}
use Rattle.gl_algebra.specs.declared.figures.Figures.{Figures}
use Rattle.gl_algebra.specs.FigureTable.{IsSound, delayed}
use Rattle.gl_values.specs.Lists.{has_further}
use Rattle.gl_values.specs.Results.{Row}
use Rattle.gl_frames.specs.Frames.{by_key}
use Rattle.gl_frames_keys.specs.Lanes.{leaves_out}
use Rattle.gl_frames_keys.specs.Laws.{OfKeys, PartitionsServe}
use Rattle.gl_frames_keys.proofs.LateLemmas.{left_late, row_of}
use Rattle.gl_frames_wire.specs.Running.{Each, Runs}
use Rattle.gl_frames_wire.proofs.RunLemmas.{run_serves}
use Rattle.gl_slots.specs.Slots.{came_further}
use Rattle.gl_slots.proofs.FurtherLemmas.{further_carries, further_so, further_told}
use Rattle.gl_wire.specs.Beats.{Beats, Ends, Spaced}
use Rattle.gl_wire.specs.Serves.{Fits}
use Rattle.gl_wire.specs.Shapes.{IsDelayed}
use Rattle.gl_wire.specs.Spills.{ServedWithLines, never, no_lines}
use Rattle.gl_wire.specs.Wire.{Carried, stream}
use Rattle.gl_wire.proofs.FurtherLemmas.{served_further}
use Rattle.gl_wire.proofs.TimeLemmas.{next_stream}

-- where the line of groups tells in some cycle, a row was left out in the one before
told_row : (groups : ℕ) (key : Row → ℕ) (a : Carried) (c : ℕ) → came_further groups key a c ≡ true → (x : ℕ) × (leaves_out groups key a x ≡ true)
told_row groups key a zero e = absurd (cc)
told_row groups key a (suc x) e = (x, e)

module _ (m d groups : ℕ) (key : Row → ℕ) (of : List Row → Row) (f : Figures) (a late b : Carried) (further : ℕ → Bool) (sound : IsSound f) (few : d ≤ m)
    (runs : Runs m (by_key groups key of) a b) (behind : IsDelayed d a late) (line : (c : ℕ) → further c ≡ leaves_out groups key late c) where
  -- without the line
  plain : (beats : Beats) → Spaced (delayed m f) beats → Fits f beats a → ServedWithLines f (delayed m f) (never (Each (by_key groups key of))) no_lines beats a b
  plain beats spaced fits = let x = run_serves m (by_key groups key of) a b f runs beats spaced fits in record {
    spill = λ t. false;
    served = record { fits = x.fits; results = λ t d e p hd he. (x.results t d e p hd he, refl); later = x.later };
    low = λ c. refl;
    told = λ en t p e. absurd (cc);
    so = λ en c e. absurd (cc);
    late = λ en c e. absurd (cc);
  }

  module _ (beats : Beats) (spaced : Spaced (delayed m f) beats) (fits : Fits f beats a) where
    told : Ends beats → (t : ℕ) → a.ends t ≡ true → has_further groups key (stream a t) ≡ true → (c : ℕ) × (further c ≡ true)
    told en t p e =
        let x = further_told groups key a t e in
        let r = told_row groups key a x.0 x.1 in
        (r.0 + d, line (r.0 + d) ∙ left_late d a late behind groups key r.0 ∙ r.1)

    -- the end behind a row that is left out
    behind_row : (x : ℕ) → leaves_out groups key a x ≡ true → Ends beats → (t : ℕ) × (x ≤ t) × (a.ends t ≡ true) × ((j : ℕ) → x ≤ j → j < t → a.ends j ≡ false)
    behind_row x e en = next_stream f (delayed m f) beats a sound (let g = sound.tuples_gap in omega (arith, g)) (let g = sound.end_gap in omega (arith, g)) spaced fits en x (further_carries groups key a x e)

    row : (c : ℕ) → further c ≡ true → (x : ℕ) × (c ≡ x + d) × (leaves_out groups key a x ≡ true)
    row c e = row_of d a late behind groups key c (sym (line c) ∙ e)

    so : Ends beats → (c : ℕ) → further c ≡ true → (t : ℕ) × (a.ends t ≡ true) × (has_further groups key (stream a t) ≡ true)
    so en c e =
        let r = row c e in
        let t = behind_row r.0 r.2 en in
        let at : r.0 + (t.0 - r.0) ≡ t.0 = omega (arith, t.1) in (
          t.0,
          t.2,
          ap (λ i. has_further groups key (stream a i)) (sym at)
              ∙ further_so groups key a (t.0 - r.0) r.0 r.2 (λ j l n. t.3 j l (omega (arith, n, t.1))),
        )

    last : Ends beats → (c : ℕ) → further c ≡ true → (e : ℕ) × (c ≤ e) × (b.ends e ≡ true)
    last en c e =
        let r = row c e in
        let t = behind_row r.0 r.2 en in
        (t.0 + m, omega (arith, r.1, t.1, few), runs.ends t.0 ∙ t.2)

    chosen : (q p t : Bool) → q ≡ false → p ≡ (q || t) → p ≡ t
    chosen true p t e h = absurd (cc)
    chosen false p t e h = h

    whole : ServedWithLines f (delayed m f) (OfKeys groups key of) (record { passed = λ c. false; further = further }) beats a b
    whole =
        let x = served_further f (delayed m f) (never (Each (by_key groups key of))) (has_further groups key) further no_lines beats a b fits told so last (plain beats spaced fits) in
        record {
          spill = x.spill;
          served = record {
            fits = x.served.fits;
            results = λ t d e p hd he. let y = x.served.results t d e p hd he in
                record { rows = y.1.0; left_out = chosen y.0 (x.spill t) (has_further groups key (stream a d)) y.1.1 y.2 };
            later = x.served.later;
          };
          low = x.low;
          told = x.told;
          so = x.so;
          late = x.late;
        }

pub partitions_serve : PartitionsServe
partitions_serve m d groups key of f a late b further sound few runs behind line = λ beats spaced fits. whole m d groups key of f a late b further sound few runs behind line beats spaced fits
