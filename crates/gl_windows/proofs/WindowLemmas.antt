-- The law of windows: a rotation of a stream's tuples over copies of a body serves what the body makes of each window, with the figures
-- of windows.
use Rattle.std.proofs.Common.{◌≡◌, ℕ, zero, suc, ◌+◌, ◌-◌, ◌*◌, ◌<◌, ◌≤◌, max, List, Option, Some, Bool, false, ◌||◌, refl, sym, ap, ◌∙◌, arith, mul-le-mul_right}
use Rattle.gl_values.specs.Lists.{slices}
use Rattle.gl_values.specs.Results.{Row, Results, AreJoined, IsOfParts}
use Rattle.gl_bits.proofs.Bools.{or_none}
use Rattle.gl_algebra.specs.declared.figures.Figures.{Figures}
use Rattle.std.proofs.lemmas.Grind.{div_ceil_times}
use Rattle.gl_algebra.proofs.FigureLemmas.{one_copy, last_of-some}
use Rattle.gl_algebra.specs.Views.{copies_of_window}
use Rattle.gl_algebra.proofs.SoundLemmas.{windows_sound}
use Rattle.gl_algebra.specs.FigureTable.{IsSound, stride_of, window_gap, windows_over, last_of}
use Rattle.gl_wire.specs.Apart.{Carries, CarriesApart, a_tuple, an_end}
use Rattle.gl_wire.specs.Beats.{Beats, Spaced, beats_of}
use Rattle.gl_wire.specs.Wire.{Carried, stream}
use Rattle.gl_wire.specs.Serves.{Fits}
use Rattle.gl_wire.specs.Serving.{Serving}
use Rattle.gl_wire.specs.Shapes.{IsDelayed}
use Rattle.gl_wire.specs.Spills.{Relation, Lines, ServedWithLines, both_lines}
use Rattle.gl_wire.proofs.ServingLemmas.{serving_then, serving_as}
use Rattle.gl_wire.specs.Lift.{tuple_of_any}
use Rattle.gl_wire.specs.Coming.{by_tuples}
use Rattle.gl_wire.specs.Timed.{Origin, Timed}
use Rattle.gl_wire.specs.Rotates.{Rotates, OverCopies, lines_of_all, flush_of, turns_of}
use Rattle.gl_wire.proofs.LiftSpillLemmas.{lift_spills}
use Rattle.gl_wire.specs.CopyLaws.{FitsIsTimed}
use Rattle.gl_wire.proofs.WholeServes.{whole_lines}
use Rattle.gl_wire_registers.specs.Timers.{IsClose}
use Rattle.gl_windows.specs.Front.{IsFront, who_ends}
use Rattle.gl_windows.specs.Laws.{RotationsServe, WindowsRotate}
use Rattle.gl_wire.specs.Bodies.{OfBody}
use Rattle.gl_wire.proofs.NumberLemmas.{all_turns}
use Rattle.gl_windows.proofs.Setting.{Setting, Spacing}
use Rattle.gl_windows.proofs.PhaseLemmas.{many_windows, empty_copies, from_by, from_begins, from_parted}
use Rattle.gl_windows.proofs.SourceLemmas.{Source, comes, in_turn, source, few_windows, visit_source, tuple_source}
use Rattle.gl_windows.proofs.ScheduleLemmas.{schedules}

-- the gap after an end that a front of windows wants
abbrev pub rest_gap : ℕ → Figures → ℕ
rest_gap count s = (count - 1) * stride_of s + s.ge + 1

flush_fits : (count : ℕ) (s : Figures) → 1 ≤ count → IsSound s → count * stride_of s + 1 ≤ rest_gap count s
flush_fits count s some sound = omega (arith, all_turns count (stride_of s) some, sound.end_gap)

module _ (s : Figures) (sound : IsSound s) (size advance count : ℕ) (a : Carried) (ins : ℕ → Carried) (law : IsFront size advance count (stride_of s) a ins)
    (rows_some : 1 ≤ size) (step_some : 1 ≤ advance) (copies_some : 1 ≤ count) (cover : size ≤ count * advance) (timed : Timed (window_gap s) (rest_gap count s) a (by_tuples a)) where
  abbrev g1 : ℕ
  g1 = window_gap s

  abbrev g2 : ℕ
  g2 = rest_gap count s

  stride_some : 1 ≤ stride_of s
  stride_some = omega arith

  wide : count * stride_of s + 1 ≤ g2
  wide = flush_fits count s copies_some sound

  near : s.ge ≤ g1
  near = omega arith

  strides : stride_of s ≤ s.ge
  strides = sound.end_gap

  far : (count - 1) * stride_of s + s.ge + 1 ≤ g2
  far = omega arith

  abbrev setting : Setting
  setting = record {
    size = size;
    advance = advance;
    count = count;
    most = count;
    stride = stride_of s;
    a = a;
    ins = ins;
    law = law;
    rows_some = rows_some;
    step_some = step_some;
    copies_some = copies_some;
    most_some = copies_some;
    stride_some = stride_some;
    enough = omega arith;
    cover = cover;
    rested = λ u d p k l. omega (arith, timed.after u d p k l, wide);
  }

  abbrev spacing : Spacing setting
  spacing = record { g1 = g1; g2 = g2; gap_end = s.ge; timed = timed; near = near; strides = strides; far = far }

  abbrev pub window_visits : ℕ → Option ℕ
  window_visits = who_ends size advance count (stride_of s) a

  abbrev pub whole_visit : ℕ × List Row → List Row
  whole_visit v = v.1

  origin : (v k : ℕ) → window_visits v ≡ Some k → Origin ((count - 1) * stride_of s) g1 (stride_of s) a (by_tuples a) v
  origin zero k h = absurd (cc)
  origin (suc x) k h =
      let c = visit_source setting x k h in
      by (source setting x c.0)
    where
      by : Source setting x → Origin ((count - 1) * stride_of s) g1 (stride_of s) a (by_tuples a) (suc x)
      by (comes q) = record { of = x; comes = q; low = omega arith; high = omega arith; at_once = λ e. (refl, omega (arith, near, strides)) }
      by (in_turn q) =
          let z : q.i * stride_of s ≤ (count - 1) * stride_of s = mul-le-mul_right (stride_of s) (omega (arith, q.less)) in
          let y = q.end in
          record { of = q.u; comes = an_end q.end; low = omega (arith, q.time); high = omega (arith, q.time, z); at_once = λ e. absurd (cc (e, y)) }

  caused : (k c : ℕ) (r : Row) → k < count → (ins k).tuple c ≡ Some r → (ins k).ends c ≡ false → (x : ℕ) × (c ≡ suc x) × Carries a x
  caused k zero r l h n = absurd (let z = law.no_tuple k l in cc (z, h))
  caused k (suc x) r l h n = (x, refl, a_tuple r (tuple_source setting k x r l h n).1)

  pub rotates : Rotates s count count g1 (λ n. n) (λ n. max n 1 - 1 + count) whole_visit a (by_tuples a) (λ u. slices size advance (stream a u)) window_visits ins
  rotates = record {
    schedules = schedules setting spacing s refl (omega arith) refl;
    origin = origin;
    from = λ u. from_by setting u (a.ends u) refl;
    begins = λ u p. from_begins setting u (a.ends u) refl p;
    parted = λ u p. from_parted setting u (a.ends u) refl p;
    few_visits = few_windows setting;
    many_visits = many_windows setting;
    caused = caused;
    empties = empty_copies setting;
  }

-- the table's row is that of such a whole
pub window_table : (count : ℕ) (f s : Figures) → 1 ≤ count → IsSound s → OverCopies f s (windows_over count f s) count (window_gap s) (rest_gap count s) (λ n. n) (λ n. max n 1 - 1 + count)
window_table count f s some sound = record {
  a = refl;
  lt = λ l. last_of-some (f.nt * s.ne) (f.a + s.a + 2) (f.lt + s.le + 2) l;
  le = omega arith;
  nt = refl;
  ne = refl;
  keeps = omega arith;
  gt = omega arith;
  ge = omega arith;
  flush = flush_fits count s some sound;
  few_more = λ m n l. l;
  many_more = λ m n l. omega (arith, l);
}

-- ---- the theorem, over beats in which the source is carried far enough apart

module _ (timed_by : FitsIsTimed) (f s : Figures) (sound_f : IsSound f) (sound_s : IsSound s) (closing : s.nt ≡ 0) (size advance count : ℕ) (rows_some : 1 ≤ size) (step_some : 1 ≤ advance) (copies_some : 1 ≤ count) (cover : size ≤ count * advance)
    (a : Carried) (ins outs : ℕ → Carried) (law : IsFront size advance count (stride_of s) a ins) (m : Relation) (lines : ℕ → Lines)
    (b : Carried) (close : ℕ → Bool) (back : IsDelayed 1 (record { tuple = tuple_of_any outs count; ends = close }) b)
    (closes : IsClose (flush_of count s) (flush_of count s + 1 + s.a) a.ends close) where
  abbrev pub h : Figures
  h = windows_over count f s

  late : flush_of count s + 1 + s.a ≡ s.le + turns_of count s + 2
  late = omega (arith, all_turns count (stride_of s) copies_some, sound_s.tuples_last, sound_s.end_last)

  close_first : (c : ℕ) → c < s.le + turns_of count s + 2 → close c ≡ false
  close_first c l = closes.before c (omega (arith, l, late))

  closes_late : Timed (window_gap s) (rest_gap count s) a (by_tuples a) → (c : ℕ) → close (c + (s.le + turns_of count s + 2)) ≡ a.ends c
  closes_late timed c =
      ap (λ (n : ℕ). close (c + n)) (sym late)
      ∙ closes.later (λ u d p q l. let y = timed.after u d p (an_end q) l in omega (arith, y, flush_fits count s copies_some sound_s)) c

  pub windows_served : (beats : Beats) → Spaced h beats → Fits f beats a → CarriesApart (window_gap s) a → ((k : ℕ) → k < count → Spaced s (beats_of (ins k)) → Serving s (λ t. m (stream (ins k) t)) (lines k) (beats_of (ins k)) (outs k))
      → ServedWithLines f h (λ xs ys p. AreJoined m (slices size advance xs) ys p) (lines_of_all lines count) beats a b
  windows_served beats spaced fits near served =
      let timed : Timed (window_gap s) (rest_gap count s) a (by_tuples a) = timed_by f h (window_gap s) (rest_gap count s) beats a sound_f (omega (arith, sound_s.end_gap)) (omega arith) (omega arith) spaced fits near in
      let rot = rotates s sound_s size advance count a ins law rows_some step_some copies_some cover timed in
      let lifted = lift_spills s (λ u. m) count (who_ends size advance count (stride_of s) a) lines ins outs sound_s closing rot.schedules (λ k l. served k l (rot.schedules.spaced k l)) in
      whole_lines f s h count count (window_gap s) (rest_gap count s) (λ n. n) (λ n. max n 1 - 1 + count) (λ (v : ℕ × List Row). v.1) (window_table count f s copies_some sound_s)
      sound_f sound_s (windows_sound count f s copies_some sound_f sound_s) copies_some beats spaced a fits (who_ends size advance count (stride_of s) a) ins outs
      m lines lifted b close back close_first (closes_late timed) (slices size advance) timed rot

  -- over what the source's wire gives, and the copies' over their own
  pub windows_serving : (means : ℕ → Results) (before : Lines) (beats : Beats) → Spaced h beats → Serving f means before beats a → CarriesApart (window_gap s) a
      → ((k : ℕ) → k < count → Spaced s (beats_of (ins k)) → Serving s (λ t. m (stream (ins k) t)) (lines k) (beats_of (ins k)) (outs k))
      → Serving h (λ t. IsOfParts (means t) (slices size advance) m (λ rows. false)) (both_lines before (lines_of_all lines count)) beats b
  windows_serving means before beats spaced x near copies =
      let y = windows_served beats spaced x.fits near copies in
      serving_as h _ _ (both_lines before (lines_of_all lines count)) beats b (λ t ys p q. record {
        rows = q.0;
        source_spill = q.1;
        parts_spill = q.2;
        of_source = q.3;
        of_parts = q.4;
        any = q.5 ∙ sym (or_none (q.1 || q.2));
      }) (serving_then f h means (λ xs ys p. AreJoined m (slices size advance xs) ys p) before (lines_of_all lines count) beats a b x y)

-- for a body of a plan
pub rotations_serve : FitsIsTimed → RotationsServe
rotations_serve timed_by r f a b ins outs close lines is sound_f front closes back sets nodes body beats spaced fits near served =
    windows_served timed_by f r.body sound_f is.sound is.closing r.size r.advance r.copies is.rows is.step is.some' is.cover a ins outs front (OfBody sets nodes body) lines b close back closes
    beats spaced fits near served

pub windows_rotate : WindowsRotate
windows_rotate size advance f body rows step sound closing small =
    let some = one_copy size advance rows step in
    let turns = all_turns (copies_of_window size advance) (stride_of body) some in
    record {
      rows = rows;
      step = step;
      some' = some;
      cover = (div_ceil_times size advance step).0;
      sound = sound;
      closing = closing;
      timed = omega (arith, small.le, turns, sound.tuples_last, sound.end_last);
    }
