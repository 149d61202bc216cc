-- What a rotation of windows of time serves, where its front rotates over the ticks, tuples and ends that come: at each end the windows of
-- its stream, joined.
use Rattle.std.proofs.Common.{◌≡◌, ℕ, ◌+◌, ◌-◌, ◌<◌, ◌≤◌, max, List, Some, Bool, true, false, refl, sym, ap, ◌∙◌, subst, arith, inr}
use Rattle.gl_algebra.specs.FigureTable.{IsSound, input_figures, stride_of, window_gap}
use Rattle.gl_algebra.proofs.FigureLemmas.{one_in_time}
use Rattle.gl_algebra.proofs.SoundLemmas.{windows_sound}
use Rattle.gl_values.specs.Results.{Row, AreJoined}
use Rattle.gl_values.specs.Times.{tslices}
use Rattle.gl_wire.specs.Apart.{an_end}
use Rattle.gl_wire.specs.Beats.{Beats, Spaced, gap, last}
use Rattle.gl_wire.specs.Serves.{Caused, Fits}
use Rattle.gl_wire.specs.Shapes.{IsDelayed}
use Rattle.gl_wire.specs.Spills.{Lines}
use Rattle.gl_wire.specs.Wire.{Carried, stream}
use Rattle.gl_wire.proofs.FurtherLemmas.{end_of, has_end_of}
use Rattle.gl_wire.specs.Bodies.{OfBody}
use Rattle.gl_wire.specs.Coming.{KeepsBeats}
use Rattle.gl_wire.specs.Lift.{Visits, tuple_of_any}
use Rattle.gl_wire.specs.Rotates.{Rotates, flush_of, turns_of}
use Rattle.gl_wire.specs.Timed.{Timed}
use Rattle.gl_wire.proofs.LiftSpillLemmas.{lift_spills}
use Rattle.gl_wire.proofs.NumberLemmas.{all_turns}
use Rattle.gl_wire.proofs.TimeLemmas.{timed_for}
use Rattle.gl_wire.proofs.WholeServes.{whole_serving}
use Rattle.gl_wire_registers.specs.Timers.{IsClose}
use Rattle.gl_windows.specs.declared.times.TimeRotation.{TimeRotation}
use Rattle.gl_wire.specs.Ticks.{TicksFit, ticks_at, times_at}
use Rattle.gl_windows.specs.Ticks.{by_ticks}
use Rattle.gl_windows.specs.TimeRotations.{IsTimeRotation, ServesTimes, copies_of, time_close_delay, time_figures}
use Rattle.gl_windows.proofs.TickLemmas.{ticks_keep}
use Rattle.gl_windows.proofs.TimeCopies.{rows_of}
use Rattle.gl_windows.proofs.WindowLemmas.{rest_gap, window_table}

stream_sound : IsSound input_figures
stream_sound = record {
  tuples_last = omega arith;
  end_last = omega arith;
  tuples = omega arith;
  some = omega arith;
  tuples_gap = omega arith;
  end_gap = omega arith;
  gaps = omega arith;
}

-- what comes of a beat of a stream comes in its cycle
pub none_late : (e : Bool) → last input_figures e ≡ 0
none_late true = refl
none_late false = refl

at_beat : (beats : Beats) (c : ℕ) (x : Caused input_figures beats c) → x.beat ≡ c
at_beat beats c x = omega (arith, x.low, x.high, none_late x.end)

module _ (r : TimeRotation) (is : IsTimeRotation r) (tick : ℕ → Bool) (a b : Carried) (who : Visits) (ins outs : ℕ → Carried) (close : ℕ → Bool) (lines : ℕ → Lines)
    (back : IsDelayed 1 (record { tuple = tuple_of_any outs (copies_of r); ends = close }) b)
    (closes : IsClose (flush_of (copies_of r) r.body) (time_close_delay r) a.ends close) where
  abbrev count : ℕ
  count = copies_of r

  abbrev g1 : ℕ
  g1 = window_gap r.body

  abbrev g2 : ℕ
  g2 = rest_gap count r.body

  -- the windows of the stream that ends in a cycle
  abbrev pub windows_at : ℕ → List (List Row)
  windows_at u = tslices r.size r.advance (times_at tick a u) (ticks_at tick a u) (stream a u)

  some : 1 ≤ count
  some = one_in_time r.size r.advance

  sound : IsSound (time_figures r)
  sound = windows_sound count input_figures r.body some stream_sound is.sound

  gap_low : (e : Bool) → g1 ≤ gap (time_figures r) e
  gap_low true = omega (arith, sound.gaps)
  gap_low false = omega arith

  late : flush_of count r.body + 1 + r.body.a ≡ r.body.le + turns_of count r.body + 2
  late = omega (arith, all_turns count (stride_of r.body) some, is.sound.tuples_last, is.sound.end_last)

  close_first : (c : ℕ) → c < r.body.le + turns_of count r.body + 2 → close c ≡ false
  close_first c l = closes.before c (omega (arith, l, late))

  closes_late : Timed g1 g2 a (by_ticks tick a) → (c : ℕ) → close (c + (r.body.le + turns_of count r.body + 2)) ≡ a.ends c
  closes_late timed c =
      ap (λ (n : ℕ). close (c + n)) (sym late)
      ∙ closes.later (λ u d p q l. let y = timed.after u d p (inr (an_end q)) l in omega (arith, y, all_turns count (stride_of r.body) some, is.sound.end_gap)) c

  module _ (beats : Beats) (spaced : Spaced (time_figures r) beats) (fits : Fits input_figures beats a) (at : TicksFit tick beats) where
    in_time : Timed g1 g2 a (by_ticks tick a)
    in_time =
        timed_for input_figures (time_figures r) beats a (by_ticks tick a) stream_sound (omega arith) (omega arith) spaced fits keeps g1 g2 (omega arith) near
      where
        keeps : KeepsBeats input_figures beats a (by_ticks tick a)
        keeps = ticks_keep tick beats a fits at

        near : (c d : ℕ) → (by_ticks tick a).comes c → (by_ticks tick a).comes d → c < d → c + g1 ≤ d
        near c d p q l =
            let x = keeps.caused c p in
            let y = keeps.caused d q in
            let i = at_beat beats c x in
            let j = at_beat beats d y in
            let z = spaced.apart x.beat y.beat x.end y.end x.is y.is (omega (arith, i, j, l)) in
            omega (arith, z, i, j, gap_low x.end)

    -- the end of a beat stands in its cycle
    at_end : (t : ℕ) → (p : beats t ≡ Some true) → end_of input_figures beats a fits t ≡ t
    at_end t p = let h = has_end_of input_figures beats a fits t p in omega (arith, h.low, h.high)

  pub served_by : (Timed g1 g2 a (by_ticks tick a) → Rotates r.body count count g1 (λ n. n) (λ n. max n 1 - 1 + count) rows_of a (by_ticks tick a) windows_at who ins)
      → ServesTimes r tick a ins outs lines b
  served_by rotates sets nodes body beats spaced fits at served =
      let timed = in_time beats spaced fits at in
      let rot = rotates timed in
      let lifted = lift_spills r.body (λ u. OfBody sets nodes body) count who lines ins outs is.sound is.closing rot.schedules (λ k l. served k l (rot.schedules.spaced k l)) in
      let given = whole_serving input_figures r.body (time_figures r) count count g1 g2 (λ n. n) (λ n. max n 1 - 1 + count) rows_of (window_table count input_figures r.body some is.sound)
      stream_sound is.sound sound some beats spaced a fits who ins outs (OfBody sets nodes body) lines lifted b close back close_first (closes_late timed)
      (by_ticks tick a) windows_at (ticks_keep tick beats a fits at) timed rot in
      record {
        fits = given.fits;
        spill = given.spill;
        right = λ t e p he. subst (λ z. AreJoined (OfBody sets nodes body) (windows_at z) (stream b e) (given.spill t)) (at_end beats spaced fits at t p) (given.right t e p he);
        low = given.low;
        told = given.told;
        so = given.so;
        late = given.late;
      }
