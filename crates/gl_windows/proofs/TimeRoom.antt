-- The machine of a front of windows of time has room where what comes is spaced by the figures of the whole.
use Rattle.std.proofs.Common.{◌≡◌, ℕ, ◌+◌, ◌-◌, ◌<◌, ◌≤◌, Bool, true, arith}
use Rattle.std.proofs.Math.Nat.{lt-div-mul-add}
use Rattle.gl_algebra.specs.FigureTable.{input_figures}
use Rattle.gl_algebra.proofs.FigureLemmas.{one_in_time}
use Rattle.gl_wire.specs.Beats.{Beats, Spaced}
use Rattle.gl_wire.specs.Serves.{Fits}
use Rattle.gl_wire.specs.Ticks.{TicksFit}
use Rattle.gl_wire.specs.Wire.{Carried}
use Rattle.gl_windows.specs.declared.times.TimeRotation.{TimeRotation}
use Rattle.gl_windows.specs.Ticks.{by_ticks}
use Rattle.gl_windows.specs.TimeFront.{HasRoom, turns_in}
use Rattle.gl_windows.specs.TimeRotations.{IsTimeRotation, machine_of, time_figures}
use Rattle.gl_windows.proofs.TickLemmas.{ticks_keep}
use Rattle.gl_windows.proofs.TimePhases.{room}
use Rattle.gl_windows.proofs.TimeServes.{none_late}

pub has_room : (r : TimeRotation) (tick : ℕ → Bool) (a : Carried) (beats : Beats) → IsTimeRotation r → Spaced (time_figures r) beats → Fits input_figures beats a → TicksFit tick beats
    → HasRoom (machine_of r tick a)
has_room r tick a beats is spaced fits at =
    room (machine_of r tick a) (record {
      rows_some = is.rows;
      step_some = is.step;
      stride_some = omega arith;
      copies_some = one_in_time r.size r.advance;
      cover = (let z = lt-div-mul-add {a = r.size} {b = r.advance} is.step in omega (arith, z));
      rested = rested;
    })
  where
    rested : (u d : ℕ) → a.ends u ≡ true → (by_ticks tick a).comes d → u < d → u + (turns_in (machine_of r tick a) + 2) ≤ d
    rested u d e k l =
        let p = fits.ends u e in
        let q = (ticks_keep tick beats a fits at).caused d k in
        let late = none_late q.end in
        let y = spaced.apart p.beat q.beat true q.end p.is q.is (omega (arith, p.low, q.high, late, l)) in
        omega (arith, y, p.high, q.low, is.sound.end_gap)
