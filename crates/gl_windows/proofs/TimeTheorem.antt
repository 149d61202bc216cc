-- The theorem of windows of time: wires behind the machine of a front, a line of ends that comes late, and a wire one cycle behind all copies
-- serve at each end the windows of its stream.
use Rattle.std.proofs.Common.{◌≡◌, ℕ, ◌+◌, ◌-◌, ◌*◌, ◌<◌, ◌≤◌, max, Bool, true, refl, arith}
use Rattle.std.proofs.Math.Nat.{lt-div-mul-add}
use Rattle.gl_algebra.specs.FigureTable.{stride_of, window_gap}
use Rattle.gl_algebra.proofs.FigureLemmas.{one_in_time}
use Rattle.gl_values.specs.Times.{tslices}
use Rattle.gl_wire.specs.Ticks.{ticks_at, times_at}
use Rattle.gl_wire.specs.Wire.{Carried, stream}
use Rattle.gl_wire.specs.Rotates.{Rotates}
use Rattle.gl_wire.specs.Timed.{Timed}
use Rattle.gl_wire.proofs.NumberLemmas.{all_turns}
use Rattle.gl_windows.specs.declared.times.TimeRotation.{TimeRotation}
use Rattle.gl_windows.specs.Ticks.{by_ticks}
use Rattle.gl_windows.specs.TimeFront.{TimeMachine, IsTimeFront, who_closes}
use Rattle.gl_windows.specs.TimeRotations.{IsTimeRotation, TimesServe, copies_of, machine_of}
use Rattle.gl_windows.proofs.TimeSetting.{IsTimed}
use Rattle.gl_windows.proofs.TimeCopies.{copies_empty, rows_of}
use Rattle.gl_windows.proofs.TimeSchedule.{IsSpaced, caused, origin, schedules}
use Rattle.gl_windows.proofs.TimeVisits.{few_windows, many_windows}
use Rattle.gl_windows.proofs.TimeParts.{begin_at, begins_at, parted}
use Rattle.gl_windows.proofs.TimeServes.{served_by}
use Rattle.gl_windows.proofs.WindowLemmas.{rest_gap}

module _ (r : TimeRotation) (is : IsTimeRotation r) (tick : ℕ → Bool) (a : Carried) (ins : ℕ → Carried) (front : IsTimeFront (machine_of r tick a) ins)
    (timed : Timed (window_gap r.body) (rest_gap (copies_of r) r.body) a (by_ticks tick a)) where
  abbrev m : TimeMachine
  m = machine_of r tick a

  abbrev count : ℕ
  count = copies_of r

  some : 1 ≤ count
  some = one_in_time r.size r.advance

  -- the gap behind an end has room for a flush
  wide : (u d : ℕ) → a.ends u ≡ true → (by_ticks tick a).comes d → u < d → u + count * stride_of r.body + 1 ≤ d
  wide u d p k l = let z = timed.after u d p k l in omega (arith, z, all_turns count (stride_of r.body) some, is.sound.end_gap)

  ok : IsTimed m
  ok = record {
    rows_some = is.rows;
    step_some = is.step;
    stride_some = omega arith;
    copies_some = some;
    cover = (let z = lt-div-mul-add {a = r.size} {b = r.advance} is.step in omega (arith, z));
    rested = λ u d p k l. let z = wide u d p k l in omega (arith, z, all_turns count (stride_of r.body) some);
  }

  time : IsSpaced m (window_gap r.body) (rest_gap count r.body) r.body.ge
  time = record { timed = timed; near = omega arith; strides = is.sound.end_gap; far = omega arith }

  rotates : Rotates r.body count count (window_gap r.body) (λ n. n) (λ n. max n 1 - 1 + count) rows_of a (by_ticks tick a) (λ u. tslices r.size r.advance (times_at tick a u) (ticks_at tick a u) (stream a u)) (who_closes m) ins
  rotates = record {
    schedules = schedules m ok ins front (window_gap r.body) (rest_gap count r.body) r.body.ge time r.body refl (omega arith) refl;
    origin = origin m ok ins front (window_gap r.body) (rest_gap count r.body) r.body.ge time;
    from = begin_at m ok;
    begins = λ u p. begins_at m ok u;
    parted = parted m ok ins front wide;
    few_visits = few_windows m ok ins;
    many_visits = many_windows m ok ins;
    caused = caused m ok ins front (window_gap r.body) (rest_gap count r.body) r.body.ge time;
    empties = copies_empty m ok ins front;
  }

pub times_serve : TimesServe
times_serve r tick a b ins outs close lines is front closes back =
    served_by r is tick a b (who_closes (machine_of r tick a)) ins outs close lines back closes (rotates r is tick a ins front)
