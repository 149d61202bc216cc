-- A rotation of windows of time over copies of a body, in a netlist: the front before the copies, with the line of ticks,
-- the back behind them, and what both serve.
use Rattle.std.specs.Prelude.{◌≡◌, ℕ, ◌+◌, ◌*◌, ◌^◌, ◌<◌, ◌≤◌, Bool, List, length, Some, slice_get}
use Rattle.std.specs.List.{sum}
use Rattle.gl_algebra.specs.declared.figures.Figures.{Figures}
use Rattle.gl_algebra.specs.declared.node.PlanNode.{PlanNode}
use Rattle.gl_algebra.specs.FigureTable.{AreSmall, IsSound, input_figures, stride_of, windows_over}
use Rattle.gl_algebra.specs.Views.{copies_of_time}
use Rattle.gl_bits.specs.Limits.{most_rows}
use Rattle.gl_values.specs.Results.{AreJoined}
use Rattle.gl_values.specs.Times.{tslices}
use Rattle.gl_net.specs.declared.node.Bit.{Bit}
use Rattle.gl_net.specs.Net.{Net, Run, IsRun, Keeps}
use Rattle.gl_wire.specs.declared.wire.Wire.{Wire}
use Rattle.gl_wire.specs.Beats.{Beats, Spaced, beats_of}
use Rattle.gl_wire.specs.Costs.{CostsAtMost}
use Rattle.gl_wire.specs.Serves.{Fits}
use Rattle.gl_wire.specs.Serving.{Serving}
use Rattle.gl_wire.specs.Shapes.{IsDelayed}
use Rattle.gl_wire.specs.Spills.{Lines}
use Rattle.gl_wire.specs.Wire.{Carried, IsWire, carried, line_at, stream, widths}
use Rattle.gl_algebra.specs.Values.{Sets}
use Rattle.gl_wire.specs.Bodies.{OfBody}
use Rattle.gl_wire.specs.Lift.{tuple_of_any}
use Rattle.gl_wire.specs.Rotates.{flush_of, lines_of_all}
use Rattle.gl_wire_registers.specs.Fronts.{Fed, Machine, keyless}
use Rattle.gl_wire_registers.specs.Held.{with_registers}
use Rattle.gl_wire_registers.specs.Lines.{carried_of}
use Rattle.gl_wire_registers.specs.Timers.{IsClose}
use Rattle.gl_windows.specs.declared.times.Ticked.{Ticked}
use Rattle.gl_windows.specs.declared.times.TimeRotation.{TimeRotation}
use Rattle.gl_windows.specs.Costs.{cost_of_time_front}
use Rattle.gl_wire.specs.Ticks.{TicksFit, ticks_at, times_at}
use Rattle.gl_windows.specs.TimeFront.{HasRoom, IsTimeFront, TimeMachine}

-- the copies: as many as windows of time can be open at once
abbrev pub copies_of : TimeRotation → ℕ
copies_of r = copies_of_time r.size r.advance

-- the figures of the whole, over a stream
abbrev pub time_figures : TimeRotation → Figures
time_figures r = windows_over (copies_of r) input_figures r.body

-- the machine of its front over ticks and what a wire carries
abbrev pub machine_of : TimeRotation → (ℕ → Bool) → Carried → TimeMachine
machine_of r tick a =
    record {
      size = r.size;
      advance = r.advance;
      count = copies_of r;
      stride = stride_of r.body;
      tick = tick;
      a = a;
    }

-- numbers of a rotation: the body waits for the end, and a flush can be timed
pub record IsTimeRotation (r : TimeRotation) : Type 0 where
  pub rows : 1 ≤ r.size
  pub most : r.size ≤ most_rows
  pub step : 1 ≤ r.advance
  pub sound : IsSound r.body
  pub closing : r.body.nt ≡ 0
  pub timed : flush_of (copies_of r) r.body < 2 ^ 32

-- wires behind the machine of a front, where it has room
pub record AreTimeFronts (old new : Net) (r : TimeRotation) (tick : Bit) (source : Wire) (ws : List Wire) : Type 0 where
  pub keeps : Keeps old new
  pub cost : CostsAtMost old new (with_registers (copies_of r * 17 + length (widths source.columns) * 2 + 92)
      (copies_of r * 3 + sum (widths source.columns) + 195))
  pub as_many : length ws ≡ copies_of r
  pub wires : (k : ℕ) (w : Wire) → slice_get ws k ≡ Some w → IsWire new w × (widths w.columns ≡ widths source.columns)
  pub front : (run : Run) → IsRun new run → HasRoom (machine_of r (line_at run tick) (carried run source))
      → IsTimeFront (machine_of r (line_at run tick) (carried run source)) (carried_of run ws)

-- the cycles from an end of the source to that on the line of ends, which the back gives one cycle later
abbrev pub time_close_delay : TimeRotation → ℕ
time_close_delay r = flush_of (copies_of r) r.body + 1 + r.body.a

-- the law of the front: for each copy a wire that carries what the machine gives it while it has room, and the line of
-- ends
pub record FeedsTimes (r : TimeRotation) (tick : ℕ → Bool) (a : Carried) (g : Fed) : Type 0 where
  pub front : HasRoom (machine_of r tick a) → IsTimeFront (machine_of r tick a) g.ins
  pub closes : IsClose (flush_of (copies_of r) r.body) (time_close_delay r) a.ends g.close

-- wherever each copy gives a body's results over the beats of its own wire, the whole gives at each end those of all
-- windows of time, joined: over all beats that are spaced by the whole's figures, of a stream that fits, whose ticks
-- stand at beats
abbrev pub ServesTimes : TimeRotation → (ℕ → Bool) → Carried → (ℕ → Carried) → (ℕ → Carried) → (ℕ → Lines) → Carried
    → Type 0
ServesTimes r tick a ins outs lines b =
    (sets : Sets) (nodes : List PlanNode) (body : ℕ) (beats : Beats)
    → Spaced (time_figures r) beats → Fits input_figures beats a
    → TicksFit tick beats
    → ((k : ℕ) → k < copies_of r → Spaced r.body (beats_of (ins k))
    → Serving r.body (λ u. OfBody sets nodes body (stream (ins k) u)) (lines k) (beats_of (ins k)) (outs k))
    → Serving (time_figures r)
    (λ t. AreJoined (OfBody sets nodes body)
    (tslices r.size r.advance (times_at tick a t) (ticks_at tick a t) (stream a t)))
    (lines_of_all lines (copies_of r)) beats b

-- what its front and its back promise beside a line of ticks
abbrev pub ticked_machine : Ticked → Machine
ticked_machine t =
    keyless (copies_of t.rotation) (Some t.tick) (cost_of_time_front (copies_of t.rotation) t.rotation.body.a)
    (FeedsTimes t.rotation) (λ tick a g. ServesTimes t.rotation tick a g.ins)

-- the law of both: wires behind the machine, a line of ends that comes late, and a wire one cycle behind all copies
abbrev pub TimesServe : Type 0
TimesServe =
    (r : TimeRotation) (tick : ℕ → Bool) (a b : Carried) (ins outs : ℕ → Carried) (close : ℕ → Bool)
    (lines : ℕ → Lines) → IsTimeRotation r
    → IsTimeFront (machine_of r tick a) ins
    → IsClose (flush_of (copies_of r) r.body) (time_close_delay r) a.ends close
    → IsDelayed 1 (record { tuple = tuple_of_any outs (copies_of r); ends = close }) b
    → ServesTimes r tick a ins outs lines b

-- a window of time of a plan has a rotation, where the figures of the whole fit 32 bits
abbrev pub TimesRotate : Type 0
TimesRotate =
    (size advance : ℕ) (body : Figures) → 1 ≤ size → size ≤ most_rows → 1 ≤ advance → IsSound body → body.nt ≡ 0
    → AreSmall (windows_over (copies_of_time size advance) input_figures body)
    → IsTimeRotation (record { size = size; advance = advance; body = body })
