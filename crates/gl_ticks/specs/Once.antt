-- Windows of time in a netlist: what front, copies and back serve over all beats, and over one stream where ticks are
-- farther apart than tuples.
use Rattle.std.specs.Prelude.{ℕ, ◌<◌, Bool, List, Some}
use Rattle.gl_algebra.specs.declared.figures.Figures.{Figures}
use Rattle.gl_algebra.specs.declared.node.PlanNode.{PlanNode}
use Rattle.gl_algebra.specs.FigureTable.{input_figures}
use Rattle.gl_values.specs.Results.{AreJoined}
use Rattle.gl_values.specs.Times.{tslices}
use Rattle.gl_wire.specs.Beats.{Beats, Spaced, beats_of}
use Rattle.gl_algebra.specs.Values.{Sets}
use Rattle.gl_wire.specs.Bodies.{OfBody}
use Rattle.gl_wire.specs.Lift.{tuple_of_any}
use Rattle.gl_wire.specs.Once.{OneStream, ServingOnce}
use Rattle.gl_wire.specs.Rotates.{flush_of, lines_of_all}
use Rattle.gl_wire.specs.Serves.{Fits}
use Rattle.gl_wire.specs.Serving.{Serving}
use Rattle.gl_wire.specs.Shapes.{IsDelayed}
use Rattle.gl_wire.specs.Spills.{Lines}
use Rattle.gl_wire.specs.Ticks.{TicksFit, ticks_at, times_at}
use Rattle.gl_wire.specs.Wire.{Carried, stream}
use Rattle.gl_wire_registers.specs.Fronts.{Machine, keyless}
use Rattle.gl_wire_registers.specs.Timers.{IsClose}
use Rattle.gl_windows.specs.declared.times.TimeRotation.{TimeRotation}
use Rattle.gl_windows.specs.Costs.{cost_of_time_front}
use Rattle.gl_windows.specs.TimeFront.{IsTimeFront}
use Rattle.gl_windows.specs.TimeRotations.{FeedsTimes, IsTimeRotation, ServesTimes, copies_of, machine_of, time_close_delay}
use Rattle.gl_ticks.specs.declared.rotation.RootTicked.{RootTicked}
use Rattle.gl_ticks.specs.Apart.{IsFarEnough, TicksApart}

-- wherever each copy gives a body's results over the beats of its own wire, the whole gives those of all windows of
-- time of one stream, joined: over beats of the stream, as far apart as the figures say, with ticks so much farther
abbrev pub ServesTimesOnce : TimeRotation → (ℕ → Bool) → Carried → (ℕ → Carried) → (ℕ → Carried) → (ℕ → Lines)
    → Carried → Type 0
ServesTimesOnce r tick a ins outs lines b =
    (f : Figures) (ticks : ℕ) → IsFarEnough r f ticks
    → (sets : Sets) (nodes : List PlanNode) (body : ℕ) (beats : Beats) (last : ℕ) → OneStream beats last
    → Spaced f beats
    → Fits input_figures beats a → TicksFit tick beats → TicksApart ticks tick beats
    → ((k : ℕ) → k < copies_of r → Spaced r.body (beats_of (ins k))
    → Serving r.body (λ t. OfBody sets nodes body (stream (ins k) t)) (lines k) (beats_of (ins k)) (outs k))
    → ServingOnce f
    (AreJoined (OfBody sets nodes body)
    (tslices r.size r.advance (times_at tick a last) (ticks_at tick a last) (stream a last)))
    (lines_of_all lines (copies_of r)) last b

-- that, and over all beats what windows of time serve, where a tick is a beat like any other
pub record ServesBoth (r : TimeRotation) (tick : ℕ → Bool) (a : Carried) (ins outs : ℕ → Carried) (lines : ℕ → Lines)
    (b : Carried) : Type 0 where
  pub each : ServesTimes r tick a ins outs lines b
  pub once : ServesTimesOnce r tick a ins outs lines b

-- what its front and its back promise beside a line of ticks
abbrev pub root_machine : RootTicked → Machine
root_machine t =
    let r = t.ticked.rotation in
    keyless (copies_of r) (Some t.ticked.tick) (cost_of_time_front (copies_of r) r.body.a) (FeedsTimes r)
    (λ tick a g. ServesBoth r tick a g.ins)

-- the law of both: wires behind the machine of windows of time, a line of ends that comes late, and a wire one cycle
-- behind all copies
abbrev pub TimesServeOnce : Type 0
TimesServeOnce =
    (r : TimeRotation) (tick : ℕ → Bool) (a b : Carried) (ins outs : ℕ → Carried) (close : ℕ → Bool)
    (lines : ℕ → Lines) → IsTimeRotation r
    → IsTimeFront (machine_of r tick a) ins
    → IsClose (flush_of (copies_of r) r.body) (time_close_delay r) a.ends close
    → IsDelayed 1 (record { tuple = tuple_of_any outs (copies_of r); ends = close }) b
    → ServesTimesOnce r tick a ins outs lines b
