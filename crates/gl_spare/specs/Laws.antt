-- The laws of windows with spare copies, whatever netlist they stand in.
use Rattle.std.specs.Prelude.{◌≡◌, ℕ, ◌+◌, ◌<◌, ◌≤◌, List, map, Some, Bool, false}
use Rattle.gl_algebra.specs.declared.figures.Figures.{Figures}
use Rattle.gl_algebra.specs.declared.node.PlanNode.{PlanNode}
use Rattle.gl_algebra.specs.FigureTable.{IsSound, stride_of}
use Rattle.gl_algebra.specs.Results.{Inputs, IsPlanResult}
use Rattle.gl_values.specs.Lists.{slices}
use Rattle.gl_values.specs.Results.{IsOfParts, Row}
use Rattle.gl_wire.specs.Beats.{Beats, Spaced, beats_of}
use Rattle.gl_wire.specs.Once.{OneStream, ServingOnce}
use Rattle.gl_wire.specs.Serving.{Serving}
use Rattle.gl_wire.specs.Shapes.{IsDelayed}
use Rattle.gl_wire.specs.Spills.{Lines, both_lines}
use Rattle.gl_wire.specs.Wire.{Carried, stream}
use Rattle.gl_algebra.specs.Values.{Sets}
use Rattle.gl_wire.specs.Bodies.{OfBody}
use Rattle.gl_wire.specs.Lift.{Schedules, tuple_of_any, visits}
use Rattle.gl_wire.specs.Rotates.{flush_of, lines_of_all, turns_of}
use Rattle.gl_wire_registers.specs.Timers.{IsClose}
use Rattle.gl_windows.specs.Front.{IsFront, who_ends}
use Rattle.gl_spare.specs.LateEnds.{IsLate}
use Rattle.gl_spare.specs.Sources.{OneSource}
use Rattle.gl_spare.specs.Rotations.{IsRotation, Suits}
use Rattle.gl_spare.specs.declared.rotation.SpareRotation.{SpareRotation}
use Rattle.gl_algebra.specs.Spares.{IsSpare, spare_of, spare_over}

-- the stream of a visit
abbrev pub stream_of : ℕ × List Row → List Row
stream_of v = v.1

-- each copy takes whole windows, spaced as its body asks and with ends an interval of the body apart; they are all
-- windows of the stream, in order, and the last one ends in the last turn after the stream's end
pub record AreScheduled (s : Figures) (size advance turns copies : ℕ) (a : Carried) (ins : ℕ → Carried) (u : ℕ)
    : Type 0 where
  pub schedules : Schedules s copies (who_ends size advance copies (stride_of s) a) ins
  pub windows : map stream_of (visits (who_ends size advance copies (stride_of s) a) ins 0 (u + turns_of turns s + 2))
      ≡ slices size advance (stream a u)
  pub over : (v k : ℕ) → who_ends size advance copies (stride_of s) a v ≡ Some k → v < u + turns_of turns s + 2

-- the machine of windows over one stream, in which tuples are as far apart as the gap, and the end the stride behind
-- the last one
abbrev pub SparesSchedule : Type 0
SparesSchedule =
    (f s : Figures) (size advance turns copies gap shift u : ℕ) (a : Carried) (ins : ℕ → Carried)
    → IsSpare f s size advance turns copies gap shift → IsFront size advance copies (stride_of s) a ins
    → OneSource gap (stride_of s) a u
    → AreScheduled s size advance turns copies a ins u

-- a source's wire, the same with late ends, the machine of windows behind it over all copies, a line of ends, and a
-- wire one cycle behind all copies: over one stream, wherever each copy serves a body, the whole gives the body's
-- results of all windows, joined
abbrev pub SparesServe : Type 0
SparesServe =
    (f s : Figures) (size advance turns copies gap shift : ℕ) (a late b : Carried) (ins outs : ℕ → Carried)
    (close : ℕ → Bool) (lines : ℕ → Lines)
    → IsSpare f s size advance turns copies gap shift → IsSound f → IsSound s → s.nt ≡ 0
    → IsLate shift a late → IsFront size advance copies (stride_of s) late ins
    → IsClose (flush_of turns s) (flush_of turns s + 1 + s.a) late.ends close
    → IsDelayed 1 (record { tuple = tuple_of_any outs copies; ends = close }) b
    → (sets : Sets) (nodes : List PlanNode) (source body : ℕ) (inputs : ℕ → Inputs) (before : Lines)
    → (beats : Beats) (last : ℕ)
    → OneStream beats last → Spaced (spare_over turns gap shift f s) beats
    → Serving f (λ t. IsPlanResult nodes source (inputs t)) before beats a
    → ((k : ℕ) → k < copies → Spaced s (beats_of (ins k))
    → Serving s (λ t. OfBody sets nodes body (stream (ins k) t)) (lines k) (beats_of (ins k)) (outs k))
    → ServingOnce (spare_over turns gap shift f s)
    (IsOfParts (IsPlanResult nodes source (inputs last)) (slices size advance) (OfBody sets nodes body) (λ rows. false))
    (both_lines before (lines_of_all lines copies)) last b

-- the spare copies that windows have make a rotation that suits their source
abbrev pub SparesRotate : Type 0
SparesRotate =
    (r : SpareRotation) (f : Figures) → IsSound f → IsSound r.body → r.body.nt ≡ 0 → 1 ≤ r.size → 1 ≤ r.advance
    → spare_of r.size r.advance f r.body ≡ Some r.spare → IsRotation r × Suits r f
