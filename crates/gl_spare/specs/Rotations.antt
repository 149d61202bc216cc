-- Windows with spare copies, in a netlist: the front, the back, and what both serve.
use Rattle.std.specs.Prelude.{◌≡◌, ℕ, ◌+◌, ◌^◌, ◌<◌, ◌≤◌, List, None, false}
use Rattle.gl_algebra.specs.declared.figures.Figures.{Figures}
use Rattle.gl_algebra.specs.declared.node.PlanNode.{PlanNode}
use Rattle.gl_algebra.specs.FigureTable.{IsSound, stride_of}
use Rattle.gl_algebra.specs.Results.{Inputs, IsPlanResult}
use Rattle.gl_algebra.specs.Views.{copies_of_window}
use Rattle.gl_values.specs.Lists.{slices}
use Rattle.gl_values.specs.Results.{IsOfParts}
use Rattle.gl_wire.specs.Beats.{Beats, Spaced, beats_of}
use Rattle.gl_wire.specs.Once.{OneStream, ServingOnce}
use Rattle.gl_wire.specs.Serving.{Serving}
use Rattle.gl_wire.specs.Spills.{Lines, both_lines}
use Rattle.gl_wire.specs.Wire.{Carried, stream}
use Rattle.gl_algebra.specs.Values.{Sets}
use Rattle.gl_wire.specs.Bodies.{OfBody}
use Rattle.gl_wire.specs.Rotates.{flush_of, lines_of_all}
use Rattle.gl_wire_registers.specs.Fronts.{Fed, Machine, keyless}
use Rattle.gl_wire_registers.specs.Timers.{IsClose}
use Rattle.gl_windows.specs.Front.{IsFront}
use Rattle.gl_spare.specs.Costs.{cost_of_front}
use Rattle.gl_spare.specs.LateEnds.{IsLate, IsQuiet}
use Rattle.gl_algebra.specs.Spares.{IsSpare, spare_over}
use Rattle.gl_spare.specs.declared.rotation.SpareRotation.{SpareRotation}

-- the windows that can be open at once
abbrev pub turns_in : SpareRotation → ℕ
turns_in r = copies_of_window r.size r.advance

-- numbers of a rotation: the body waits for the end, and a flush can be timed
pub record IsRotation (r : SpareRotation) : Type 0 where
  pub rows : 1 ≤ r.size
  pub step : 1 ≤ r.advance
  pub a_copy : 1 ≤ r.spare.copies
  pub sound : IsSound r.body
  pub closing : r.body.nt ≡ 0
  pub timed : flush_of (turns_in r) r.body < 2 ^ 32
  pub wide : stride_of r.body < 2 ^ 32

-- they suit a source
abbrev pub Suits : SpareRotation → Figures → Type 0
Suits r f = IsSpare f r.body r.size r.advance (turns_in r) r.spare.copies r.spare.gap r.spare.shift

-- the figures over a source
abbrev pub figures_over : SpareRotation → Figures → Figures
figures_over r f = spare_over (turns_in r) r.spare.gap r.spare.shift f r.body

-- the law of the front: what it reads is the source's wire with late ends, for each copy there is a wire that carries
-- what the machine gives it, and a line of the end
pub record FeedsSpare (r : SpareRotation) (a : Carried) (g : Fed) : Type 0 where
  pub late : Carried
  pub is_late : IsQuiet r.spare.shift a → IsLate r.spare.shift a late
  pub front : IsFront r.size r.advance r.spare.copies (stride_of r.body) late g.ins
  pub closes : IsClose (flush_of (turns_in r) r.body) (flush_of (turns_in r) r.body + 1 + r.body.a) late.ends g.close

-- wherever each copy serves a body over the beats of its own wire, the whole gives the body's results of all windows of
-- one stream, joined
abbrev pub ServesSpare : SpareRotation → Carried → (ℕ → Carried) → (ℕ → Carried) → (ℕ → Lines) → Carried → Type 0
ServesSpare r a ins outs lines b =
    (f : Figures) → IsSound f → Suits r f
    → (sets : Sets) (nodes : List PlanNode) (source body : ℕ) (inputs : ℕ → Inputs) (before : Lines)
    → (beats : Beats) (last : ℕ)
    → OneStream beats last → Spaced (figures_over r f) beats
    → Serving f (λ t. IsPlanResult nodes source (inputs t)) before beats a
    → ((k : ℕ) → k < r.spare.copies → Spaced r.body (beats_of (ins k))
    → Serving r.body (λ t. OfBody sets nodes body (stream (ins k) t)) (lines k) (beats_of (ins k)) (outs k))
    → ServingOnce (figures_over r f)
    (IsOfParts (IsPlanResult nodes source (inputs last)) (slices r.size r.advance) (OfBody sets nodes body) (λ rows. false))
    (both_lines before (lines_of_all lines r.spare.copies)) last b

-- what its front and its back promise
abbrev pub spare_machine : SpareRotation → Machine
spare_machine r =
    keyless r.spare.copies None (cost_of_front r.spare.copies r.body.a) (λ tick a g. FeedsSpare r a g)
    (λ tick a g. ServesSpare r a g.ins)
