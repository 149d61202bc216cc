-- A rotation of windows over copies of a body, in a netlist: the front before the copies, the back behind them, and
-- what both serve.
use Rattle.std.specs.Prelude.{◌≡◌, ℕ, ◌+◌, ◌*◌, ◌^◌, ◌<◌, ◌≤◌, List, length, Some, None, slice_get}
use Rattle.std.specs.List.{sum}
use Rattle.gl_algebra.specs.declared.figures.Figures.{Figures}
use Rattle.gl_algebra.specs.declared.node.PlanNode.{PlanNode}
use Rattle.gl_algebra.specs.FigureTable.{IsSound, stride_of, window_gap, windows_over}
use Rattle.gl_values.specs.Lists.{slices}
use Rattle.gl_values.specs.Results.{AreJoined}
use Rattle.gl_net.specs.Net.{Net, Run, IsRun, Keeps}
use Rattle.gl_wire.specs.declared.wire.Wire.{Wire}
use Rattle.gl_wire.specs.Apart.{CarriesApart}
use Rattle.gl_wire.specs.Beats.{Beats, Spaced, beats_of}
use Rattle.gl_wire.specs.Costs.{CostsAtMost}
use Rattle.gl_wire.specs.Serves.{Fits}
use Rattle.gl_wire.specs.Serving.{Serving}
use Rattle.gl_wire.specs.Spills.{Lines, ServedWithLines}
use Rattle.gl_wire.specs.Wire.{Carried, IsWire, carried, stream, widths}
use Rattle.gl_wire.specs.Rotates.{flush_of, lines_of_all}
use Rattle.gl_wire_registers.specs.Fronts.{Fed, Machine, keyless}
use Rattle.gl_wire_registers.specs.Held.{with_registers}
use Rattle.gl_wire_registers.specs.Lines.{carried_of}
use Rattle.gl_wire_registers.specs.Timers.{IsClose}
use Rattle.gl_windows.specs.declared.rotation.Rotation.{Rotation}
use Rattle.gl_windows.specs.Costs.{cost_of_front}
use Rattle.gl_algebra.specs.Values.{Sets}
use Rattle.gl_wire.specs.Bodies.{OfBody}
use Rattle.gl_windows.specs.Front.{IsFront}

-- numbers of a rotation: there are copies for all windows that can be open at once, the body waits for the end, and a
-- flush can be timed
pub record IsRotation (r : Rotation) : Type 0 where
  pub rows : 1 ≤ r.size
  pub step : 1 ≤ r.advance
  pub some' : 1 ≤ r.copies
  pub cover : r.size ≤ r.copies * r.advance
  pub sound : IsSound r.body
  pub closing : r.body.nt ≡ 0
  pub timed : flush_of r.copies r.body < 2 ^ 32

-- wires behind the machine of a front
pub record AreFronts (old new : Net) (size advance count stride : ℕ) (source : Wire) (ws : List Wire) : Type 0 where
  pub keeps : Keeps old new
  pub cost : CostsAtMost old new (with_registers (count * 16 + length (widths source.columns) * 2 + 68)
      (count * 3 + sum (widths source.columns) + 162))
  pub as_many : length ws ≡ count
  pub wires : (k : ℕ) (w : Wire) → slice_get ws k ≡ Some w → IsWire new w × (widths w.columns ≡ widths source.columns)
  pub front : (run : Run) → IsRun new run → IsFront size advance count stride (carried run source) (carried_of run ws)

-- the cycles from an end of the source to that on the line of ends, which the back gives one cycle later
abbrev pub close_delay : Rotation → ℕ
close_delay r = flush_of r.copies r.body + 1 + r.body.a

-- the law of the front: for each copy a wire that carries what the machine gives it, and the line of ends
pub record FeedsWindows (r : Rotation) (a : Carried) (g : Fed) : Type 0 where
  pub front : IsFront r.size r.advance r.copies (stride_of r.body) a g.ins
  pub closes : IsClose (flush_of r.copies r.body) (close_delay r) a.ends g.close

-- wherever each copy gives a body's results over the beats of its own wire, the whole gives those of all windows,
-- joined, over all beats that are spaced by the whole's figures, of a source that fits its own and carries far enough
-- apart
abbrev pub ServesWindows : Rotation → Figures → Carried → (ℕ → Carried) → (ℕ → Carried) → (ℕ → Lines) → Carried → Type 0
ServesWindows r f a ins outs lines b =
    (sets : Sets) (nodes : List PlanNode) (body : ℕ) (beats : Beats)
    → Spaced (windows_over r.copies f r.body) beats → Fits f beats a
    → CarriesApart (window_gap r.body) a
    → ((k : ℕ) → k < r.copies → Spaced r.body (beats_of (ins k))
    → Serving r.body (λ u. OfBody sets nodes body (stream (ins k) u)) (lines k) (beats_of (ins k)) (outs k))
    → ServedWithLines f (windows_over r.copies f r.body)
    (λ xs ys p. AreJoined (OfBody sets nodes body) (slices r.size r.advance xs) ys p)
    (lines_of_all lines r.copies) beats a b

-- what its front and its back promise
abbrev pub rotation_machine : Rotation → Machine
rotation_machine r =
    keyless r.copies None (cost_of_front r.copies r.body.a) (λ tick a g. FeedsWindows r a g)
    (λ tick a g outs lines b. (f : Figures) → IsSound f → ServesWindows r f a g.ins outs lines b)
