-- Groups as a machine over copies of a body: the law of its front, and what front and back promise.
use Rattle.std.specs.Prelude.{◌≡◌, ℕ}
use Rattle.gl_algebra.specs.declared.figures.Figures.{Figures}
use Rattle.gl_algebra.specs.FigureTable.{IsSound, stride_of}
use Rattle.gl_wire.specs.Wire.{Carried}
use Rattle.gl_wire_registers.specs.Fronts.{Fed, Machine}
use Rattle.gl_wire_registers.specs.Timers.{IsClose}
use Rattle.gl_groups.specs.declared.grouping.Grouping.{Grouping}
use Rattle.gl_groups.specs.Costs.{cost_of_front}
use Rattle.gl_slots.specs.Keyed.{keyed_machine}
use Rattle.gl_slots.specs.Keys.{AreKeys}
use Rattle.gl_groups.specs.Groupings.{AwaitsFlush, ServesGroups, close_cycles, close_delay, key_of}
use Rattle.gl_slots.specs.Slots.{AreSlots, came_further}

-- the law of the front: for each slot a wire and its key, the line of further keys, and that of ends
pub record FeedsGroups (r : Grouping) (a : Carried) (g : Fed) : Type 0 where
  pub front : AreSlots r.slots (key_of r) (stride_of r.body) a g.ins
  pub shown : AreKeys r.slots (key_of r) (stride_of r.body) 0 a g.keys
  -- after reset it is 1 exactly in the cycle after one in which a tuple came whose key is not among its stream's first
  -- keys
  pub told : AwaitsFlush r a → (c : ℕ) → g.further c ≡ came_further r.slots (key_of r) a c
  pub closes : IsClose (close_cycles r) (close_delay r) a.ends g.close

-- what the front and the back of groups promise
abbrev pub grouping_machine : Grouping → Machine
grouping_machine r =
    keyed_machine r.slots r.key (cost_of_front r.slots r.key) (λ tick a g. FeedsGroups r a g)
    (λ tick a g outs lines b. (f : Figures) → IsSound f → ServesGroups r f a g.ins outs lines g.further b)
