-- Windows of each key as a machine over copies of a body: the law of its front, and what front and back promise.
use Rattle.std.specs.Prelude.{◌≡◌, ℕ}
use Rattle.gl_algebra.specs.declared.figures.Figures.{Figures}
use Rattle.gl_algebra.specs.FigureTable.{IsSound}
use Rattle.gl_wire.specs.Wire.{Carried}
use Rattle.gl_wire_registers.specs.Fronts.{Fed, Machine}
use Rattle.gl_wire_registers.specs.Timers.{IsClose}
use Rattle.gl_slots.specs.Keyed.{keyed_machine}
use Rattle.gl_slots.specs.Slots.{came_further}
use Rattle.gl_partition.specs.declared.partitioning.Partitioning.{Partitioning}
use Rattle.gl_partition.specs.Costs.{cost_of_front}
use Rattle.gl_partition.specs.Machine.{ArePartitions}
use Rattle.gl_partition.specs.Partitionings.{AreKeys, AwaitsFlush, ServesPartitions, all_copies, close_cycles, close_delay, key_of, numbers_of}

-- the law of the front: for each copy a wire and the key of its slot, the line of further keys, and that of ends
pub record FeedsPartitions (r : Partitioning) (a : Carried) (g : Fed) : Type 0 where
  pub front : ArePartitions (numbers_of r) a g.ins
  pub shown : AreKeys r a g.keys
  -- after reset it is 1 exactly in the cycle after one in which a tuple came whose key is not among its stream's first
  -- keys
  pub told : AwaitsFlush r a → (c : ℕ) → g.further c ≡ came_further r.slots (key_of r) a c
  pub closes : IsClose (close_cycles r) (close_delay r) a.ends g.close

-- what its front and its back promise
abbrev pub partitioning_machine : Partitioning → Machine
partitioning_machine r =
    keyed_machine (all_copies r) r.key (cost_of_front r.slots r.copies r.key) (λ tick a g. FeedsPartitions r a g)
    (λ tick a g outs lines b. (f : Figures) → IsSound f → ServesPartitions r f a g.ins outs lines g.further b)
