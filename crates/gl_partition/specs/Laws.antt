-- The laws of windows of each key: front, copies and back serve, whatever netlist they stand in; and those of a plan have
-- their numbers.
use Rattle.std.specs.Prelude.{◌≡◌, ℕ, ◌≤◌, Bool}
use Rattle.gl_algebra.specs.declared.figures.Figures.{Figures}
use Rattle.gl_algebra.specs.FigureTable.{AreSmall, IsSound, partitions_over}
use Rattle.gl_algebra.specs.Views.{copies_of_partition, copies_of_window}
use Rattle.gl_wire.specs.Shapes.{IsDelayed}
use Rattle.gl_wire.specs.Spills.{Lines}
use Rattle.gl_wire.specs.Wire.{Carried}
use Rattle.gl_wire.specs.Lift.{tuple_of_any}
use Rattle.gl_wire_registers.specs.Timers.{IsClose}
use Rattle.gl_slots.specs.Keys.{with_keys}
use Rattle.gl_slots.specs.Slots.{came_further}
use Rattle.gl_partition.specs.declared.partitioning.Partitioning.{Partitioning}
use Rattle.gl_partition.specs.Machine.{ArePartitions}
use Rattle.gl_partition.specs.Partitionings.{AreKeys, AwaitsFlush, IsPartitioning, ServesPartitions, all_copies, close_cycles, close_delay, key_of, numbers_of}

-- wires behind the machine, the keys of the slots that are used, the line of further keys, a line of ends that comes
-- late, and a wire one cycle behind all copies, with the key of its slot in front of what a copy gives
abbrev pub PartitioningsServe : Type 0
PartitioningsServe =
    (r : Partitioning) (f : Figures) (a b : Carried) (keys : ℕ → ℕ → ℕ) (ins outs : ℕ → Carried)
    (close further : ℕ → Bool) (lines : ℕ → Lines)
    → IsPartitioning r → IsSound f
    → ArePartitions (numbers_of r) a ins
    → AreKeys r a keys
    → (AwaitsFlush r a → (c : ℕ) → further c ≡ came_further r.slots (key_of r) a c)
    → IsClose (close_cycles r) (close_delay r) a.ends close
    → IsDelayed 1 (record { tuple = tuple_of_any (with_keys keys outs) (all_copies r); ends = close }) b
    → ServesPartitions r f a ins outs lines further b

-- windows of each key in a plan have such numbers, where the figures of the whole fit 32 bits
abbrev pub PartitionsPartition : Type 0
PartitionsPartition =
    (key groups size advance : ℕ) (f body : Figures) → 1 ≤ groups → 1 ≤ size → 1 ≤ advance → IsSound body → body.nt ≡ 0
    → AreSmall (partitions_over (copies_of_partition groups size advance) f body)
    → IsPartitioning (record {
      key = key;
      slots = groups;
      size = size;
      advance = advance;
      copies = copies_of_window size advance;
      body = body;
    })
