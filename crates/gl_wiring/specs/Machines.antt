-- The machines over copies of a body, by the nodes that they are for.
use Rattle.gl_groups.specs.Grouped.{grouping_machine}
use Rattle.gl_groups.specs.Groupings.{IsGrouping}
use Rattle.gl_partition.specs.Partitioned.{partitioning_machine}
use Rattle.gl_partition.specs.Partitionings.{IsPartitioning}
use Rattle.gl_windows.specs.Rotations.{IsRotation, rotation_machine}
use Rattle.gl_windows.specs.TimeRotations.{IsTimeRotation}
use Rattle.gl_spare.specs.Rotations as spare
use Rattle.gl_ticks.specs.Once.{root_machine}
use Rattle.gl_wire_registers.specs.Fronts.{Machine}
use Rattle.gl_wiring.specs.declared.machines.CopyMachine.{CopyMachine}
use Rattle.gl_wiring.specs.declared.machines.CopyMachine.TheVariants.{Windows, Times, Groups, Partitions, Spare}

-- a circuit can have the numbers of a machine
abbrev pub CanBe : CopyMachine → Type 0
CanBe (Windows r) = IsRotation r
CanBe (Times t) = IsTimeRotation t.ticked.rotation
CanBe (Groups r) = IsGrouping r
CanBe (Partitions r) = IsPartitioning r
CanBe (Spare r) = spare.IsRotation r

-- what its front and its back promise
abbrev pub machine_of : CopyMachine → Machine
machine_of (Windows r) = rotation_machine r
machine_of (Times t) = root_machine t
machine_of (Groups r) = grouping_machine r
machine_of (Partitions r) = partitioning_machine r
machine_of (Spare r) = spare.spare_machine r
