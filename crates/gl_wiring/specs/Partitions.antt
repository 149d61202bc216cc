-- Windows of each group of a plan in a netlist: the source, spaced where its tuples may come too fast, the front, a
-- circuit of the body behind each wire of the front, and the back.
use Rattle.std.specs.Prelude.{◌≡◌, ℕ, List, Some, slice_get}
use Rattle.gl_algebra.specs.declared.figures.Figures.{Figures}
use Rattle.gl_algebra.specs.declared.node.PlanNode.{PlanNode}
use Rattle.gl_algebra.specs.declared.node.PlanNode.TheVariants.{Partition}
use Rattle.gl_algebra.specs.FigureTable.{figures_of, partition_figures, spaced, window_gap}
use Rattle.gl_algebra.specs.Shapes.{kinds_of}
use Rattle.gl_algebra.specs.Views.{copies_of_partition, copies_of_window}
use Rattle.gl_partition.specs.declared.partitioning.Partitioning.{Partitioning}
use Rattle.gl_partition.specs.Costs.{cost_of_front}
use Rattle.gl_wire.specs.Costs.{Cost}
use Rattle.gl_wiring.specs.declared.partitions.PartitionOf.{PartitionOf}
use Rattle.gl_wiring.specs.Leaves.{widths_of}
use Rattle.gl_wiring.specs.Copies.{cost_from}

-- windows of each group are a node of a plan
abbrev pub IsPartitionNode : List PlanNode → PartitionOf → Type 0
IsPartitionNode nodes p =
    slice_get nodes p.id ≡ Some (Partition p.source p.body p.key p.groups p.size p.advance)

-- a node is windows of each group
abbrev pub HasPartition : List PlanNode → ℕ → Type 0
HasPartition nodes id = (p : PartitionOf) × (p.id ≡ id) × IsPartitionNode nodes p

-- their numbers: a slot for each group that a stream can have, and in each as many copies of the body as windows of a
-- group can be open at once
abbrev pub partitioning_of : List PlanNode → PartitionOf → Partitioning
partitioning_of nodes p = record {
  key = p.key;
  slots = p.groups;
  size = p.size;
  advance = p.advance;
  copies = copies_of_window p.size p.advance;
  body = figures_of nodes p.body;
}

-- the figures of the source, spaced where the body's copies need it, and of the whole
abbrev pub spaced_parted : List PlanNode → PartitionOf → Figures
spaced_parted nodes p = spaced (window_gap (figures_of nodes p.body)) (figures_of nodes p.source)

abbrev pub parted_whole : List PlanNode → PartitionOf → Figures
parted_whole nodes p =
    partition_figures (copies_of_partition p.groups p.size p.advance) (figures_of nodes p.source) (figures_of nodes p.body)

-- the cost of the front, from the source on
abbrev pub cost_to_partitions : List PlanNode → PartitionOf → Cost
cost_to_partitions nodes p =
    cost_from nodes p.source (window_gap (figures_of nodes p.body))
    (cost_of_front p.groups (copies_of_window p.size p.advance) p.key (widths_of (kinds_of nodes p.source)))
