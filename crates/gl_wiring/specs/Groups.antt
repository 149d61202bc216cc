-- Groups of a plan in a netlist: the source, spaced where its tuples may come too fast, the front, a circuit of the
-- body behind each wire of the front, and the back.
use Rattle.std.specs.Prelude.{◌≡◌, ℕ, List, Some, slice_get}
use Rattle.gl_algebra.specs.declared.figures.Figures.{Figures}
use Rattle.gl_algebra.specs.declared.node.PlanNode.{PlanNode}
use Rattle.gl_algebra.specs.declared.node.PlanNode.TheVariants.{Group}
use Rattle.gl_algebra.specs.FigureTable.{figures_of, group_figures, group_gap, spaced}
use Rattle.gl_algebra.specs.Shapes.{kinds_of}
use Rattle.gl_groups.specs.declared.grouping.Grouping.{Grouping}
use Rattle.gl_groups.specs.Costs.{cost_of_front}
use Rattle.gl_wire.specs.Costs.{Cost}
use Rattle.gl_wiring.specs.declared.groups.GroupOf.{GroupOf}
use Rattle.gl_wiring.specs.Leaves.{widths_of}
use Rattle.gl_wiring.specs.Copies.{cost_from}

-- a group is a node of a plan
abbrev pub IsGroupNode : List PlanNode → GroupOf → Type 0
IsGroupNode nodes g = slice_get nodes g.id ≡ Some (Group g.source g.body g.key g.groups)

-- a node is a group
abbrev pub HasGroup : List PlanNode → ℕ → Type 0
HasGroup nodes id = (g : GroupOf) × (g.id ≡ id) × IsGroupNode nodes g

-- its numbers: a slot, and a copy of its body, for each group that a stream can have
abbrev pub grouping_of : List PlanNode → GroupOf → Grouping
grouping_of nodes g = record { key = g.key; slots = g.groups; body = figures_of nodes g.body }

-- the figures of its source, spaced where the body's copies need it, and of the whole
abbrev pub spaced_source : List PlanNode → GroupOf → Figures
spaced_source nodes g = spaced (group_gap (figures_of nodes g.body)) (figures_of nodes g.source)

abbrev pub group_whole : List PlanNode → GroupOf → Figures
group_whole nodes g = group_figures g.groups (figures_of nodes g.source) (figures_of nodes g.body)

-- the cost of a group's front, from its source on
abbrev pub cost_to_slots : List PlanNode → GroupOf → Cost
cost_to_slots nodes g =
    cost_from nodes g.source (group_gap (figures_of nodes g.body))
    (cost_of_front g.groups g.key (widths_of (kinds_of nodes g.source)))
