-- What places hold of the nodes of a plan while it is gone through: what is known of the nodes before one.
-- A middle layer, proved equal to `Answered`: no promise rests on it.
use Rattle.std.specs.Prelude.{ℕ, ◌≡◌, ◌<◌, ◌≤◌, ◌+◌, List, length, Option, Some, slice_get}
use Rattle.gl_algebra.specs.declared.figures.Figures.{Figures}
use Rattle.gl_algebra.specs.declared.node.PlanNode.{PlanNode}
use Rattle.gl_algebra.specs.FigureTable.{figures_from, figures_of}
use Rattle.gl_algebra.specs.Shapes.{shape_of}
use Rattle.gl_algebra.specs.Small.{small_of}
use Rattle.gl_algebra.specs.Roots.{output_part}
use Rattle.gl_algebra.specs.Nodewise.{value_at_node}
use Rattle.gl_algebra.specs.Weights.{copies_of, weight_of, own_weight, sum_over_children}
use Rattle.gl_algebra.specs.declared.node.PlanNode.TheVariants.{Window}
use Rattle.gl_figures.specs.Answered.{capped}

-- the figures of the nodes before one
pub record HasFigures (nodes : List PlanNode) (figures : List Figures) (number : ℕ) : Type 0 where
  pub room : number ≤ length figures
  pub each : (child : ℕ) → child < number → slice_get figures child ≡ Some (figures_of nodes child)

-- the figures that a node has over a plan, below 2^32
abbrev pub small_over : List PlanNode → PlanNode → Option Figures
small_over nodes node = small_of (figures_from (shape_of nodes) (figures_of nodes) node)

-- the value of a node, or 2^62 where it is more
abbrev pub capped_at : (ℕ → ℕ) → ℕ → ℕ
capped_at value number = capped (value number)

-- the own part of a node with this many lines, from the capped weights of the nodes that it names
abbrev pub own_weight_by : List PlanNode → ℕ → PlanNode → ℕ
own_weight_by nodes lines node = own_weight (shape_of nodes) (figures_of nodes) (capped_at (weight_of nodes)) lines node

-- the weight of a node, from the capped weights of its children and its own part
abbrev pub weight_by : List PlanNode → ℕ → PlanNode → ℕ
weight_by nodes lines node = sum_over_children (capped_at (weight_of nodes)) node + own_weight_by nodes lines node

-- the weight of a plan with its output, and without spare copies
abbrev pub weight_alone : List PlanNode → ℕ → ℕ
weight_alone nodes root = weight_of nodes root + output_part nodes root

-- the capped copies in the body of windows at a root
abbrev pub copies_in_body : List PlanNode → PlanNode → ℕ
copies_in_body nodes (Window source body size advance) = capped (copies_of nodes body)
copies_in_body nodes node = 0

-- the capped copies in the body of a root that is windows over tuples
unfoldable pub copies_inside : List PlanNode → ℕ → ℕ
copies_inside nodes root = value_at_node (copies_in_body nodes) 0 (slice_get nodes root)

-- the capped values of the nodes before one
pub record HasValues (value : ℕ → ℕ) (values : List ℕ) (number : ℕ) : Type 0 where
  pub room : number ≤ length values
  pub each : (child : ℕ) → child < number → slice_get values child ≡ Some (capped (value child))
