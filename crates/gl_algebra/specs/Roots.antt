-- The root of a plan, which nothing stands above but the output. Windows there may have spare copies of their body; what
-- is printed of a plan, and what bounds its hardware, is said with them.
use Rattle.std.specs.Prelude.{ℕ, ◌+◌, ◌-◌, ◌*◌, Bool, false, List, Option, Some, None, slice_get, nat_le, if◌then◌else◌}
use Rattle.gl_bits.specs.Limits.{most_weight}
use Rattle.gl_algebra.specs.declared.figures.Figures.{Figures}
use Rattle.gl_algebra.specs.declared.figures.Spare.{Spare}
use Rattle.gl_algebra.specs.declared.node.PlanNode.{PlanNode}
use Rattle.gl_algebra.specs.declared.node.PlanNode.TheVariants.{Window}
use Rattle.gl_algebra.specs.Cost.{keys_of, lean_of, store_of}
use Rattle.gl_algebra.specs.FigureTable.{figures_of}
use Rattle.gl_algebra.specs.Nodewise.{value_at_node}
use Rattle.gl_algebra.specs.Shapes.{Shape, shape_of}
use Rattle.gl_algebra.specs.Spares.{spare_of, spare_over}
use Rattle.gl_algebra.specs.Views.{copies_in, copies_of_window, of_body}
use Rattle.gl_algebra.specs.Weights.{copies_of, lines_of, sum_over_children, weight_of}

-- the spare copies of windows, whatever they weigh
abbrev pub spare_in : (ℕ → Figures) → PlanNode → Option Spare
spare_in figures (Window source body size advance) = spare_of size advance (figures source) (figures body)
spare_in figures node = None

-- what a copy adds to a node's own part, from the values of bodies: the body's, and what stands before and behind it
abbrev pub part_of_copy : (ℕ → Shape) → (ℕ → ℕ) → ℕ → PlanNode → ℕ
part_of_copy shapes values lines node =
    of_body values node + 8 * (sum_over_children (λ source. lines_of (shapes source)) node + lines + 4)

-- the copies beside those for windows that can be open at once
abbrev pub further_copies : Option Spare → PlanNode → ℕ
further_copies None node = 0
further_copies (Some it) node = it.copies - copies_in node

-- the part of the output behind a root
abbrev pub output_part : List PlanNode → ℕ → ℕ
output_part nodes root = 8 * (lines_of (shape_of nodes root) + 8)

-- the weight with the output, where this node is the root and has so many further copies
abbrev pub weight_with_further : List PlanNode → ℕ → PlanNode → ℕ → ℕ
weight_with_further nodes root node further =
    weight_of nodes root
    + further * part_of_copy (shape_of nodes) (weight_of nodes) (lines_of (shape_of nodes root)) node
    + output_part nodes root

-- the plan is light enough where this node is its root and has these spare copies
abbrev pub is_light : List PlanNode → ℕ → PlanNode → Spare → Bool
is_light nodes root node it = nat_le (weight_with_further nodes root node (further_copies (Some it) node)) most_weight

-- the same of the node at the root
unfoldable pub is_light_at : List PlanNode → ℕ → Spare → Bool
is_light_at nodes root it = value_at_node (λ node. is_light nodes root node it) false (slice_get nodes root)

-- spare copies, where the plan is light enough with them
abbrev pub where_light : List PlanNode → ℕ → PlanNode → Option Spare → Option Spare
where_light nodes root node None = None
where_light nodes root node (Some it) = if is_light nodes root node it then Some it else None

-- the spare copies of a root: windows that have some, where the plan is light enough with them
unfoldable pub spare_at : List PlanNode → ℕ → Option Spare
spare_at nodes root =
    value_at_node (λ node. where_light nodes root node (spare_in (figures_of nodes) node)) None (slice_get nodes root)

-- the figures of windows with spare copies, or a node's own
abbrev pub figures_with : List PlanNode → ℕ → Option Spare → PlanNode → Figures
figures_with nodes root None node = figures_of nodes root
figures_with nodes root (Some it) (Window source body size advance) =
    spare_over (copies_of_window size advance) it.gap it.shift (figures_of nodes source) (figures_of nodes body)
figures_with nodes root (Some it) node = figures_of nodes root

-- the figures of a root
unfoldable pub root_figures : List PlanNode → ℕ → Figures
root_figures nodes root =
    value_at_node (figures_with nodes root (spare_at nodes root)) (figures_of nodes root) (slice_get nodes root)

-- what the further copies of a root add, by what each adds
unfoldable pub of_further : (PlanNode → ℕ) → List PlanNode → ℕ → ℕ
of_further each nodes root =
    value_at_node (λ node. further_copies (spare_at nodes root) node * each node) 0 (slice_get nodes root)

-- the cycles from a beat with the end to the end on the output, which comes one cycle after the root's
abbrev pub latency_of : List PlanNode → ℕ → ℕ
latency_of nodes root = (root_figures nodes root).le + 1

-- what the further copies of a root add in weight
abbrev pub further_weight : List PlanNode → ℕ → ℕ
further_weight nodes root =
    of_further (part_of_copy (shape_of nodes) (weight_of nodes) (lines_of (shape_of nodes root))) nodes root

-- what the further copies of a root add to the bound on registers
abbrev pub further_lean : List PlanNode → ℕ → ℕ
further_lean nodes root =
    of_further (part_of_copy (shape_of nodes) (lean_of nodes) (lines_of (shape_of nodes root))) nodes root

-- what the further copies of a root add in memory bits
abbrev pub further_store : List PlanNode → ℕ → ℕ
further_store nodes root = of_further (of_body (store_of nodes)) nodes root

-- what the further copies of a root add in bits of keys
abbrev pub further_keys : List PlanNode → ℕ → ℕ
further_keys nodes root = of_further (of_body (keys_of nodes)) nodes root

-- the weight of a plan, with its output and its root's spare copies
abbrev pub weight_with_output : List PlanNode → ℕ → ℕ
weight_with_output nodes root = weight_of nodes root + further_weight nodes root + output_part nodes root

-- the copies of bodies in a plan
abbrev pub copies_with_spare : List PlanNode → ℕ → ℕ
copies_with_spare nodes root =
    copies_of nodes root + of_further (λ node. 1 + of_body (copies_of nodes) node) nodes root

-- the most register bits of the circuit of a plan, those of keys among them
abbrev pub most_registers : List PlanNode → ℕ → ℕ
most_registers nodes root =
    64 * (lean_of nodes root + further_lean nodes root + output_part nodes root)
    + (keys_of nodes root + further_keys nodes root)

-- the most memory bits of the circuit of a plan, those of the root's further copies among them
abbrev pub most_memory : List PlanNode → ℕ → ℕ
most_memory nodes root = store_of nodes root + further_store nodes root
