-- What roots of a plan reach, and the sums of the parts of what they reach, each node once.
use Rattle.std.specs.Prelude.{ℕ, zero, suc, ◌+◌, ◌<◌, ◌≤◌, Bool, false, ◌||◌, List, All, length, nat_eq, slice_get, if◌then◌else◌}
use Rattle.std.specs.List.{list_any, sum_by}
use Rattle.gl_algebra.specs.declared.node.PlanNode.{PlanNode}
use Rattle.gl_algebra.specs.Cost.{own_keys, keys_of, own_lean, lean_of, own_store, store_of}
use Rattle.gl_algebra.specs.Direct.{form_of}
use Rattle.gl_algebra.specs.FigureTable.{figures_of}
use Rattle.gl_algebra.specs.Fits.{IsPlan}
use Rattle.gl_algebra.specs.Nodewise.{nodewise, value_at_node}
use Rattle.gl_algebra.specs.Shapes.{shape_of, shape_from}
use Rattle.gl_algebra.specs.Views.{children_of}
use Rattle.gl_algebra.specs.Weights.{lines_of, own_weight, weight_of}

-- whether a node is a child, or lies below one: a body is no child
abbrev pub below_from : ℕ → (ℕ → Bool) → PlanNode → Bool
below_from id below node = list_any (λ child. nat_eq child id || below child) (children_of node)

-- whether the node `id` lies below another, outside bodies
unfoldable pub lies_below : List PlanNode → ℕ → ℕ → Bool
lies_below nodes id = nodewise (below_from id) false nodes

-- a node reaches itself and what lies below it
abbrev pub reaches : List PlanNode → ℕ → ℕ → Bool
reaches nodes number id = nat_eq number id || lies_below nodes id number

-- whether some root reaches it
abbrev pub reached : List PlanNode → List ℕ → ℕ → Bool
reached nodes roots id = list_any (λ root. reaches nodes root id) roots

-- the sum of the values of the numbers below a limit
abbrev pub sum_to : (ℕ → ℕ) → ℕ → ℕ
sum_to value zero = 0
sum_to value (suc limit) = sum_to value limit + value limit

-- the sum of the values of all numbers below a limit that pass a test
abbrev pub sum_where : (ℕ → Bool) → (ℕ → ℕ) → ℕ → ℕ
sum_where test value limit = sum_to (λ id. if test id then value id else 0) limit

-- a node's own part of some total, which may depend on the lines of its wire
abbrev pub part_at : (ℕ → PlanNode → ℕ) → List PlanNode → ℕ → ℕ
part_at own nodes number =
    value_at_node (λ node. own (lines_of (shape_from (shape_of nodes) node)) node) 0 (slice_get nodes number)

-- a node's own part of the weight
abbrev pub weight_part : List PlanNode → ℕ → ℕ
weight_part nodes = part_at (own_weight (shape_of nodes) (figures_of nodes) (weight_of nodes)) nodes

-- a node's own part of what bounds the registers
abbrev pub lean_part : List PlanNode → ℕ → ℕ
lean_part nodes = part_at (own_lean (shape_of nodes) (figures_of nodes) (form_of nodes) (lean_of nodes)) nodes

-- a node's own part of the key bits
abbrev pub keys_part : List PlanNode → ℕ → ℕ
keys_part nodes = part_at (λ lines. own_keys (shape_of nodes) (form_of nodes) (keys_of nodes)) nodes

-- a node's own part of the memory bits
abbrev pub store_part : List PlanNode → ℕ → ℕ
store_part nodes = part_at (own_store (shape_of nodes) (figures_of nodes) (form_of nodes) (store_of nodes)) nodes

-- the own parts of all nodes that some root reaches, each once
abbrev pub sum_reached : List PlanNode → List ℕ → (ℕ → ℕ) → ℕ
sum_reached nodes roots own = sum_where (reached nodes roots) own (length nodes)

-- the weight of all nodes that the roots reach, each counted once
abbrev pub weight_of_reached : List PlanNode → List ℕ → ℕ
weight_of_reached nodes roots = sum_reached nodes roots (weight_part nodes)

-- what bounds the registers of all nodes that the roots reach, each counted once
abbrev pub lean_of_reached : List PlanNode → List ℕ → ℕ
lean_of_reached nodes roots = sum_reached nodes roots (lean_part nodes)

-- the key bits of all nodes that the roots reach, each counted once
abbrev pub keys_of_reached : List PlanNode → List ℕ → ℕ
keys_of_reached nodes roots = sum_reached nodes roots (keys_part nodes)

-- the memory bits of all nodes that the roots reach, each counted once
abbrev pub store_of_reached : List PlanNode → List ℕ → ℕ
store_of_reached nodes roots = sum_reached nodes roots (store_part nodes)

-- what roots reach, each node once, counts no more than the roots do together, each node for each use
pub record CountsLess (nodes : List PlanNode) (roots : List ℕ) : Type 0 where
  pub weight : weight_of_reached nodes roots ≤ sum_by (weight_of nodes) roots
  pub lean : lean_of_reached nodes roots ≤ sum_by (lean_of nodes) roots
  pub keys : keys_of_reached nodes roots ≤ sum_by (keys_of nodes) roots
  pub store : store_of_reached nodes roots ≤ sum_by (store_of nodes) roots

-- counting each reached node once gives no more than counting it for every use
abbrev pub OnceIsLess : Type 0
OnceIsLess = (nodes : List PlanNode) (roots : List ℕ) → IsPlan nodes → All (λ root. root < length nodes) roots
    → CountsLess nodes roots
