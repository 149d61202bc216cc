-- Values of nodes, each of which follows from the values of the nodes that it names. These stand before it in the
-- plan's list.
use Rattle.std.specs.Prelude.{ℕ, zero, suc, List, ◌++◌, Option, Some, None, option_to_list, slice_get}
use Rattle.gl_algebra.specs.declared.node.PlanNode.{PlanNode}
use Rattle.gl_algebra.specs.Views.{children_of, body_of}

-- the nodes that a node names: its children, and the body last
abbrev pub named_by : PlanNode → List ℕ
named_by node = children_of node ++ option_to_list (body_of node)

-- the value at a node, or at no node
abbrev pub value_at_node {ℓ} : {A : Type ℓ} → (PlanNode → A) → A → Option PlanNode → A
value_at_node value absent None = absent
value_at_node value absent (Some node) = value node

-- the value of a node to a depth: `step` takes a node's value from the values of the nodes that it names
unfoldable pub value_to_depth {ℓ} : {A : Type ℓ} → ((ℕ → A) → PlanNode → A) → A → List PlanNode → ℕ → ℕ → A
value_to_depth step absent nodes zero number = absent
value_to_depth step absent nodes (suc depth) number =
    value_at_node (step (value_to_depth step absent nodes depth)) absent (slice_get nodes number)

-- the value of a node: as each node stands after those that it names, its number bounds the depth
unfoldable pub nodewise {ℓ} : {A : Type ℓ} → ((ℕ → A) → PlanNode → A) → A → List PlanNode → ℕ → A
nodewise step absent nodes number = value_to_depth step absent nodes (suc number) number
