-- What adding a node to a plan gives.
use Rattle.std.specs.Prelude.{ℕ, ◌≡◌, ◌⊎◌, Bool, true, false, List, [], ◌∷◌, ◌++◌}
use Rattle.std.specs.List.{list_any, position_or_len}
use Rattle.indexmap.specs.IndexSet.{insert_key}
use Rattle.gl_values.specs.declared.kind.Kind.{Kind}
use Rattle.gl_algebra.specs.declared.node.PlanNode.{PlanNode}
use Rattle.gl_algebra.specs.contracts.node.PlanNodePartialEq.TheImpl as OfPlanNode

-- a plan's nodes, and the number of one of them
pub record Placed : Type 0 where
  pub nodes : List PlanNode
  pub root : ℕ

-- a plan whose root is the node of this number
abbrev pub placed_at : List PlanNode → ℕ → Placed
placed_at nodes root = record { nodes = nodes; root = root }

-- whether two nodes are one
abbrev pub same_node : PlanNode → PlanNode → Bool
same_node = OfPlanNode.ghosts.eq

-- whether a plan has a node
abbrev pub has_node : List PlanNode → PlanNode → Bool
has_node nodes node = list_any (same_node node) nodes

-- a node's place: that of the plan's own equal node, or else the length
abbrev pub place_of : List PlanNode → PlanNode → ℕ
place_of nodes node = position_or_len (same_node node) nodes

-- a plan's nodes with a node, which stands last where the plan lacked it
abbrev pub with_node : List PlanNode → PlanNode → List PlanNode
with_node nodes node = insert_key same_node nodes node

-- the plan has the node, or it stands last now
abbrev pub Grows : List PlanNode → List PlanNode → PlanNode → Type 0
Grows old new node = (new ≡ old) ⊎ (new ≡ old ++ node ∷ [])

-- a plan with a node, and the node's number
unfoldable pub added : List PlanNode → PlanNode → Placed
added nodes node = record { nodes = with_node nodes node; root = place_of nodes node }

-- what stands beside a plan's nodes after a node is added: its own kinds last where the plan lacked it
pub record HasKinds (nodes : List PlanNode) (node : PlanNode) (kinds : List (List Kind)) (own : List Kind)
    (all : List (List Kind)) : Type 0 where
  pub known : has_node nodes node ≡ true → all ≡ kinds
  pub fresh : has_node nodes node ≡ false → all ≡ kinds ++ own ∷ []
