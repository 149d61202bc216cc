-- A node's own parts, by its form.
use Rattle.std.proofs.Common.{◌≡◌, ℕ, List, Some, slice_get, refl}
use Rattle.gl_algebra.specs.declared.node.PlanNode.{PlanNode}
use Rattle.gl_algebra.specs.Cost.{own_keys, keys_of, own_lean, lean_of, own_store, store_of}
use Rattle.gl_algebra.specs.Direct.{form_of}
use Rattle.gl_algebra.specs.FigureTable.{figures_of}
use Rattle.gl_algebra.specs.Shapes.{shape_of, shape_from}
use Rattle.gl_algebra.specs.Weights.{lines_of, own_weight, weight_of}
use Rattle.gl_figures.specs.Reach.{weight_part, lean_part, keys_part, store_part}

-- the parts of a node of a plan are those that the tables have for it
pub record HasParts (nodes : List PlanNode) (id : ℕ) (node : PlanNode) : Type 0 where
  pub weight : weight_part nodes id
      ≡ own_weight (shape_of nodes) (figures_of nodes) (weight_of nodes) (lines_of (shape_from (shape_of nodes) node)) node
  pub lean : lean_part nodes id
      ≡ own_lean (shape_of nodes) (figures_of nodes) (form_of nodes) (lean_of nodes) (lines_of (shape_from (shape_of nodes) node)) node
  pub keys : keys_part nodes id ≡ own_keys (shape_of nodes) (form_of nodes) (keys_of nodes) node
  pub store : store_part nodes id
      ≡ own_store (shape_of nodes) (figures_of nodes) (form_of nodes) (store_of nodes) (lines_of (shape_from (shape_of nodes) node)) node

pub parts_at : (nodes : List PlanNode) (id : ℕ) (node : PlanNode) → slice_get nodes id ≡ Some node → HasParts nodes id node
parts_at nodes id node is = record { weight = rw is refl; lean = rw is refl; keys = rw is refl; store = rw is refl }
