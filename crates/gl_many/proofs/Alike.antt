-- The joint plan of statements depends on their trees alone.
use Rattle.std.proofs.Common.{◌≡◌, List, [], ◌∷◌, refl, sym, ap, ◌∙◌}
use Rattle.gl_schema.specs.declared.schema.Schema.{Schema}
use Rattle.gl_query.specs.declared.tree.Statement.{Statement}
use Rattle.gl_query.specs.Alike.{query_alike}
use Rattle.gl_query.specs.Columns.{sources_of}
use Rattle.gl_query.specs.Shapes.{QueryShape}
use Rattle.gl_query.specs.Trees.{StatementTree}
use Rattle.gl_query.proofs.Alike.{query_same}
use Rattle.gl_algebra.specs.declared.node.PlanNode.{PlanNode}
use Rattle.gl_algebra.specs.Added.{Placed}
use Rattle.gl_elaborate.specs.Plans.{Several, placed, plan_behind, plans_of, stream_node}
use Rattle.gl_many.specs.Queries.{trees_of}

abbrev followed : Placed → Several → Several
followed at rest = record { nodes = rest.nodes; roots = at.root ∷ rest.roots }

abbrev shape_at : List PlanNode → Schema → QueryShape → Placed
shape_at nodes schema q = placed (stream_node schema.streams) (sources_of schema) q nodes

-- the joint plan of statements of these trees
abbrev trees_plan : List PlanNode → Schema → List StatementTree → Several
trees_plan nodes schema [] = record { nodes = nodes; roots = [] }
trees_plan nodes schema (t ∷ trees) =
    let at = shape_at nodes schema (query_alike t.query) in followed at (trees_plan at.nodes schema trees)

plan_by_trees : (ss : List Statement) (nodes : List PlanNode) (schema : Schema) → plans_of nodes schema ss ≡ trees_plan nodes schema (trees_of ss)
plan_by_trees [] nodes schema = refl
plan_by_trees (s ∷ ss) nodes schema =
    let at = plan_behind nodes schema s in
    ap (followed at) (plan_by_trees ss at.nodes schema)
    ∙ ap (λ (q : QueryShape). let at = shape_at nodes schema q in followed at (trees_plan at.nodes schema (trees_of ss))) (sym (query_same s.query))

-- statements of the same trees have one joint plan
pub joint_plans_alike : (schema : Schema) (ss ts : List Statement) → trees_of ss ≡ trees_of ts → plans_of [] schema ss ≡ plans_of [] schema ts
joint_plans_alike schema ss ts e = plan_by_trees ss [] schema ∙ ap (trees_plan [] schema) e ∙ sym (plan_by_trees ts [] schema)
