-- What is built of a statement depends on its tree alone.
use Rattle.std.proofs.Common.{◌≡◌, [], sym, ap, subst, ◌∙◌}
use Rattle.gl_schema.specs.declared.schema.Schema.{Schema}
use Rattle.gl_query.specs.declared.tree.Statement.{Statement}
use Rattle.gl_query.specs.Accepted.{IsAcceptedOver, schema_scope}
use Rattle.gl_query.specs.Columns.{sources_of}
use Rattle.gl_query.specs.Shapes.{QueryShape, query_shape}
use Rattle.gl_query.specs.Trees.{StatementTree, statement_tree}
use Rattle.gl_query.specs.Alike.{query_alike}
use Rattle.gl_query.proofs.Alike.{query_same}
use Rattle.gl_elaborate.specs.Plans.{placed, stream_node, plan_of}
use Rattle.gl_plan.specs.Planned.{IsWithinLimits}
use Rattle.gl_compiler.specs.Built.{IsBuilt}

-- statements of one tree have queries of one shape
pub shapes_alike : (s t : Statement) → statement_tree s ≡ statement_tree t → query_shape s.query ≡ query_shape t.query
shapes_alike s t e = sym (query_same s.query) ∙ ap (λ (x : StatementTree). query_alike x.query) e ∙ query_same t.query

-- and one plan
pub plans_alike : (schema : Schema) (s t : Statement) → statement_tree s ≡ statement_tree t → plan_of schema s ≡ plan_of schema t
plans_alike schema s t e =
    ap (λ (q : QueryShape). placed (stream_node schema.streams) (sources_of schema) q []) (shapes_alike s t e)

-- what is built of one statement is of every other one of its tree
pub built_alike : (schema : Schema) (s t : Statement) → statement_tree s ≡ statement_tree t → IsBuilt schema s → IsBuilt schema t
built_alike schema s t e b = record {
  accepted = subst (IsAcceptedOver (schema_scope schema)) (shapes_alike s t e) b.accepted;
  within = subst IsWithinLimits (plans_alike schema s t e) b.within;
}
