-- A statement without a first fault is checked.
use Rattle.std.proofs.Common.{◌≡◌, Option, Some, None, sym, subst, ◌∙◌, inl, inr}
use Rattle.gl_schema.specs.declared.schema.Schema.{Schema}
use Rattle.gl_schema.specs.Schemas.{IsSchema}
use Rattle.gl_query.specs.declared.tree.Statement.{Statement}
use Rattle.gl_query.specs.declared.fault.QueryFault.{QueryFault}
use Rattle.gl_query.specs.declared.fault.QueryFault.TheVariants.{Memory}
use Rattle.gl_query.specs.Accepted.{IsAccepted, IsAcceptedOver, schema_scope}
use Rattle.gl_query.specs.Checked.{IsChecked}
use Rattle.gl_query.specs.Faults.{first_fault}
use Rattle.gl_query.specs.Shapes.{query_shape}
use Rattle.gl_query.specs.Sizes.{QueryIsSmall}
use Rattle.gl_query.specs.Trees.{statement_tree}
use Rattle.gl_query.proofs.Alike.{query_same}
use Rattle.gl_query.specs.Laws.{FirstFaultsAreExact}
use Rattle.gl_query_check.specs.Answers.{IsOr}

pub checked : FirstFaultsAreExact → (schema : Schema) (statement : Statement) → IsSchema schema → QueryIsSmall (query_shape statement.query)
    → first_fault schema (statement_tree statement) ≡ None → IsChecked schema statement
checked exact schema s h small none = record {
  of_schema = h;
  accepted = subst (IsAcceptedOver (schema_scope schema)) (query_same s.query) ((exact schema (statement_tree s) h).0 none);
  small = small;
}

-- one that is accepted has none
pub accepted_none : FirstFaultsAreExact → (schema : Schema) (s : Statement) → IsSchema schema → IsAccepted schema s → first_fault schema (statement_tree s) ≡ None
accepted_none exact schema s h is = (exact schema (statement_tree s) h).1 (subst (IsAcceptedOver (schema_scope schema)) (sym (query_same s.query)) is)

pub only_memory : FirstFaultsAreExact → (schema : Schema) (s : Statement) (e : QueryFault) → IsSchema schema → IsOr (first_fault schema (statement_tree s)) e → IsAccepted schema s → e ≡ Memory
only_memory exact schema s e h (inr memory) is = memory
only_memory exact schema s e h (inl first) is = absurd (let f : ◌≡◌ {A = Option QueryFault} None (Some e) = sym (accepted_none exact schema s h is) ∙ first in cc)
