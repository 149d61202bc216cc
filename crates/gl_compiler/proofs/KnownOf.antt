-- What is known of a checked statement whose names are names, and of its plan.
use Rattle.std.proofs.Common.{◌≡◌, List, [], ◌∷◌, length, sym, ap, subst, ◌∙◌}
use Rattle.std.specs.List.{AllByRecursion}
use Rattle.gl_bits.proofs.AllLists.{length_map}
use Rattle.gl_values.specs.Kinds.{IsKind}
use Rattle.gl_schema.specs.declared.schema.Column.{Column}
use Rattle.gl_schema.specs.declared.schema.Schema.{Schema}
use Rattle.gl_schema.specs.Names.{IsName}
use Rattle.gl_schema.specs.Schemas.{column_names, kinds_of}
use Rattle.gl_query.specs.declared.tree.Statement.{Statement}
use Rattle.gl_query.specs.Accepted.{AreResultColumns}
use Rattle.gl_query.specs.Checked.{IsChecked}
use Rattle.gl_query.specs.Laws.{AcceptedHaveRealColumns, AreKinds}
use Rattle.gl_query.specs.Names.{StatementHasNames}
use Rattle.gl_query.specs.Shapes.{query_shape, statement_shape}
use Rattle.gl_algebra.specs.Shapes.{Shape, shape_of}
use Rattle.gl_algebra.specs.Shapes as shapes
use Rattle.gl_elaborate.specs.Laws.{IsRightPlan, PlansAreRight}
use Rattle.gl_elaborate.specs.Plans.{plan_of}
use Rattle.gl_wiring.specs.StreamWires.{AreStreamLeaves}
use Rattle.gl_compiler.specs.Meets.{result_columns}
use Rattle.gl_compiler.proofs.PlanLeaves.{leaves_are_streams}
use Rattle.gl_compiler.proofs.ResultNames.{columns_named}

pub all_kinds : (columns : List Column) → AreKinds columns → AllByRecursion IsKind (kinds_of columns)
all_kinds [] h = tt
all_kinds (c ∷ columns) h = (h.0, all_kinds columns h.1)

-- the columns of the result, and the plan
pub record Known (schema : Schema) (statement : Statement) : Type 0 where
  pub right : IsRightPlan schema statement
  pub into : IsName statement.name.text
  pub named : AllByRecursion IsName (column_names (result_columns schema statement))
  pub columns : AreResultColumns (result_columns schema statement)
  pub real : AllByRecursion IsKind (kinds_of (result_columns schema statement))
  pub leaves : AreStreamLeaves schema.streams (shape_of (plan_of schema statement).nodes (plan_of schema statement).root).leaves
  pub many : length (column_names (result_columns schema statement)) ≡ length (shapes.kinds_of (plan_of schema statement).nodes (plan_of schema statement).root)

pub known : PlansAreRight → AcceptedHaveRealColumns → (schema : Schema) (statement : Statement) → IsChecked schema statement → StatementHasNames (statement_shape statement) → Known schema statement
known plans real schema statement is names =
    let right = plans schema statement is in
    let columns = real schema (query_shape statement.query) is.of_schema is.accepted in
    record {
      right = right;
      into = names.1;
      named = columns_named schema (query_shape statement.query) is.of_schema names.0;
      columns = columns.result;
      real = all_kinds (result_columns schema statement) columns.kinds;
      leaves = subst (AreStreamLeaves schema.streams) (sym (ap (λ (x : Shape). x.leaves) right.shape)) (leaves_are_streams schema (query_shape statement.query) is.accepted);
      many =
          length_map (λ (c : Column). c.name) (result_columns schema statement) ∙ sym (length_map (λ (c : Column). c.kind) (result_columns schema statement))
          ∙ ap length (sym (ap (λ (x : Shape). x.kinds) right.shape));
    }
