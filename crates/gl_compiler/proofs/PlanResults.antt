-- A result of a plan over beats is a result of its statement.
use Rattle.std.proofs.Common.{ℕ, List, Bool}
use Rattle.gl_query.proofs.LongRows.{rows_long}
use Rattle.gl_schema.specs.declared.schema.Schema.{Schema}
use Rattle.gl_schema.specs.Beats.{AreBeats, Beats, input_of, inputs_of}
use Rattle.gl_query.specs.declared.tree.Statement.{Statement}
use Rattle.gl_query.specs.Results.{IsResult}
use Rattle.gl_elaborate.specs.Laws.{AreInputsOf, IsRightPlan}
use Rattle.gl_elaborate.specs.Plans.{plan_of}
use Rattle.gl_wiring.specs.Wired.{plan_means}

-- what beats bring is of the schema
pub are_inputs : (schema : Schema) (beats : Beats) → AreBeats schema beats → AreInputsOf schema (inputs_of beats)
are_inputs schema beats are = record {
  rows = λ k s e. rows_long schema beats.list k s are.each e;
  words = are.held;
}

pub plan_result : (schema : Schema) (statement : Statement) (beats : Beats) → AreBeats schema beats → IsRightPlan schema statement
    → (rows : List (List ℕ)) (spill : Bool) → plan_means (plan_of schema statement).nodes (plan_of schema statement).root (inputs_of beats) rows spill
    → IsResult schema statement (inputs_of beats) rows spill
plan_result schema statement beats are plan rows spill h = plan.results (inputs_of beats) (input_of 0 beats.list) rows spill (are_inputs schema beats are) h
