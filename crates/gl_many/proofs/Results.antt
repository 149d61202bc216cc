-- A result at a statement's root in a joint plan, over beats, is one of the statement.
use Rattle.std.proofs.Common.{ℕ, List, Bool}
use Rattle.gl_schema.specs.declared.schema.Schema.{Schema}
use Rattle.gl_schema.specs.Beats.{AreBeats, Beats, input_of, inputs_of}
use Rattle.gl_query.specs.declared.tree.Statement.{Statement}
use Rattle.gl_query.specs.Results.{IsResult}
use Rattle.gl_algebra.specs.declared.node.PlanNode.{PlanNode}
use Rattle.gl_elaborate.specs.Laws.{IsRightAt}
use Rattle.gl_wiring.specs.Wired.{plan_means}
use Rattle.gl_compiler.proofs.PlanResults.{are_inputs}

pub root_result : (nodes : List PlanNode) (schema : Schema) (statement : Statement) (id : ℕ) (beats : Beats) → AreBeats schema beats → IsRightAt nodes schema statement id
    → (rows : List (List ℕ)) (spill : Bool) → plan_means nodes id (inputs_of beats) rows spill → IsResult schema statement (inputs_of beats) rows spill
root_result nodes schema statement id beats are right rows spill h =
    right.results (inputs_of beats) (input_of 0 beats.list) rows spill (are_inputs schema beats are) h
