-- Which accepted texts have a plan that passes a limit.
use Rattle.std.specs.Prelude.{ℕ, List}
use Rattle.gl_schema.specs.declared.schema.Schema.{Schema}
use Rattle.gl_query.specs.declared.tree.Statement.{Statement}
use Rattle.gl_figures.specs.declared.Limit.{Limit}
use Rattle.gl_elaborate.specs.Plans.{plan_of}
use Rattle.gl_plan.specs.Planned.{PassesLimit}
use Rattle.gl_query_texts.specs.Judged.{IsAcceptedText}

-- the text has a statement that is accepted, and its plan passes this limit
pub record IsOverLimit (schema : Schema) (text : List ℕ) (limit : Limit) : Type 0 where
  pub statement : Statement
  pub is : IsAcceptedText schema text statement
  pub passes : PassesLimit (plan_of schema statement) limit
