-- What is explained of a statement.
use Rattle.std.specs.Prelude.{ℕ, ◌≡◌, List}
use Rattle.gl_schema.specs.declared.schema.Schema.{Schema}
use Rattle.gl_query.specs.declared.tree.Statement.{Statement}
use Rattle.gl_elaborate.specs.Plans.{plan_of}
use Rattle.gl_plan.specs.Planned.{IsWithinLimits}
use Rattle.gl_explain.specs.Lines.{plan_text}

-- a statement's plan is within the limits, and the bytes are the text of that plan
pub record IsExplained (schema : Schema) (statement : Statement) (bytes : List ℕ) : Type 0 where
  pub within : IsWithinLimits (plan_of schema statement)
  pub is : bytes ≡ plan_text schema statement (plan_of schema statement)
