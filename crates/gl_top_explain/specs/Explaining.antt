-- What is explained of the text of a query over a schema, and why it is not.
use Rattle.std.specs.Prelude.{◌≡◌, ℕ, List}
use Rattle.gl_schema.specs.declared.schema.Schema.{Schema}
use Rattle.gl_query.specs.declared.tree.Statement.{Statement}
use Rattle.gl_query_texts.specs.Judged.{IsAcceptedText, IsQueryFault}
use Rattle.gl_query_texts.specs.Limits.{IsOverLimit}
use Rattle.gl_plan.specs.declared.planning.PlanFault.{PlanFault}
use Rattle.gl_plan.specs.declared.planning.PlanFault.TheVariants as plan
use Rattle.gl_elaborate.specs.Plans.{plan_of}
use Rattle.gl_plan.specs.Planned.{IsWithinLimits}
use Rattle.gl_explain.specs.Lines.{plan_text}
use Rattle.gl_top_status.specs.declared.refusal.Refusal.{Refusal}
use Rattle.gl_top_status.specs.declared.refusal.Refusal.TheVariants as refusal

-- the text's accepted statement, and its plan, which is within the limits
pub record IsExplained (schema : Schema) (text bytes : List ℕ) : Type 0 where
  pub statement : Statement
  pub is : IsAcceptedText schema text statement
  pub within : IsWithinLimits (plan_of schema statement)
  pub shown : bytes ≡ plan_text schema statement (plan_of schema statement)

-- the text's fault, or the limit that its plan passes; want of memory is free
abbrev pub IsExplainRefused : Schema → List ℕ → Refusal → Type 0
IsExplainRefused schema text refusal.Usage = ⊥
IsExplainRefused schema text (refusal.Missing part) = ⊥
IsExplainRefused schema text (refusal.ReadFault part) = ⊥
IsExplainRefused schema text (refusal.TooLong part) = ⊥
IsExplainRefused schema text (refusal.Schema fault) = ⊥
IsExplainRefused schema text (refusal.Query fault) = IsQueryFault schema text fault
IsExplainRefused schema text (refusal.Limit limit) = IsOverLimit schema text limit
IsExplainRefused schema text (refusal.Verilog fault) = ⊥
IsExplainRefused schema text (refusal.Tuples fault) = ⊥
IsExplainRefused schema text (refusal.Dump fault) = ⊥
IsExplainRefused schema text refusal.Memory = Unit {0}

-- what a plan passes, as a refusal: want of memory is its own
abbrev pub plan_refusal : PlanFault → Refusal
plan_refusal (plan.Limit limit) = refusal.Limit limit
plan_refusal plan.Memory = refusal.Memory
