-- How `explain S Q` ends: what was written, what was noted, and why.
use Rattle.std.specs.Prelude.{◌≡◌, ℕ, List, [], Result, Ok, Err}
use Rattle.gl_outside.specs.Told.{Told}
use Rattle.gl_outside.specs.States.{ShelfState, IsCalm, Took}
use Rattle.gl_schema.specs.declared.schema.Schema.{Schema}
use Rattle.gl_query.specs.declared.tree.Statement.{Statement}
use Rattle.gl_query.specs.declared.fault.QueryFault.{QueryFault}
use Rattle.gl_figures.specs.declared.Limit.{Limit}
use Rattle.gl_query_texts.specs.Judged.{IsAcceptedText, IsQueryFault}
use Rattle.gl_query_texts.specs.Limits.{IsOverLimit}
use Rattle.gl_elaborate.specs.Plans.{plan_of}
use Rattle.gl_plan.specs.Planned.{IsWithinLimits}
use Rattle.gl_explain.specs.Lines.{plan_text}
use Rattle.gl_top_forms.specs.declared.command.Part.TheVariants as part
use Rattle.gl_top_status.specs.declared.refusal.Refusal.{Refusal}
use Rattle.gl_top_status.specs.declared.refusal.Refusal.TheVariants as refusal
use Rattle.gl_top_status.specs.declared.status.Status.{Status}
use Rattle.gl_top_status.specs.Refusals.{Puts, Notes, status_of, note_of}
use Rattle.gl_top_status.specs.Written.{IsWritten}
use Rattle.gl_top_status.specs.Texts.{HasText, HasNoSchema, IsUnfetched, SchemaPasses}

-- the texts that the words name pass, and the bytes are the statement and its plan
pub record IsPlanText (told : List ℕ → Told) (words : List (List ℕ)) (bytes : List ℕ) : Type 0 where
  pub schema : Schema
  pub statement : Statement
  pub before : SchemaPasses told words schema
  pub text : HasText told words part.Query (λ text. IsAcceptedText schema text statement)
  pub within : IsWithinLimits (plan_of schema statement)
  pub shown : bytes ≡ plan_text schema statement (plan_of schema statement)

-- why a query is not explained over a schema: it was not fetched, it has a fault, or its plan passes a limit; want of
-- memory is free
pub data IsUnexplained (words : List (List ℕ)) (schema : Schema) (old new : ShelfState) (r : Refusal) : Type 0 where
  Unfetched : (unfetched : IsUnfetched words part.Query old new r) → IsUnexplained words schema old new r
  OfFault : (fault : QueryFault) (is : r ≡ refusal.Query fault)
      (text : HasText old.told words part.Query (λ text. IsQueryFault schema text fault))
      (calm : IsCalm old new) → IsUnexplained words schema old new r
  OfLimit : (limit : Limit) (is : r ≡ refusal.Limit limit)
      (text : HasText old.told words part.Query (λ text. IsOverLimit schema text limit))
      (calm : IsCalm old new) → IsUnexplained words schema old new r
  NoMemory : (is : r ≡ refusal.Memory) (calm : IsCalm old new) → IsUnexplained words schema old new r

-- why there is no plan: there is no schema, or the query is not explained over it
pub data HasNoPlan (words : List (List ℕ)) (old new : ShelfState) (r : Refusal) : Type 0 where
  AtSchema : (none : HasNoSchema words old new r) → HasNoPlan words old new r
  AtQuery : (schema : Schema) (before : SchemaPasses old.told words schema)
      (unexplained : IsUnexplained words schema old new r) → HasNoPlan words old new r

-- what explaining leaves: the shelf refused nothing, or there is a refusal with its cause
abbrev pub LeavesQuery : {T : Type 0} → List (List ℕ) → Schema → ShelfState → ShelfState → Result T Refusal → Type 0
LeavesQuery words schema old new (Ok x) = IsCalm old new
LeavesQuery words schema old new (Err r) = IsUnexplained words schema old new r

-- the texts were all there, or the refusal tells why there is no plan
abbrev pub LeavesPlan : {T : Type 0} → List (List ℕ) → ShelfState → ShelfState → Result T Refusal → Type 0
LeavesPlan words old new (Ok x) = IsCalm old new
LeavesPlan words old new (Err r) = HasNoPlan words old new r

-- the plan was written, or the output failed behind a front of it; or there was a refusal with its cause, nothing was
-- written, and it was noted
pub data EndsExplain (words : List (List ℕ)) (old new : ShelfState) (out notes : Puts) (answered : Status)
    : Type 0 where
  Explained : (bytes : List ℕ) (plan : IsPlanText old.told words bytes) (calm : IsCalm old new)
      (written : IsWritten bytes out notes answered) → EndsExplain words old new out notes answered
  Refused : (r : Refusal) (cause : HasNoPlan words old new r) (untouched : Took out.old out.new [])
      (noted : Notes (status_of r) (note_of words r) notes answered) → EndsExplain words old new out notes answered
