-- Why the text of a query is not explained.
use Rattle.std.proofs.Common.{◌≡◌, ◌≢◌, ℕ, List, inl, inr, refl}
use Rattle.gl_schema.specs.declared.schema.Schema.{Schema}
use Rattle.gl_query.specs.declared.fault.QueryFault.{QueryFault}
use Rattle.gl_query.specs.declared.fault.QueryFault.TheVariants as fault
use Rattle.gl_query_texts.specs.Judged.{IsFaultOrMemory}
use Rattle.gl_top_status.specs.declared.refusal.Refusal.TheVariants as refusal
use Rattle.gl_top_status.specs.Refusals.{query_refusal}
use Rattle.gl_top_explain.specs.Explaining.{IsExplainRefused}

-- a fault is told as it is
told_as : (f : QueryFault) → f ≢ fault.Memory → query_refusal f ≡ refusal.Query f
told_as fault.Memory real = absurd (real refl)
told_as (fault.Syntax at) real = refl
told_as (fault.UnknownStream at) real = refl
told_as (fault.UnknownColumn at) real = refl
told_as (fault.KindsDiffer at) real = refl
told_as (fault.LiteralTooWide at) real = refl
told_as (fault.NotCondition at) real = refl
told_as (fault.MixedItems at) real = refl
told_as (fault.TwiceNamed at) real = refl
told_as (fault.ColumnsDiffer at) real = refl
told_as (fault.PaceDiffers at) real = refl
told_as (fault.NotClosing at) real = refl
told_as (fault.OutOfRange at) real = refl
told_as (fault.TooDeep at) real = refl
told_as (fault.NoTime at) real = refl
told_as (fault.NoArrival at) real = refl
told_as (fault.UnknownParameter at) real = refl

pub explain_refused : (schema : Schema) (text : List ℕ) (f : QueryFault) → IsFaultOrMemory schema text f → IsExplainRefused schema text (query_refusal f)
explain_refused schema text f (inl is) = rw (told_as f is.real) is
explain_refused schema text f (inr e) = rw e tt
