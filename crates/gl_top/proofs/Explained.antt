-- What `explain` answers.
use Rattle.std.proofs.Common.{ℕ, List, [], inl, refl, sym, subst}
use Rattle.gl_outside.specs.Told.{Told}
use Rattle.gl_outside.specs.States.{ShelfState}
use Rattle.gl_schema.specs.declared.schema.Schema.{Schema}
use Rattle.gl_query_texts.specs.Judged.{IsAcceptedText}
use Rattle.gl_compiler.specs.Queries.{IsQuery}
use Rattle.gl_top_forms.specs.declared.command.Command.TheVariants.{Explain}
use Rattle.gl_top_forms.specs.declared.command.Part.TheVariants as part
use Rattle.gl_top_forms.specs.Forms.{IsCommand, name_of}
use Rattle.gl_top_forms.proofs.Named.{schema_named}
use Rattle.gl_top_status.specs.declared.refusal.Refusal.{Refusal}
use Rattle.gl_top_status.specs.declared.status.Status.{Status}
use Rattle.gl_top_status.specs.Refusals.{Puts}
use Rattle.gl_top_status.specs.Texts.{SchemaPasses}
use Rattle.gl_top_explain.specs.Ending.{IsPlanText, IsUnexplained, Unfetched, OfFault, OfLimit, NoMemory, HasNoPlan, AtSchema, AtQuery, EndsExplain, Explained}
use Rattle.gl_top_explain.specs.Ending as explain
use Rattle.gl_top_explain.proofs.Plans.{explain_names_query}
use Rattle.gl_top_inputs.specs.Causes.{HasCause, change}
use Rattle.gl_top_inputs.specs.Readings.{One}
use Rattle.gl_top_inputs.proofs.Texts.{no_schema_cause, unfetched_cause}
use Rattle.gl_top.specs.Shown.{IsShownOf}
use Rattle.gl_top.specs.Verdicts.{IsAnswer, OfTexts, Refused}
use Rattle.gl_top.proofs.Answering.{leaving, written}
use Rattle.gl_top.proofs.Failing.{weaker}

-- what is explained is compiled
shown_of : (told : List ℕ → Told) (words : List (List ℕ)) (bytes : List ℕ) → IsCommand words Explain → IsPlanText told words bytes → IsShownOf told words bytes []
shown_of told words bytes is p = record {
  command = Explain;
  is = is;
  schema = p.schema;
  statement = p.statement;
  passes = record {
    named = explain_names_query words is;
    before = p.before;
    text =
        weaker (told (name_of words part.Query)) (λ text. IsAcceptedText p.schema text p.statement) (λ text. IsQuery p.schema text p.statement)
        (λ text a. record { has = a.has; built = record { accepted = a.accepted; within = p.within } }) p.text;
  };
  shows = (p.shown, refl);
}

unexplained_cause : (words : List (List ℕ)) (s : Schema) (a b : ShelfState) (r : Refusal) → IsCommand words Explain → SchemaPasses a.told words s → IsUnexplained words s a b r → HasCause words (change a b) r
unexplained_cause words s a b r is before (Unfetched h) = unfetched_cause words (change a b) part.Query r (explain_names_query words is, s, before) h
unexplained_cause words s a b r is before (OfFault f e text calm) =
    subst (HasCause words (change a b)) (sym e) (record { reading = One; named = explain_names_query words is; schema = s; before = before; text = text }, calm)
unexplained_cause words s a b r is before (OfLimit l e text calm) =
    subst (HasCause words (change a b)) (sym e) (record { reading = One; named = explain_names_query words is; schema = s; before = before; text = text }, calm)
unexplained_cause words s a b r is before (NoMemory e calm) = subst (HasCause words (change a b)) (sym e) calm

no_plan_cause : (words : List (List ℕ)) (a b : ShelfState) (r : Refusal) → IsCommand words Explain → HasNoPlan words a b r → HasCause words (change a b) r
no_plan_cause words a b r is (AtSchema h) = no_schema_cause words (change a b) r (schema_named words part.Query refl (explain_names_query words is)) h
no_plan_cause words a b r is (AtQuery s before h) = unexplained_cause words s a b r is before h

pub explain_answer : (words : List (List ℕ)) (a b : ShelfState) (out notes : Puts) (status : Status) → IsCommand words Explain → EndsExplain words a b out notes status → IsAnswer (leaving words (change a b) out notes status [])
explain_answer words a b out notes status is (Explained bytes plan calm w) = written words (change a b) out notes bytes [] status (OfTexts (shown_of a.told words bytes is plan)) calm w
explain_answer words a b out notes status is (explain.Refused r cause untouched noted) =
    Refused (record { refusal = r; cause = no_plan_cause words a b r is cause; untouched = untouched; noted = noted; left = inl refl })
