-- What is explained of the texts that the words name, and why it is not.
use Rattle.std.proofs.Common.{◌≡◌, ℕ, List, Result, Ok, Err, refl, arith}
use Rattle.std.specs.Prelude.{IfErr}
use Rattle.gl_outside.specs.Told.{Told}
use Rattle.gl_outside.specs.States.{ShelfState, Stays, IsCalm}
use Rattle.gl_outside.proofs.Counting.{calm_then}
use Rattle.gl_schema.specs.declared.schema.Schema.{Schema}
use Rattle.gl_query_texts.specs.Judged.{IsAcceptedText, IsQueryFault}
use Rattle.gl_query_texts.specs.Limits.{IsOverLimit}
use Rattle.gl_top_forms.specs.declared.command.Command.TheVariants.{Explain}
use Rattle.gl_top_forms.specs.declared.command.Part.TheVariants as part
use Rattle.gl_top_forms.specs.Forms.{IsCommand, IsNamed}
use Rattle.gl_top_status.specs.declared.refusal.Refusal.{Refusal}
use Rattle.gl_top_status.specs.declared.refusal.Refusal.TheVariants as refusal
use Rattle.gl_top_status.specs.Texts.{HasText, SchemaPasses}
use Rattle.gl_top_status.proofs.Fetched.{has_text}
use Rattle.gl_top_status.proofs.Later.{same_told, unfetched_later}
use Rattle.gl_top_explain.specs.Explaining.{IsExplained, IsExplainRefused}
use Rattle.gl_top_explain.specs.Ending.{IsPlanText, IsUnexplained, Unfetched, OfFault, OfLimit, NoMemory, AtQuery, LeavesQuery, LeavesPlan}

pub explain_names_query : (words : List (List ℕ)) → IsCommand words Explain → IsNamed words part.Query
explain_names_query words is = record { command = Explain; is = is; names = (1, omega arith, refl) }

-- what is explained of a text that was read is that of the words
pub plan_text_of : (told : List ℕ → Told) (words : List (List ℕ)) (v : List ℕ) (s : Schema) (bytes : List ℕ) → SchemaPasses told words s → HasText told words part.Query (λ text. v ≡ text) → IsExplained s v bytes → IsPlanText told words bytes
plan_text_of told words v s bytes before h e = record {
  schema = s;
  statement = e.statement;
  before = before;
  text = has_text told words part.Query (λ text. IsAcceptedText s text e.statement) v h e.is;
  within = e.within;
  shown = e.shown;
}

-- and so is why it is not
unexplained : (words : List (List ℕ)) (a b : ShelfState) (v : List ℕ) (s : Schema) (r : Refusal) → IsCalm a b → HasText a.told words part.Query (λ text. v ≡ text) → IsExplainRefused s v r → IsUnexplained words s a b r
unexplained words a b v s (refusal.Query f) calm h e = OfFault f refl (has_text a.told words part.Query (λ text. IsQueryFault s text f) v h e) calm
unexplained words a b v s (refusal.Limit l) calm h e = OfLimit l refl (has_text a.told words part.Query (λ text. IsOverLimit s text l) v h e) calm
unexplained words a b v s refusal.Memory calm h e = NoMemory refl calm
unexplained words a b v s refusal.Usage calm h e = absurd e
unexplained words a b v s (refusal.Missing p) calm h e = absurd e
unexplained words a b v s (refusal.ReadFault p) calm h e = absurd e
unexplained words a b v s (refusal.TooLong p) calm h e = absurd e
unexplained words a b v s (refusal.Schema f) calm h e = absurd e
unexplained words a b v s (refusal.Verilog f) calm h e = absurd e
unexplained words a b v s (refusal.Tuples f) calm h e = absurd e
unexplained words a b v s (refusal.Dump f) calm h e = absurd e

pub query_leaves : {T : Type 0} (words : List (List ℕ)) (a b : ShelfState) (v : List ℕ) (s : Schema) (r : Result T Refusal) → IsCalm a b → HasText a.told words part.Query (λ text. v ≡ text) → IfErr r (IsExplainRefused s v) → LeavesQuery words s a b r
query_leaves words a b v s (Ok x) calm h e = calm
query_leaves words a b v s (Err f) calm h e = unexplained words a b v s f calm h e

-- behind a schema that was read
unexplained_later : (words : List (List ℕ)) (s : Schema) (a b c : ShelfState) (r : Refusal) → Stays a b → IsCalm a b → IsUnexplained words s b c r → IsUnexplained words s a c r
unexplained_later words s a b c r k q (Unfetched h) = Unfetched (unfetched_later words part.Query a b c r k q h)
unexplained_later words s a b c r k q (OfFault f e text calm) =
    OfFault f e (same_told (λ t. HasText t words part.Query (λ text. IsQueryFault s text f)) a.told b.told k.texts text) (calm_then a b c q calm)
unexplained_later words s a b c r k q (OfLimit l e text calm) =
    OfLimit l e (same_told (λ t. HasText t words part.Query (λ text. IsOverLimit s text l)) a.told b.told k.texts text) (calm_then a b c q calm)
unexplained_later words s a b c r k q (NoMemory e calm) = NoMemory e (calm_then a b c q calm)

pub plan_leaves : {T : Type 0} (words : List (List ℕ)) (s : Schema) (a b c : ShelfState) (r : Result T Refusal) → Stays a b → IsCalm a b → SchemaPasses a.told words s → LeavesQuery words s b c r → LeavesPlan words a c r
plan_leaves words s a b c (Ok x) k q before h = calm_then a b c q h
plan_leaves words s a b c (Err f) k q before h = AtQuery s before (unexplained_later words s a b c f k q h)
