-- What passes does not stop a command, where the texts are told.
use Rattle.std.proofs.Common.{◌≡◌, ◌≢◌, ℕ, List, Result, Ok, inl, inr, refl, sym, subst, ◌∙◌}
use Rattle.gl_outside.specs.Told.{Told, Untold}
use Rattle.gl_vcd.specs.Dumped.{OfLines}
use Rattle.gl_vcd.specs.Reading.{dump_of}
use Rattle.gl_gaps.specs.declared.Gaps.{Gaps}
use Rattle.gl_schema.specs.declared.schema.Schema.{Schema}
use Rattle.gl_schema.specs.declared.fault.SchemaFault.{SchemaFault}
use Rattle.gl_schema.specs.SchemaFaults.{schema_of}
use Rattle.gl_schema.specs.SchemaText.{IsSchemaText}
use Rattle.gl_schema.proofs.Complete.{read_again}
use Rattle.gl_query.specs.declared.tree.Statement.{Statement}
use Rattle.gl_query.specs.Trees.{statement_tree}
use Rattle.gl_query_texts.proofs.Judged.{one_meaning}
use Rattle.gl_compiler.proofs.Planning.{gaps_by_shape}
use Rattle.gl_compiler.proofs.Shaped.{shapes_alike}
use Rattle.gl_compiler.specs.Built.{gaps_of}
use Rattle.gl_compiler.specs.Queries.{IsQuery}
use Rattle.gl_tuples.specs.Flat.{BeatList}
use Rattle.gl_tuples.specs.declared.fault.TupleFault.{TupleFault}
use Rattle.gl_many.specs.Meets.{shared_gaps}
use Rattle.gl_many.specs.Queries.{AreQueries}
use Rattle.gl_many.proofs.OneVerdict.{one_gaps_of_all}
use Rattle.gl_verilog.specs.Module.{Module}
use Rattle.gl_verilog.specs.Text.{HasModule}
use Rattle.gl_top_forms.specs.declared.command.Command.TheVariants as command
use Rattle.gl_top_forms.specs.declared.command.Part.TheVariants as part
use Rattle.gl_top_forms.specs.Forms.{IsCommand, IsForm, IsLoadOf, IsNamed, IsOfHelp, IsOfRun, name_of}
use Rattle.gl_top_forms.proofs.Named.{form_of, one_command, help_form, help_names_none, load_names_none, many_run_names_queries, named_form, one_query_part, queries_and_no_module, sim_names_no_query, version_names_none}
use Rattle.gl_top_status.specs.declared.refusal.Refusal.{Refusal}
use Rattle.gl_top_status.specs.Texts.{HasText, SchemaPasses}
use Rattle.gl_top_inputs.specs.Below.{LawsBelow}
use Rattle.gl_top_inputs.specs.Passing.{AsksGaps, FilePasses, ModulePasses, OfAll, OfOne, QueriesPass, QueryPasses, kept_beats}
use Rattle.gl_top_inputs.specs.Readings.{One, Several}
use Rattle.gl_top_inputs.proofs.Modules.{module_goes}
use Rattle.gl_top_inputs.proofs.Texts.{asks_named, asks_schema, run_names_query, sim_names_module, sim_names_tuples}
use Rattle.gl_top.specs.Verdicts.{AllPass, AreFine, Helps, OfItsRun, OfQuery, IsTelling, IsUndumped, Loads, OfFile, Three, ThreeOfAll, Two, TwoOfAll, Undumps, Versions}
use Rattle.gl_top.proofs.Dumps.{DumpFails, no_dump, undump_names}
use Rattle.gl_top.proofs.Failing.{Failing, FailsAt, Fine, no_error, not_both, weaker, with_both}
use Rattle.gl_top.proofs.Stopping.{AtDump, AtFile, AtModule, AtQuery, AtSchema, AtSecond, AtThird, AtTuples, AtWords, ModuleFails, QueryFails, SchemaFails, SecondStops, Stops, ThirdStops, TuplesFail, filed, queries_out, query_out}

-- ---- one schema, the same gaps

same_schema : (s t : Schema) (text : List ℕ) → IsSchemaText text s → IsSchemaText text t → s ≡ t
same_schema s t text a b = let e : ◌≡◌ {A = Result Schema SchemaFault} (Ok s) (Ok t) = sym (read_again text s a) ∙ read_again text t b in cc

pub one_schema : (told : List ℕ → Told) (words : List (List ℕ)) (s t : Schema) → IsTelling told words → SchemaPasses told words s → SchemaPasses told words t → s ≡ t
one_schema told words s t tells a b = with_both (told (name_of words part.Schema)) (λ text. IsSchemaText text s) (λ text. IsSchemaText text t) (tells part.Schema a.named) a.text b.text (same_schema s t)

-- its statements have the same gaps
same_gaps : LawsBelow → (s : Schema) (st st' : Statement) (text : List ℕ) → IsQuery s text st → IsQuery s text st' → gaps_of s st ≡ gaps_of s st'
same_gaps laws s st st' text p q =
    gaps_by_shape s st st' (shapes_alike st st' (one_meaning laws.one.texts_have_one_verdict text (statement_tree st) (statement_tree st') p.has q.has))

same_for_one : LawsBelow → (told : List ℕ → Told) (words : List (List ℕ)) (s : Schema) (st st' : Statement) → IsTelling told words → QueryPasses told words s st → QueryPasses told words s st' → gaps_of s st ≡ gaps_of s st'
same_for_one laws told words s st st' tells p q =
    with_both (told (name_of words part.Query)) (λ text. IsQuery s text st) (λ text. IsQuery s text st') (tells part.Query p.named) p.text q.text (same_gaps laws s st st')

same_for_all : LawsBelow → (told : List ℕ → Told) (words : List (List ℕ)) (s : Schema) (sts sts' : List Statement) → IsTelling told words → QueriesPass told words s sts → QueriesPass told words s sts' → shared_gaps s sts ≡ shared_gaps s sts'
same_for_all laws told words s sts sts' tells p q =
    with_both (told (name_of words part.Queries)) (λ text. AreQueries s text sts) (λ text. AreQueries s text sts') (tells part.Queries p.named) p.text q.text (λ text. one_gaps_of_all laws.several s text sts sts')

-- words name one query, or several
pub not_both_named : (words : List (List ℕ)) {A : Type 0} → IsNamed words part.Query → IsNamed words part.Queries → A
not_both_named words one several = absurd (one_query_part words one several)

-- so a tuple file is asked for the same gaps
asked_gaps : LawsBelow → (told : List ℕ → Told) (words : List (List ℕ)) (s : Schema) (m n : Gaps) → IsTelling told words → AsksGaps told words s m → AsksGaps told words s n → m ≡ n
asked_gaps laws told words s m n tells (OfOne runs st p e) (OfOne runs' st' q h) = e ∙ same_for_one laws told words s st st' tells p q ∙ sym h
asked_gaps laws told words s m n tells (OfOne runs st p e) (OfAll runs' sts q h) = not_both_named words p.named q.named
asked_gaps laws told words s m n tells (OfAll runs sts p e) (OfOne runs' st q h) = not_both_named words q.named p.named
asked_gaps laws told words s m n tells (OfAll runs sts p e) (OfAll runs' sts' q h) = e ∙ same_for_all laws told words s sts sts' tells p q ∙ sym h

-- ---- what passes does not stop

-- a query passes, or several do
pub data Passed (told : List ℕ → Told) (words : List (List ℕ)) (s : Schema) : Type 0 where
  PassedOne : (st : Statement) (passes : QueryPasses told words s st) → Passed told words s
  PassedAll : (sts : List Statement) (passes : QueriesPass told words s sts) → Passed told words s

asked_passed : (told : List ℕ → Told) (words : List (List ℕ)) (s : Schema) (gaps : Gaps) → AsksGaps told words s gaps → Passed told words s
asked_passed told words s gaps (OfOne runs st passes is) = PassedOne st passes
asked_passed told words s gaps (OfAll runs sts passes is) = PassedAll sts passes

passed_schema : (told : List ℕ → Told) (words : List (List ℕ)) (s : Schema) → Passed told words s → SchemaPasses told words s
passed_schema told words s (PassedOne st p) = p.before
passed_schema told words s (PassedAll sts p) = p.before

-- a text of some schema
abbrev IsText : List ℕ → Type 0
IsText text = (s : Schema) × IsSchemaText text s

pub schema_goes : (told : List ℕ → Told) (words : List (List ℕ)) (s : Schema) (a : Refusal) {A : Type 0} → IsTelling told words → SchemaPasses told words s → FailsAt told words part.Schema SchemaFails a → A
schema_goes told words s a tells p f =
    absurd (not_both (told (name_of words part.Schema)) part.Schema IsText SchemaFails a (tells part.Schema p.named) (λ text is fails. no_error (schema_of text) is.0 fails.fault (read_again text is.0 is.1) fails.found)
    (weaker (told (name_of words part.Schema)) (λ text. IsSchemaText text s) IsText (λ text h. (s, h)) p.text) f)

query_goes : LawsBelow → (told : List ℕ → Told) (words : List (List ℕ)) (s t : Schema) (st : Statement) (a : Refusal) {A : Type 0} → IsTelling told words → QueryPasses told words s st → SchemaPasses told words t
    → FailsAt told words part.Query (QueryFails One t) a → A
query_goes laws told words s t st a tells p q f =
    let e : t ≡ s = one_schema told words t s tells q p.before in
    absurd (not_both (told (name_of words part.Query)) part.Query (λ text. IsQuery s text st) (QueryFails One s) a (tells part.Query p.named) (query_out laws s st a p.before.fine) p.text
    (subst (λ (x : Schema). FailsAt told words part.Query (QueryFails One x) a) e f))

queries_go : LawsBelow → (told : List ℕ → Told) (words : List (List ℕ)) (s t : Schema) (sts : List Statement) (a : Refusal) {A : Type 0} → IsTelling told words → QueriesPass told words s sts → SchemaPasses told words t
    → FailsAt told words part.Queries (QueryFails Several t) a → A
queries_go laws told words s t sts a tells p q f =
    let e : t ≡ s = one_schema told words t s tells q p.before in
    absurd (not_both (told (name_of words part.Queries)) part.Queries (λ text. AreQueries s text sts) (QueryFails Several s) a (tells part.Queries p.named) (queries_out laws s sts a) p.text
    (subst (λ (x : Schema). FailsAt told words part.Queries (QueryFails Several x) a) e f))

module_passed : LawsBelow → (told : List ℕ → Told) (words : List (List ℕ)) (s t : Schema) (m : Module) (a : Refusal) {A : Type 0} → IsTelling told words → ModulePasses told words s m → SchemaPasses told words t
    → FailsAt told words part.Module (ModuleFails t) a → A
module_passed laws told words s t m a tells p q f =
    let e : t ≡ s = one_schema told words t s tells q p.before in
    absurd (not_both (told (name_of words part.Module)) part.Module (λ text. HasModule text m) (ModuleFails s) a (tells part.Module (sim_names_module words p.sims))
    (λ text has fails. module_goes laws.one_verdict s text m p.ports fails.fault has p.fits fails.found) p.text
    (subst (λ (x : Schema). FailsAt told words part.Module (ModuleFails x) a) e f))

-- a text of queries is none of `sim`
passed_no_sim : (told : List ℕ → Told) (words : List (List ℕ)) (s : Schema) {A : Type 0} → Passed told words s → IsCommand words command.Sim → A
passed_no_sim told words s (PassedOne st p) sims = absurd (sim_names_no_query words sims p.named)
passed_no_sim told words s (PassedAll sts p) sims = absurd (queries_and_no_module words p.named (sim_names_module words sims))

pub asks_no_sim : (told : List ℕ → Told) (words : List (List ℕ)) (s : Schema) (gaps : Gaps) {A : Type 0} → AsksGaps told words s gaps → IsCommand words command.Sim → A
asks_no_sim told words s gaps asks sims = passed_no_sim told words s (asked_passed told words s gaps asks) sims

passed_no_dump : (told : List ℕ → Told) (words : List (List ℕ)) (s : Schema) → Passed told words s → IsNamed words part.Dump → ⊥
passed_no_dump told words s p named = no_dump words part.Schema refl (passed_schema told words s p).named named

-- what passed behind the schema does not stop there
query_second : LawsBelow → (told : List ℕ → Told) (words : List (List ℕ)) (s t : Schema) (a : Refusal) {A : Type 0} → IsTelling told words → Passed told words s → SchemaPasses told words t → SecondStops told words t a → A
query_second laws told words s t a tells (PassedOne st p) q (AtQuery One named f) = query_goes laws told words s t st a tells p q f
query_second laws told words s t a tells (PassedOne st p) q (AtQuery Several named f) = not_both_named words p.named named
query_second laws told words s t a tells (PassedAll sts p) q (AtQuery One named f) = not_both_named words named p.named
query_second laws told words s t a tells (PassedAll sts p) q (AtQuery Several named f) = queries_go laws told words s t sts a tells p q f
query_second laws told words s t a tells p q (AtModule sims f) = passed_no_sim told words s p sims

module_second : LawsBelow → (told : List ℕ → Told) (words : List (List ℕ)) (s t : Schema) (m : Module) (a : Refusal) {A : Type 0} → IsTelling told words → ModulePasses told words s m → SchemaPasses told words t → SecondStops told words t a → A
module_second laws told words s t m a tells p q (AtQuery One named f) = absurd (sim_names_no_query words p.sims named)
module_second laws told words s t m a tells p q (AtQuery Several named f) = absurd (queries_and_no_module words named (sim_names_module words p.sims))
module_second laws told words s t m a tells p q (AtModule sims f) = module_passed laws told words s t m a tells p q f

pub third_second : LawsBelow → (told : List ℕ → Told) (words : List (List ℕ)) (s t : Schema) (a b : Refusal) {A : Type 0} → IsTelling told words → ThirdStops told words s a → SchemaPasses told words t → SecondStops told words t b → A
third_second laws told words s t a b tells (AtTuples gaps asks f) q h = query_second laws told words s t b tells (asked_passed told words s gaps asks) q h
third_second laws told words s t a b tells (AtFile m p f) q h = module_second laws told words s t m b tells p q h

-- the gaps of other statements of the texts
pub other_gaps : LawsBelow → (told : List ℕ → Told) (words : List (List ℕ)) (s t : Schema) (m n : Gaps) → IsTelling told words → AsksGaps told words s m → AsksGaps told words t n
    → (a : Refusal) → FailsAt told words part.Tuples (TuplesFail (kept_beats t n)) a → FailsAt told words part.Tuples (TuplesFail (kept_beats s m)) a
other_gaps laws told words s t m n tells p q a f =
    let e : t ≡ s = one_schema told words t s tells (asks_schema told words t n q) (asks_schema told words s m p) in
    let q' : AsksGaps told words s n = subst (λ (x : Schema). AsksGaps told words x n) e q in
    subst (λ (gaps : Gaps). FailsAt told words part.Tuples (TuplesFail (kept_beats s gaps)) a) (asked_gaps laws told words s n m tells q' p)
    (subst (λ (x : Schema). FailsAt told words part.Tuples (TuplesFail (kept_beats x n)) a) e f)

-- the same file over another schema of the texts
pub other_file : (told : List ℕ → Told) (words : List (List ℕ)) (s t : Schema) → IsTelling told words → SchemaPasses told words s → SchemaPasses told words t
    → (a : Refusal) → FailsAt told words part.Tuples (TuplesFail (filed t)) a → FailsAt told words part.Tuples (TuplesFail (filed s)) a
other_file told words s t tells p q a f =
    let e : t ≡ s = one_schema told words t s tells q p in
    subst (λ (x : Schema). FailsAt told words part.Tuples (TuplesFail (filed x)) a) e f

abbrev AreTuples : (List ℕ → Result BeatList TupleFault) → List ℕ → Type 0
AreTuples read text = (beats : BeatList) × (read text ≡ Ok beats)

-- beats that are there do not fail
beats_go : (t : Told) (read : List ℕ → Result BeatList TupleFault) (beats : BeatList) (a : Refusal) → t ≢ Untold → Fine t (λ text. read text ≡ Ok beats) → Failing t part.Tuples (TuplesFail read) a → ⊥
beats_go t read beats a told fine f =
    not_both t part.Tuples (AreTuples read) (TuplesFail read) a told (λ text is fails. no_error (read text) is.0 fails.fault is.1 fails.found)
    (weaker t (λ text. read text ≡ Ok beats) (AreTuples read) (λ text h. (beats, h)) fine) f

tuples_third : LawsBelow → (told : List ℕ → Told) (words : List (List ℕ)) (s t : Schema) (gaps : Gaps) (beats : BeatList) (a : Refusal) → IsTelling told words → AsksGaps told words s gaps → HasText told words part.Tuples (λ text. kept_beats s gaps text ≡ Ok beats)
    → ThirdStops told words t a → ⊥
tuples_third laws told words s t gaps beats a tells asks fine (AtTuples n q f) =
    beats_go (told (name_of words part.Tuples)) (kept_beats s gaps) beats a (tells part.Tuples (asks_named told words s gaps asks)) fine (other_gaps laws told words s t gaps n tells asks q a f)
tuples_third laws told words s t gaps beats a tells asks fine (AtFile m q f) = asks_no_sim told words s gaps asks q.sims

file_third : (told : List ℕ → Told) (words : List (List ℕ)) (s t : Schema) (m : Module) (beats : BeatList) (a : Refusal) → IsTelling told words → FilePasses told words s m beats → ThirdStops told words t a → ⊥
file_third told words s t m beats a tells p (AtTuples gaps asks f) = asks_no_sim told words t gaps asks p.before.sims
file_third told words s t m beats a tells p (AtFile n q f) =
    beats_go (told (name_of words part.Tuples)) (filed s) beats a (tells part.Tuples (sim_names_tuples words q.sims)) p.text (other_file told words s t tells p.before.before q.before a f)

-- queries pass, and the words run nothing
no_third : (told : List ℕ → Told) (words : List (List ℕ)) (s t : Schema) (a : Refusal) → Passed told words s → (IsOfRun words → ⊥) → (IsCommand words command.ManyRun → ⊥) → ThirdStops told words t a → ⊥
no_third told words s t a p one several (AtTuples gaps (OfOne runs st q is) f) = one runs
no_third told words s t a p one several (AtTuples gaps (OfAll runs sts q is) f) = several runs
no_third told words s t a p one several (AtFile m q f) = passed_no_sim told words s p q.sims

two_go : LawsBelow → (told : List ℕ → Told) (words : List (List ℕ)) (s : Schema) (a : Refusal) → IsTelling told words → Passed told words s → (IsOfRun words → ⊥) → (IsCommand words command.ManyRun → ⊥) → Stops told words a → ⊥
two_go laws told words s a tells p one several (AtWords n e) = n (named_form words part.Schema (passed_schema told words s p).named)
two_go laws told words s a tells p one several (AtSchema named f) = schema_goes told words s a tells (passed_schema told words s p) f
two_go laws told words s a tells p one several (AtSecond t q h) = query_second laws told words s t a tells p q h
two_go laws told words s a tells p one several (AtThird t q h) = no_third told words s t a p one several h
two_go laws told words s a tells p one several (AtDump named f) = passed_no_dump told words s p named

three_go : LawsBelow → (told : List ℕ → Told) (words : List (List ℕ)) (s : Schema) (gaps : Gaps) (beats : BeatList) (a : Refusal) → IsTelling told words → AsksGaps told words s gaps → HasText told words part.Tuples (λ text. kept_beats s gaps text ≡ Ok beats) → Stops told words a → ⊥
three_go laws told words s gaps beats a tells asks fine (AtWords n e) = n (named_form words part.Tuples (asks_named told words s gaps asks))
three_go laws told words s gaps beats a tells asks fine (AtSchema named f) = schema_goes told words s a tells (asks_schema told words s gaps asks) f
three_go laws told words s gaps beats a tells asks fine (AtSecond t q h) = query_second laws told words s t a tells (asked_passed told words s gaps asks) q h
three_go laws told words s gaps beats a tells asks fine (AtThird t q h) = tuples_third laws told words s t gaps beats a tells asks fine h
three_go laws told words s gaps beats a tells asks fine (AtDump named f) = passed_no_dump told words s (asked_passed told words s gaps asks) named

file_goes : LawsBelow → (told : List ℕ → Told) (words : List (List ℕ)) (s : Schema) (m : Module) (beats : BeatList) (a : Refusal) → IsTelling told words → FilePasses told words s m beats → Stops told words a → ⊥
file_goes laws told words s m beats a tells p (AtWords n e) = n (form_of words command.Sim p.before.sims)
file_goes laws told words s m beats a tells p (AtSchema named f) = schema_goes told words s a tells p.before.before f
file_goes laws told words s m beats a tells p (AtSecond t q h) = module_second laws told words s t m a tells p.before q h
file_goes laws told words s m beats a tells p (AtThird t q h) = file_third told words s t m beats a tells p h
file_goes laws told words s m beats a tells p (AtDump named f) = no_dump words part.Schema refl p.before.before.named named

-- a load names no text that could
pub load_goes : (told : List ℕ → Told) (words : List (List ℕ)) (count : ℕ) (a : Refusal) → IsLoadOf words count → Stops told words a → ⊥
load_goes told words count a is (AtWords n e) = n (form_of words command.Load is.loads)
load_goes told words count a is (AtSchema named f) = load_names_none words part.Schema is.loads named
load_goes told words count a is (AtSecond s p h) = load_names_none words part.Schema is.loads p.named
load_goes told words count a is (AtThird s p h) = load_names_none words part.Schema is.loads p.named
load_goes told words count a is (AtDump named f) = load_names_none words part.Dump is.loads named

-- nor do the words of the version
pub version_goes : (told : List ℕ → Told) (words : List (List ℕ)) (a : Refusal) → IsCommand words command.Version → Stops told words a → ⊥
version_goes told words a is (AtWords n e) = n (form_of words command.Version is)
version_goes told words a is (AtSchema named f) = version_names_none words part.Schema is named
version_goes told words a is (AtSecond s p h) = version_names_none words part.Schema is p.named
version_goes told words a is (AtThird s p h) = version_names_none words part.Schema is p.named
version_goes told words a is (AtDump named f) = version_names_none words part.Dump is named

-- nor do those of help
pub help_goes : (told : List ℕ → Told) (words : List (List ℕ)) (a : Refusal) → IsOfHelp words → Stops told words a → ⊥
help_goes told words a is (AtWords n e) = n (help_form words is)
help_goes told words a is (AtSchema named f) = help_names_none words part.Schema is named
help_goes told words a is (AtSecond s p h) = help_names_none words part.Schema is p.named
help_goes told words a is (AtThird s p h) = help_names_none words part.Schema is p.named
help_goes told words a is (AtDump named f) = help_names_none words part.Dump is named

-- nor does a dump that is read
pub dump_goes : (told : List ℕ → Told) (words : List (List ℕ)) (bytes : List ℕ) (a : Refusal) → IsTelling told words → IsUndumped told words bytes → Stops told words a → ⊥
dump_goes told words bytes a tells d (AtWords n e) = n (form_of words command.Undump d.is)
dump_goes told words bytes a tells d (AtSchema named f) = no_dump words part.Schema refl named (undump_names words d.is)
dump_goes told words bytes a tells d (AtSecond s p h) = no_dump words part.Schema refl p.named (undump_names words d.is)
dump_goes told words bytes a tells d (AtThird s p h) = no_dump words part.Schema refl p.named (undump_names words d.is)
dump_goes told words bytes a tells d (AtDump named f) =
    not_both (told (name_of words part.Dump)) part.Dump (λ text. OfLines text (λ lines. bytes ≡ lines)) DumpFails a (tells part.Dump named)
    (λ text is fails. no_error (dump_of text) is.dump fails.fault is.reads fails.found) d.text f

pub passes_goes : LawsBelow → (told : List ℕ → Told) (words : List (List ℕ)) (a : Refusal) → IsTelling told words → AllPass told words → Stops told words a → ⊥
passes_goes laws told words a tells (Two s st p other) h = two_go laws told words s a tells (PassedOne st p) other (λ runs. one_query_part words p.named (many_run_names_queries words runs)) h
passes_goes laws told words a tells (Three s st beats p) h = three_go laws told words s (gaps_of s st) beats a tells (OfOne p.runs st p.before refl) p.text h
passes_goes laws told words a tells (TwoOfAll s sts p other) h = two_go laws told words s a tells (PassedAll sts p) (λ runs. one_query_part words (run_names_query words runs) p.named) other h
passes_goes laws told words a tells (ThreeOfAll s sts beats p) h = three_go laws told words s (shared_gaps s sts) beats a tells (OfAll p.runs sts p.before refl) p.text h
passes_goes laws told words a tells (OfFile s m beats p) h = file_goes laws told words s m beats a tells p h
passes_goes laws told words a tells (Loads count is) h = load_goes told words count a is h
passes_goes laws told words a tells (Undumps bytes d) h = dump_goes told words bytes a tells d h
passes_goes laws told words a tells (Helps is) h = help_goes told words a is h
passes_goes laws told words a tells (Versions is) h = version_goes told words a is h

-- what `why` finds nothing against
no_run_of_query : (words : List (List ℕ)) → IsCommand words command.Why → IsOfRun words → ⊥
no_run_of_query words is (inl runs) = absurd (let e : command.Why ≡ command.Run = one_command words command.Why command.Run is runs in cc)
no_run_of_query words is (inr (inl dumps)) = absurd (let e : command.Why ≡ command.Vcd = one_command words command.Why command.Vcd is dumps in cc)
no_run_of_query words is (inr (inr asks)) = absurd (let e : command.Why ≡ command.WhyRun = one_command words command.Why command.WhyRun is asks in cc)

pub fine_passes : (told : List ℕ → Told) (words : List (List ℕ)) → AreFine told words → AllPass told words
fine_passes told words (OfQuery is s st p) = Two s st p (no_run_of_query words is)
fine_passes told words (OfItsRun is s st beats p) = Three s st beats p

pub fine_form : (told : List ℕ → Told) (words : List (List ℕ)) → AreFine told words → IsForm words
fine_form told words (OfQuery is s st p) = form_of words command.Why is
fine_form told words (OfItsRun is s st beats p) = form_of words command.WhyRun is
