-- What a text that was read says of its part.
use Rattle.std.proofs.Common.{◌≡◌, ◌⊎◌, ℕ, true, false, List, map, Option, Some, None, Result, Ok, Err, inl, inr, refl, sym, ap, subst, ◌∙◌, arith}
use Rattle.std.specs.Prelude.{is_some}
use Rattle.gl_top_forms.proofs.Named as forms
use Rattle.gl_outside.specs.States.{IsCalm}
use Rattle.gl_outside.specs.Told.{Told}
use Rattle.gl_gaps.specs.declared.Gaps.{Gaps}
use Rattle.gl_schema.specs.declared.schema.Schema.{Schema}
use Rattle.gl_schema.specs.Schemas.{IsSchema}
use Rattle.gl_gaps.specs.Keeps.{KeepsGaps, gaps_with}
use Rattle.gl_query.specs.declared.tree.Statement.{Statement}
use Rattle.gl_query.specs.declared.fault.QueryFault.{QueryFault}
use Rattle.gl_tuples.specs.declared.fault.TupleFault.{TupleFault}
use Rattle.gl_tuples.specs.declared.fault.TupleFault.TheVariants as tuples
use Rattle.gl_tuple_reader.specs.Entries.{Fails}
use Rattle.gl_tuple_reader.specs.Filing.{records_of}
use Rattle.gl_tuple_reader.specs.Settings.{beats_of}
use Rattle.gl_tuples.specs.Flat.{BeatList}
use Rattle.gl_tuples.specs.Gaps.{AreFileBeats, plain_beats, first_close, close_answer}
use Rattle.gl_verilog.specs.Module.{Module}
use Rattle.gl_compiler.specs.declared.fault.CompileFault.{CompileFault}
use Rattle.gl_compiler.specs.declared.fault.CompileFault.TheVariants as compile
use Rattle.gl_figures.specs.declared.Limit.{Limit}
use Rattle.gl_compiler.specs.declared.compiling.Compiled.{Compiled}
use Rattle.gl_compiler.specs.Built.{gaps_of, printed_gaps}
use Rattle.gl_compiler.specs.Queries.{IsQuery, IsQueryRefused}
use Rattle.gl_many.specs.declared.compiling.Many.{Many}
use Rattle.gl_many.specs.Compiles.{AreCompiled, planned_gaps, statements_in}
use Rattle.gl_many.specs.Meets.{MeetTogether, own_latency, shared_gap, shared_gaps, shared_ticks}
use Rattle.gl_many.specs.Queries.{AreQueries, AreRefused}
use Rattle.gl_top_forms.specs.declared.command.Part.{Part}
use Rattle.gl_top_forms.specs.declared.command.Part.TheVariants as part
use Rattle.gl_top_forms.specs.declared.command.Command.{Command}
use Rattle.gl_top_forms.specs.declared.command.Command.TheVariants.{ManyRun, Run, Sim, Vcd, WhyRun}
use Rattle.gl_top_forms.specs.Forms.{IsCommand, IsForm, IsNamed, IsOfRun, command_of}
use Rattle.gl_top_forms.proofs.Named.{many_run_names_tuples}
use Rattle.gl_top_status.specs.declared.refusal.Refusal.{Refusal}
use Rattle.gl_top_status.specs.declared.refusal.Refusal.TheVariants as refusal
use Rattle.gl_top_status.specs.Refusals.{tuples_refusal}
use Rattle.gl_top_status.specs.Texts.{HasText, SchemaPasses, IsUnfetched, HasNoSchema}
use Rattle.gl_top_status.proofs.Fetched.{has_text}
use Rattle.gl_top_inputs.specs.Passing.{AreCompiledTogether, AsksGaps, IsCompiled, OfAll, OfOne, QueriesPass, QueryPasses, TuplesPass, TuplesPassAll, ModulePasses, kept_beats}
use Rattle.gl_top_inputs.specs.Readings.{One, Reading, Several, IsFaultBy, IsOverBy, part_read}
use Rattle.gl_top_inputs.specs.Causes.{OfRun, OfRunAll, OfSim, PassBeforeTuples, IsNext, AreBadTuples, ToRun, ToRunAll, ToSim, Change, HasCause, compile_refusal}

-- the texts of a command that its words name
pub run_names_query : (words : List (List ℕ)) → IsOfRun words → IsNamed words part.Query
run_names_query words (inl is) = record { command = Run; is = is; names = (1, omega arith, refl) }
run_names_query words (inr (inr is)) = record { command = WhyRun; is = is; names = (1, omega arith, refl) }
run_names_query words (inr (inl is)) = record { command = Vcd; is = is; names = (1, omega arith, refl) }

pub run_names_tuples : (words : List (List ℕ)) → IsOfRun words → IsNamed words part.Tuples
run_names_tuples words (inl is) = record { command = Run; is = is; names = (2, omega arith, refl) }
run_names_tuples words (inr (inr is)) = record { command = WhyRun; is = is; names = (2, omega arith, refl) }
run_names_tuples words (inr (inl is)) = record { command = Vcd; is = is; names = (2, omega arith, refl) }

pub sim_names_module : (words : List (List ℕ)) → IsCommand words Sim → IsNamed words part.Module
sim_names_module words is = record { command = Sim; is = is; names = (1, omega arith, refl) }

pub sim_names_tuples : (words : List (List ℕ)) → IsCommand words Sim → IsNamed words part.Tuples
sim_names_tuples words is = record { command = Sim; is = is; names = (2, omega arith, refl) }

-- where a text is judged the words name it
pub next_named : (told : List ℕ → Told) (words : List (List ℕ)) (p : Part) → IsNext told words p → IsNamed words p
next_named told words part.Schema next = next
next_named told words part.Query next = next.0
next_named told words part.Queries next = next.0
next_named told words part.Module next = sim_names_module words next.0
next_named told words part.Tuples (OfRun runs s st passes) = run_names_tuples words runs
next_named told words part.Tuples (OfRunAll runs s sts passes) = many_run_names_tuples words runs
next_named told words part.Tuples (OfSim s m passes) = sim_names_tuples words passes.sims
next_named told words part.Dump next = next

-- so they are of a form
pub next_form : (told : List ℕ → Told) (words : List (List ℕ)) (p : Part) → IsNext told words p → IsForm words
next_form told words p next = forms.named_form words p (next_named told words p next)

-- words of no form
pub no_form : (words : List (List ℕ)) → command_of words ≡ None → IsForm words → ⊥
no_form words none form = absurd (let z : false ≡ true = sym (ap (λ (o : Option Command). is_some o) none) ∙ form in cc)

-- the cause of a text that was not fetched
pub unfetched_cause : (words : List (List ℕ)) (c : Change) (p : Part) (r : Refusal) → IsNext c.old.told words p → IsUnfetched words p c.old c.new r → HasCause words c r
unfetched_cause words c p refusal.Usage next h = absurd h
unfetched_cause words c p (refusal.Missing q) next h = subst (λ (x : Part). HasCause words c (refusal.Missing x)) (sym h.0) (record { next = next; lacking = h.1 }, h.2)
unfetched_cause words c p (refusal.ReadFault q) next h = subst (λ (x : Part). HasCause words c (refusal.ReadFault x)) (sym h.0) (next, h.1)
unfetched_cause words c p (refusal.TooLong q) next h = subst (λ (x : Part). HasCause words c (refusal.TooLong x)) (sym h.0) (record { next = next; long = h.1 }, h.2)
unfetched_cause words c p (refusal.Schema f) next h = absurd h
unfetched_cause words c p (refusal.Query f) next h = absurd h
unfetched_cause words c p (refusal.Limit l) next h = absurd h
unfetched_cause words c p (refusal.Verilog f) next h = absurd h
unfetched_cause words c p (refusal.Tuples f) next h = absurd h
unfetched_cause words c p (refusal.Dump f) next h = absurd h
unfetched_cause words c p refusal.Memory next h = h

-- of a schema that was not read
pub no_schema_cause : (words : List (List ℕ)) (c : Change) (r : Refusal) → IsNamed words part.Schema → HasNoSchema words c.old c.new r → HasCause words c r
no_schema_cause words c (refusal.Schema f) named h = (record { named = named; text = h.0 }, h.1)
no_schema_cause words c refusal.Usage named h = absurd h
no_schema_cause words c (refusal.Missing q) named h = unfetched_cause words c part.Schema (refusal.Missing q) named h
no_schema_cause words c (refusal.ReadFault q) named h = unfetched_cause words c part.Schema (refusal.ReadFault q) named h
no_schema_cause words c (refusal.TooLong q) named h = unfetched_cause words c part.Schema (refusal.TooLong q) named h
no_schema_cause words c (refusal.Query f) named h = absurd h
no_schema_cause words c (refusal.Limit l) named h = absurd h
no_schema_cause words c (refusal.Verilog f) named h = absurd h
no_schema_cause words c (refusal.Tuples f) named h = absurd h
no_schema_cause words c (refusal.Dump f) named h = absurd h
no_schema_cause words c refusal.Memory named h = h

-- of a query that is refused, or of several
bad_query : (by : Reading) (words : List (List ℕ)) (c : Change) (v : List ℕ) (s : Schema) (f : QueryFault) → IsCalm c.old c.new → IsNamed words (part_read by) → SchemaPasses c.old.told words s
    → HasText c.old.told words (part_read by) (λ text. v ≡ text) → IsFaultBy by s v f → HasCause words c (compile_refusal (compile.Query f))
bad_query by words c v s f calm named before h is =
    (record { reading = by; named = named; schema = s; before = before; text = has_text c.old.told words (part_read by) (λ text. IsFaultBy by s text f) v h is }, calm)

over_limit : (by : Reading) (words : List (List ℕ)) (c : Change) (v : List ℕ) (s : Schema) (l : Limit) → IsCalm c.old c.new → IsNamed words (part_read by) → SchemaPasses c.old.told words s
    → HasText c.old.told words (part_read by) (λ text. v ≡ text) → IsOverBy by s v l → HasCause words c (compile_refusal (compile.Limit l))
over_limit by words c v s l calm named before h is =
    (record { reading = by; named = named; schema = s; before = before; text = has_text c.old.told words (part_read by) (λ text. IsOverBy by s text l) v h is }, calm)

pub query_cause : (words : List (List ℕ)) (c : Change) (v : List ℕ) (s : Schema) (fault : CompileFault) → IsCalm c.old c.new → IsNamed words part.Query → SchemaPasses c.old.told words s → HasText c.old.told words part.Query (λ text. v ≡ text) → IsQueryRefused s v fault → HasCause words c (compile_refusal fault)
query_cause words c v s compile.Memory calm named before h is = calm
query_cause words c v s (compile.Schema f) calm named before h is = absurd is
query_cause words c v s (compile.Query f) calm named before h is = bad_query One words c v s f calm named before h is
query_cause words c v s (compile.Limit l) calm named before h is = over_limit One words c v s l calm named before h is

pub queries_cause : (words : List (List ℕ)) (c : Change) (v : List ℕ) (s : Schema) (fault : CompileFault) → IsCalm c.old c.new → IsNamed words part.Queries → SchemaPasses c.old.told words s → HasText c.old.told words part.Queries (λ text. v ≡ text) → AreRefused s v fault → HasCause words c (compile_refusal fault)
queries_cause words c v s compile.Memory calm named before h is = calm
queries_cause words c v s (compile.Schema f) calm named before h is = absurd is
queries_cause words c v s (compile.Query f) calm named before h is = bad_query Several words c v s f calm named before h is
queries_cause words c v s (compile.Limit l) calm named before h is = over_limit Several words c v s l calm named before h is

pub query_passes : (told : List ℕ → Told) (words : List (List ℕ)) (v : List ℕ) (s t : Schema) (statement : Statement) → t ≡ s → IsNamed words part.Query → SchemaPasses told words s → HasText told words part.Query (λ text. v ≡ text) → IsQuery s v statement → QueryPasses told words t statement
query_passes told words v s t statement e named before h built =
    subst (λ (x : Schema). QueryPasses told words x statement) (sym e)
    (record { named = named; before = before; text = has_text told words part.Query (λ text. IsQuery s text statement) v h built })

pub queries_pass : (told : List ℕ → Told) (words : List (List ℕ)) (v : List ℕ) (s : Schema) (m : Many) → IsNamed words part.Queries → SchemaPasses told words s → HasText told words part.Queries (λ text. v ≡ text) → AreCompiled s v m
    → QueriesPass told words m.schema (statements_in m)
queries_pass told words v s m named before h is =
    subst (λ (x : Schema). QueriesPass told words x (statements_in m)) (sym is.schema')
    (record { named = named; before = before; text = has_text told words part.Queries (λ text. AreQueries s text (statements_in m)) v h is.queries })

pub compiled_together : (s : Schema) (v : List ℕ) (m : Many) → IsSchema s → AreCompiled s v m → AreCompiledTogether m
compiled_together s v m fine is = record {
  fine = subst IsSchema (sym is.schema') fine;
  meets = subst (λ (x : Schema). MeetTogether x (statements_in m) (shared_gaps x (statements_in m)) m.text.items) (sym is.schema') is.meets;
  latencies = subst (λ (x : Schema). m.planned.latencies.items ≡ map (own_latency x) (statements_in m)) (sym is.schema') is.latencies;
  gap = subst (λ (x : Schema). m.planned.gap ≡ shared_gap x (statements_in m)) (sym is.schema') is.gap;
  ticks = subst (λ (x : Schema). m.planned.ticks ≡ shared_ticks x (statements_in m)) (sym is.schema') is.ticks;
  short = is.short;
}

-- ---- the gaps that a tuple file is asked for

pub asks_before : (told : List ℕ → Told) (words : List (List ℕ)) (s : Schema) (gaps : Gaps) → AsksGaps told words s gaps → PassBeforeTuples told words
asks_before told words s gaps (OfOne runs st passes is) = OfRun runs s st passes
asks_before told words s gaps (OfAll runs sts passes is) = OfRunAll runs s sts passes

pub asks_named : (told : List ℕ → Told) (words : List (List ℕ)) (s : Schema) (gaps : Gaps) → AsksGaps told words s gaps → IsNamed words part.Tuples
asks_named told words s gaps asks = next_named told words part.Tuples (asks_before told words s gaps asks)

pub asks_schema : (told : List ℕ → Told) (words : List (List ℕ)) (s : Schema) (gaps : Gaps) → AsksGaps told words s gaps → SchemaPasses told words s
asks_schema told words s gaps (OfOne runs st passes is) = passes.before
asks_schema told words s gaps (OfAll runs sts passes is) = passes.before

pub asks_fine : (told : List ℕ → Told) (words : List (List ℕ)) (s : Schema) (gaps : Gaps) → AsksGaps told words s gaps → IsSchema s
asks_fine told words s gaps asks = (asks_schema told words s gaps asks).fine

-- that of what was compiled
pub one_asks : (told : List ℕ → Told) (words : List (List ℕ)) (c : Compiled) (s : Schema) (gaps : Gaps) → IsOfRun words → QueryPasses told words c.schema c.statement → IsCompiled c → s ≡ c.schema → gaps ≡ printed_gaps c.printed → AsksGaps told words s gaps
one_asks told words c s gaps runs passes is e g = subst (λ (x : Schema). AsksGaps told words x gaps) (sym e) (OfOne runs c.statement passes (g ∙ is.gaps))

together_gaps : (m : Many) → AreCompiledTogether m → planned_gaps m ≡ shared_gaps m.schema (statements_in m)
together_gaps m is = λ i. gaps_with (is.gap i) (is.ticks i)

pub all_ask : (told : List ℕ → Told) (words : List (List ℕ)) (m : Many) (s : Schema) (gaps : Gaps) → IsCommand words ManyRun → QueriesPass told words m.schema (statements_in m) → AreCompiledTogether m → s ≡ m.schema → gaps ≡ planned_gaps m → AsksGaps told words s gaps
all_ask told words m s gaps runs passes is e g = subst (λ (x : Schema). AsksGaps told words x gaps) (sym e) (OfAll runs (statements_in m) passes (g ∙ together_gaps m is))

-- beats that keep gaps keep them as they are said elsewhere
abbrev pub FileKeeps : (List ℕ → Told) → List (List ℕ) → Schema → Gaps → BeatList → Type 0
FileKeeps told words s gaps beats = AreFileBeats s beats × KeepsGaps gaps (plain_beats beats) × HasText told words part.Tuples (λ text. kept_beats s gaps text ≡ Ok beats)

keeps_as : (told : List ℕ → Told) (words : List (List ℕ)) (s t : Schema) (gaps others : Gaps) (beats : BeatList) → s ≡ t → gaps ≡ others → FileKeeps told words s gaps beats → FileKeeps told words t others beats
keeps_as told words s t gaps others beats e g f =
    subst (λ (x : Schema). FileKeeps told words x others beats) e (subst (λ (k : Gaps). FileKeeps told words s k beats) g f)

pub tuples_pass : (told : List ℕ → Told) (words : List (List ℕ)) (c : Compiled) (s : Schema) (gaps : Gaps) (beats : BeatList) → IsOfRun words → QueryPasses told words c.schema c.statement → IsCompiled c → s ≡ c.schema → gaps ≡ printed_gaps c.printed
    → FileKeeps told words s gaps beats → TuplesPass told words c.schema c.statement beats
tuples_pass told words c s gaps beats runs passes is e g f =
    let k = keeps_as told words s c.schema gaps (gaps_of c.schema c.statement) beats e (g ∙ is.gaps) f in
    record { runs = runs; before = passes; fine = k.0; gaps = k.1; text = k.2 }

pub tuples_pass_all : (told : List ℕ → Told) (words : List (List ℕ)) (m : Many) (s : Schema) (gaps : Gaps) (beats : BeatList) → IsCommand words ManyRun → QueriesPass told words m.schema (statements_in m) → AreCompiledTogether m → s ≡ m.schema → gaps ≡ planned_gaps m
    → FileKeeps told words s gaps beats → TuplesPassAll told words m.schema (statements_in m) beats
tuples_pass_all told words m s gaps beats runs passes is e g f =
    let k = keeps_as told words s m.schema gaps (shared_gaps m.schema (statements_in m)) beats e (g ∙ together_gaps m is) f in
    record { runs = runs; before = passes; fine = k.0; gaps = k.1; text = k.2 }

-- of a tuple file that is refused
are_bad : (words : List (List ℕ)) (c : Change) (v : List ℕ) (s : Schema) (gaps : Gaps) (fault : TupleFault) → AsksGaps c.old.told words s gaps → HasText c.old.told words part.Tuples (λ text. v ≡ text)
    → kept_beats s gaps v ≡ Err fault → AreBadTuples c.old.told words fault
are_bad words c v s gaps fault (OfOne runs st before is) h f =
    ToRun runs s st before (has_text c.old.told words part.Tuples (λ text. kept_beats s (gaps_of s st) text ≡ Err fault) v h (subst (λ (n : Gaps). kept_beats s n v ≡ Err fault) is f))
are_bad words c v s gaps fault (OfAll runs sts before is) h f =
    ToRunAll runs s sts before (has_text c.old.told words part.Tuples (λ text. kept_beats s (shared_gaps s sts) text ≡ Err fault) v h (subst (λ (n : Gaps). kept_beats s n v ≡ Err fault) is f))

-- a fault is told as it is, unless memory ran out
tuples_told : (fault : TupleFault) (read : Result BeatList TupleFault) → Fails fault read → (tuples_refusal fault ≡ refusal.Memory) ⊎ ((tuples_refusal fault ≡ refusal.Tuples fault) × (read ≡ Err fault))
tuples_told tuples.Memory read f = inl refl
tuples_told (tuples.NotUtf8 n) read f = inr (refl, f)
tuples_told (tuples.BadCycle n) read f = inr (refl, f)
tuples_told (tuples.CycleFalls n) read f = inr (refl, f)
tuples_told (tuples.CycleTooLarge n) read f = inr (refl, f)
tuples_told (tuples.UnknownStream n) read f = inr (refl, f)
tuples_told (tuples.FieldCount n) read f = inr (refl, f)
tuples_told (tuples.BadValue n) read f = inr (refl, f)
tuples_told (tuples.StreamTwice n) read f = inr (refl, f)
tuples_told (tuples.TickTwice n) read f = inr (refl, f)
tuples_told (tuples.AfterEnd n) read f = inr (refl, f)
tuples_told (tuples.TooClose n) read f = inr (refl, f)
tuples_told (tuples.UnknownParameter n) read f = inr (refl, f)
tuples_told (tuples.SetTwice n) read f = inr (refl, f)
tuples_told (tuples.NotSet n) read f = inr (refl, f)

bad_cause : (words : List (List ℕ)) (c : Change) (fault : TupleFault) (read : Result BeatList TupleFault) → IsCalm c.old c.new → (read ≡ Err fault → AreBadTuples c.old.told words fault) → Fails fault read → HasCause words c (tuples_refusal fault)
bad_cause words c fault read calm bad f = elim (tuples_told fault read f) [
  | inl e ↦ rw e calm
  | inr h ↦ rw h.0 (bad h.1, calm)
]

pub tuples_cause : (words : List (List ℕ)) (c : Change) (v : List ℕ) (s : Schema) (gaps : Gaps) (fault : TupleFault) → AsksGaps c.old.told words s gaps → IsCalm c.old c.new → HasText c.old.told words part.Tuples (λ text. v ≡ text)
    → Fails fault (kept_beats s gaps v) → HasCause words c (tuples_refusal fault)
tuples_cause words c v s gaps fault asks calm h f = bad_cause words c fault (kept_beats s gaps v) calm (are_bad words c v s gaps fault asks h) f

-- of one that is to be simulated
are_bad_file : (words : List (List ℕ)) (c : Change) (v : List ℕ) (s : Schema) (m : Module) (fault : TupleFault) → ModulePasses c.old.told words s m → HasText c.old.told words part.Tuples (λ text. v ≡ text)
    → beats_of s (records_of v) ≡ Err fault → AreBadTuples c.old.told words fault
are_bad_file words c v s m fault before h f = ToSim s m before (has_text c.old.told words part.Tuples (λ text. beats_of s (records_of text) ≡ Err fault) v h f)

pub file_cause : (words : List (List ℕ)) (c : Change) (v : List ℕ) (s : Schema) (m : Module) (fault : TupleFault) → IsCalm c.old c.new → ModulePasses c.old.told words s m → HasText c.old.told words part.Tuples (λ text. v ≡ text)
    → Fails fault (beats_of s (records_of v)) → HasCause words c (tuples_refusal fault)
file_cause words c v s m fault calm before h f = bad_cause words c fault (beats_of s (records_of v)) calm (are_bad_file words c v s m fault before h) f

-- beats that keep the gaps
pub kept_ok : (s : Schema) (gaps : Gaps) (v : List ℕ) (beats : BeatList) → beats_of s (records_of v) ≡ Ok beats → Ok tt ≡ close_answer (first_close gaps 0 0 beats.list) → kept_beats s gaps v ≡ Ok beats
unfolding kept_beats
kept_ok s gaps v beats read close = rw (read, ← close) refl

-- beats that do not
close_fault : (o : Option ℕ) (fault : TupleFault) → Err fault ≡ close_answer o → (number : ℕ) × (o ≡ Some number) × (fault ≡ tuples.TooClose number)
close_fault None fault e = absurd cc
close_fault (Some n) fault e = (n, refl, cc)

close_is : (s : Schema) (gaps : Gaps) (v : List ℕ) (beats : BeatList) (n : ℕ) → beats_of s (records_of v) ≡ Ok beats → first_close gaps 0 0 beats.list ≡ Some n → kept_beats s gaps v ≡ Err (tuples.TooClose n)
unfolding kept_beats
close_is s gaps v beats n read close = rw (read, close) refl

pub kept_close : (s : Schema) (gaps : Gaps) (v : List ℕ) (beats : BeatList) (fault : TupleFault) → beats_of s (records_of v) ≡ Ok beats → Err fault ≡ close_answer (first_close gaps 0 0 beats.list) → Fails fault (kept_beats s gaps v)
kept_close s gaps v beats fault read close =
    let p = close_fault (first_close gaps 0 0 beats.list) fault close in
    subst (λ (f : TupleFault). Fails f (kept_beats s gaps v)) (sym p.2) (close_is s gaps v beats p.0 read p.1)

-- no beats at all
unkept : (s : Schema) (gaps : Gaps) (v : List ℕ) (fault : TupleFault) → beats_of s (records_of v) ≡ Err fault → kept_beats s gaps v ≡ Err fault
unfolding kept_beats
unkept s gaps v fault e = rw e refl

pub kept_bad : (s : Schema) (gaps : Gaps) (v : List ℕ) (fault : TupleFault) → Fails fault (beats_of s (records_of v)) → Fails fault (kept_beats s gaps v)
kept_bad s gaps v tuples.Memory f = tt
kept_bad s gaps v (tuples.NotUtf8 n) f = unkept s gaps v (tuples.NotUtf8 n) f
kept_bad s gaps v (tuples.BadCycle n) f = unkept s gaps v (tuples.BadCycle n) f
kept_bad s gaps v (tuples.CycleFalls n) f = unkept s gaps v (tuples.CycleFalls n) f
kept_bad s gaps v (tuples.CycleTooLarge n) f = unkept s gaps v (tuples.CycleTooLarge n) f
kept_bad s gaps v (tuples.UnknownStream n) f = unkept s gaps v (tuples.UnknownStream n) f
kept_bad s gaps v (tuples.FieldCount n) f = unkept s gaps v (tuples.FieldCount n) f
kept_bad s gaps v (tuples.BadValue n) f = unkept s gaps v (tuples.BadValue n) f
kept_bad s gaps v (tuples.StreamTwice n) f = unkept s gaps v (tuples.StreamTwice n) f
kept_bad s gaps v (tuples.TickTwice n) f = unkept s gaps v (tuples.TickTwice n) f
kept_bad s gaps v (tuples.AfterEnd n) f = unkept s gaps v (tuples.AfterEnd n) f
kept_bad s gaps v (tuples.TooClose n) f = unkept s gaps v (tuples.TooClose n) f
kept_bad s gaps v (tuples.UnknownParameter n) f = unkept s gaps v (tuples.UnknownParameter n) f
kept_bad s gaps v (tuples.SetTwice n) f = unkept s gaps v (tuples.SetTwice n) f
kept_bad s gaps v (tuples.NotSet n) f = unkept s gaps v (tuples.NotSet n) f
