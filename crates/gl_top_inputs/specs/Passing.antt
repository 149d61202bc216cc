-- What the texts give that the words name, one after the other. What is said of a text holds where the shelf tells it.
use Rattle.std.specs.Prelude.{◌≡◌, ℕ, ◌≤◌, ◌^◌, List, length, map, Result, Ok}
use Rattle.std.specs.List.{AllByRecursion}
use Rattle.gl_values.specs.Kinds.{IsKind}
use Rattle.gl_outside.specs.Told.{Told}
use Rattle.gl_gaps.specs.declared.Gaps.{Gaps}
use Rattle.gl_schema.specs.declared.schema.Schema.{Schema}
use Rattle.gl_schema.specs.Schemas.{IsSchema, kinds_of}
use Rattle.gl_schema.specs.Beats.{AreBeats}
use Rattle.gl_gaps.specs.Keeps.{KeepsGaps}
use Rattle.gl_query.specs.declared.tree.Statement.{Statement}
use Rattle.gl_tuples.specs.declared.fault.TupleFault.{TupleFault}
use Rattle.gl_tuple_reader.specs.Entries.{◌>>=◌}
use Rattle.gl_tuple_reader.specs.Filing.{records_of}
use Rattle.gl_tuple_reader.specs.Settings.{beats_of}
use Rattle.gl_tuples.specs.Flat.{BeatList}
use Rattle.gl_tuples.specs.Gaps.{AreFileBeats, plain_beats, first_close, close_answer}
use Rattle.gl_verilog.specs.Module.{Module}
use Rattle.gl_verilog.specs.Text.{HasModule}
use Rattle.gl_verilog.specs.View.{module_of}
use Rattle.gl_verilog_ports.specs.declared.fitting.Ports.{Ports}
use Rattle.gl_verilog_ports.specs.Fit.{fit_of}
use Rattle.gl_compiler.specs.declared.compiling.Compiled.{Compiled}
use Rattle.gl_compiler.specs.Compiles.{HasCost}
use Rattle.gl_compiler.specs.Built.{IsNoFarther, copies_of, gaps_of, latency_of, printed_gaps}
use Rattle.gl_compiler.specs.Queries.{IsQuery}
use Rattle.gl_compiler.specs.Meets.{Meets, result_columns}
use Rattle.gl_many.specs.declared.compiling.Many.{Many}
use Rattle.gl_many.specs.Compiles.{statements_in}
use Rattle.gl_many.specs.Meets.{MeetTogether, own_latency, shared_gap, shared_gaps, shared_ticks}
use Rattle.gl_many.specs.Queries.{AreQueries}
use Rattle.gl_top_forms.specs.declared.command.Part.TheVariants as part
use Rattle.gl_top_inputs.specs.declared.judging.Job.{Job}
use Rattle.gl_top_inputs.specs.declared.several.ManyJob.{ManyJob}
use Rattle.gl_top_inputs.specs.declared.simulating.Fitted.{Fitted}
use Rattle.gl_top_inputs.specs.declared.simulating.Simulation.{Simulation}
use Rattle.gl_top_forms.specs.declared.command.Command.TheVariants.{ManyRun, Sim}
use Rattle.gl_top_forms.specs.Forms.{IsCommand, IsNamed, IsOfRun}
use Rattle.gl_top_status.specs.Texts.{HasText, SchemaPasses}

-- the words name a query, and its text is that of this statement, which is accepted over the schema, and whose plan is
-- within the limits
pub record QueryPasses (told : List ℕ → Told) (words : List (List ℕ)) (schema : Schema) (statement : Statement)
    : Type 0 where
  pub named : IsNamed words part.Query
  pub before : SchemaPasses told words schema
  pub text : HasText told words part.Query (λ text. IsQuery schema text statement)

-- the words name a text of several queries, which are these statements, accepted over the schema, and their joint plan
-- is within the limits
pub record QueriesPass (told : List ℕ → Told) (words : List (List ℕ)) (schema : Schema) (statements : List Statement)
    : Type 0 where
  pub named : IsNamed words part.Queries
  pub before : SchemaPasses told words schema
  pub text : HasText told words part.Queries (λ text. AreQueries schema text statements)

-- the beats of a text, where they keep the gaps; else the first fault
unfoldable pub kept_beats : Schema → Gaps → List ℕ → Result BeatList TupleFault
kept_beats schema gaps text =
    beats_of schema (records_of text) >>= λ (beats : BeatList).
    (close_answer (first_close gaps 0 0 beats.list) >>= λ _. Ok beats)

-- the words are of `run` or of `vcd`, and the tuple file is that of these beats, which keep the statement's gaps
pub record TuplesPass (told : List ℕ → Told) (words : List (List ℕ)) (schema : Schema) (statement : Statement)
    (beats : BeatList) : Type 0 where
  pub runs : IsOfRun words
  pub before : QueryPasses told words schema statement
  pub fine : AreFileBeats schema beats
  pub gaps : KeepsGaps (gaps_of schema statement) (plain_beats beats)
  pub text : HasText told words part.Tuples (λ text. kept_beats schema (gaps_of schema statement) text ≡ Ok beats)

-- the words are of `manyrun`, and the tuple file is that of these beats, which keep the gap of all statements
pub record TuplesPassAll (told : List ℕ → Told) (words : List (List ℕ)) (schema : Schema) (statements : List Statement)
    (beats : BeatList) : Type 0 where
  pub runs : IsCommand words ManyRun
  pub before : QueriesPass told words schema statements
  pub fine : AreFileBeats schema beats
  pub gaps : KeepsGaps (shared_gaps schema statements) (plain_beats beats)
  pub text : HasText told words part.Tuples
      (λ text. kept_beats schema (shared_gaps schema statements) text ≡ Ok beats)

-- the texts before the tuple file of a run pass, and these are the gaps that its beats are to keep: those of the
-- statement, or those of all of several
pub data AsksGaps (told : List ℕ → Told) (words : List (List ℕ)) (schema : Schema) (gaps : Gaps) : Type 0 where
  OfOne : (runs : IsOfRun words) (statement : Statement) (passes : QueryPasses told words schema statement)
      (is : gaps ≡ gaps_of schema statement) → AsksGaps told words schema gaps
  OfAll : (runs : IsCommand words ManyRun) (statements : List Statement)
      (passes : QueriesPass told words schema statements) (is : gaps ≡ shared_gaps schema statements)
      → AsksGaps told words schema gaps

-- the words are of `sim`, and the Verilog text is that of this module, whose ports are those of the schema and of a
-- result
pub record ModulePasses (told : List ℕ → Told) (words : List (List ℕ)) (schema : Schema) (m : Module) : Type 0 where
  pub sims : IsCommand words Sim
  pub before : SchemaPasses told words schema
  pub of_text : (text : List ℕ) × HasModule text m
  pub ports : Ports
  pub fits : fit_of m schema ≡ Ok ports
  pub text : HasText told words part.Module (λ text. HasModule text m)

-- the module's text passes, and the tuple file is that of these beats, of which no gap is asked
pub record FilePasses (told : List ℕ → Told) (words : List (List ℕ)) (schema : Schema) (m : Module) (beats : BeatList)
    : Type 0 where
  pub before : ModulePasses told words schema m
  pub fine : AreFileBeats schema beats
  pub text : HasText told words part.Tuples (λ text. beats_of schema (records_of text) ≡ Ok beats)

-- the compiled query: its text meets the statement, and its kinds are those of the result
pub record IsCompiled (c : Compiled) : Type 0 where
  pub fine : IsSchema c.schema
  pub meets : Meets c.schema c.statement (latency_of c.schema c.statement) (gaps_of c.schema c.statement) c.text.items
  pub columns : c.kinds ≡ kinds_of (result_columns c.schema c.statement)
  pub many : length c.kinds ≤ 32
  pub kinds : AllByRecursion IsKind c.kinds
  pub latency : c.printed.latency ≡ latency_of c.schema c.statement
  pub gaps : printed_gaps c.printed ≡ gaps_of c.schema c.statement
  pub closer : IsNoFarther c.schema c.statement (printed_gaps c.printed)
  pub short : c.printed.latency ≤ 2 ^ 32
  pub copies : c.printed.copies ≡ copies_of c.schema c.statement
  pub cost : HasCost c.schema c.statement c.text.items c.cost

-- all three passed, and this is what they gave
pub record IsReady (told : List ℕ → Told) (words : List (List ℕ)) (job : Job) : Type 0 where
  pub compiled : IsCompiled job.compiled
  pub passes : TuplesPass told words job.compiled.schema job.compiled.statement job.beats

-- the compiled queries: their text meets all of them, and what is printed is theirs
pub record AreCompiledTogether (m : Many) : Type 0 where
  pub fine : IsSchema m.schema
  pub meets : MeetTogether m.schema (statements_in m) (shared_gaps m.schema (statements_in m)) m.text.items
  pub latencies : m.planned.latencies.items ≡ map (own_latency m.schema) (statements_in m)
  pub gap : m.planned.gap ≡ shared_gap m.schema (statements_in m)
  pub ticks : m.planned.ticks ≡ shared_ticks m.schema (statements_in m)
  pub short : AllByRecursion (λ latency. latency ≤ 2 ^ 32) m.planned.latencies.items

-- the three of `manyrun` passed, and this is what they gave
pub record AreReady (told : List ℕ → Told) (words : List (List ℕ)) (job : ManyJob) : Type 0 where
  pub compiled : AreCompiledTogether job.many
  pub passes : TuplesPassAll told words job.many.schema (statements_in job.many) job.beats

-- the module of a text, and its ports
pub record IsFittedText (schema : Schema) (text : List ℕ) (fitted : Fitted) : Type 0 where
  pub has : HasModule text (module_of fitted.design)
  pub ports : fit_of (module_of fitted.design) schema ≡ Ok fitted.ports

-- the Verilog text passed, and this is what it gave
pub record IsFitted (told : List ℕ → Told) (words : List (List ℕ)) (schema : Schema) (fitted : Fitted) : Type 0 where
  pub passes : ModulePasses told words schema (module_of fitted.design)
  pub ports : fit_of (module_of fitted.design) schema ≡ Ok fitted.ports

-- the module can be traced over the beats
pub record CanTrace (s : Simulation) : Type 0 where
  pub of_text : (text : List ℕ) × HasModule text (module_of s.fitted.design)
  pub ports : fit_of (module_of s.fitted.design) s.schema ≡ Ok s.fitted.ports
  pub fine : IsSchema s.schema
  pub beats' : AreBeats s.schema (plain_beats s.beats)

-- all three of `sim` passed, and this is what they gave
pub record IsTraceable (told : List ℕ → Told) (words : List (List ℕ)) (s : Simulation) : Type 0 where
  pub can : CanTrace s
  pub passes : FilePasses told words s.schema (module_of s.fitted.design) s.beats
