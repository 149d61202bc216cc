-- Why the program ends before anything is written.
use Rattle.std.specs.Prelude.{◌≡◌, ◌⊎◌, ℕ, ◌<◌, List, length, Result, Ok, Err}
use Rattle.gl_outside.specs.States.{ShelfState, IsCalm, Missed, Faulted}
use Rattle.gl_outside.specs.Told.{Told, IsLacking, IfTold}
use Rattle.gl_schema.specs.declared.schema.Schema.{Schema}
use Rattle.gl_schema.specs.declared.fault.SchemaFault as faults
use Rattle.gl_schema.specs.SchemaFaults.{schema_of}
use Rattle.gl_query.specs.declared.fault.QueryFault.{QueryFault}
use Rattle.gl_query.specs.declared.tree.Statement.{Statement}
use Rattle.gl_tuples.specs.declared.fault.TupleFault.{TupleFault}
use Rattle.gl_compiler.specs.declared.fault.CompileFault.{CompileFault}
use Rattle.gl_compiler.specs.declared.fault.CompileFault.TheVariants as compile
use Rattle.gl_vcd.specs.declared.fault.VcdFault.{VcdFault}
use Rattle.gl_vcd.specs.Reading.{dump_of}
use Rattle.gl_figures.specs.declared.Limit.{Limit}
use Rattle.gl_compiler.specs.Built.{gaps_of}
use Rattle.gl_many.specs.Meets.{shared_gaps}
use Rattle.gl_verilog.specs.Module.{Module}
use Rattle.gl_verilog_tokens.specs.declared.fault.VerilogFault.{VerilogFault}
use Rattle.gl_verilog_tokens.specs.declared.fault.VerilogFault.TheVariants as verilog
use Rattle.gl_verilog_reader.specs.Reading.{IsFaultIn}
use Rattle.gl_top_inputs.specs.Places.{IsPortFault}
use Rattle.gl_top_forms.specs.declared.command.Part.{Part}
use Rattle.gl_top_forms.specs.declared.command.Part.TheVariants as part
use Rattle.gl_top_status.specs.declared.refusal.Refusal.{Refusal}
use Rattle.gl_top_status.specs.declared.refusal.Refusal.TheVariants as refusal
use Rattle.gl_top_forms.specs.declared.command.Command.TheVariants.{ManyRun, Sim}
use Rattle.gl_top_forms.specs.Forms.{IsCommand, IsForm, IsNamed, IsOfRun, name_of}
use Rattle.gl_tuple_reader.specs.Filing.{records_of}
use Rattle.gl_tuple_reader.specs.Settings.{beats_of}
use Rattle.gl_top_status.specs.Texts.{HasText, SchemaPasses}
use Rattle.gl_top_inputs.specs.Passing.{QueryPasses, QueriesPass, ModulePasses, kept_beats}
use Rattle.gl_top_inputs.specs.Readings.{Reading, part_read, IsFaultBy, IsOverBy}

-- the texts before the tuple file pass: those of a query or of several to run them, a module's to simulate it
pub data PassBeforeTuples (told : List ℕ → Told) (words : List (List ℕ)) : Type 0 where
  OfRun : (runs : IsOfRun words) (schema : Schema) (statement : Statement)
      (passes : QueryPasses told words schema statement) → PassBeforeTuples told words
  OfRunAll : (runs : IsCommand words ManyRun) (schema : Schema) (statements : List Statement)
      (passes : QueriesPass told words schema statements) → PassBeforeTuples told words
  OfSim : (schema : Schema) (m : Module) (passes : ModulePasses told words schema m) → PassBeforeTuples told words

-- the words name this text, and every text before it passes
abbrev pub IsNext : (List ℕ → Told) → List (List ℕ) → Part → Type 0
IsNext told words part.Schema = IsNamed words part.Schema
IsNext told words part.Query = IsNamed words part.Query × (schema : Schema) × SchemaPasses told words schema
IsNext told words part.Queries = IsNamed words part.Queries × (schema : Schema) × SchemaPasses told words schema
IsNext told words part.Module = IsCommand words Sim × (schema : Schema) × SchemaPasses told words schema
IsNext told words part.Tuples = PassBeforeTuples told words
IsNext told words part.Dump = IsNamed words part.Dump

-- the text of a part is the first that does not pass: no text has its name
pub record IsMissing (told : List ℕ → Told) (words : List (List ℕ)) (part : Part) : Type 0 where
  pub next : IsNext told words part
  pub lacking : IsLacking (told (name_of words part))

-- the text of a part is the first that does not pass: it is longer than 67,108,864 bytes
pub record IsTooLong (told : List ℕ → Told) (words : List (List ℕ)) (part : Part) : Type 0 where
  pub next : IsNext told words part
  pub long : IfTold (told (name_of words part)) (λ text. 67108864 < length text)

-- the text of the schema has no schema, and this is its first fault
pub record IsBadSchema (told : List ℕ → Told) (words : List (List ℕ)) (fault : faults.SchemaFault) : Type 0 where
  pub named : IsNamed words part.Schema
  pub text : HasText told words part.Schema (λ text. schema_of text ≡ Err fault)

-- the text of a query or of several has no statement, or one that is not accepted over the schema, and this is the
-- first fault
pub record IsBadQuery (told : List ℕ → Told) (words : List (List ℕ)) (fault : QueryFault) : Type 0 where
  pub reading : Reading
  pub named : IsNamed words (part_read reading)
  pub schema : Schema
  pub before : SchemaPasses told words schema
  pub text : HasText told words (part_read reading) (λ text. IsFaultBy reading schema text fault)

-- all that it has is accepted over the schema, and its plan passes this limit
pub record IsOver (told : List ℕ → Told) (words : List (List ℕ)) (limit : Limit) : Type 0 where
  pub reading : Reading
  pub named : IsNamed words (part_read reading)
  pub schema : Schema
  pub before : SchemaPasses told words schema
  pub text : HasText told words (part_read reading) (λ text. IsOverBy reading schema text limit)

-- the first fault of a Verilog text over a schema: why it has no module or, where it has one, why this does not fit
abbrev pub IsModuleFault : Schema → List ℕ → VerilogFault → Type 0
IsModuleFault schema text verilog.Memory = ⊥
IsModuleFault schema text (verilog.BadPort at) = IsPortFault text schema at
IsModuleFault schema text fault = IsFaultIn text fault

-- a module's text has this fault, or memory ran out
abbrev pub IsModuleFaultOrMemory : Schema → List ℕ → VerilogFault → Type 0
IsModuleFaultOrMemory schema text fault = IsModuleFault schema text fault ⊎ (fault ≡ verilog.Memory)

-- the schema passes, and this is the first fault of the Verilog text over it
pub record IsBadVerilog (told : List ℕ → Told) (words : List (List ℕ)) (fault : VerilogFault) : Type 0 where
  pub sims : IsCommand words Sim
  pub schema : Schema
  pub before : SchemaPasses told words schema
  pub text : HasText told words part.Module (λ text. IsModuleFault schema text fault)

-- the tuple file is none of the schema, or its beats do not keep the gaps of a run, and this is its first fault
pub data AreBadTuples (told : List ℕ → Told) (words : List (List ℕ)) (fault : TupleFault) : Type 0 where
  ToRun : (runs : IsOfRun words) (schema : Schema) (statement : Statement)
      (before : QueryPasses told words schema statement)
      (text : HasText told words part.Tuples (λ text. kept_beats schema (gaps_of schema statement) text ≡ Err fault))
      → AreBadTuples told words fault
  ToRunAll : (runs : IsCommand words ManyRun) (schema : Schema) (statements : List Statement)
      (before : QueriesPass told words schema statements)
      (text : HasText told words part.Tuples
      (λ text. kept_beats schema (shared_gaps schema statements) text ≡ Err fault))
      → AreBadTuples told words fault
  ToSim : (schema : Schema) (m : Module) (before : ModulePasses told words schema m)
      (text : HasText told words part.Tuples (λ text. beats_of schema (records_of text) ≡ Err fault))
      → AreBadTuples told words fault

-- the text is no value change dump, and this is its first fault
pub record IsBadDump (told : List ℕ → Told) (words : List (List ℕ)) (fault : VcdFault) : Type 0 where
  pub named : IsNamed words part.Dump
  pub text : HasText told words part.Dump (λ text. dump_of text ≡ Err fault)

-- what the words and the texts say of a refusal; a failed read and want of memory are not theirs
abbrev pub IsRefused : (List ℕ → Told) → List (List ℕ) → Refusal → Type 0
IsRefused told words refusal.Usage = IsForm words → ⊥
IsRefused told words (refusal.Missing part) = IsMissing told words part
IsRefused told words (refusal.ReadFault part) = ⊥
IsRefused told words (refusal.TooLong part) = IsTooLong told words part
IsRefused told words (refusal.Schema fault) = IsBadSchema told words fault
IsRefused told words (refusal.Query fault) = IsBadQuery told words fault
IsRefused told words (refusal.Limit limit) = IsOver told words limit
IsRefused told words (refusal.Verilog fault) = IsBadVerilog told words fault
IsRefused told words (refusal.Tuples fault) = AreBadTuples told words fault
IsRefused told words (refusal.Dump fault) = IsBadDump told words fault
IsRefused told words refusal.Memory = ⊥

-- a shelf before and after a call
pub record Change : Type 0 where
  pub old : ShelfState
  pub new : ShelfState

-- the state of a shelf before and after
abbrev pub change : ShelfState → ShelfState → Change
change old new = record { old = old; new = new }

-- the cause of a refusal: where the shelf was not the cause, it refused nothing; want of memory is free
abbrev pub HasCause : List (List ℕ) → Change → Refusal → Type 0
HasCause words c (refusal.Missing part) = IsMissing c.old.told words part × Missed c.old c.new (name_of words part)
HasCause words c (refusal.ReadFault part) = IsNext c.old.told words part × Faulted c.old c.new (name_of words part)
HasCause words c refusal.Memory = IsCalm c.old c.new
HasCause words c r = IsRefused c.old.told words r × IsCalm c.old c.new

-- what judging leaves: the shelf refused nothing, or there is a refusal with its cause
abbrev pub Leaves : {T : Type 0} → List (List ℕ) → ShelfState → ShelfState → Result T Refusal → Type 0
Leaves words old new (Ok x) = IsCalm old new
Leaves words old new (Err r) = HasCause words (change old new) r

-- why a query is not compiled, as a refusal: want of memory is its own
abbrev pub compile_refusal : CompileFault → Refusal
compile_refusal compile.Memory = refusal.Memory
compile_refusal (compile.Query fault) = refusal.Query fault
compile_refusal (compile.Schema fault) = refusal.Schema fault
compile_refusal (compile.Limit limit) = refusal.Limit limit
