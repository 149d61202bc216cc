-- The status of a refusal, and the line that tells it.
use Rattle.std.specs.Prelude.{◌≡◌, ℕ, List, ◌++◌, codes, decimal, ◌⊎◌}
use Rattle.gl_schema.specs.declared.fault.SchemaFault.{SchemaFault}
use Rattle.gl_schema.specs.declared.fault.SchemaFault.TheVariants as schema
use Rattle.gl_query.specs.declared.fault.QueryFault.{QueryFault}
use Rattle.gl_query.specs.declared.fault.QueryFault.TheVariants as query
use Rattle.gl_verilog_tokens.specs.declared.fault.VerilogFault.{VerilogFault}
use Rattle.gl_verilog_tokens.specs.declared.fault.VerilogFault.TheVariants as verilog
use Rattle.gl_tuples.specs.declared.fault.TupleFault.{TupleFault}
use Rattle.gl_tuples.specs.declared.fault.TupleFault.TheVariants as tuples
use Rattle.gl_vcd.specs.declared.fault.VcdFault.{VcdFault}
use Rattle.gl_vcd.specs.declared.fault.VcdFault.TheVariants as dump
use Rattle.gl_outside.specs.States.{SinkState, Took, Broke}
use Rattle.gl_top_forms.specs.declared.command.Part.TheVariants as part
use Rattle.gl_top_status.specs.declared.refusal.Refusal.{Refusal}
use Rattle.gl_top_status.specs.declared.refusal.Refusal.TheVariants.{Usage, Missing, ReadFault, TooLong, Schema, Query, Limit, Verilog, Tuples, Dump, Memory}
use Rattle.gl_figures.specs.declared.Limit as figures
use Rattle.gl_figures.specs.declared.Limit.TheVariants as limit
use Rattle.gl_top_status.specs.declared.status.Status.{Status}
use Rattle.gl_top_status.specs.declared.status.Status.TheVariants as status
use Rattle.gl_top_forms.specs.Forms.{name_of}
use Rattle.gl_top_forms.specs.Wrong.{wrong_line}

-- a fault of a text as a refusal: want of memory is its own
abbrev pub schema_refusal : SchemaFault → Refusal
schema_refusal schema.Memory = Memory
schema_refusal fault = Schema fault

-- a fault of a query as a refusal; want of memory is the refusal for that
abbrev pub query_refusal : QueryFault → Refusal
query_refusal query.Memory = Memory
query_refusal fault = Query fault

-- a fault of a module as a refusal; want of memory is the refusal for that
abbrev pub verilog_refusal : VerilogFault → Refusal
verilog_refusal verilog.Memory = Memory
verilog_refusal fault = Verilog fault

-- a fault of a tuple file as a refusal; want of memory is the refusal for that
abbrev pub tuples_refusal : TupleFault → Refusal
tuples_refusal tuples.Memory = Memory
tuples_refusal fault = Tuples fault

-- a fault of a dump as a refusal
abbrev pub dump_refusal : VcdFault → Refusal
dump_refusal fault = Dump fault

-- each refusal has one status
abbrev pub status_of : Refusal → Status
status_of Usage = status.Usage
status_of (Missing part) = status.Missing
status_of (ReadFault part) = status.ReadFault
status_of (TooLong part) = status.Limit
status_of (Schema fault) = status.Schema
status_of (Query fault) = status.Query
status_of (Limit passed) = status.Limit
status_of (Verilog fault) = status.Verilog
status_of (Tuples fault) = status.Tuples
status_of (Dump fault) = status.Dump
status_of Memory = status.Memory

-- the kind of a fault is its variant's name
unfoldable pub schema_kind : SchemaFault → List ℕ
schema_kind (schema.Syntax at) = codes "Syntax"
schema_kind (schema.BadName at) = codes "BadName"
schema_kind (schema.BadKind at) = codes "BadKind"
schema_kind (schema.Twice at) = codes "Twice"
schema_kind (schema.TooMany at) = codes "TooMany"
schema_kind schema.Memory = codes "Memory"

-- where in the schema's text a fault is; want of memory has no place and gives 0
abbrev pub schema_place : SchemaFault → ℕ
schema_place (schema.Syntax at) = at
schema_place (schema.BadName at) = at
schema_place (schema.BadKind at) = at
schema_place (schema.Twice at) = at
schema_place (schema.TooMany at) = at
schema_place schema.Memory = 0

-- the word by which a fault of a query is told
unfoldable pub query_kind : QueryFault → List ℕ
query_kind (query.Syntax at) = codes "Syntax"
query_kind (query.UnknownStream at) = codes "UnknownStream"
query_kind (query.UnknownColumn at) = codes "UnknownColumn"
query_kind (query.KindsDiffer at) = codes "KindsDiffer"
query_kind (query.LiteralTooWide at) = codes "LiteralTooWide"
query_kind (query.NotCondition at) = codes "NotCondition"
query_kind (query.MixedItems at) = codes "MixedItems"
query_kind (query.TwiceNamed at) = codes "TwiceNamed"
query_kind (query.ColumnsDiffer at) = codes "ColumnsDiffer"
query_kind (query.PaceDiffers at) = codes "PaceDiffers"
query_kind (query.NotClosing at) = codes "NotClosing"
query_kind (query.OutOfRange at) = codes "OutOfRange"
query_kind (query.TooDeep at) = codes "TooDeep"
query_kind (query.NoTime at) = codes "NoTime"
query_kind (query.NoArrival at) = codes "NoArrival"
query_kind (query.UnknownParameter at) = codes "UnknownParameter"
query_kind query.Memory = codes "Memory"

-- where in the query's text a fault is; want of memory gives 0
abbrev pub query_place : QueryFault → ℕ
query_place (query.Syntax at) = at
query_place (query.UnknownStream at) = at
query_place (query.UnknownColumn at) = at
query_place (query.KindsDiffer at) = at
query_place (query.LiteralTooWide at) = at
query_place (query.NotCondition at) = at
query_place (query.MixedItems at) = at
query_place (query.TwiceNamed at) = at
query_place (query.ColumnsDiffer at) = at
query_place (query.PaceDiffers at) = at
query_place (query.NotClosing at) = at
query_place (query.OutOfRange at) = at
query_place (query.TooDeep at) = at
query_place (query.NoTime at) = at
query_place (query.NoArrival at) = at
query_place (query.UnknownParameter at) = at
query_place query.Memory = 0

-- the word by which a fault of a module is told
unfoldable pub verilog_kind : VerilogFault → List ℕ
verilog_kind (verilog.Syntax at) = codes "Syntax"
verilog_kind (verilog.Undeclared at) = codes "Undeclared"
verilog_kind (verilog.TwiceDeclared at) = codes "TwiceDeclared"
verilog_kind (verilog.TwiceDriven at) = codes "TwiceDriven"
verilog_kind (verilog.NeverDriven at) = codes "NeverDriven"
verilog_kind (verilog.WidthsDiffer at) = codes "WidthsDiffer"
verilog_kind (verilog.Loop at) = codes "Loop"
verilog_kind (verilog.BadMemory at) = codes "BadMemory"
verilog_kind (verilog.ClockRead at) = codes "ClockRead"
verilog_kind (verilog.TooWide at) = codes "TooWide"
verilog_kind (verilog.BadPort at) = codes "BadPort"
verilog_kind (verilog.BadTarget at) = codes "BadTarget"
verilog_kind (verilog.TooDeep at) = codes "TooDeep"
verilog_kind verilog.Memory = codes "Memory"

-- where in the module's text a fault is; want of memory gives 0
abbrev pub verilog_place : VerilogFault → ℕ
verilog_place (verilog.Syntax at) = at
verilog_place (verilog.Undeclared at) = at
verilog_place (verilog.TwiceDeclared at) = at
verilog_place (verilog.TwiceDriven at) = at
verilog_place (verilog.NeverDriven at) = at
verilog_place (verilog.WidthsDiffer at) = at
verilog_place (verilog.Loop at) = at
verilog_place (verilog.BadMemory at) = at
verilog_place (verilog.ClockRead at) = at
verilog_place (verilog.TooWide at) = at
verilog_place (verilog.BadPort at) = at
verilog_place (verilog.BadTarget at) = at
verilog_place (verilog.TooDeep at) = at
verilog_place verilog.Memory = 0

-- the word by which a fault of a tuple file is told
unfoldable pub tuples_kind : TupleFault → List ℕ
tuples_kind (tuples.NotUtf8 number) = codes "NotUtf8"
tuples_kind (tuples.BadCycle number) = codes "BadCycle"
tuples_kind (tuples.CycleFalls number) = codes "CycleFalls"
tuples_kind (tuples.CycleTooLarge number) = codes "CycleTooLarge"
tuples_kind (tuples.UnknownStream number) = codes "UnknownStream"
tuples_kind (tuples.FieldCount number) = codes "FieldCount"
tuples_kind (tuples.BadValue number) = codes "BadValue"
tuples_kind (tuples.StreamTwice number) = codes "StreamTwice"
tuples_kind (tuples.TickTwice number) = codes "TickTwice"
tuples_kind (tuples.AfterEnd number) = codes "AfterEnd"
tuples_kind (tuples.TooClose number) = codes "TooClose"
tuples_kind (tuples.UnknownParameter number) = codes "UnknownParameter"
tuples_kind (tuples.SetTwice number) = codes "SetTwice"
tuples_kind (tuples.NotSet number) = codes "NotSet"
tuples_kind tuples.Memory = codes "Memory"

-- which record of a tuple file is at fault, counted from 1; want of memory gives 0
abbrev pub tuples_record : TupleFault → ℕ
tuples_record (tuples.NotUtf8 number) = number
tuples_record (tuples.BadCycle number) = number
tuples_record (tuples.CycleFalls number) = number
tuples_record (tuples.CycleTooLarge number) = number
tuples_record (tuples.UnknownStream number) = number
tuples_record (tuples.FieldCount number) = number
tuples_record (tuples.BadValue number) = number
tuples_record (tuples.StreamTwice number) = number
tuples_record (tuples.TickTwice number) = number
tuples_record (tuples.AfterEnd number) = number
tuples_record (tuples.TooClose number) = number
tuples_record (tuples.UnknownParameter number) = number
tuples_record (tuples.SetTwice number) = number
tuples_record (tuples.NotSet number) = number
tuples_record tuples.Memory = 0

-- the word by which a fault of a dump is told
unfoldable pub dump_kind : VcdFault → List ℕ
dump_kind (dump.Syntax at) = codes "Syntax"
dump_kind (dump.UnknownSignal at) = codes "UnknownSignal"
dump_kind (dump.TimeFalls at) = codes "TimeFalls"
dump_kind (dump.TooWide at) = codes "TooWide"
dump_kind (dump.NoValue at) = codes "NoValue"
dump_kind (dump.Twice at) = codes "Twice"
dump_kind (dump.NoPort at) = codes "NoPort"
dump_kind (dump.TooLate at) = codes "TooLate"

-- where in the dump's text a fault is
abbrev pub dump_place : VcdFault → ℕ
dump_place (dump.Syntax at) = at
dump_place (dump.UnknownSignal at) = at
dump_place (dump.TimeFalls at) = at
dump_place (dump.TooWide at) = at
dump_place (dump.NoValue at) = at
dump_place (dump.Twice at) = at
dump_place (dump.NoPort at) = at
dump_place (dump.TooLate at) = at

-- a line of a head and what it tells of; each ends with a line feed
abbrev pub line : List ℕ → List ℕ → List ℕ
line head rest = head ++ rest ++ codes "\n"

-- a line of a kind and a number
abbrev pub kind_line : List ℕ → List ℕ → List ℕ → ℕ → List ℕ
kind_line head kind middle number = head ++ kind ++ line middle (decimal number)

-- the line of all forms
unfoldable pub usage_line : List ℕ
usage_line =
    codes "usage: glacier compile S Q, figures S Q, explain S Q, run S Q T [--start N], sim S V T --extra N, load N, "
    ++ codes "vcd S Q T [--start N], undump D, many S Q, manyfigures S Q, manyrun S Q T [--start N], "
    ++ codes "why S Q [T], help [COMMAND], --version\n"

-- what is told of words of no form: behind the line of all forms, which word is wrong
abbrev pub usage_lines : List (List ℕ) → List ℕ
usage_lines words = usage_line ++ wrong_line words

-- the other lines that tell of no text
unfoldable pub memory_line : List ℕ
memory_line = codes "out of memory\n"

-- what is noted where the output could not be written
unfoldable pub write_line : List ℕ
write_line = codes "write fault\n"

-- the line of a simulation whose end did not come: the last cycle that was run
unfoldable pub no_end_line : ℕ → List ℕ
no_end_line cycle = line (codes "no end by cycle ") (decimal cycle)

-- what is told of a limit that a plan passes
abbrev pub limit_line : figures.Limit → List ℕ
limit_line (limit.Latency node) = codes "limit: Latency\n"
limit_line (limit.Nodes weight) = line (codes "limit: Nodes ") (decimal weight)

-- what is told of a Verilog text that is refused
abbrev pub verilog_line : VerilogFault → List ℕ
verilog_line fault = kind_line (codes "verilog: ") (verilog_kind fault) (codes " at ") (verilog_place fault)

-- the line that tells a fault of a value change dump
abbrev pub dump_line : VcdFault → List ℕ
dump_line fault = kind_line (codes "dump: ") (dump_kind fault) (codes " at ") (dump_place fault)

-- the line of each refusal; words of no form have two
abbrev pub note_of : List (List ℕ) → Refusal → List ℕ
note_of words Usage = usage_lines words
note_of words (Missing part) = line (codes "missing: ") (name_of words part)
note_of words (ReadFault part) = line (codes "read fault: ") (name_of words part)
note_of words (TooLong part) = line (codes "limit: Text ") (name_of words part)
note_of words (Schema fault) = kind_line (codes "schema: ") (schema_kind fault) (codes " at ") (schema_place fault)
note_of words (Query fault) = kind_line (codes "query: ") (query_kind fault) (codes " at ") (query_place fault)
note_of words (Limit passed) = limit_line passed
note_of words (Verilog fault) = verilog_line fault
note_of words (Tuples fault) =
    kind_line (codes "tuples: ") (tuples_kind fault) (codes " at record ") (tuples_record fault)
note_of words (Dump fault) = dump_line fault
note_of words Memory = memory_line

-- a sink before and after a call
pub record Puts : Type 0 where
  pub old : SinkState
  pub new : SinkState

-- the state of a sink before and after
abbrev pub puts : SinkState → SinkState → Puts
puts old new = record { old = old; new = new }

-- the line was written under this status, or the sink failed at it
abbrev pub Notes : Status → List ℕ → Puts → Status → Type 0
Notes own bytes p answered =
    ((answered ≡ own) × Took p.old p.new bytes) ⊎ ((answered ≡ status.WriteFault) × Broke p.old p.new bytes)
