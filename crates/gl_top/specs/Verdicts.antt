-- How the program ends: what was written, what was noted, and why.
use Rattle.std.specs.Prelude.{◌≡◌, ◌≢◌, ℕ, ◌⊎◌, List, [], ◌++◌}
use Rattle.gl_figures.specs.declared.Limit.{Limit}
use Rattle.gl_outside.specs.Counts.{Rose}
use Rattle.gl_outside.specs.Told.{Told, Untold}
use Rattle.gl_outside.specs.States.{SinkState, Broke, IsCalm, Took}
use Rattle.gl_schema.specs.declared.schema.Schema.{Schema}
use Rattle.gl_schema.specs.Schemas.{kinds_of}
use Rattle.gl_query.specs.declared.tree.Statement.{Statement}
use Rattle.gl_verilog.specs.declared.start.Start.{Start}
use Rattle.gl_verilog.specs.declared.start.Start.TheVariants.{Zero}
use Rattle.gl_tuples.specs.Flat.{BeatList}
use Rattle.gl_tuples.specs.Gaps.{plain_beats}
use Rattle.gl_compiler.specs.Built.{latency_of, gaps_of}
use Rattle.gl_compiler.specs.Meets.{Meets, result_columns}
use Rattle.gl_runner.specs.declared.executing.Outcome.{Outcome}
use Rattle.gl_runner.specs.Prints.{HasRunOver, OfEachRun}
use Rattle.gl_runner.specs.Prints as prints
use Rattle.gl_runner.specs.Dumps as dumps
use Rattle.gl_runner.specs.Dumps.{OfEachPorts}
use Rattle.gl_runner.specs.Several.{RanAll}
use Rattle.gl_compiler.specs.Dumpable.{DumpTells}
use Rattle.gl_many.specs.Meets.{MeetTogether, shared_gaps}
use Rattle.gl_many.specs.Runs.{OfAllRuns, faces_of}
use Rattle.gl_runner.specs.declared.executing.Outcome.TheVariants as outcome
use Rattle.gl_vcd.specs.declared.fault.VcdFault.{VcdFault}
use Rattle.gl_vcd.specs.Dumped.{OfLines}
use Rattle.gl_top_status.specs.Texts.{HasText}
use Rattle.gl_top_forms.specs.declared.command.Part.TheVariants as part
use Rattle.gl_runner.specs.declared.tracing.Ending.{Ending}
use Rattle.gl_runner.specs.declared.tracing.Ending.TheVariants as end
use Rattle.gl_runner.specs.Traces.{OfRunsOf, TracesOut, decimal_kinds}
use Rattle.gl_runner.specs.Traces as traces
use Rattle.gl_verilog.specs.Module.{Module}
use Rattle.gl_verilog_tokens.specs.declared.fault.VerilogFault.{VerilogFault}
use Rattle.gl_top_forms.specs.declared.command.Part.{Part}
use Rattle.gl_top_status.specs.declared.refusal.Refusal.{Refusal}
use Rattle.gl_top_status.specs.declared.status.Status.{Status}
use Rattle.gl_top_status.specs.declared.status.Status.TheVariants.{Done, WriteFault, ReadFault, Memory}
use Rattle.gl_top_status.specs.declared.status.Status.TheVariants as status
use Rattle.gl_top_status.specs.declared.refusal.Refusal.TheVariants as refusal
use Rattle.gl_schema.specs.declared.fault.SchemaFault.{SchemaFault}
use Rattle.gl_query.specs.declared.fault.QueryFault.{QueryFault}
use Rattle.gl_tuples.specs.declared.fault.TupleFault.{TupleFault}
use Rattle.gl_top_forms.specs.declared.command.Command.TheVariants.{ManyRun, Run, Undump, Vcd, Version, Why, WhyRun}
use Rattle.gl_top_forms.specs.Forms.{IsCommand, IsForm, IsLoadOf, IsNamed, IsOfHelp, IsOfRun, IsOfWhy, extra_of, name_of, start_of, topic_of}
use Rattle.gl_top_forms.specs.Help.{help_text}
use Rattle.gl_load.specs.Loads.{IsLoad}
use Rattle.gl_top.specs.Calls.{Call}
use Rattle.gl_top.specs.Shown.{AreShownOf, IsShownOf, fine_line, version_line}
use Rattle.gl_top_inputs.specs.Passing.{QueriesPass, QueryPasses, TuplesPass, TuplesPassAll, FilePasses}
use Rattle.gl_top_inputs.specs.Causes.{HasCause, IsTooLong, IsBadSchema, IsBadQuery, IsOver, IsBadVerilog, IsRefused, AreBadTuples, IsBadDump}
use Rattle.gl_top_status.specs.Written.{IsTold}
use Rattle.gl_top_status.specs.Refusals.{Puts, Notes, status_of, note_of, no_end_line, write_line}

-- ---- what was written

-- how the run of the text over these beats ended
abbrev pub RanLines : Schema → Statement → BeatList → Start → List ℕ → SinkState → SinkState → Outcome → Type 0
RanLines schema statement beats start text old new outcome =
    prints.Ran (OfEachRun text schema (plain_beats beats) start) (kinds_of (result_columns schema statement))
    (plain_beats beats) old new outcome

-- how dumping the run of the text over these beats ended
abbrev pub DumpedRun : Schema → BeatList → Start → List ℕ → SinkState → SinkState → Outcome → Type 0
DumpedRun schema beats start text old new outcome =
    dumps.Dumped (OfEachPorts text schema (plain_beats beats) start) (plain_beats beats) old new outcome

-- where the times of the run have room in a dump, what is dumped of it is a dump of that run, and shows its lines
abbrev pub TellsDumped : Schema → Statement → BeatList → Start → List ℕ → Type 0
TellsDumped schema statement beats start text =
    DumpTells (latency_of schema statement) schema (plain_beats beats) start text

-- how the run of the text of several statements over these beats ended
abbrev pub RanLinesOfAll : Schema → List Statement → BeatList → Start → List ℕ → SinkState → SinkState → Outcome
    → Type 0
RanLinesOfAll schema statements beats start text old new outcome =
    RanAll (OfAllRuns text schema (plain_beats beats) start) (faces_of schema statements) (plain_beats beats) old new
    outcome

-- the texts pass, and the text that was emitted for them meets the statement
pub record IsEmitted (told : List ℕ → Told) (words : List (List ℕ)) (schema : Schema) (statement : Statement)
    (beats : BeatList) (text : List ℕ) : Type 0 where
  pub passes : TuplesPass told words schema statement beats
  pub meets : Meets schema statement (latency_of schema statement) (gaps_of schema statement) text

-- the tuples pass over several statements, and the text meets all of these together
pub record AreEmitted (told : List ℕ → Told) (words : List (List ℕ)) (schema : Schema) (statements : List Statement)
    (beats : BeatList) (text : List ℕ) : Type 0 where
  pub passes : TuplesPassAll told words schema statements beats
  pub meets : MeetTogether schema statements (shared_gaps schema statements) text

-- what a command ran, from the start that its words say, and how that ended: the lines of the result of `run`, those of
-- each result of `manyrun`, with its statement's name, or the dump of `vcd`, which tells the run
pub data IsRun (told : List ℕ → Told) (words : List (List ℕ)) (text : List ℕ) (old new : SinkState) (outcome : Outcome)
    : Type 0 where
  OfResult : (is : IsCommand words Run) (schema : Schema) (statement : Statement) (beats : BeatList)
      (emitted : IsEmitted told words schema statement beats text)
      (wrote : RanLines schema statement beats (start_of words) text old new outcome)
      → IsRun told words text old new outcome
  OfNamedLines : (is : IsCommand words ManyRun) (schema : Schema) (statements : List Statement) (beats : BeatList)
      (emitted : AreEmitted told words schema statements beats text)
      (wrote : RanLinesOfAll schema statements beats (start_of words) text old new outcome)
      → IsRun told words text old new outcome
  OfPorts : (is : IsCommand words Vcd) (schema : Schema) (statement : Statement) (beats : BeatList)
      (emitted : IsEmitted told words schema statement beats text)
      (wrote : DumpedRun schema beats (start_of words) text old new outcome)
      (tells : TellsDumped schema statement beats (start_of words) text)
      → IsRun told words text old new outcome

-- the words load so many tuples; the bytes tell of the run over them, and the text is the one that was run
pub record IsLoaded (words : List (List ℕ)) (bytes text : List ℕ) : Type 0 where
  pub count : ℕ
  pub is : IsLoadOf words count
  pub load : IsLoad count bytes text

-- the words name a dump, and the lines that its text shows are these
pub record IsUndumped (told : List ℕ → Told) (words : List (List ℕ)) (bytes : List ℕ) : Type 0 where
  pub is : IsCommand words Undump
  pub text : HasText told words part.Dump (λ text. OfLines text (λ lines. bytes ≡ lines))

-- nothing refuses the texts that `why` names: those of a query, or those of its run
pub data AreFine (told : List ℕ → Told) (words : List (List ℕ)) : Type 0 where
  OfQuery : (is : IsCommand words Why) (schema : Schema) (statement : Statement)
      (passes : QueryPasses told words schema statement) → AreFine told words
  OfItsRun : (is : IsCommand words WhyRun) (schema : Schema) (statement : Statement) (beats : BeatList)
      (passes : TuplesPass told words schema statement beats) → AreFine told words

-- what is written, and the text that is left: what a command shows of the texts that it names, what is told of a load,
-- that nothing is refused, how commands are called, or the version
pub data IsGiven (told : List ℕ → Told) (words : List (List ℕ)) (bytes text : List ℕ) : Type 0 where
  OfTexts : (shown : IsShownOf told words bytes text) → IsGiven told words bytes text
  OfQueries : (shown : AreShownOf told words bytes text) → IsGiven told words bytes text
  OfLoad : (loaded : IsLoaded words bytes text) → IsGiven told words bytes text
  OfDump : (shown : IsUndumped told words bytes) (left : text ≡ []) → IsGiven told words bytes text
  OfFine : (fine : AreFine told words) (shown : bytes ≡ fine_line) (left : text ≡ []) → IsGiven told words bytes text
  OfHelp : (is : IsOfHelp words) (shown : bytes ≡ help_text (topic_of words)) (left : text ≡ [])
      → IsGiven told words bytes text
  OfVersion : (is : IsCommand words Version) (shown : bytes ≡ version_line) (left : text ≡ [])
      → IsGiven told words bytes text

-- what is noted of a trace that ended so, and the status; want of memory is a refusal
abbrev pub TellsEnding : Ending → Puts → Status → Type 0
TellsEnding end.Done notes answered = (answered ≡ Done) × Took notes.old notes.new []
TellsEnding (end.NoEnd cycle) notes answered = Notes status.NoEnd (no_end_line cycle) notes answered
TellsEnding end.WriteFault notes answered = Notes WriteFault write_line notes answered
TellsEnding end.Memory notes answered = ⊥

-- no text was emitted, or one that meets the statement, or all of several
abbrev pub IsNoneOrEmitted : (List ℕ → Told) → List (List ℕ) → List ℕ → Type 0
IsNoneOrEmitted told words text =
    (text ≡ []) ⊎ (((schema : Schema) × (statement : Statement) × (beats : BeatList)
    × IsEmitted told words schema statement beats text)
    ⊎ ((schema : Schema) × (statements : List Statement) × (beats : BeatList)
    × AreEmitted told words schema statements beats text))

-- ---- how a call ended

-- what a command ran was written and nothing was noted; no text was missing, and nothing failed
pub record HasRunWhole (call : Call) : Type 0 where
  pub run : IsRun call.shelf.old.told call.words call.text call.out.old call.out.new outcome.Done
  pub silent : Took call.notes.old call.notes.new []
  pub calm : IsCalm call.shelf.old call.shelf.new
  pub done : call.status ≡ Done

-- the output failed behind a front of it, and that was noted
pub record HasRunInPart (call : Call) : Type 0 where
  pub run : IsRun call.shelf.old.told call.words call.text call.out.old call.out.new outcome.WriteFault
  pub calm : IsCalm call.shelf.old call.shelf.new
  pub noted : Notes WriteFault write_line call.notes call.status

-- a module was traced over the beats of a file, from all zero, and it has a run over them; no text was missing, and
-- none is left
pub record HasTraced (call : Call) : Type 0 where
  pub schema : Schema
  pub design : Module
  pub beats : BeatList
  pub passes : FilePasses call.shelf.old.told call.words schema design beats
  pub run : HasRunOver design schema (plain_beats beats) Zero
  pub ending : Ending
  pub traced : traces.Traced (OfRunsOf design schema (plain_beats beats) Zero) (decimal_kinds design)
      (plain_beats beats) (extra_of call.words) call.out.old call.out.new ending
  pub tells : TellsEnding ending call.notes call.status
  pub calm : IsCalm call.shelf.old call.shelf.new
  pub left : call.text ≡ []

-- what is given was written whole and nothing was noted; no text was missing, and nothing failed
pub record HasWrittenWhole (call : Call) : Type 0 where
  pub bytes : List ℕ
  pub given : IsGiven call.shelf.old.told call.words bytes call.text
  pub wrote : Took call.out.old call.out.new bytes
  pub silent : Took call.notes.old call.notes.new []
  pub calm : IsCalm call.shelf.old call.shelf.new
  pub done : call.status ≡ Done

-- the output failed behind a front of it, and that was noted
pub record HasWrittenInPart (call : Call) : Type 0 where
  pub bytes : List ℕ
  pub given : IsGiven call.shelf.old.told call.words bytes call.text
  pub wrote : Broke call.out.old call.out.new bytes
  pub calm : IsCalm call.shelf.old call.shelf.new
  pub noted : Notes WriteFault write_line call.notes call.status

-- there was a refusal with its cause; nothing was written, and it was noted
pub record HasRefused (call : Call) : Type 0 where
  pub refusal : Refusal
  pub cause : HasCause call.words call.shelf refusal
  pub untouched : Took call.out.old call.out.new []
  pub noted : Notes (status_of refusal) (note_of call.words refusal) call.notes call.status
  pub left : IsNoneOrEmitted call.shelf.old.told call.words call.text

-- `why` was asked, and there was a refusal with its cause; its line was written, with something behind it, or the output
-- failed behind a front of both, and that was noted
pub record HasExplained (call : Call) : Type 0 where
  pub asks : IsOfWhy call.words
  pub refusal : Refusal
  pub cause : HasCause call.words call.shelf refusal
  pub told : IsTold (status_of refusal) (note_of call.words refusal) call.out call.notes call.status
  pub left : call.text ≡ []

-- one of these is so
pub data IsAnswer (call : Call) : Type 0 where
  RanWhole : (run : HasRunWhole call) → IsAnswer call
  RanCut : (run : HasRunInPart call) → IsAnswer call
  Traced : (trace : HasTraced call) → IsAnswer call
  Wrote : (written : HasWrittenWhole call) → IsAnswer call
  WroteCut : (written : HasWrittenInPart call) → IsAnswer call
  Refused : (refused : HasRefused call) → IsAnswer call
  Explained : (explained : HasExplained call) → IsAnswer call

-- ---- what each status says

-- the module of a simulation has a run, and in none of its runs the end is seen in time; the lines of all its cycles
-- were written, and the last of these was noted; no text was missing, and nothing failed
pub record IsEndless (call : Call) : Type 0 where
  pub schema : Schema
  pub design : Module
  pub beats : BeatList
  pub passes : FilePasses call.shelf.old.told call.words schema design beats
  pub run : HasRunOver design schema (plain_beats beats) Zero
  pub cycle : ℕ
  pub traced : OfRunsOf design schema (plain_beats beats) Zero
      (λ outs port. TracesOut (decimal_kinds design) (plain_beats beats) (extra_of call.words) cycle outs port
      call.out.old.taken call.out.new.taken)
  pub noted : Took call.notes.old call.notes.new (no_end_line cycle)
  pub calm : IsCalm call.shelf.old call.shelf.new
  pub whole : call.out.new.faults ≡ call.out.old.faults

-- what a status says of the call that answers it
abbrev pub SaysBy : Status → Call → Type 0
SaysBy status.Done call =
    IsCalm call.shelf.old call.shelf.new × (call.out.new.faults ≡ call.out.old.faults)
    × Took call.notes.old call.notes.new []
SaysBy status.Usage call = IsForm call.words → ⊥
SaysBy status.Missing call = (part : Part) × HasCause call.words call.shelf (refusal.Missing part)
SaysBy status.ReadFault call = (part : Part) × HasCause call.words call.shelf (refusal.ReadFault part)
SaysBy status.WriteFault call =
    Rose call.out.old.faults call.out.new.faults ⊎ Rose call.notes.old.faults call.notes.new.faults
SaysBy status.Schema call = (fault : SchemaFault) × IsBadSchema call.shelf.old.told call.words fault
SaysBy status.Query call = (fault : QueryFault) × IsBadQuery call.shelf.old.told call.words fault
SaysBy status.Tuples call = (fault : TupleFault) × AreBadTuples call.shelf.old.told call.words fault
SaysBy status.Limit call =
    ((part : Part) × IsTooLong call.shelf.old.told call.words part)
    ⊎ ((limit : Limit) × IsOver call.shelf.old.told call.words limit)
SaysBy status.Memory call = Unit {0}
SaysBy status.Verilog call = (fault : VerilogFault) × IsBadVerilog call.shelf.old.told call.words fault
SaysBy status.NoEnd call = IsEndless call
SaysBy status.Dump call = (fault : VcdFault) × IsBadDump call.shelf.old.told call.words fault

-- what a call's status says of its words, its texts and what it wrote is true
abbrev pub Says : Call → Type 0
Says call = SaysBy call.status call

-- ---- what is told, and what is completed

-- the texts that a command asks for pass: to run and to simulate, the tuple file too; a load, help and the version ask for none
pub data AllPass (told : List ℕ → Told) (words : List (List ℕ)) : Type 0 where
  Two : (schema : Schema) (statement : Statement) (passes : QueryPasses told words schema statement)
      (others : IsOfRun words → ⊥) → AllPass told words
  Three : (schema : Schema) (statement : Statement) (beats : BeatList)
      (pass : TuplesPass told words schema statement beats) → AllPass told words
  TwoOfAll : (schema : Schema) (statements : List Statement) (passes : QueriesPass told words schema statements)
      (others : IsCommand words ManyRun → ⊥) → AllPass told words
  ThreeOfAll : (schema : Schema) (statements : List Statement) (beats : BeatList)
      (pass : TuplesPassAll told words schema statements beats) → AllPass told words
  OfFile : (schema : Schema) (design : Module) (beats : BeatList)
      (pass : FilePasses told words schema design beats) → AllPass told words
  Loads : (count : ℕ) (is : IsLoadOf words count) → AllPass told words
  Undumps : (bytes : List ℕ) (shown : IsUndumped told words bytes) → AllPass told words
  Helps : (is : IsOfHelp words) → AllPass told words
  Versions : (is : IsCommand words Version) → AllPass told words

-- the shelf tells the texts that the words name
abbrev pub IsTelling : (List ℕ → Told) → List (List ℕ) → Type 0
IsTelling told words = (part : Part) → IsNamed words part → told (name_of words part) ≢ Untold

-- this is the status, or one that it yields to: the shelf failed, the sink of the notes failed, that of the output of
-- `why` failed, or memory ran out
pub data Yields (own : Status) (call : Call) : Type 0 where
  Same : (same : call.status ≡ own) → Yields own call
  ToRead : (is : call.status ≡ ReadFault) (rose : Rose call.shelf.old.faults call.shelf.new.faults) → Yields own call
  ToWrite : (is : call.status ≡ WriteFault) (rose : Rose call.notes.old.faults call.notes.new.faults) → Yields own call
  ToOutput : (asks : IsOfWhy call.words) (is : call.status ≡ WriteFault) (rose : Rose call.out.old.faults call.out.new.faults)
      → Yields own call
  ToMemory : (is : call.status ≡ Memory) → Yields own call

-- words of no form are told as such, or the status is one that this yields to
abbrev pub TellsForm : Call → Type 0
TellsForm call = (IsForm call.words → ⊥) → Yields status.Usage call

-- where the shelf tells all texts and they are refused so, the status is this refusal's or one that it yields to
abbrev pub TellsFaults : Call → Type 0
TellsFaults call =
    (r : Refusal) → IsTelling call.shelf.old.told call.words → IsRefused call.shelf.old.told call.words r
    → Yields (status_of r) call

-- the line was noted, or `why` wrote it, with something behind it, and nothing was noted
abbrev pub TellsLine : Call → List ℕ → Type 0
TellsLine call line =
    Took call.notes.old call.notes.new line
    ⊎ (IsOfWhy call.words × ((rest : List ℕ) × Took call.out.old call.out.new (line ++ rest))
    × Took call.notes.old call.notes.new [])

-- where the words and the texts are refused so, and the status is that of this refusal, its line is told
abbrev pub TellsRefusal : Call → Type 0
TellsRefusal call =
    (r : Refusal) → IsTelling call.shelf.old.told call.words → IsRefused call.shelf.old.told call.words r
    → call.status ≡ status_of r → TellsLine call (note_of call.words r)

-- no count of faults rose
pub record IsFaultless (call : Call) : Type 0 where
  pub shelf : Rose call.shelf.old.faults call.shelf.new.faults → ⊥
  pub out : Rose call.out.old.faults call.out.new.faults → ⊥
  pub notes : Rose call.notes.old.faults call.notes.new.faults → ⊥

-- how the work ends where nothing is refused and nothing fails: whole, unless memory runs out or a simulation has no
-- end in time
pub data Completes (call : Call) : Type 0 where
  Whole : (is : call.status ≡ Done) → Completes call
  NoMemory : (is : call.status ≡ Memory) → Completes call
  Endless : (is : call.status ≡ status.NoEnd) (endless : IsEndless call) → Completes call

-- where the texts are told and pass and no count of faults rises, it ends so
abbrev pub IsComplete : Call → Type 0
IsComplete call =
    IsTelling call.shelf.old.told call.words → AllPass call.shelf.old.told call.words → IsFaultless call
    → Completes call
