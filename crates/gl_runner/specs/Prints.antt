-- What running a text over beats writes: the lines of the run of that very text, up to its end.
use Rattle.std.specs.Prelude.{◌≡◌, ℕ, ◌+◌, ◌<◌, ◌≤◌, ◌^◌, List, Option, map, IsTrue, IsFalse, IsOk}
use Rattle.gl_values.specs.declared.kind.Kind.{Kind}
use Rattle.gl_values.specs.Kinds.{width_of}
use Rattle.gl_schema.specs.declared.schema.Schema.{Schema}
use Rattle.gl_schema.specs.Beats.{Beats, last_cycle}
use Rattle.gl_schema.specs.Ports.{PortValues, IsStimulus}
use Rattle.gl_schema.specs.Seen.{shown, seen, lines}
use Rattle.gl_outside.specs.Counts.{Rose}
use Rattle.gl_outside.specs.States.{SinkState, Appends, AppendsFront}
use Rattle.gl_runner.specs.declared.executing.Outcome.{Outcome}
use Rattle.gl_runner.specs.declared.executing.Outcome.TheVariants.{Done, WriteFault, Memory}
use Rattle.gl_verilog.specs.Module.{Module, Nets, Memories}
use Rattle.gl_verilog.specs.Run.{port_of, input_values}
use Rattle.gl_verilog.specs.Text.{HasModule}
use Rattle.gl_verilog.specs.Events.{IsEventRun}
use Rattle.gl_verilog.specs.declared.start.Start.{Start}
use Rattle.gl_sim.specs.Starts.{StartsFrom}
use Rattle.gl_verilog_ports.specs.Fit.{fit_of}
use Rattle.gl_verilog_ports.specs.Profile.{result_names, result_widths}

-- a run of a module in some order of events from this start, with these beats on its inputs
pub record IsRunOver (m : Module) (schema : Schema) (beats : Beats) (start : Start) (value : ℕ → Nets)
    (word : ℕ → Memories) : Type 0 where
  pub run : IsEventRun m value word
  pub starts : StartsFrom start m value word
  pub stimulus : IsStimulus schema beats (input_values m value)

-- there is such a run
pub record HasRunOver (m : Module) (schema : Schema) (beats : Beats) (start : Start) : Type 0 where
  pub value : ℕ → Nets
  pub word : ℕ → Memories
  pub over : IsRunOver m schema beats start value word

-- the file cycle is the first from the last beat's on in which the end is seen
pub record IsEnd (beats : Beats) (outs : List (List ℕ)) (port : PortValues) (n : ℕ) : Type 0 where
  pub soonest : last_cycle beats ≤ n
  pub ends : IsTrue (shown port outs n).end
  pub first : (k : ℕ) → last_cycle beats ≤ k → k < n → IsFalse (shown port outs k).end

-- the bytes are the lines of what is seen up to the end
pub record AreLinesOf (kinds : List Kind) (beats : Beats) (outs : List (List ℕ)) (port : PortValues)
    (bytes : List ℕ) : Type 0 where
  pub ended : ℕ
  pub is : IsEnd beats outs port ended
  pub all : bytes ≡ lines kinds (seen port outs ended)

-- the run's lines were written
pub record Writes (kinds : List Kind) (beats : Beats) (outs : List (List ℕ)) (port : PortValues)
    (old new : Option (List ℕ)) : Type 0 where
  pub bytes : List ℕ
  pub are : AreLinesOf kinds beats outs port bytes
  pub taken : Appends old new bytes

-- the first bytes of the run's lines were written, perhaps none and perhaps all
pub record WritesFront (kinds : List Kind) (beats : Beats) (outs : List (List ℕ)) (port : PortValues)
    (old new : Option (List ℕ)) : Type 0 where
  pub bytes : List ℕ
  pub are : AreLinesOf kinds beats outs port bytes
  pub taken : AppendsFront old new bytes

-- the end is seen in a cycle from the last beat's on, at most so many cycles after it
pub record EndsWithin (latency : ℕ) (beats : Beats) (outs : List (List ℕ)) (port : PortValues) : Type 0 where
  pub ended : ℕ
  pub soonest : last_cycle beats ≤ ended
  pub in_time : ended ≤ last_cycle beats + latency
  pub ends : IsTrue (shown port outs ended).end

-- the text has a module that fits the schema and the kinds of the result's columns, and whose run from this start over
-- these beats ends in time
pub record CanRun (text : List ℕ) (schema : Schema) (kinds : List Kind) (beats : Beats) (latency : ℕ)
    (start : Start) : Type 0 where
  pub design : Module
  pub has : HasModule text design
  pub fits : IsOk (fit_of design schema)
  pub widths : result_widths design ≡ map width_of kinds
  pub short : latency ≤ 2 ^ 32
  pub ends : (value : ℕ → Nets) (word : ℕ → Memories) → IsRunOver design schema beats start value word
      → EndsWithin latency beats (result_names design) (port_of design value)

-- a fact about each run of the text's module from this start over these beats
abbrev pub OfEachRun : List ℕ → Schema → Beats → Start → (List (List ℕ) → PortValues → Type 0) → Type 0
OfEachRun text schema beats start P =
    (m : Module) (value : ℕ → Nets) (word : ℕ → Memories) → HasModule text m → IsRunOver m schema beats start value word
    → P (result_names m) (port_of m value)

-- how a run over beats ended: the lines of each run were written and nothing failed, or the sink failed behind a front
-- of them, or memory ran out and nothing was put
abbrev pub Ran : ((List (List ℕ) → PortValues → Type 0) → Type 0) → List Kind → Beats → SinkState → SinkState
    → Outcome → Type 0
Ran OfRuns kinds beats old new Done =
    (new.faults ≡ old.faults) × OfRuns (λ outs port. Writes kinds beats outs port old.taken new.taken)
Ran OfRuns kinds beats old new WriteFault =
    Rose old.faults new.faults × OfRuns (λ outs port. WritesFront kinds beats outs port old.taken new.taken)
Ran OfRuns kinds beats old new Memory = new ≡ old
