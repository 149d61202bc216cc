-- What tracing a module over beats writes: the lines of its run, all values in decimal, up to its end, or through the
-- cycles that are waited for.
use Rattle.std.specs.Prelude.{◌≡◌, ◌⊎◌, ℕ, ◌+◌, ◌≤◌, List, Option, map, IsFalse}
use Rattle.gl_values.specs.declared.kind.Kind.{Kind}
use Rattle.gl_values.specs.declared.kind.Kind.TheVariants.{Unsigned}
use Rattle.gl_schema.specs.Beats.{Beats, last_cycle}
use Rattle.gl_schema.specs.Ports.{PortValues}
use Rattle.gl_schema.specs.Seen.{shown, seen, lines}
use Rattle.gl_outside.specs.Counts.{Rose}
use Rattle.gl_outside.specs.States.{SinkState, Appends, AppendsFront}
use Rattle.gl_verilog.specs.declared.start.Start.{Start}
use Rattle.gl_schema.specs.declared.schema.Schema.{Schema}
use Rattle.gl_verilog.specs.Module.{Module, Nets, Memories}
use Rattle.gl_verilog.specs.Run.{port_of}
use Rattle.gl_runner.specs.declared.tracing.Ending.{Ending}
use Rattle.gl_runner.specs.declared.tracing.Ending.TheVariants.{Done, NoEnd, WriteFault, Memory}
use Rattle.gl_runner.specs.Prints.{IsEnd, IsRunOver}
use Rattle.gl_verilog_ports.specs.Profile.{result_names, result_widths}

-- the kinds by which a traced module's columns are printed: numbers of their ports' bits
abbrev pub decimal_kinds : Module → List Kind
decimal_kinds m = map Unsigned (result_widths m)

-- the end is seen in none of the cycles from the last beat's to so many after it
abbrev pub HasNoEnd : Beats → List (List ℕ) → PortValues → ℕ → Type 0
HasNoEnd beats outs port extra =
    (k : ℕ) → last_cycle beats ≤ k → k ≤ last_cycle beats + extra → IsFalse (shown port outs k).end

-- the trace ends in the first cycle from the last beat's on in which the end is seen, while it is waited for
pub record EndsIn (beats : Beats) (outs : List (List ℕ)) (port : PortValues) (extra n : ℕ) : Type 0 where
  pub is : IsEnd beats outs port n
  pub in_time : n ≤ last_cycle beats + extra

-- no end is seen in the cycles that are waited, and this is the last of them
pub record RunsOut (beats : Beats) (outs : List (List ℕ)) (port : PortValues) (extra n : ℕ) : Type 0 where
  pub last : n ≡ last_cycle beats + extra
  pub none : HasNoEnd beats outs port extra

-- the cycle after which a trace stops: the end is seen in it, or waiting is over
abbrev pub IsLastRun : Beats → List (List ℕ) → PortValues → ℕ → ℕ → Type 0
IsLastRun beats outs port extra n = EndsIn beats outs port extra n ⊎ RunsOut beats outs port extra n

-- the lines of a trace up to a cycle were written
abbrev pub WritesTo : List Kind → List (List ℕ) → PortValues → ℕ → Option (List ℕ) → Option (List ℕ) → Type 0
WritesTo kinds outs port n old new = Appends old new (lines kinds (seen port outs n))

-- the first bytes of a trace were written, up to where it would stop
pub record TracesFront (kinds : List Kind) (beats : Beats) (extra : ℕ) (outs : List (List ℕ)) (port : PortValues)
    (old new : Option (List ℕ)) : Type 0 where
  pub last : ℕ
  pub is : IsLastRun beats outs port extra last
  pub taken : AppendsFront old new (lines kinds (seen port outs last))

-- the lines of a trace were written through the cycle in which its end is seen
pub record TracesToEnd (kinds : List Kind) (beats : Beats) (extra : ℕ) (outs : List (List ℕ)) (port : PortValues)
    (old new : Option (List ℕ)) : Type 0 where
  pub last : ℕ
  pub ends : EndsIn beats outs port extra last
  pub taken : WritesTo kinds outs port last old new

-- the lines of a trace were written through the last cycle that is waited, and no end was seen
pub record TracesOut (kinds : List Kind) (beats : Beats) (extra cycle : ℕ) (outs : List (List ℕ))
    (port : PortValues) (old new : Option (List ℕ)) : Type 0 where
  pub out : RunsOut beats outs port extra cycle
  pub taken : WritesTo kinds outs port cycle old new

-- a fact about each run of a module from this start over these beats
abbrev pub OfRunsOf : Module → Schema → Beats → Start → (List (List ℕ) → PortValues → Type 0) → Type 0
OfRunsOf m schema beats start P =
    (value : ℕ → Nets) (word : ℕ → Memories) → IsRunOver m schema beats start value word
    → P (result_names m) (port_of m value)

-- of each run: its lines up to the end were written; or the end comes in none of the cycles that are waited for, and
-- the lines of all were written; or the sink failed behind a front of these; or memory ran out and nothing was put
abbrev pub Traced : ((List (List ℕ) → PortValues → Type 0) → Type 0) → List Kind → Beats → ℕ → SinkState → SinkState
    → Ending → Type 0
Traced OfRuns kinds beats extra old new Done =
    (new.faults ≡ old.faults) × OfRuns (λ outs port. TracesToEnd kinds beats extra outs port old.taken new.taken)
Traced OfRuns kinds beats extra old new (NoEnd cycle) =
    (new.faults ≡ old.faults) × OfRuns (λ outs port. TracesOut kinds beats extra cycle outs port old.taken new.taken)
Traced OfRuns kinds beats extra old new WriteFault =
    Rose old.faults new.faults × OfRuns (λ outs port. TracesFront kinds beats extra outs port old.taken new.taken)
Traced OfRuns kinds beats extra old new Memory = new ≡ old
