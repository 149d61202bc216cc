-- What dumping a run writes: the dump of the ports of its module, from the first cycle of the file to the end.
use Rattle.std.specs.Prelude.{◌≡◌, ◌≤◌, ℕ, List, Option, length}
use Rattle.gl_outside.specs.Counts.{Rose}
use Rattle.gl_outside.specs.States.{SinkState, Appends, AppendsFront}
use Rattle.gl_schema.specs.declared.schema.Schema.{Schema}
use Rattle.gl_schema.specs.Beats.{Beats}
use Rattle.gl_schema.specs.Ports.{PortValues}
use Rattle.gl_vcd.specs.Written.{dump_text, ports_of}
use Rattle.gl_verilog.specs.Module.{Module, Nets, Memories}
use Rattle.gl_verilog.specs.Run.{port_of}
use Rattle.gl_verilog.specs.Text.{HasModule}
use Rattle.gl_verilog.specs.declared.start.Start.{Start}
use Rattle.gl_verilog_ports.specs.Profile.{result_names}
use Rattle.gl_runner.specs.declared.executing.Outcome.{Outcome}
use Rattle.gl_runner.specs.declared.executing.Outcome.TheVariants.{Done, WriteFault, Memory}
use Rattle.gl_runner.specs.Prints.{EndsWithin, IsEnd, IsRunOver}
use Rattle.gl_runner.specs.Watches.{rows_to}

-- the bytes are the dump of the ports in the cycles up to the end
pub record IsDumpOf (m : Module) (beats : Beats) (port : PortValues) (bytes : List ℕ) : Type 0 where
  pub ended : ℕ
  pub is : IsEnd beats (result_names m) port ended
  pub all : bytes ≡ dump_text m.name (ports_of m) (rows_to (ports_of m) port ended)

-- a dump of the run was written
pub record DumpsWhole (m : Module) (beats : Beats) (port : PortValues) (old new : Option (List ℕ)) : Type 0 where
  pub bytes : List ℕ
  pub are : IsDumpOf m beats port bytes
  pub taken : Appends old new bytes

-- the first bytes of a dump of the run were written, perhaps none and perhaps all
pub record DumpsFront (m : Module) (beats : Beats) (port : PortValues) (old new : Option (List ℕ)) : Type 0 where
  pub bytes : List ℕ
  pub are : IsDumpOf m beats port bytes
  pub taken : AppendsFront old new bytes

-- a fact of a module and its ports in each run from this start over these beats that ends in time
abbrev pub OfTimelyPorts : ℕ → Module → Schema → Beats → Start → (Module → PortValues → Type 0) → Type 0
OfTimelyPorts latency m schema beats start P =
    (value : ℕ → Nets) (word : ℕ → Memories) → IsRunOver m schema beats start value word
    → EndsWithin latency beats (result_names m) (port_of m value) → P m (port_of m value)

-- a fact of a module and its ports, in each run of the module of a text from this start over these beats
abbrev pub OfEachPorts : List ℕ → Schema → Beats → Start → (Module → PortValues → Type 0) → Type 0
OfEachPorts text schema beats start P =
    (m : Module) (value : ℕ → Nets) (word : ℕ → Memories) → HasModule text m
    → IsRunOver m schema beats start value word → P m (port_of m value)

-- how dumping ended: the dump of each run was written and nothing failed, or the sink failed behind a front of it, or
-- memory ran out and nothing was put
abbrev pub Dumped : ((Module → PortValues → Type 0) → Type 0) → Beats → SinkState → SinkState → Outcome → Type 0
Dumped OfRuns beats old new Done =
    (new.faults ≡ old.faults) × OfRuns (λ m port. DumpsWhole m beats port old.taken new.taken)
Dumped OfRuns beats old new WriteFault =
    Rose old.faults new.faults × OfRuns (λ m port. DumpsFront m beats port old.taken new.taken)
Dumped OfRuns beats old new Memory = new ≡ old

-- no module of a text has more ports besides the clock than a dump has identifiers
abbrev pub HasFewPorts : List ℕ → Type 0
HasFewPorts text = (m : Module) → HasModule text m → length (ports_of m) ≤ 8836
