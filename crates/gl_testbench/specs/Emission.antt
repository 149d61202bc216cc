-- What the text of a netlist is to those that know of the netlist alone: a module, and each run of it that beats drive
-- shows what a trace of the netlist over these beats does.
use Rattle.std.specs.Prelude.{◌≡◌, ℕ, Bool, false, List, ◌∷◌, ◌++◌, map, Some, bytes_eq, codes, slice_get}
use Rattle.std.specs.List.{AllByRecursion}
use Rattle.gl_gaps.specs.declared.Gaps.{Gaps}
use Rattle.gl_schema.specs.declared.schema.Schema.{Schema}
use Rattle.gl_schema.specs.Beats.{Beats, AreBeats}
use Rattle.gl_gaps.specs.Keeps.{KeepsGaps}
use Rattle.gl_schema.specs.Ports.{IsStimulus, PortValues}
use Rattle.gl_schema.specs.Profile.{Direction, In, Out, ProfilePort, clk, input, input_ports}
use Rattle.gl_net.specs.declared.node.Direction as circuit
use Rattle.gl_net.specs.declared.node.Direction.TheVariants as way
use Rattle.gl_net.specs.Net.{Net, Run, IsTrace, memory_bits_of, register_bits_of}
use Rattle.gl_net.specs.PortValues.{PortShape, input_values, port_shapes, port_values}
use Rattle.gl_verilog.specs.Module.{Module, Declaration, Input}
use Rattle.gl_verilog.specs.Cost.{memory_bits, register_bits}
use Rattle.gl_verilog.specs.Text.{HasModule}
use Rattle.gl_verilog.specs.Widths.{is_clock}
use Rattle.gl_verilog_ports.specs.Profile.{HasClock, declared, input_width, ports_of}
use Rattle.gl_testbench.specs.Runs.{HasRunsOver}
use Rattle.gl_testbench.specs.Driven.{OverRuns, Property}

-- ---- properties

-- the ports carry the same in each cycle under every name but the clock's
abbrev pub SameButClock : PortValues → PortValues → Type 0
SameButClock port port' =
    (t : ℕ) (name : List ℕ) → bytes_eq name (codes "clk") ≡ false → port t name ≡ port' t name

-- a property that does not look at the clock
abbrev pub IsPastClock : Property → Type 0
IsPastClock P =
    (beats : Beats) (port port' : PortValues) → SameButClock port port' → P beats port → P beats port'

-- a property holds of each trace of the netlist over beats of the schema that keep the gaps
abbrev pub OverTraces : Net → Schema → Gaps → Property → Type 0
OverTraces net schema gaps P =
    (run : Run) (beats : Beats) → IsTrace net run → AreBeats schema beats → KeepsGaps gaps beats
    → IsStimulus schema beats (input_values net run) → P beats (port_values net run)

-- the law: what does not look at the clock, and holds of all traces of the netlist over beats that keep these gaps,
-- holds of all runs of the module that such beats drive, in any order of events
abbrev pub HoldsOfRuns : Net → Schema → Module → Type 1
HoldsOfRuns net schema m =
    (gaps : Gaps) (P : Property) → IsPastClock P → OverTraces net schema gaps P → OverRuns m schema gaps P

-- some trace of the netlist over these beats has ports that carry this, the clock aside
pub record IsTraced (net : Net) (schema : Schema) (beats : Beats) (port : PortValues) : Type 0 where
  pub run : Run
  pub trace : IsTrace net run
  pub stimulus : IsStimulus schema beats (input_values net run)
  pub ports : SameButClock (port_values net run) port

-- ---- ports

-- a direction of a netlist's port as a direction of the profile
abbrev pub way_of : circuit.Direction → Direction
way_of way.In = In
way_of way.Out = Out

-- a port that a netlist shows, as a port of the profile
abbrev pub port_like : PortShape → ProfilePort
port_like s = record { direction = way_of s.direction; name = s.name; width = s.width }

-- the ports of a netlist, in their order, as those of a profile
abbrev pub profile_ports : Net → List ProfilePort
profile_ports net = map port_like (port_shapes net)

-- the netlist takes beats of the schema: its ports are the schema's inputs, with the tick where it is asked for, and
-- behind them these outputs
pub record TakesBeats (ticks : Bool) (schema : Schema) (outputs : List ProfilePort) (net : Net) : Type 0 where
  pub ports : profile_ports net ≡ input_ports ticks schema ++ outputs
  pub out : AllByRecursion (λ (p : ProfilePort). p.direction ≡ Out) outputs

-- the clock is there, and every other input is one of the schema's, with its bits
pub record FitsInputs (m : Module) (schema : Schema) : Type 0 where
  pub clock : HasClock m
  pub inputs : (n : ℕ) (d : Declaration) → slice_get m.declarations n ≡ Some d → d.kind ≡ Input → is_clock d ≡ false
      → input_width schema d.name ≡ Some d.width

-- ---- the text

-- the text of a netlist that takes beats of the schema: it has a module of the netlist's name, whose ports are in order
-- the clock and the netlist's, and whose inputs fit the schema; it declares the netlist's bits of registers and of
-- memories; it has a run from any start over any beats of the schema, and each run that beats drive is traced in the
-- netlist
pub record IsEmission (net : Net) (schema : Schema) (text : List ℕ) : Type 0 where
  pub design : Module
  pub has : HasModule text design
  pub name' : Some design.name ≡ net.name
  pub face : ports_of design ≡ map declared (input clk 1 ∷ profile_ports net)
  pub inputs : FitsInputs design schema
  pub registers : register_bits design ≡ register_bits_of net
  pub memories : memory_bits design ≡ memory_bits_of net
  pub runs : HasRunsOver design schema
  pub traced : (gaps : Gaps) → OverRuns design schema gaps (IsTraced net schema)
