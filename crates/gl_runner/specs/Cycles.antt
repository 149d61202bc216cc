-- A module that is driven through the cycles of a file: what stands around it, what it has on its ports in a cycle, and
-- where it then is.
use Rattle.std.specs.Prelude.{◌≡◌, ℕ, suc, ◌+◌, ◌<◌, ◌≤◌, ◌^◌, false, List, None, Some, map, length, slice_get, slice_index, take}
use Rattle.gl_values.specs.declared.kind.Kind.{Kind}
use Rattle.gl_values.specs.Kinds.{width_of}
use Rattle.gl_schema.specs.declared.schema.Schema.{Schema}
use Rattle.gl_schema.specs.Beats.{Beats, AreBeats}
use Rattle.gl_schema.specs.Ports.{PortValues, IsStimulus}
use Rattle.gl_schema.specs.Seen.{value_at}
use Rattle.gl_verilog.specs.Module.{Declaration, Input, Module, Nets, Memories, number_of}
use Rattle.gl_verilog.specs.Run.{IsRun, port_of, input_values}
use Rattle.gl_verilog.specs.Runnable.{inputs_of}
use Rattle.gl_verilog.specs.View.{module_of}
use Rattle.gl_verilog.specs.Valid.{IsValid}
use Rattle.gl_verilog.specs.Widths.{IsNet, IsReadable, is_clock}
use Rattle.gl_sim.specs.Simulation.{Simulation, IsAt}
use Rattle.gl_verilog.specs.declared.start.Start.{Start}
use Rattle.gl_testbench.specs.declared.pins.Pin.{Pin}
use Rattle.gl_testbench.specs.Carried.{pin_at}
use Rattle.gl_testbench.specs.Dues.{AreDue}
use Rattle.gl_runner.specs.declared.executing.Outcome.{Outcome}
use Rattle.gl_runner.specs.declared.executing.Outcome.TheVariants as outcome
use Rattle.gl_runner.specs.declared.tracing.Ending.{Ending}
use Rattle.gl_runner.specs.declared.tracing.Ending.TheVariants as ending
use Rattle.gl_runner.specs.Prints.{IsRunOver, EndsWithin}
use Rattle.gl_verilog_ports.specs.Profile.{FitsSchema, HasInputPorts, input_width, ports_of, result_names, result_widths}

-- every input port but the clock is one of the schema's, with its bits
abbrev pub TakesSchema : Module → Schema → Type 0
TakesSchema m schema =
    (n : ℕ) (d : Declaration) → slice_get (ports_of m) n ≡ Some d → d.kind ≡ Input → is_clock d ≡ false
    → input_width schema d.name ≡ Some d.width

-- what is asked of a module and of the beats that it is driven over, whatever it shows: the module is valid, each of its
-- inputs is a port and one of the schema's, and the beats are the schema's
pub record CanDrive (m : Module) (schema : Schema) (beats : Beats) : Type 0 where
  pub valid : IsValid m
  pub inputs : HasInputPorts m
  pub takes : TakesSchema m schema
  pub beats' : AreBeats schema beats

-- a module can be driven where the lines of one result are written: its ports are those of the schema and the result
pub record CanFollow (m : Module) (schema : Schema) (kinds : List Kind) (beats : Beats) : Type 0 where
  pub valid : IsValid m
  pub inputs : HasInputPorts m
  pub fits : FitsSchema m schema
  pub widths : result_widths m ≡ map width_of kinds
  pub beats' : AreBeats schema beats

-- the simulator is before cycle t of this run over these beats
pub record IsFollowed (s : Simulation) (schema : Schema) (beats : Beats) (value : ℕ → Nets) (word : ℕ → Memories)
    (t : ℕ) : Type 0 where
  pub run : IsRun (module_of s.design) value word
  pub stimulus : IsStimulus schema beats (input_values (module_of s.design) value)
  pub at : IsAt s value word t

-- the ports of the module are declared, and none is a memory
pub record HasPlainPorts (m : Module) : Type 0 where
  pub inside : m.ports ≤ length m.declarations
  pub nets : (k : ℕ) (d : Declaration) → slice_get (take m.ports m.declarations) k ≡ Some d → IsNet d.kind

-- what the simulator has on each port but the clock is what the port has in cycle t of a run, and fits its bits
abbrev pub HasOnPorts : Module → Simulation → PortValues → ℕ → Type 0
HasOnPorts m s port t =
    (k : ℕ) (d : Declaration) → slice_get (take m.ports m.declarations) k ≡ Some d → IsReadable d
    → (slice_index s.shown k ≡ value_at port t d.name) × (slice_index s.shown k < 2 ^ d.width)

-- a name that no port of the module has shows nothing in a cycle of a run
abbrev pub HasNoOther : Module → PortValues → ℕ → Type 0
HasNoOther m port t = (name : List ℕ) → number_of (ports_of m) name ≡ None → port t name ≡ None

-- file cycle n of the module was made: its ports have what they have in the run, and the simulator is before the next
pub record IsMade (m : Module) (s : Simulation) (schema : Schema) (beats : Beats) (n : ℕ) (value : ℕ → Nets)
    (word : ℕ → Memories) : Type 0 where
  pub followed : IsFollowed s schema beats value word (n + 2)
  pub ports' : HasOnPorts m s (port_of m value) (suc n)

-- ---- what is driven

-- a module behind its reset: its simulator, the schema and the beats that it is driven over, how many cycles behind the
-- last beat's the end is waited for, and the cycle of the file that comes next
pub record Driven : Type 0 where
  pub sim : Simulation
  pub schema : Schema
  pub beats : Beats
  pub extra : ℕ
  pub cycle : ℕ

-- the module that is driven
abbrev pub design_of : Driven → Module
design_of d = module_of d.sim.design

-- a simulation can be driven, each input is set to what its port carries, and the beats from one place on are due
pub record IsSetUp (sim : Simulation) (schema : Schema) (beats : Beats) (extra : ℕ) (pins : List Pin)
    (values : List ℕ) (cycle next : ℕ) : Type 0 where
  pub can : CanDrive (module_of sim.design) schema beats
  pub pins' : pins ≡ map (pin_at schema (module_of sim.design).declarations) (inputs_of (module_of sim.design))
  pub room : length values ≡ length pins
  pub due : AreDue beats.list next cycle
  pub short : extra ≤ 2 ^ 32

-- the simulation is before its next cycle of this run: cycle t + 1 of a run is cycle t of the file
abbrev pub IsBefore : Driven → (ℕ → Nets) → (ℕ → Memories) → Type 0
IsBefore d value word = IsFollowed d.sim d.schema d.beats value word (d.cycle + 1)

-- the module of a task, behind its reset: it is before the first cycle of the file in each run from this start
pub record IsStarted (m : Module) (schema : Schema) (beats : Beats) (start : Start) (extra : ℕ) (d : Driven)
    : Type 0 where
  pub design' : design_of d ≡ m
  pub schema' : d.schema ≡ schema
  pub beats' : d.beats ≡ beats
  pub extra' : d.extra ≡ extra
  pub first : d.cycle ≡ 0
  pub before : (value : ℕ → Nets) (word : ℕ → Memories) → IsRunOver m schema beats start value word
      → IsBefore d value word

-- one is the other after one cycle
pub record IsAhead (d e : Driven) : Type 0 where
  pub same : e ≡ record d { sim = e.sim; cycle = d.cycle + 1 }
  pub design' : e.sim.design ≡ d.sim.design

-- the next cycle of each run was made
abbrev pub Advances : Driven → Driven → Type 0
Advances d e =
    (value : ℕ → Nets) (word : ℕ → Memories) → IsBefore d value word
    → IsMade (design_of d) e.sim d.schema d.beats d.cycle value word

-- a fact of each run in which it is before its next cycle
abbrev pub OfDriven : Driven → (List (List ℕ) → PortValues → Type 0) → Type 0
OfDriven d P =
    (value : ℕ → Nets) (word : ℕ → Memories) → IsBefore d value word
    → P (result_names (design_of d)) (port_of (design_of d) value)

-- ---- to an end in time

-- a fact of each run of a module from this start over these beats that ends in time
abbrev pub OfTimely : ℕ → Module → Schema → Beats → Start → (List (List ℕ) → PortValues → Type 0) → Type 0
OfTimely latency m schema beats start P =
    (value : ℕ → Nets) (word : ℕ → Memories) → IsRunOver m schema beats start value word
    → EndsWithin latency beats (result_names m) (port_of m value) → P (result_names m) (port_of m value)

-- how a run ended that ends in time: it does not wait in vain
abbrev pub outcome_of : Ending → Outcome
outcome_of ending.Done = outcome.Done
outcome_of (ending.NoEnd cycle) = outcome.Done
outcome_of ending.WriteFault = outcome.WriteFault
outcome_of ending.Memory = outcome.Memory
