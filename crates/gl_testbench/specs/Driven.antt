-- Runs of a module that beats drive, and what holds over all of them.
use Rattle.std.specs.Prelude.{ℕ}
use Rattle.gl_gaps.specs.declared.Gaps.{Gaps}
use Rattle.gl_schema.specs.declared.schema.Schema.{Schema}
use Rattle.gl_schema.specs.Beats.{Beats, AreBeats}
use Rattle.gl_gaps.specs.Keeps.{KeepsGaps}
use Rattle.gl_schema.specs.Ports.{IsStimulus, PortValues}
use Rattle.gl_verilog.specs.Module.{Module, Nets, Memories}
use Rattle.gl_verilog.specs.Run.{port_of, input_values}
use Rattle.gl_verilog.specs.Events.{IsEventRun}

-- beats of the schema that keep the gaps drive the module in this run of it, whatever the order of its events
pub record Drives (m : Module) (schema : Schema) (gaps : Gaps) (beats : Beats) (value : ℕ → Nets)
    (word : ℕ → Memories) : Type 0 where
  pub are : AreBeats schema beats
  pub keep : KeepsGaps gaps beats
  pub run : IsEventRun m value word
  pub stimulus : IsStimulus schema beats (input_values m value)

-- what is said of beats and of what the ports carry in each cycle
abbrev pub Property : Type 1
Property = Beats → PortValues → Type 0

-- a property holds of the beats and of the module's ports, whatever drives the module
abbrev pub OverRuns : Module → Schema → Gaps → Property → Type 0
OverRuns m schema gaps P = (beats : Beats) (value : ℕ → Nets) (word : ℕ → Memories)
    → Drives m schema gaps beats value word → P beats (port_of m value)
