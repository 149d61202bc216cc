-- The runs of a module over the beats of a schema.
use Rattle.std.specs.Prelude.{ℕ}
use Rattle.gl_schema.specs.declared.schema.Schema.{Schema}
use Rattle.gl_schema.specs.Beats.{Beats, AreBeats}
use Rattle.gl_schema.specs.Ports.{IsStimulus}
use Rattle.gl_verilog.specs.Module.{Module, Nets, Memories}
use Rattle.gl_verilog.specs.Run.{Fit, input_values}
use Rattle.gl_verilog.specs.Runnable.{SameState}
use Rattle.gl_verilog.specs.Events.{IsEventRun}
use Rattle.gl_verilog.specs.declared.start.Start.{Start}
use Rattle.gl_sim.specs.Starts.{register_at, word_at}

-- a run of the module in some order of events with these beats on its inputs, which begins with these registers and
-- words
pub record RunsOver (m : Module) (schema : Schema) (beats : Beats) (start : Nets) (words : Memories) : Type 0 where
  pub value : ℕ → Nets
  pub word : ℕ → Memories
  pub run : IsEventRun m value word
  pub starts : SameState m.declarations start words (value 0) (word 0)
  pub stimulus : IsStimulus schema beats (input_values m value)

-- there is one from any registers and words over any beats of the schema
abbrev pub HasRunsOver : Module → Schema → Type 0
HasRunsOver m schema =
    (beats : Beats) (start : Nets) (words : Memories) → AreBeats schema beats → Fit m.declarations start words
    → RunsOver m schema beats start words

-- over all beats of the schema there are runs from any start, all of 0 or drawn
abbrev pub HasStartedRuns : Module → Schema → Type 0
HasStartedRuns m schema =
    (beats : Beats) (start : Start) → AreBeats schema beats
    → RunsOver m schema beats (register_at start m.declarations) (word_at start m.declarations)
