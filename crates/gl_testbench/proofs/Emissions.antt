-- The text of a netlist that takes beats of a schema, and what holds of its runs.
use Rattle.std.proofs.Common.{◌≡◌, ℕ, Bool, List, ◌∷◌, ◌++◌, map, Some, ap, sym, ◌∙◌}
use Rattle.std.specs.Prelude.{slice_get}
use Rattle.gl_gaps.specs.declared.Gaps.{Gaps}
use Rattle.gl_schema.specs.declared.schema.Schema.{Schema}
use Rattle.gl_schema.specs.Profile.{ProfilePort, clk, input, input_ports}
use Rattle.gl_schema.specs.Schemas.{IsSchema}
use Rattle.gl_net.specs.Net.{Net}
use Rattle.gl_net.specs.PortValues as circuit
use Rattle.gl_net.specs.PortValues.{port_values}
use Rattle.gl_verilog.specs.Module.{Declaration, Module}
use Rattle.gl_verilog.specs.Run.{input_values, is_input, port_of}
use Rattle.gl_verilog.specs.Text.{HasModule}
use Rattle.gl_verilog.specs.Valid.{IsValid}
use Rattle.gl_verilog.specs.Widths.{IsNet}
use Rattle.gl_verilog.specs.Laws.{EventRunsAreRuns, HasEventRuns}
use Rattle.gl_verilog_writer.specs.Meaning.{IsTextOf}
use Rattle.gl_verilog_ports.specs.Profile.{HasInputPorts, declared, ports_of}
use Rattle.gl_verilog_ports.proofs.Declared.{get_take}
use Rattle.gl_verilog_ports.proofs.Profiled.{clock_there, inputs_asked}
use Rattle.gl_testbench.proofs.Inputs.{AreAsked}
use Rattle.gl_testbench.proofs.Runs.{runs_asked}
use Rattle.gl_testbench.specs.Driven.{OverRuns}
use Rattle.gl_testbench.specs.Emission.{HoldsOfRuns, IsEmission, IsTraced, TakesBeats, profile_ports}
use Rattle.gl_testbench.proofs.Faces.{declared_net, faced}
use Rattle.gl_testbench.proofs.PinLemmas.{pins_other}
use Rattle.gl_testbench.proofs.Showing.{stimulus_same}

-- by the laws of event orders and of ports
module _ (two_phase : (m : Module) → IsValid m → EventRunsAreRuns m) (event_runs : (m : Module) → IsValid m → HasEventRuns m)
    (are_ports : (its : List ℕ) (m : Module) → HasModule its m → HasInputPorts m) (net : Net) (schema : Schema) (text : List ℕ) (t : IsTextOf net text) (ticks : Bool) (outputs : List ProfilePort) (is : IsSchema schema)
    (takes : TakesBeats ticks schema outputs net) where
  face : ports_of t.design ≡ map declared (input clk 1 ∷ profile_ports net)
  face = faced net t.design t.declared

  shaped : ports_of t.design ≡ map declared (input clk 1 ∷ input_ports ticks schema ++ outputs)
  shaped = face ∙ ap (λ (ps : List ProfilePort). map declared (input clk 1 ∷ ps)) takes.ports

  asked : AreAsked t.design schema
  asked = inputs_asked ticks t.design schema outputs takes.out t.has.valid.names shaped

  -- a run of the module is one of the netlist, with the same beats on its inputs
  traced : (gaps : Gaps) → OverRuns t.design schema gaps (IsTraced net schema)
  traced gaps = λ beats value word driven.
      let r = t.runs value word (two_phase t.design t.has.valid value word driven.run) in
      record {
        run = r.run;
        trace = r.trace;
        stimulus = stimulus_same schema beats (input_values t.design value) (circuit.input_values net r.run) r.inputs (pins_other schema beats) driven.stimulus;
        ports = λ c name other. sym (r.ports c name other);
      }

  pub emission : IsEmission net schema text
  emission = record {
    design = t.design;
    has = t.has;
    name' = t.name';
    face = face;
    inputs = record {
      clock = clock_there ticks t.design schema outputs takes.out t.has.valid.names shaped;
      inputs = λ n d at kind other. asked n d (are_ports text t.design t.has n d at (ap is_input kind)) kind other;
    };
    registers = t.registers;
    memories = t.memories;
    runs = runs_asked t.design schema t.has.valid is asked (event_runs t.design t.has.valid);
    traced = traced;
  }

-- ---- the law, and what else is known of a text's module

module _ (net : Net) (schema : Schema) (text : List ℕ) (e : IsEmission net schema text) where
  -- what does not look at the clock, and holds of all traces of the netlist, holds of all runs of the module
  pub holds_of_runs : HoldsOfRuns net schema e.design
  holds_of_runs = λ gaps P past over beats value word driven.
      let r = e.traced gaps beats value word driven in
      past beats (port_values net r.run) (port_of e.design value) r.ports (over r.run beats r.trace driven.are driven.keep r.stimulus)

  pub inputs_are_asked : AreAsked e.design schema
  inputs_are_asked n d at kind other = e.inputs.inputs n d (get_take e.design.ports e.design.declarations n d at) kind other

  -- no port is a memory
  pub ports_are_nets : (n : ℕ) (d : Declaration) → slice_get (ports_of e.design) n ≡ Some d → IsNet d.kind
  ports_are_nets n d at = declared_net (input clk 1 ∷ profile_ports net) n d (ap (λ (ds : List Declaration). slice_get ds n) (sym e.face) ∙ at)
