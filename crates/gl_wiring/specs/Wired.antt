-- The netlist of a plan: every run of it over beats that keep the gaps is right for the plan.
use Rattle.std.specs.Prelude.{◌≡◌, ℕ, suc, ◌<◌, ◌≤◌, List, ◌++◌, length, map, Option, Some, IsTrue, codes, bytes_eq, slice_index}
use Rattle.std.specs.List.{AllByRecursion, IsDistinct}
use Rattle.gl_algebra.specs.Known.{AreKnown}
use Rattle.gl_algebra.specs.Results.{Inputs, IsPlanResult}
use Rattle.gl_algebra.specs.Shapes.{kinds_of, shape_of}
use Rattle.gl_algebra.specs.Small.{AreFigures}
use Rattle.gl_algebra.specs.Views.{reads_time}
use Rattle.gl_algebra.specs.declared.figures.Figures.{Figures}
use Rattle.gl_algebra.specs.declared.figures.Spare.{Spare}
use Rattle.gl_algebra.specs.declared.node.PlanNode.{PlanNode}
use Rattle.gl_algebra.specs.Roots.{latency_of, most_memory, most_registers, spare_at, weight_with_output}
use Rattle.gl_root_gaps.specs.Roots.{gap_of, ticks_of}
use Rattle.gl_net.specs.Net.{Net, Run, IsTrace, memory_bits_of, register_bits_of, size_of}
use Rattle.gl_net.specs.PortValues.{input_values, port_shapes, port_values}
use Rattle.gl_schema.specs.Beats as beats
use Rattle.gl_schema.specs.Beats.{Beats, AreBeats}
use Rattle.gl_gaps.specs.Keeps.{KeepsGaps, gaps_with}
use Rattle.gl_schema.specs.Names.{IsName}
use Rattle.gl_schema.specs.Ports.{IsStimulus, PortValues, out_column}
use Rattle.gl_schema.specs.Right.{Meaning, IsRight}
use Rattle.gl_schema.specs.Schemas.{IsSchema}
use Rattle.gl_schema.specs.Seen.{shown}
use Rattle.gl_gaps.specs.declared.Gaps.{Gaps}
use Rattle.gl_schema.specs.declared.schema.Schema.{Schema}
use Rattle.gl_wiring.specs.EmittedPorts.{column_widths}
use Rattle.gl_wiring.specs.Output.{plan_ports}
use Rattle.gl_wiring.specs.StreamWires.{AreStreamLeaves}
use Rattle.gl_wiring.specs.declared.names.ResultNames.{ResultNames}

-- what comes in to a query as what the leaves of its plan give; no leaf of a whole plan is a body's input
abbrev pub plan_inputs : beats.Inputs → Inputs
plan_inputs inputs =
    record {
      streams = inputs.rows;
      places = inputs.places;
      times = inputs.times;
      ticks = inputs.ticks;
      sets = λ k. slice_index inputs.sets k;
      body = inputs.rows 0;
      body_places = inputs.places 0;
    }

-- what a plan means: the results of its root
abbrev pub plan_means : List PlanNode → ℕ → Meaning
plan_means nodes root inputs rows spill = IsPlanResult nodes root (plan_inputs inputs) rows spill

-- the group line never falls, and from the end on it keeps its value
pub record KeepsGroup (outs : List (List ℕ)) (port : PortValues) : Type 0 where
  pub lasts : (n : ℕ) → IsTrue (shown port outs n).group → IsTrue (shown port outs (suc n)).group
  pub stays : (e n : ℕ) → IsTrue (shown port outs e).end → e ≤ n → (shown port outs n).group ≡ (shown port outs e).group

-- this holds of each run of the netlist that has beats of the schema on its input ports which keep the gaps
abbrev pub OverBeats : Schema → Gaps → (Beats → PortValues → Type 0) → Net → Type 0
OverBeats schema gaps P net =
    (run : Run) (all : Beats) → IsTrace net run → AreBeats schema all → KeepsGaps gaps all
    → IsStimulus schema all (input_values net run)
    → P all (port_values net run)

-- how far apart the beats of a plan are to be
abbrev pub gaps_of : List PlanNode → ℕ → Gaps
gaps_of nodes root = gaps_with (gap_of nodes root) (ticks_of nodes root)

-- names of a result and its columns: as many as this, no two the same
pub record AreResultNames (many : ℕ) (names : ResultNames) : Type 0 where
  pub many' : length names.columns ≡ many
  pub into : IsName names.into
  pub columns : AllByRecursion IsName names.columns
  pub distinct : IsDistinct bytes_eq names.columns

-- a plan that can be wired: its leaves are streams of the schema, and the parameters that it names are the schema's
pub record CanWire (schema : Schema) (nodes : List PlanNode) (root : ℕ) (figures : List Figures) (spare : Option Spare)
    (names : ResultNames) : Type 0 where
  pub schema' : IsSchema schema
  pub within : root < length nodes
  pub leaves : AreStreamLeaves schema.streams (shape_of nodes root).leaves
  pub figured : AreFigures nodes figures
  pub known : AreKnown (column_widths schema.parameters) nodes
  pub spared : spare ≡ spare_at nodes root
  pub named : AreResultNames (length (kinds_of nodes root)) names

-- its netlist: the ports of the schema, with the tick where the plan reads the time, and of the result, at most what
-- the plan counts with its output, and over beats that keep the gaps a right run, within the latency, whose group line
-- never falls
pub record IsWired (schema : Schema) (nodes : List PlanNode) (root : ℕ) (names : ResultNames) (net : Net) : Type 0 where
  pub name : net.name ≡ Some (codes "q__" ++ names.into)
  pub ports : port_shapes net ≡ plan_ports (reads_time nodes) schema (kinds_of nodes root) names.columns
  pub size : size_of net ≤ weight_with_output nodes root
  pub registers : register_bits_of net ≤ most_registers nodes root
  pub memories : memory_bits_of net ≤ most_memory nodes root
  pub right : OverBeats schema (gaps_of nodes root) (λ all port.
      IsRight (plan_means nodes root) (latency_of nodes root) all (map out_column names.columns) port) net
  pub group : OverBeats schema (gaps_of nodes root) (λ all port. KeepsGroup (map out_column names.columns) port) net
