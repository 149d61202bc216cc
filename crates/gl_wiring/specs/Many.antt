-- The netlist of several results of one plan: every run of it over beats that keep the gaps is right for each.
use Rattle.std.specs.Prelude.{◌≡◌, ℕ, ◌+◌, ◌*◌, ◌<◌, ◌≤◌, List, ◌++◌, length, map, Bool, Some, codes, bytes_eq}
use Rattle.std.specs.List.{AllByRecursion, IsDistinct, flat_map, sum_by}
use Rattle.gl_algebra.specs.Known.{AreKnown}
use Rattle.gl_algebra.specs.FigureTable.{figures_of}
use Rattle.gl_algebra.specs.Shapes.{kinds_of, shape_of}
use Rattle.gl_algebra.specs.Small.{AreFigures}
use Rattle.gl_algebra.specs.Views.{reads_time}
use Rattle.gl_algebra.specs.declared.figures.Figures.{Figures}
use Rattle.gl_algebra.specs.declared.node.PlanNode.{PlanNode}
use Rattle.gl_algebra.specs.Roots.{output_part}
use Rattle.gl_net.specs.Net.{Net, memory_bits_of, register_bits_of, size_of}
use Rattle.gl_net.specs.PortValues.{PortShape, port_shapes}
use Rattle.gl_figures.specs.Reach.{keys_of_reached, lean_of_reached, store_of_reached, weight_of_reached}
use Rattle.gl_gaps.specs.Keeps.{gaps_with}
use Rattle.gl_root_gaps.specs.Together.{gap_together, ticks_together}
use Rattle.gl_schema.specs.Ports.{out_column}
use Rattle.gl_schema.specs.Right.{IsRight}
use Rattle.gl_schema.specs.Schemas.{IsSchema}
use Rattle.gl_gaps.specs.declared.Gaps.{Gaps}
use Rattle.gl_schema.specs.declared.schema.Schema.{Schema}
use Rattle.gl_wiring.specs.EmittedPorts.{column_widths}
use Rattle.gl_wiring.specs.Leaves.{widths_of}
use Rattle.gl_wiring.specs.Naming.{Naming, beside_others, seen_as}
use Rattle.gl_wiring.specs.Output.{input_ports, result_outputs}
use Rattle.gl_wiring.specs.StreamWires.{AreStreamLeaves}
use Rattle.gl_wiring.specs.Wired.{AreResultNames, KeepsGroup, OverBeats, plan_means}
use Rattle.gl_wiring.specs.declared.many.Root.{Root}
use Rattle.gl_wiring.specs.declared.names.ResultNames.{ResultNames}

-- the nodes of roots, and what the results of roots are called
abbrev pub ids_of : List Root → List ℕ
ids_of roots = map (λ (r : Root). r.id) roots

abbrev pub result_names : List Root → List ResultNames
result_names roots = map (λ (r : Root). r.names) roots

abbrev pub intos : List ResultNames → List (List ℕ)
intos names = map (λ (n : ResultNames). n.into) names

-- how the ports of a root's result are called
abbrev pub naming_at : Root → Naming
naming_at r = beside_others r.names.into

-- the outputs of a root's result
abbrev pub root_outputs : List PlanNode → Root → List PortShape
root_outputs nodes r = result_outputs (naming_at r) (widths_of (kinds_of nodes r.id)) r.names.columns

-- all ports: the inputs of the schema, and the outputs of each result in order
abbrev pub many_ports : Bool → Schema → List PlanNode → List Root → List PortShape
many_ports ticks schema nodes roots = input_ports ticks schema ++ flat_map (root_outputs nodes) roots

-- how far apart beats and ticks are: the greatest gaps of the nodes
abbrev pub gaps_together : List PlanNode → List ℕ → Gaps
gaps_together nodes ids = gaps_with (gap_together nodes ids) (ticks_together nodes ids)

-- a root that can be wired: its leaves are streams of the schema
pub record CanWireRoot (schema : Schema) (nodes : List PlanNode) (r : Root) : Type 0 where
  pub within : r.id < length nodes
  pub leaves : AreStreamLeaves schema.streams (shape_of nodes r.id).leaves
  pub named : AreResultNames (length (kinds_of nodes r.id)) r.names

-- several, no two of whose results are called the same
pub record CanWireAll (schema : Schema) (nodes : List PlanNode) (figures : List Figures) (roots : List Root)
    : Type 0 where
  pub schema' : IsSchema schema
  pub figured : AreFigures nodes figures
  pub known : AreKnown (column_widths schema.parameters) nodes
  pub each : AllByRecursion (CanWireRoot schema nodes) roots
  pub distinct : IsDistinct bytes_eq (intos (result_names roots))

-- over beats that keep the gaps a root's result is right, within the latency of its own node, and its group line never
-- falls
pub record IsRightFor (schema : Schema) (nodes : List PlanNode) (gaps : Gaps) (net : Net) (r : Root) : Type 0 where
  pub right : OverBeats schema gaps (λ all port.
      IsRight (plan_means nodes r.id) ((figures_of nodes r.id).le + 1) all (map out_column r.names.columns)
      (seen_as (naming_at r) port)) net
  pub group : OverBeats schema gaps (λ all port.
      KeepsGroup (map out_column r.names.columns) (seen_as (naming_at r) port)) net

-- the netlist of roots: the ports of the schema, with the tick where the plan reads the time, and of each result, at most
-- what the plan counts for each node that they reach once and for each output, and over beats that keep the greatest
-- gaps a right run for each of them
pub record AreWired (schema : Schema) (nodes : List PlanNode) (roots : List Root) (net : Net) : Type 0 where
  pub name : net.name ≡ Some (codes "q__many")
  pub ports : port_shapes net ≡ many_ports (reads_time nodes) schema nodes roots
  pub size : size_of net ≤ weight_of_reached nodes (ids_of roots) + sum_by (output_part nodes) (ids_of roots)
  pub registers : register_bits_of net
      ≤ 64 * (lean_of_reached nodes (ids_of roots) + sum_by (output_part nodes) (ids_of roots))
      + keys_of_reached nodes (ids_of roots)
  pub memories : memory_bits_of net ≤ store_of_reached nodes (ids_of roots)
  pub each : AllByRecursion (IsRightFor schema nodes (gaps_together nodes (ids_of roots)) net) roots
