-- What the nodes and ports of several results' netlist are, before it is finished.
use Rattle.std.specs.Prelude.{◌≡◌, ℕ, ◌+◌, ◌*◌, ◌≤◌, List, length, Option, Some, slice_get}
use Rattle.std.specs.List.{AllByRecursion, flat_map, sum_by}
use Rattle.gl_algebra.specs.Shapes.{kinds_of}
use Rattle.gl_algebra.specs.Views.{reads_time}
use Rattle.gl_algebra.specs.declared.node.PlanNode.{PlanNode}
use Rattle.gl_algebra.specs.Roots.{output_part}
use Rattle.gl_net.specs.Finished.{HasReset}
use Rattle.gl_net.specs.Net.{Net, memory_bits_of, register_bits_of, size_of}
use Rattle.gl_net.specs.PortValues.{port_shapes}
use Rattle.gl_figures.specs.Reach.{keys_of_reached, lean_of_reached, store_of_reached, weight_of_reached}
use Rattle.gl_schema.specs.declared.schema.Schema.{Schema}
use Rattle.gl_wire.specs.Costs.{Cost, CostsAtMost}
use Rattle.gl_wire.specs.declared.emitted.Emitted.{Emitted}
use Rattle.gl_wiring.specs.Emitted.{Extends, Puts}
use Rattle.gl_wiring.specs.Many.{ids_of, many_ports, naming_at, root_outputs}
use Rattle.gl_wiring.specs.Output.{IsOutput}
use Rattle.gl_wiring.specs.PlanNet.{IsRootNet}
use Rattle.gl_wiring.specs.Roots.{alone_figures}
use Rattle.gl_root_gaps.specs.Together.{ticks_alone}
use Rattle.gl_wiring.specs.Put.{HasColumns}
use Rattle.gl_wiring.specs.declared.many.Root.{Root}

-- a circuit in a table that an output can stand behind
pub record CanShow (nodes : List PlanNode) (net : Net) (table : List (Option Emitted)) (r : Root) : Type 0 where
  pub e : Emitted
  pub there : slice_get table r.id ≡ Some (Some e)
  pub columns : HasColumns nodes r.id net e
  pub as_many : length r.names.columns ≡ length (kinds_of nodes r.id)

-- and one that an output stands behind
pub record IsShown (net : Net) (table : List (Option Emitted)) (r : Root) : Type 0 where
  pub e : Emitted
  pub there : slice_get table r.id ≡ Some (Some e)
  pub output : IsOutput (naming_at r) net r.names.columns e

-- what a plan counts for the outputs behind its nodes
abbrev pub outputs_cost : List PlanNode → List ℕ → Cost
outputs_cost nodes ids = record {
  nodes = sum_by (output_part nodes) ids;
  registers = 64 * sum_by (output_part nodes) ids;
  memories = 0;
}

-- outputs of roots behind their circuits in a table, no more than the plan counts for them
pub record AreShownBy (nodes : List PlanNode) (table : List (Option Emitted)) (old new : Net) (roots : List Root)
    : Type 0 where
  pub extends : Extends old new
  pub ports : Puts old new (flat_map (root_outputs nodes) roots)
  pub cost : CostsAtMost old new (outputs_cost nodes (ids_of roots))
  pub shown : AllByRecursion (IsShown new table) roots

-- the circuits of all roots between the wires of the streams, and an output for each
pub record IsManyNet (schema : Schema) (nodes : List PlanNode) (roots : List Root) (net : Net) : Type 0 where
  pub each : AllByRecursion (λ (r : Root).
      IsRootNet schema nodes r.id (alone_figures nodes r.id) (ticks_alone nodes r.id) (naming_at r) r.names.columns net)
      roots
  pub reset : HasReset net
  pub ports : port_shapes net ≡ many_ports (reads_time nodes) schema nodes roots
  pub size : size_of net ≤ weight_of_reached nodes (ids_of roots) + sum_by (output_part nodes) (ids_of roots)
  pub registers : register_bits_of net
      ≤ 64 * (lean_of_reached nodes (ids_of roots) + sum_by (output_part nodes) (ids_of roots))
      + keys_of_reached nodes (ids_of roots)
  pub memories : memory_bits_of net ≤ store_of_reached nodes (ids_of roots)
