-- What the nodes and ports of a plan's netlist are, before it is finished.
use Rattle.std.specs.Prelude.{◌≡◌, ℕ, ◌<◌, ◌≤◌, List, [], length, map, Option}
use Rattle.gl_algebra.specs.Fits.{IsPlan}
use Rattle.gl_algebra.specs.Shapes.{kinds_of}
use Rattle.gl_algebra.specs.Views.{reads_time}
use Rattle.gl_algebra.specs.declared.figures.Figures.{Figures}
use Rattle.gl_algebra.specs.declared.node.PlanNode.{PlanNode}
use Rattle.gl_algebra.specs.Roots.{most_memory, most_registers, weight_with_output}
use Rattle.gl_net.specs.declared.node.Bit.{Bit}
use Rattle.gl_net.specs.declared.node.Port.{Port}
use Rattle.gl_net.specs.Finished.{HasReset}
use Rattle.gl_net.specs.Net.{Net, Run, IsRun, held_ports, memory_bits_of, register_bits_of, size_of}
use Rattle.gl_net.specs.PortValues.{port_shapes}
use Rattle.gl_schema.specs.Ports.{in_parameter}
use Rattle.gl_schema.specs.declared.schema.Column.{Column}
use Rattle.gl_schema.specs.declared.schema.Schema.{Schema}
use Rattle.gl_wire.specs.declared.emitted.Emitted.{Emitted}
use Rattle.gl_wire.specs.declared.wire.Wire.{Wire}
use Rattle.gl_wiring.specs.Naming.{Naming, plain}
use Rattle.gl_wiring.specs.Output.{IsOutput, plan_ports}
use Rattle.gl_wiring.specs.Roots.{ServesOnceBy, once_figures, once_ticks}
use Rattle.gl_wiring.specs.StreamWires.{AreStreamWires, IsTickLine}

-- no port, no node and no bit
pub record IsEmpty (net : Net) : Type 0 where
  pub ports : net.ports ≡ []
  pub size : size_of net ≡ 0
  pub registers : register_bits_of net ≡ 0
  pub memories : memory_bits_of net ≡ 0

-- the ports that are held are those of the parameters, in their order
abbrev pub HasParameters : Net → Schema → Type 0
HasParameters net schema =
    map (λ (p : Port). p.name) (held_ports net.ports)
    ≡ map (λ (c : Column). in_parameter c.name) schema.parameters

-- the circuit of a root, with these figures, over ticks so far apart, between the wires of the streams, with the line
-- of ticks, the ports of the parameters, and an output whose ports are called so
pub record IsRootNet (schema : Schema) (nodes : List PlanNode) (root : ℕ) (f : Figures) (ticks : ℕ) (naming : Naming)
    (names : List (List ℕ)) (net : Net) : Type 0 where
  pub plan : IsPlan nodes
  pub within : root < length nodes
  pub leaves : List Wire
  pub tick : Option Bit
  pub e : Emitted
  pub wires : AreStreamWires net schema.streams leaves
  pub line : IsTickLine net (reads_time nodes) tick
  pub parameters : HasParameters net schema
  pub serves : (run : Run) → IsRun net run → ServesOnceBy f ticks nodes root tick leaves e run
  pub output : IsOutput naming net names e
  pub reset : HasReset net

-- that of a plan's root, and all ports and costs
pub record IsPlanNet (schema : Schema) (nodes : List PlanNode) (root : ℕ) (names : List (List ℕ)) (net : Net)
    : Type 0 where
  pub shown : IsRootNet schema nodes root (once_figures nodes root) (once_ticks nodes root) plain names net
  pub ports : port_shapes net ≡ plan_ports (reads_time nodes) schema (kinds_of nodes root) names
  pub size : size_of net ≤ weight_with_output nodes root
  pub registers : register_bits_of net ≤ most_registers nodes root
  pub memories : memory_bits_of net ≤ most_memory nodes root
