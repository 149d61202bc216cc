-- What the text of a netlist means: it has a module, whose ports show in every run what the netlist's do.
use Rattle.std.specs.Prelude.{◌≡◌, ℕ, false, List, ◌∷◌, ◌++◌, map, Some, take, codes, not, ◌==◌, bytes_eq}
use Rattle.gl_net.specs.declared.node.Port.{Port}
use Rattle.gl_net.specs.declared.node.Direction.{Direction}
use Rattle.gl_net.specs.declared.node.Direction.TheVariants.{In, Out}
use Rattle.gl_net.specs.Net.{Net, Run, IsTrace, shape_in, register_bits_of, memory_bits_of}
use Rattle.gl_net.specs.PortValues as circuit
use Rattle.gl_net.specs.PortValues.{port_values, bits_of}
use Rattle.gl_verilog.specs.Module.{Module, Declaration, Kind, Input, OutputWire, Nets, Memories}
use Rattle.gl_verilog.specs.Order.{IsOrdered}
use Rattle.gl_verilog.specs.Cost.{register_bits, memory_bits}
use Rattle.gl_verilog.specs.Run.{IsRun, port_of, input_values}
use Rattle.gl_verilog.specs.Text.{HasModule}
use Rattle.gl_verilog_writer.specs.declared.label.Labels.{Labels}
use Rattle.gl_verilog_writer.specs.Comments.{header_text}
use Rattle.gl_verilog_writer.specs.Labelled.{head_lines}

-- a port that leads in is an input, and one that leads out an output that an assignment drives
abbrev pub kind_of : Direction → Kind
kind_of In = Input
kind_of Out = OutputWire

-- the declaration of a port; one of a single bit is no vector
abbrev pub declaration_of : Net → Port → Declaration
declaration_of net p =
    let width = bits_of (shape_in net.nodes p.node) in
    record { name = p.name; width = width; is_vector = not (width == 1); kind = kind_of p.direction }

-- the clock, which is the first port
abbrev pub clock : Declaration
clock = record { name = codes "clk"; width = 1; is_vector = false; kind = Input }

-- a run of the module is one of the netlist: its ports, the clock aside, show in each cycle what the netlist's do, and
-- so do its input ports alone
pub record IsRunOf (net : Net) (m : Module) (value : ℕ → Nets) : Type 0 where
  pub run : Run
  pub trace : IsTrace net run
  pub ports : (t : ℕ) (name : List ℕ) → bytes_eq name (codes "clk") ≡ false
      → port_of m value t name ≡ port_values net run t name
  pub inputs : (t : ℕ) (name : List ℕ) → bytes_eq name (codes "clk") ≡ false
      → input_values m value t name ≡ circuit.input_values net run t name

-- the text has a module of the netlist's name and ports, whose assignments stand in an order in which each reads only
-- what is driven before it; it declares the netlist's register bits and memory bits, and each of its runs, from any
-- start and with any inputs, is one of the netlist
pub record IsTextOf (net : Net) (text : List ℕ) : Type 0 where
  pub design : Module
  pub has : HasModule text design
  pub name' : Some design.name ≡ net.name
  pub declared : take design.ports design.declarations ≡ clock ∷ map (declaration_of net) net.ports
  pub ordered : IsOrdered design.assignments
  pub registers : register_bits design ≡ register_bits_of net
  pub memories : memory_bits design ≡ memory_bits_of net
  pub runs : (value : ℕ → Nets) (word : ℕ → Memories) → IsRun design value word → IsRunOf net design value

-- the text begins with the lines in front, as comments
pub record HasHeader (labels : Labels) (text : List ℕ) : Type 0 where
  pub rest : List ℕ
  pub is : text ≡ header_text (head_lines labels) ++ rest
