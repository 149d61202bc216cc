-- What is seen of a netlist from without: its ports, and what a run shows on them.
use Rattle.std.specs.Prelude.{ℕ, Bool, true, false, if◌then◌else◌, List, Option, Some, None, find, map, option_map, option_and_then, bytes_eq}
use Rattle.gl_net.specs.declared.node.Port.{Port}
use Rattle.gl_net.specs.declared.node.Direction.{Direction}
use Rattle.gl_net.specs.declared.node.Direction.TheVariants.{In, Out}
use Rattle.gl_net.specs.Net.{Net, Run, Shape, Value, Words, shape_in}

-- the value in a cycle of the port of a name, None where the netlist lacks it
abbrev pub port_values : Net → Run → ℕ → List ℕ → Option ℕ
port_values net run t name =
    option_map (λ (p : Port). run.at t p.node) (find (λ (p : Port). bytes_eq p.name name) net.ports)

-- a port leads into the netlist
abbrev pub leads_in : Direction → Bool
leads_in In = true
leads_in Out = false

-- the input port of a name, None where the netlist lacks it
abbrev pub input_port : Net → List ℕ → Option Port
input_port net name =
    option_and_then (λ (p : Port). if leads_in p.direction then Some p else None)
    (find (λ (p : Port). bytes_eq p.name name) net.ports)

-- the value in a cycle of the input port of a name, None where the netlist has no such input
abbrev pub input_values : Net → Run → ℕ → List ℕ → Option ℕ
input_values net run t name = option_map (λ (p : Port). run.at t p.node) (input_port net name)

-- the bits of what a port leads to
abbrev pub bits_of : Option Shape → ℕ
bits_of (Some (Value width)) = width
bits_of (Some (Words address_bits width)) = width
bits_of None = 0

-- a port as it is seen from without: its direction, its name and its bits
pub record PortShape : Type 0 where
  pub direction : Direction
  pub name : List ℕ
  pub width : ℕ

-- a port as it is seen from without: its direction, its name and its width
abbrev pub port_shape : Net → Port → PortShape
port_shape net p = record { direction = p.direction; name = p.name; width = bits_of (shape_in net.nodes p.node) }

-- all ports, in their order
unfoldable pub port_shapes : Net → List PortShape
port_shapes net = map (port_shape net) net.ports
