-- What a part of an emitted netlist adds: ports under these names, and the nodes of inputs.
use Rattle.std.specs.Prelude.{◌≡◌, ℕ, List, [], ◌∷◌, ◌++◌, Some, map}
use Rattle.std.specs.List.{AllZip}
use Rattle.gl_schema.specs.declared.schema.Column.{Column}
use Rattle.gl_schema.specs.declared.schema.Stream.{Stream}
use Rattle.gl_schema.specs.Ports.{PortValues, in_valid, in_column}
use Rattle.gl_wiring.specs.declared.parts.Source.{Source}
use Rattle.gl_wiring.specs.EmittedPorts.{column_widths}
use Rattle.gl_net.specs.declared.node.Bus.{Bus}
use Rattle.gl_net.specs.declared.node.Node.{Node}
use Rattle.gl_net.specs.declared.node.Port.{Port}
use Rattle.gl_net.specs.declared.node.Direction.{Direction}
use Rattle.gl_net.specs.declared.node.Direction.TheVariants.{In}
use Rattle.gl_net.specs.Net.{Net, Run, IsRun, IsBus, IsPort, Value, shape_in, open_at, size_of, register_bits_of, memory_bits_of}
use Rattle.gl_net.specs.PortValues.{PortShape}

-- the names of the ports, in their order
abbrev pub names_of : Net → List (List ℕ)
names_of net = map (λ (p : Port). p.name) net.ports

-- the bits of buses, in order
abbrev pub bus_widths : List Bus → List ℕ
bus_widths buses = map (λ (b : Bus). b.width) buses

-- a port of this direction, name and bits
pub record IsPortOf (nodes : List Node) (p : Port) (shape : PortShape) : Type 0 where
  pub direction : p.direction ≡ shape.direction
  pub name : p.name ≡ shape.name
  pub bits : shape_in nodes p.node ≡ Some (Value shape.width)

abbrev pub ArePorts : List Node → List Port → List PortShape → Type 0
ArePorts nodes [] [] = Unit {0}
ArePorts nodes [] (s ∷ shapes) = ⊥
ArePorts nodes (p ∷ ports) [] = ⊥
ArePorts nodes (p ∷ ports) (s ∷ shapes) = IsPortOf nodes p s × ArePorts nodes ports shapes

-- these are all ports of the netlist, in their order
pub record HasPorts (net : Net) (shapes : List PortShape) : Type 0 where
  pub are : ArePorts net.nodes net.ports shapes

-- these ports are added behind those that there are
pub record Puts (old new : Net) (shapes : List PortShape) : Type 0 where
  pub all : (before : List PortShape) → HasPorts old before → HasPorts new (before ++ shapes)

-- the port is there in every cycle
abbrev pub HasPort : PortValues → List ℕ → Type 0
HasPort port name = (t : ℕ) → (v : ℕ) × (port t name ≡ Some v)

-- what stays where ports and whole blocks are added
pub record Extends (old new : Net) : Type 0 where
  pub runs : (run : Run) → IsRun new run → IsRun old run
  pub buses : (b : Bus) → IsBus old b → IsBus new b
  pub undriven : (n : ℕ) → open_at new n ≡ open_at old n
  pub ports : (direction : Direction) (name : List ℕ) (n : ℕ) → IsPort old direction name n
      → IsPort new direction name n
  pub module_name : new.name ≡ old.name

-- nothing but input nodes is added, and no bit of a register or a memory
pub record CostsNothing (old new : Net) : Type 0 where
  pub nodes : size_of new ≡ size_of old
  pub registers : register_bits_of new ≡ register_bits_of old
  pub memories : memory_bits_of new ≡ memory_bits_of old

-- a bus for each column, which is the input port of the column
abbrev pub AreInputs : Net → List ℕ → List Column → List Bus → Type 0
AreInputs net stream [] [] = Unit {0}
AreInputs net stream [] (b ∷ bs) = ⊥
AreInputs net stream (c ∷ cs) [] = ⊥
AreInputs net stream (c ∷ cs) (b ∷ bs) =
    (IsPort net In (in_column stream c.name) b.node × IsBus net b) × AreInputs net stream cs bs

abbrev pub HasInputs : Net → Stream → List Bus → Type 0
HasInputs net s buses = AreInputs net s.name s.columns buses

-- the ports of a stream are this source
pub record IsSourceOf (net : Net) (s : Stream) (source : Source) : Type 0 where
  pub port : IsPort net In (in_valid s.name) source.valid.node
  pub bus : IsBus net source.valid
  pub bit : source.valid.width ≡ 1
  pub inputs : AreInputs net s.name s.columns source.columns
  pub widths : bus_widths source.columns ≡ column_widths s.columns

-- one for each stream, in order
abbrev pub AreSources : Net → List Stream → List Source → Type 0
AreSources net streams sources = AllZip (IsSourceOf net) streams sources
