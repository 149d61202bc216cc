-- The wires of a schema's streams: their lines and columns are the input ports; and the line of ticks, which is one.
use Rattle.std.specs.Prelude.{◌≡◌, ℕ, List, Bool, true, false, Option, Some, None, slice_get}
use Rattle.std.specs.List.{AllByRecursion, AllZip}
use Rattle.gl_algebra.specs.declared.node.PlanNode.{PlanNode}
use Rattle.gl_algebra.specs.declared.node.PlanNode.TheVariants as node
use Rattle.gl_net.specs.Net.{Net, IsBit, IsPort}
use Rattle.gl_net.specs.declared.node.Bit.{Bit}
use Rattle.gl_net.specs.declared.node.Bus.{Bus}
use Rattle.gl_net.specs.declared.node.Direction.TheVariants.{In}
use Rattle.gl_schema.specs.Ports.{eos, in_valid, tick}
use Rattle.gl_schema.specs.Schemas.{kinds_of}
use Rattle.gl_schema.specs.declared.schema.Stream.{Stream}
use Rattle.gl_wire.specs.Wire.{widths}
use Rattle.gl_wire.specs.declared.wire.Wire.{Wire}
use Rattle.gl_wiring.specs.Emitted.{AreInputs}
use Rattle.gl_wiring.specs.EmittedPorts.{column_widths}
use Rattle.gl_wiring.specs.declared.parts.Source.{Source}

-- the wire of a stream: its valid line and its columns are the stream's ports, and all streams end together
pub record IsStreamWire (net : Net) (s : Stream) (w : Wire) : Type 0 where
  pub valid : IsBit net w.valid
  pub valid_port : IsPort net In (in_valid s.name) w.valid.node
  pub end : IsBit net w.eos
  pub end_port : IsPort net In eos w.eos.node
  pub columns : AreInputs net s.name s.columns w.columns
  pub same_widths : widths w.columns ≡ column_widths s.columns

-- the wire of these ports, and of those of a stream
abbrev pub wire_at : Bus → List Bus → Bit → Wire
wire_at valid columns end = record { valid = record { node = valid.node }; eos = end; columns = columns }

abbrev pub wire_from : Bit → Source → Wire
wire_from end source = wire_at source.valid source.columns end

-- one for each stream, in order
abbrev pub AreStreamWires : Net → List Stream → List Wire → Type 0
AreStreamWires net streams wires = AllZip (IsStreamWire net) streams wires

-- the line of ticks, where it is asked for
abbrev pub IsTickLine : Net → Bool → Option Bit → Type 0
IsTickLine net true None = ⊥
IsTickLine net true (Some line) = IsBit net line × IsPort net In tick line.node
IsTickLine net false line = line ≡ None

-- a leaf of a plan that is one of these streams, with the kinds of its columns
pub record IsStreamLeaf (streams : List Stream) (leaf : PlanNode) : Type 0 where
  pub number : ℕ
  pub stream : Stream
  pub there : slice_get streams number ≡ Some stream
  pub is : leaf ≡ node.Stream number (kinds_of stream.columns)

abbrev pub AreStreamLeaves : List Stream → List PlanNode → Type 0
AreStreamLeaves streams leaves = AllByRecursion (IsStreamLeaf streams) leaves
