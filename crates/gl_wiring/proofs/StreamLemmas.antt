-- The wires of streams, and the line of ticks, while a netlist grows, and as wires of the leaves of a plan.
use Rattle.std.proofs.Common.{◌≡◌, ℕ, zero, suc, Bool, true, false, List, [], ◌∷◌, ◌++◌, Option, Some, None, refl, sym, ap, subst, ◌∙◌, arith}
use Rattle.std.specs.Prelude.{map, is_some, slice_get, IsTrue}
use Rattle.gl_bits.proofs.AllLists.{zip_append}
use Rattle.gl_bits.proofs.Options.{some_same}
use Rattle.gl_values.specs.Kinds.{width_of}
use Rattle.gl_algebra.specs.declared.node.PlanNode.{PlanNode}
use Rattle.gl_algebra.specs.declared.node.PlanNode.TheVariants as node
use Rattle.gl_net.specs.Finished.{HasReset}
use Rattle.gl_net.specs.Net.{Net, IsBit, IsBus, IsPort, reset_name}
use Rattle.gl_net.specs.declared.node.Bit.{Bit}
use Rattle.gl_net.specs.declared.node.Bus.{Bus}
use Rattle.gl_net.specs.declared.node.Direction.TheVariants.{In}
use Rattle.gl_wiring.specs.Leaves.{HasLeaf, HasLine, HaveLeaves, HaveLine, widths_of}
use Rattle.gl_schema.specs.Ports.{eos, in_valid, tick}
use Rattle.gl_schema.specs.Schemas.{kinds_of}
use Rattle.gl_schema.specs.declared.schema.Column.{Column}
use Rattle.gl_schema.specs.declared.schema.Stream.{Stream}
use Rattle.gl_wire.specs.Faults.{IsLine}
use Rattle.gl_wire.specs.Wire.{IsWire}
use Rattle.gl_wire.specs.declared.wire.Wire.{Wire}
use Rattle.gl_wire.proofs.GateLemmas.{bit_of}
use Rattle.gl_wiring.specs.Emitted.{AreInputs, AreSources, Extends, IsSourceOf}
use Rattle.gl_wiring.specs.EmittedPorts.{column_widths}
use Rattle.gl_wiring.specs.StreamWires.{AreStreamLeaves, AreStreamWires, IsStreamLeaf, IsStreamWire, IsTickLine, wire_from}
use Rattle.gl_wiring.specs.declared.parts.Source.{Source}
use Rattle.gl_wiring.proofs.Inputs.{inputs_stay}

-- ---- in a netlist that grows

pub bit_stays : (old new : Net) (b : Bit) → Extends old new → IsBit old b → IsBit new b
bit_stays old new b x h =
    record { there = (x.buses (record { node = b.node; width = 1 }) (record { there = h.there; width = record { some' = omega arith; most = omega arith } })).there }

source_stays : (old new : Net) (s : Stream) (p : Source) → Extends old new → IsSourceOf old s p → IsSourceOf new s p
source_stays old new s p x h = record {
  port = x.ports In (in_valid s.name) p.valid.node h.port;
  bus = x.buses p.valid h.bus;
  bit = h.bit;
  inputs = inputs_stay old new s.name s.columns p.columns x h.inputs;
  widths = h.widths;
}

pub sources_stay : (old new : Net) (ss : List Stream) (ps : List Source) → Extends old new → AreSources old ss ps → AreSources new ss ps
sources_stay old new [] [] x h = tt
sources_stay old new [] (p ∷ ps) x h = absurd h
sources_stay old new (s ∷ ss) [] x h = absurd h
sources_stay old new (s ∷ ss) (p ∷ ps) x h = (source_stays old new s p x h.0, sources_stay old new ss ps x h.1)

-- one stream more
pub sources_push : (old new : Net) (ss : List Stream) (ps : List Source) (s : Stream) (p : Source) → Extends old new
    → AreSources old ss ps → IsSourceOf new s p → AreSources new (ss ++ s ∷ []) (ps ++ p ∷ [])
sources_push old new ss ps s p x h is = zip_append (IsSourceOf new) ss (s ∷ []) ps (p ∷ []) (sources_stay old new ss ps x h) (is, tt)

-- the ports of streams, with one end
pub wires_made : (net : Net) (ss : List Stream) (ps : List Source) (end : Bit) → IsBit net end → IsPort net In eos end.node
    → AreSources net ss ps → AreStreamWires net ss (map (wire_from end) ps)
wires_made net [] [] end is port h = tt
wires_made net [] (p ∷ ps) end is port h = absurd h
wires_made net (s ∷ ss) [] end is port h = absurd h
wires_made net (s ∷ ss) (p ∷ ps) end is port h = (
  record {
    valid = bit_of net p.valid (record { node = p.valid.node }) h.0.bus h.0.bit refl;
    valid_port = h.0.port;
    end = is;
    end_port = port;
    columns = h.0.inputs;
    same_widths = h.0.widths;
  },
  wires_made net ss ps end is port h.1,
)

wire_stays : (old new : Net) (s : Stream) (w : Wire) → Extends old new → IsStreamWire old s w → IsStreamWire new s w
wire_stays old new s w x h = record {
  valid = bit_stays old new w.valid x h.valid;
  valid_port = x.ports In (in_valid s.name) w.valid.node h.valid_port;
  end = bit_stays old new w.eos x h.end;
  end_port = x.ports In eos w.eos.node h.end_port;
  columns = inputs_stay old new s.name s.columns w.columns x h.columns;
  same_widths = h.same_widths;
}

pub wires_stay : (old new : Net) (ss : List Stream) (ws : List Wire) → Extends old new → AreStreamWires old ss ws → AreStreamWires new ss ws
wires_stay old new [] [] x h = tt
wires_stay old new [] (w ∷ ws) x h = absurd h
wires_stay old new (s ∷ ss) [] x h = absurd h
wires_stay old new (s ∷ ss) (w ∷ ws) x h = (wire_stays old new s w x h.0, wires_stay old new ss ws x h.1)

-- ---- by their places

-- the wire of the stream at a place, and the stream of the wire there
pub record StreamAt (net : Net) (ss : List Stream) (ws : List Wire) (k : ℕ) : Type 0 where
  pub stream : Stream
  pub wire : Wire
  pub there : slice_get ss k ≡ Some stream
  pub at : slice_get ws k ≡ Some wire
  pub is : IsStreamWire net stream wire

pub stream_at : (net : Net) (ss : List Stream) (ws : List Wire) (k : ℕ) (s : Stream) → AreStreamWires net ss ws
    → slice_get ss k ≡ Some s → StreamAt net ss ws k
stream_at net [] [] k s h e = absurd cc
stream_at net [] (w ∷ ws) k s h e = absurd h
stream_at net (x ∷ ss) [] k s h e = absurd h
stream_at net (x ∷ ss) (w ∷ ws) zero s h e = record { stream = x; wire = w; there = refl; at = refl; is = h.0 }
stream_at net (x ∷ ss) (w ∷ ws) (suc k) s h e =
    let r = stream_at net ss ws k s h.1 e in record { stream = r.stream; wire = r.wire; there = r.there; at = r.at; is = r.is }

pub wire_at : (net : Net) (ss : List Stream) (ws : List Wire) (k : ℕ) (w : Wire) → AreStreamWires net ss ws
    → slice_get ws k ≡ Some w → StreamAt net ss ws k
wire_at net [] [] k w h e = absurd cc
wire_at net [] (v ∷ ws) k w h e = absurd h
wire_at net (x ∷ ss) [] k w h e = absurd h
wire_at net (x ∷ ss) (v ∷ ws) zero w h e = record { stream = x; wire = v; there = refl; at = refl; is = h.0 }
wire_at net (x ∷ ss) (v ∷ ws) (suc k) w h e =
    let r = wire_at net ss ws k w h.1 e in record { stream = r.stream; wire = r.wire; there = r.there; at = r.at; is = r.is }

-- where there is no wire there is no stream
pub no_stream : (net : Net) (ss : List Stream) (ws : List Wire) (k : ℕ) → AreStreamWires net ss ws → slice_get ws k ≡ None → slice_get ss k ≡ None
no_stream net [] [] k h e = refl
no_stream net [] (w ∷ ws) k h e = absurd h
no_stream net (s ∷ ss) [] k h e = absurd h
no_stream net (s ∷ ss) (w ∷ ws) zero h e = absurd cc
no_stream net (s ∷ ss) (w ∷ ws) (suc k) h e = no_stream net ss ws k h.1 e

-- ---- as wires of leaves

inputs_are : (net : Net) (s : List ℕ) (cs : List Column) (bs : List Bus) → AreInputs net s cs bs
    → (k : ℕ) (b : Bus) → slice_get bs k ≡ Some b → IsBus net b
inputs_are net s [] [] h k b at = absurd cc
inputs_are net s [] (d ∷ bs) h k b at = absurd h
inputs_are net s (c ∷ cs) [] h k b at = absurd h
inputs_are net s (c ∷ cs) (d ∷ bs) h zero b at = subst (IsBus net) (some_same d b at) h.0.1
inputs_are net s (c ∷ cs) (d ∷ bs) h (suc k) b at = inputs_are net s cs bs h.1 k b at

stream_wire-is : (net : Net) (s : Stream) (w : Wire) → IsStreamWire net s w → IsWire net w
stream_wire-is net s w h =
    record { valid = h.valid; eos = h.end; columns = record { each = inputs_are net s.name s.columns w.columns h.columns } }

kinds_widths : (cs : List Column) → column_widths cs ≡ widths_of (kinds_of cs)
kinds_widths [] = refl
kinds_widths (c ∷ cs) = ap (λ (l : List ℕ). width_of c.kind ∷ l) (kinds_widths cs)

-- each leaf that is a stream has its wire
pub leaves_have : (net : Net) (ss : List Stream) (ws : List Wire) (leaves : List PlanNode) → AreStreamWires net ss ws
    → AreStreamLeaves ss leaves → HaveLeaves net ws leaves
leaves_have net ss ws [] h all = tt
leaves_have net ss ws (leaf ∷ leaves) h all = (here all.0, leaves_have net ss ws leaves h all.1)
  where
    here : IsStreamLeaf ss leaf → HasLeaf net ws leaf
    here is =
        let r = stream_at net ss ws is.number is.stream h is.there in
        let same : r.stream ≡ is.stream = some_same r.stream is.stream (sym r.there ∙ is.there) in
        subst (HasLeaf net ws) (sym is.is) (record {
          wire = r.wire;
          there = r.at;
          is = stream_wire-is net r.stream r.wire r.is;
          same_widths = r.is.same_widths ∙ ap (λ (s : Stream). column_widths s.columns) same ∙ kinds_widths is.stream.columns;
        })

-- ---- the reset input

pub reset_stays : (old new : Net) → Extends old new → HasReset old → HasReset new
reset_stays old new x h = record {
  node = h.node;
  port = x.ports In reset_name h.node h.port;
  bit = (bit_stays old new (record { node = h.node }) x (record { there = h.bit })).there;
}

-- ---- the line of ticks

pub line_stays : (old new : Net) (ticks : Bool) (line : Option Bit) → Extends old new → IsTickLine old ticks line → IsTickLine new ticks line
line_stays old new true None x h = absurd h
line_stays old new true (Some b) x h = (bit_stays old new b x h.0, x.ports In tick b.node h.1)
line_stays old new false line x h = h

pub line_there : (net : Net) (ticks : Bool) (line : Option Bit) → IsTickLine net ticks line → IsLine net line
line_there net true None h = absurd h
line_there net true (Some b) h = h.0
line_there net false line h = rw h tt

line_asked : (net : Net) (ticks : Bool) (line : Option Bit) → IsTickLine net ticks line → IsTrue ticks → IsTrue (is_some line)
line_asked net true None h t = absurd h
line_asked net true (Some b) h t = refl
line_asked net false line h t = absurd (let z : false ≡ true = t in cc)

-- it stands beside each leaf that may ask for it
pub lines_have : (net : Net) (ticks : Bool) (line : Option Bit) → IsTickLine net ticks line → (leaves : List PlanNode) → HaveLine ticks line leaves
lines_have net ticks line h [] = tt
lines_have net ticks line h (leaf ∷ leaves) = (here leaf, lines_have net ticks line h leaves)
  where
    here : (leaf : PlanNode) → HasLine ticks line leaf
    here (node.Stream number kinds) = line_asked net ticks line h
    here _ = tt
