-- Buses that stay where a register is opened or driven.
use Rattle.std.proofs.Common.{List}
use Rattle.gl_net.specs.declared.node.Bus.{Bus}
use Rattle.gl_net.specs.Net.{Net, Grows}
use Rattle.gl_wire.specs.Wire.{AreBuses}

pub buses_driven : (old new : Net) (bs : List Bus) → Grows old new → AreBuses old bs → AreBuses new bs
buses_driven old new bs g h = record { each = λ k b e. let i = h.each k b e in record { there = g.shapes b.node _ i.there; width = i.width } }
