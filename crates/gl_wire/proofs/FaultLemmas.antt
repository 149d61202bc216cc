-- Lines stay in a netlist that grows.
use Rattle.std.proofs.Common.{Option, Some, None}
use Rattle.gl_net.specs.declared.node.Bit.{Bit}
use Rattle.gl_net.specs.Net.{Net, Keeps}
use Rattle.gl_wire.specs.declared.emitted.Faults.{Faults}
use Rattle.gl_wire.specs.Faults.{AreLines, IsLine}

pub line_kept : (old new : Net) (line : Option Bit) → Keeps old new → IsLine old line → IsLine new line
line_kept old new None g i = tt
line_kept old new (Some bit) g i = record { there = g.shapes bit.node _ i.there }

pub lines_kept : (old new : Net) (faults : Faults) → Keeps old new → AreLines old faults → AreLines new faults
lines_kept old new faults g h = record { passed = line_kept old new faults.passed g h.passed; further = line_kept old new faults.further g h.further }
