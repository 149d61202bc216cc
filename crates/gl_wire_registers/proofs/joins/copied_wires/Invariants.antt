use Rattle.std.proofs.Common.{◌≡◌, take}
use Rattle.gl_wire_registers.specs.Joins.{wires_of}
use Rattle.gl_wire_registers.proofs.joins.copied_wires.Given as goal

abbrev pub invariant-loop-copy : goal.invariant-loop-copy
invariant-loop-copy l = l.all ≡ wires_of (take l.copy-index l.copies)
