use Rattle.std.proofs.Common.{◌≡◌, take}
use Rattle.std.specs.Prelude.{map}
use Rattle.gl_wiring.specs.StreamWires.{wire_from}
use Rattle.gl_wiring.proofs.leaves.wires_of.Given as goal

abbrev pub invariant-loop-source : goal.invariant-loop-source
invariant-loop-source l = (l.wires.items ≡ map (wire_from l.end) (take l.source-index l.sources))
