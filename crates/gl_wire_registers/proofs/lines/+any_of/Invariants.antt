use Rattle.std.proofs.Common.{length}
use Rattle.gl_wire_registers.proofs.lines.+any_of.Given as goal

abbrev pub decreases-any_of : goal.decreases-any_of
decreases-any_of l = length l.lines.now
