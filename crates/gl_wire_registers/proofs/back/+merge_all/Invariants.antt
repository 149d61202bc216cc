use Rattle.std.proofs.Common.{length}
use Rattle.gl_wire_registers.proofs.back.+merge_all.Given as goal

abbrev pub decreases-merge_all : goal.decreases-merge_all
decreases-merge_all l = length l.wires.now
