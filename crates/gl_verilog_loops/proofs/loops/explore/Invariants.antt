use Rattle.std.proofs.Common.{map}
use Rattle.gl_verilog.specs.View.{assignment_of}
use Rattle.gl_verilog_loops.specs.Looping.{Grows}
use Rattle.gl_verilog_loops.proofs.loops.explore.Given as goal

abbrev pub invariant-loop-k : goal.invariant-loop-k
invariant-loop-k l = Grows (map assignment_of l.assignments) l.initial.found.keys l.found.keys
