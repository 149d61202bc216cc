use Rattle.std.proofs.Common.{◌≡◌, drop, map, []}
use Rattle.gl_verilog.specs.View.{assignment_of}
use Rattle.gl_verilog_loops.specs.Looping.{levelled}
use Rattle.gl_verilog_loops.proofs.loops.level.Given as goal

abbrev pub invariant-loop-assignment : goal.invariant-loop-assignment
invariant-loop-assignment l = levelled l.ranks (map assignment_of (drop l.assignment-index l.assignments)) l.found.keys ≡ levelled l.ranks (map assignment_of l.assignments) []
