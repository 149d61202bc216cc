use Rattle.std.proofs.Common.{◌≡◌, ◌-◌, length, drop, map}
use Rattle.gl_verilog.specs.View.{assignment_of}
use Rattle.gl_verilog_loops.specs.Looping.{seeded}
use Rattle.gl_verilog_loops.proofs.loops.seed.Given as goal

abbrev pub invariant-loop-done : goal.invariant-loop-done
invariant-loop-done l = l.found.keys ≡ seeded l.net (map assignment_of (drop (length l.assignments - l.done) l.assignments)) l.initial.found.keys
