use Rattle.std.proofs.Common.{◌≡◌, ◌-◌, length, drop, map}
use Rattle.gl_verilog.specs.View.{assignment_of}
use Rattle.gl_verilog_loops.specs.Looping.{spread}
use Rattle.gl_verilog_loops.proofs.loops.pass.Given as goal

abbrev pub invariant-loop-done : goal.invariant-loop-done
invariant-loop-done l = l.found.keys ≡ spread (map assignment_of (drop (length l.assignments - l.done) l.assignments)) l.initial.found.keys
