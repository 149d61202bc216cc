use Rattle.std.proofs.Common.{◌-◌, ◌^◌, length, map}
use Rattle.gl_verilog.specs.View.{assignment_of}
use Rattle.gl_verilog_loops.specs.Looping.{Reached}
use Rattle.gl_verilog_loops.proofs.Reaching.{Holds}
use Rattle.gl_verilog_loops.proofs.loops.is_looped.Given as goal

abbrev pub invariant-passes : goal.invariant-passes
invariant-passes l = record {
  sound : Reached (map assignment_of l.assignments) l.net l.found.keys;
  complete : Holds (map assignment_of l.assignments) l.net l.found.keys;
}

-- each pass but the last finds a net more
abbrev pub decreases-passes : goal.decreases-passes
decreases-passes l = 2 ^ 63 - length l.found.keys
