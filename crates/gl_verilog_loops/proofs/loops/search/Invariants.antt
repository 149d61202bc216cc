use Rattle.std.proofs.Common.{take, map}
use Rattle.std.specs.List.{AllByRecursion}
use Rattle.gl_verilog.specs.View.{assignment_of}
use Rattle.gl_verilog_faults.specs.Demands.{IsLooped}
use Rattle.gl_verilog_loops.proofs.loops.search.Given as goal

abbrev pub invariant-loop-i : goal.invariant-loop-i
invariant-loop-i l = AllByRecursion (λ a. IsLooped (map assignment_of l.assignments) a.target → ⊥) (map assignment_of (take l.i l.assignments))
