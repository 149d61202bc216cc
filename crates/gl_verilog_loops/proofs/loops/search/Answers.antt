use Rattle.std.proofs.Common.{Bool, subst, map}
use Rattle.gl_verilog.specs.View.{assignment_of}
use Rattle.gl_verilog_faults.specs.Demands.{IsLooped}
use Rattle.gl_verilog_loops.specs.Looping.{IsTold}
use Rattle.gl_verilog_loops.proofs.Reaching.{first_here}
use Rattle.gl_verilog_loops.proofs.loops.search.Goals as goal

pub returns-then-branch : goal.returns-then-branch
returns-then-branch c =
    first_here assignment_of c.args.assignments.now c.loop-i.i c.index-assignments-i.result c.loop-i-test.true c.index-assignments-i.is c.loop-i.invariant
    (subst (λ (b : Bool). IsTold b (IsLooped (map assignment_of c.args.assignments.now) c.index-assignments-i.result.target)) c.if-branch.true c.in_ok-is_in_loop.ensures)
