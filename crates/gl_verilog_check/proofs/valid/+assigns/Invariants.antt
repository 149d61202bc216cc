use Rattle.std.proofs.Common.{◌≡◌, ◌≤◌, drop}
use Rattle.std.specs.Prelude.{option_and_then}
use Rattle.gl_verilog.specs.View.{chained, statement_of}
use Rattle.gl_verilog_check.specs.Tests.{assigns_once, one_of}
use Rattle.gl_verilog_check.proofs.Blocks.{parts_of}
use Rattle.gl_verilog_check.proofs.valid.+assigns.Given as goal

abbrev pub invariant-loop-statement : goal.invariant-loop-statement
invariant-loop-statement l = record {
  same : option_and_then (one_of l.assigned) (assigns_once l.register (chained (drop l.statement-index l.statement-items))) ≡ assigns_once l.register (chained l.statement-items);
  small : parts_of (chained (drop l.statement-index l.statement-items)) ≤ parts_of (chained l.statement-items);
}

abbrev pub decreases-assigns : goal.decreases-assigns
decreases-assigns l = parts_of (statement_of l.statement.now)
