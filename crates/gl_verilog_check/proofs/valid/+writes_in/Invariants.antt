use Rattle.std.proofs.Common.{◌≡◌, ◌≤◌, ◌+◌, drop}
use Rattle.gl_verilog.specs.View.{chained, statement_of}
use Rattle.gl_verilog.specs.Valid.{writes_in}
use Rattle.gl_verilog_check.specs.Tests.{at_most_two}
use Rattle.gl_verilog_check.proofs.Blocks.{parts_of}
use Rattle.gl_verilog_check.proofs.valid.+writes_in.Given as goal

abbrev pub invariant-loop-statement : goal.invariant-loop-statement
invariant-loop-statement l = record {
  same : at_most_two (l.count + writes_in (chained (drop l.statement-index l.statement-items)) l.memory) ≡ at_most_two (writes_in (chained l.statement-items) l.memory);
  few : l.count ≤ 2;
  small : parts_of (chained (drop l.statement-index l.statement-items)) ≤ parts_of (chained l.statement-items);
}

abbrev pub decreases-writes_in : goal.decreases-writes_in
decreases-writes_in l = parts_of (statement_of l.statement.now)
