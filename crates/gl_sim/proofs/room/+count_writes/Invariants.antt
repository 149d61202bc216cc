use Rattle.std.proofs.Common.{◌≡◌, ◌+◌, ◌≤◌, drop}
use Rattle.gl_verilog.specs.View.{chained, statement_of}
use Rattle.gl_sim.specs.Updates.{writes_in}
use Rattle.gl_sim.proofs.Waiting.{parts_of}
use Rattle.gl_sim.proofs.room.+count_writes.Given as goal

abbrev pub invariant-loop-statement : goal.invariant-loop-statement
invariant-loop-statement l = record {
  count : l.count + writes_in (chained (drop l.statement-index l.statement-items)) ≡ writes_in (chained l.statement-items);
  small : parts_of (chained (drop l.statement-index l.statement-items)) ≤ parts_of (chained l.statement-items);
}

abbrev pub decreases-count_writes : goal.decreases-count_writes
decreases-count_writes l = parts_of (statement_of l.statement.now)
