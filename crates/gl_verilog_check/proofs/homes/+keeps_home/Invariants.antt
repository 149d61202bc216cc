use Rattle.std.proofs.Common.{◌≡◌, ◌≤◌, drop}
use Rattle.gl_verilog.specs.View.{chained, statement_of}
use Rattle.gl_verilog_check.specs.Homes.{keeps_home}
use Rattle.gl_verilog_check.proofs.Blocks.{parts_of}
use Rattle.gl_verilog_check.proofs.homes.+keeps_home.Given as goal

abbrev pub invariant-loop-statement : goal.invariant-loop-statement
invariant-loop-statement l = record {
  same : keeps_home l.homes l.block (chained (drop l.statement-index l.statement-items)) ≡ keeps_home l.homes l.block (chained l.statement-items);
  small : parts_of (chained (drop l.statement-index l.statement-items)) ≤ parts_of (chained l.statement-items);
}

abbrev pub decreases-keeps_home : goal.decreases-keeps_home
decreases-keeps_home l = parts_of (statement_of l.statement.now)
