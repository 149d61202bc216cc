use Rattle.std.proofs.Common.{◌≡◌, ◌≤◌, drop}
use Rattle.std.specs.Prelude.{map}
use Rattle.gl_verilog.specs.View.{chained, statement_of, declaration_of}
use Rattle.gl_verilog_check.specs.Kept.{statement_kept}
use Rattle.gl_verilog_check.proofs.Blocks.{parts_of}
use Rattle.gl_verilog_check.proofs.runnable.+statement_keeps.Given as goal

abbrev pub invariant-loop-statement : goal.invariant-loop-statement
invariant-loop-statement l = record {
  same : statement_kept (map declaration_of l.declarations) (chained (drop l.statement-index l.statement-items)) ≡ statement_kept (map declaration_of l.declarations) (chained l.statement-items);
  small : parts_of (chained (drop l.statement-index l.statement-items)) ≤ parts_of (chained l.statement-items);
}

abbrev pub decreases-statement_keeps : goal.decreases-statement_keeps
decreases-statement_keeps l = parts_of (statement_of l.statement.now)
