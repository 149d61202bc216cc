use Rattle.std.proofs.Common.{◌≤◌, drop}
use Rattle.gl_verilog.specs.View.{chained, statement_of}
use Rattle.gl_verilog_check.proofs.Blocks.{parts_of}
use Rattle.gl_verilog_check.proofs.homes.+note_homes.Given as goal

abbrev pub invariant-loop-statement : goal.invariant-loop-statement
invariant-loop-statement l = parts_of (chained (drop l.statement-index l.statement-items)) ≤ parts_of (chained l.statement-items)

abbrev pub decreases-note_homes : goal.decreases-note_homes
decreases-note_homes l = parts_of (statement_of l.statement.now)
