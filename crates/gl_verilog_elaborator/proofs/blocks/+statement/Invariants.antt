use Rattle.std.proofs.Common.{◌≡◌, ◌≤◌, ◌+◌, drop, take, length, map}
use Rattle.gl_verilog.specs.Written.{listed}
use Rattle.gl_verilog.specs.View as meant
use Rattle.gl_verilog_tokens.specs.View.{statement_of}
use Rattle.gl_verilog_elaborator.specs.Judged.{judged_in}
use Rattle.gl_verilog_elaborator.specs.View.{declarations_of, drivers_of, names_in}
use Rattle.gl_verilog_elaborator.proofs.Chained.{listed_on}
use Rattle.gl_verilog_elaborator.proofs.Parts.{parts_of}
use Rattle.gl_verilog_elaborator.proofs.blocks.+statement.Given as goal

abbrev pub invariant-block_made-loop-statement : goal.invariant-block_made-loop-statement
invariant-block_made-loop-statement l = record {
  same : listed_on (map meant.statement_of l.done.items) (judged_in (declarations_of l.scope) (drivers_of l.drivers) l.at (listed (map statement_of (drop l.statement-index l.statements)))) ≡ judged_in (declarations_of l.scope) (drivers_of l.initial.drivers) (l.k + 1) (listed (map statement_of l.statements));
  small : parts_of (listed (map statement_of (drop l.statement-index l.statements))) ≤ parts_of (listed (map statement_of l.statements));
  kept : take (length (names_in l.initial.drivers.beside.keys)) (names_in l.drivers.beside.keys) ≡ names_in l.initial.drivers.beside.keys;
  long : length (names_in l.initial.drivers.beside.keys) ≤ length (names_in l.drivers.beside.keys);
}

abbrev pub decreases-block_made : goal.decreases-block_made
decreases-block_made l = parts_of (listed (map statement_of l.statements.now)) + 1

abbrev pub decreases-if_made : goal.decreases-if_made
decreases-if_made l = parts_of (statement_of l.yes.now) + 1

abbrev pub decreases-if_else_made : goal.decreases-if_else_made
decreases-if_else_made l = parts_of (statement_of l.branches.yes.now) + parts_of (statement_of l.branches.no.now) + 1

abbrev pub decreases-statement_made : goal.decreases-statement_made
decreases-statement_made l = parts_of (statement_of l.written.now)
