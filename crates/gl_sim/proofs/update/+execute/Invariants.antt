use Rattle.std.proofs.Common.{◌≡◌, ◌+◌, ◌≤◌, drop, vec_len, vec_capacity}
use Rattle.gl_verilog.specs.View.{chained, statement_of}
use Rattle.gl_verilog.specs.Evaluate.{nets_of, memories_of}
use Rattle.gl_sim.specs.Updates.{writes_in}
use Rattle.gl_sim.proofs.Waiting.{IsUnderWay, parts_of}
use Rattle.gl_sim.proofs.update.+execute.Given as goal

abbrev pub invariant-loop-statement : goal.invariant-loop-statement
invariant-loop-statement l = record {
  way : IsUnderWay l.values l.banks (nets_of l.values) (memories_of l.banks) (chained l.statement-items) (chained (drop l.statement-index l.statement-items)) l.initial.next.items l.next.items l.initial.waiting.items l.waiting.items;
  capacity : vec_capacity l.waiting ≡ vec_capacity l.initial.waiting;
  small : parts_of (chained (drop l.statement-index l.statement-items)) ≤ parts_of (chained l.statement-items);
  room : vec_len l.waiting + writes_in (chained (drop l.statement-index l.statement-items)) ≤ vec_len l.initial.waiting + writes_in (chained l.statement-items);
}

abbrev pub decreases-execute : goal.decreases-execute
decreases-execute l = parts_of (statement_of l.statement.now)
