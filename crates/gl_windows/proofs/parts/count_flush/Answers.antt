use Rattle.std.proofs.Common.{ℕ, ap, arith, ◌∙◌}
use Rattle.gl_net.proofs.Determined.{keeps_then}
use Rattle.gl_wire.specs.Wire.{line_at}
use Rattle.gl_wire.proofs.ColumnLemmas.{bit_kept}
use Rattle.gl_wire_registers.specs.Held.{counted_down, held_at}
use Rattle.gl_windows.proofs.parts.count_flush.Goals as goal

pub returns : goal.returns
returns c = rw c.note_flush.ensures (
    let flush = c.in_ok-flush.ensures in
    let idle = c.in_ok-idle.ensures in
    let wait = c.in_ok-wait.ensures in
    let due = c.in_ok-due.ensures in
    let behind_idle = keeps_then c.but_not.new.net c.count_down.new.net c.when_equal.new.net wait.keeps due.keeps in
    record {
      keeps = keeps_then c.args.net.now c.latch.new.net _ flush.keeps (keeps_then c.latch.new.net c.but_not.new.net c.when_equal.new.net idle.keeps behind_idle);
      idle = bit_kept c.but_not.new.net c.when_equal.new.net c.in_ok-idle.idle behind_idle idle.bit;
      due = due.bit;
      cost = record {
        nodes = omega (arith, flush.cost.nodes, idle.cost.nodes, wait.cost.nodes, due.cost.nodes);
        registers = omega (arith, flush.cost.registers, idle.cost.registers, wait.cost.registers, due.cost.registers, wait.width);
        memories = omega (arith, flush.cost.memories, idle.cost.memories, wait.cost.memories, due.cost.memories);
      };
      few = omega (arith, wait.width, c.bits_to-bits.ensures.few);
      law = λ run r.
          let at_wait = due.keeps.runs run r in
          let at_idle = wait.keeps.runs run at_wait in
          record {
            next = flush.line run (idle.keeps.runs run at_idle);
            idle = idle.line run at_idle;
            next_wait = λ t. wait.next run at_wait t
                ∙ ap (λ (n : ℕ). counted_down n n (line_at run c.args.eos t) (line_at run c.in_ok-idle.idle t) (held_at 0 run c.in_ok-wait.wait t)) c.from-last.ensures;
            due = due.line run r 0;
          };
    })
