use Rattle.std.proofs.Common.{ℕ, Bool, ap, arith, ◌∙◌}
use Rattle.std.specs.Prelude.{not, ◌&&◌}
use Rattle.gl_net.proofs.Determined.{keeps_then}
use Rattle.gl_wire.specs.Wire.{line_at}
use Rattle.gl_wire.proofs.ColumnLemmas.{bit_kept}
use Rattle.gl_wire_registers.specs.Held.{counted_down, held_at}
use Rattle.gl_slots.proofs.parts.count_flush.Goals as goal

pub returns : goal.returns
returns c = rw c.note_flush.ensures (
    let comes = c.in_ok-comes.ensures in
    let flush = c.in_ok-flush.ensures in
    let idle = c.in_ok-idle.ensures in
    let free = c.in_ok-free.ensures in
    let wait = c.in_ok-wait.ensures in
    let due = c.in_ok-due.ensures in
    let behind_free = keeps_then c.both.new.net c.count_down.new.net c.when_equal.new.net wait.keeps due.keeps in
    let behind_idle = keeps_then c.but_not.new.net c.both.new.net c.when_equal.new.net free.keeps behind_free in
    let behind_flush = keeps_then c.latch.new.net c.but_not.new.net c.when_equal.new.net idle.keeps behind_idle in
    record {
      keeps = keeps_then c.args.net.now c.either.new.net c.when_equal.new.net comes.keeps (keeps_then c.either.new.net c.latch.new.net c.when_equal.new.net flush.keeps behind_flush);
      idle = bit_kept c.but_not.new.net c.when_equal.new.net c.in_ok-idle.idle behind_idle idle.bit;
      free = bit_kept c.both.new.net c.when_equal.new.net c.in_ok-free.free behind_free free.bit;
      due = due.bit;
      cost = record {
        nodes = omega (arith, comes.cost.nodes, flush.cost.nodes, idle.cost.nodes, free.cost.nodes, wait.cost.nodes, due.cost.nodes);
        registers = omega (arith, comes.cost.registers, flush.cost.registers, idle.cost.registers, free.cost.registers, wait.cost.registers, due.cost.registers, wait.width);
        memories = omega (arith, comes.cost.memories, flush.cost.memories, idle.cost.memories, free.cost.memories, wait.cost.memories, due.cost.memories);
      };
      few = omega (arith, wait.width, c.bits_to.ensures.few);
      law = λ run r.
          let at_wait = due.keeps.runs run r in
          let at_free = wait.keeps.runs run at_wait in
          let at_idle = free.keeps.runs run at_free in
          let at_flush = idle.keeps.runs run at_idle in
          let at_comes = flush.keeps.runs run at_flush in
          record {
            next = flush.line run at_flush;
            idle = λ t. idle.line run at_idle t ∙ ap (λ (b : Bool). line_at run c.in_ok-flush.flush t && not b) (comes.line run at_comes t);
            free = λ t. free.line run at_free t ∙ ap (λ (b : Bool). line_at run c.in_ok-flush.flush t && b) (comes.line run at_comes t);
            next_wait = λ t. wait.next run at_wait t
                ∙ ap (λ (n : ℕ). counted_down n n (line_at run c.args.eos t) (line_at run c.in_ok-idle.idle t) (held_at 0 run c.in_ok-wait.wait t)) c.from-last.ensures;
            due = due.line run r 0;
          };
    })
