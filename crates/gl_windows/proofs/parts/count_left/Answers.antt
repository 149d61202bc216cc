use Rattle.std.proofs.Common.{arith}
use Rattle.gl_net.proofs.Determined.{keeps_then}
use Rattle.gl_wire.proofs.ColumnLemmas.{bit_kept}
use Rattle.gl_windows.proofs.PartLemmas.{left_is}
use Rattle.gl_windows.proofs.parts.count_left.Goals as goal

pub returns : goal.returns
returns c = rw c.note_trigger.ensures (
    let left = c.in_ok-left.ensures in
    let last = c.in_ok-last.ensures in
    let may = c.in_ok-may.ensures in
    let trigger = c.in_ok-trigger.ensures in
    record {
      keeps = keeps_then c.args.net.now c.count_down.new.net _ left.keeps (keeps_then c.count_down.new.net c.when_equal.new.net _ last.keeps
          (keeps_then c.when_equal.new.net c.either.new.net c.either-2.new.net may.keeps trigger.keeps));
      last = bit_kept c.when_equal.new.net c.either-2.new.net c.in_ok-last.last (keeps_then c.when_equal.new.net c.either.new.net c.either-2.new.net may.keeps trigger.keeps) last.bit;
      bit = trigger.bit;
      cost = record {
        nodes = omega (arith, left.cost.nodes, last.cost.nodes, may.cost.nodes, trigger.cost.nodes);
        registers = omega (arith, left.cost.registers, last.cost.registers, may.cost.registers, trigger.cost.registers, left.width);
        memories = omega (arith, left.cost.memories, last.cost.memories, may.cost.memories, trigger.cost.memories);
      };
      few = omega (arith, left.width, c.bits_to-bits.ensures.few);
      law = λ run r.
          let at_may = trigger.keeps.runs run r in
          let at_last = may.keeps.runs run at_may in
          left_is run c.args.unit c.args.eos c.args.due c.args.size c.args.advance c.from-rows.result c.from-again.result c.in_ok-left.left c.in_ok-last.last c.in_ok-may.may c.in_ok-trigger.trigger
          c.from-rows.ensures c.from-again.ensures (left.next run (last.keeps.runs run at_last)) (last.line run at_last) (may.line run at_may) (trigger.line run r);
    })
