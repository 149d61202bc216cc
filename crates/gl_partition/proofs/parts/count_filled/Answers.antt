use Rattle.std.proofs.Common.{arith}
use Rattle.gl_net.proofs.Determined.{keeps_then}
use Rattle.gl_partition.proofs.PartLemmas.{filled_is}
use Rattle.gl_partition.proofs.parts.count_filled.Goals as goal

pub returns : goal.returns
returns c = rw c.note_filled.ensures (
    let left = c.in_ok-left.ensures in
    let last = c.in_ok-last.ensures in
    let trigger = c.in_ok-trigger.ensures in
    record {
      keeps = keeps_then c.args.net.now c.count_down.new.net _ left.keeps (keeps_then c.count_down.new.net c.when_equal.new.net _ last.keeps trigger.keeps);
      bit = trigger.bit;
      cost = record {
        nodes = omega (arith, left.cost.nodes, last.cost.nodes, trigger.cost.nodes);
        registers = omega (arith, left.cost.registers, last.cost.registers, trigger.cost.registers, left.width);
        memories = omega (arith, left.cost.memories, last.cost.memories, trigger.cost.memories);
      };
      few = omega (arith, left.width, c.bits_to-bits.ensures.few);
      law = λ run r.
          let at_last = trigger.keeps.runs run r in
          filled_is run c.args.valid c.args.eos c.args.due c.args.size c.args.advance c.from-rows.result c.from-again.result c.in_ok-left.left c.in_ok-last.last c.in_ok-trigger.trigger
          c.from-rows.ensures c.from-again.ensures (left.next run (last.keeps.runs run at_last)) (last.line run at_last) (trigger.line run r);
    })
