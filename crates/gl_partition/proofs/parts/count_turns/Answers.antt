use Rattle.std.proofs.Common.{ℕ, ◌<◌, ◌^◌, sym, subst, arith}
use Rattle.gl_net.proofs.Determined.{keeps_then}
use Rattle.gl_partition.proofs.PartLemmas.{turns_is}
use Rattle.gl_partition.proofs.parts.count_turns.Goals as goal

pub returns : goal.returns
returns c = rw c.note_turns.ensures (
    let within = c.in_ok-within.ensures in
    let last = c.in_ok-last.ensures in
    let rest = c.in_ok-rest.ensures in
    let behind = keeps_then c.count_down.new.net c.when_equal.new.net c.count_down-2.new.net last.keeps rest.keeps in
    record {
      keeps = keeps_then c.args.net.now c.count_down.new.net c.count_down-2.new.net within.keeps behind;
      rest_bus = rest.bus;
      rest_fits = subst (λ (n : ℕ). c.args.slots < 2 ^ n) (sym rest.width) c.bits_to-2.ensures.fits;
      cost = record {
        nodes = omega (arith, within.cost.nodes, last.cost.nodes, rest.cost.nodes);
        registers = omega (arith, within.cost.registers, last.cost.registers, rest.cost.registers, within.width, rest.width);
        memories = omega (arith, within.cost.memories, last.cost.memories, rest.cost.memories);
      };
      few = omega (arith, within.width, rest.width, c.bits_to.ensures.few, c.bits_to-2.ensures.few);
      law = λ run r.
          turns_is run c.args.eos c.args.due c.args.slots c.args.copies c.from-all.result c.from-others.result c.in_ok-within.within c.in_ok-rest.rest c.in_ok-last.last
          c.from-all.ensures c.from-others.ensures (within.next run (behind.runs run r)) (last.line run (rest.keeps.runs run r)) (rest.next run r);
    })
