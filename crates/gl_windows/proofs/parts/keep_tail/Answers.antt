use Rattle.std.proofs.Common.{arith}
use Rattle.gl_net.proofs.Determined.{keeps_then}
use Rattle.gl_windows.proofs.PartLemmas.{tail_is}
use Rattle.gl_windows.proofs.parts.keep_tail.Goals as goal

pub returns : goal.returns
returns c = rw c.note_tail.ensures (
    let with_end = c.in_ok-with_end.ensures in
    let held = c.in_ok-held.ensures in
    let resting = c.in_ok-resting.ensures in
    let later = c.in_ok-later.ensures in
    let tail = c.in_ok-tail.ensures in
    record {
      keeps = keeps_then c.args.net.now c.both.new.net _ with_end.keeps (keeps_then c.both.new.net c.latch.new.net _ held.keeps
          (keeps_then c.latch.new.net c.both-2.new.net _ resting.keeps (keeps_then c.both-2.new.net c.but_not.new.net c.either.new.net later.keeps tail.keeps)));
      bit = tail.bit;
      cost = record {
        nodes = omega (arith, with_end.cost.nodes, held.cost.nodes, resting.cost.nodes, later.cost.nodes, tail.cost.nodes);
        registers = omega (arith, with_end.cost.registers, held.cost.registers, resting.cost.registers, later.cost.registers, tail.cost.registers);
        memories = omega (arith, with_end.cost.memories, held.cost.memories, resting.cost.memories, later.cost.memories, tail.cost.memories);
      };
      law = λ run r.
          let at_later = tail.keeps.runs run r in
          let at_resting = later.keeps.runs run at_later in
          let at_held = resting.keeps.runs run at_resting in
          tail_is run c.args.valid c.args.eos c.args.idle c.in_ok-with_end.with_end c.in_ok-held.held c.in_ok-resting.resting c.in_ok-later.later c.in_ok-tail.tail
          (with_end.line run (held.keeps.runs run at_held)) (held.line run at_held) (resting.line run at_resting) (later.line run at_later) (tail.line run r);
    })
