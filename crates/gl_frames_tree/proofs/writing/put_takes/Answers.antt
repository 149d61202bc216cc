use Rattle.std.proofs.Common.{arith}
use Rattle.gl_net.proofs.Determined.{keeps_then}
use Rattle.gl_wire.proofs.ColumnLemmas.{bit_kept}
use Rattle.gl_frames_tree.proofs.TakeNet.{take_lines}
use Rattle.gl_frames_tree.proofs.writing.put_takes.Goals as goal

pub both-requires-clause-right : goal.both-requires-clause-right
both-requires-clause-right c = c.requires.digit.high

pub but_not-requires-clause-right : goal.but_not-requires-clause-right
but_not-requires-clause-right c = bit_kept c.args.net.now c.both.new.net c.args.digit.high c.in_ok-upper.ensures.keeps c.requires.digit.high

pub both-requires-2-clause-right : goal.both-requires-2-clause-right
both-requires-2-clause-right c =
    bit_kept c.args.net.now c.but_not.new.net c.args.digit.low (keeps_then c.args.net.now c.both.new.net c.but_not.new.net c.in_ok-upper.ensures.keeps c.in_ok-lower.ensures.keeps) c.requires.digit.low

pub but_not-requires-2-clause-right : goal.but_not-requires-2-clause-right
but_not-requires-2-clause-right c =
    bit_kept c.args.net.now c.both-2.new.net c.args.digit.low
    (keeps_then c.args.net.now c.both.new.net c.both-2.new.net c.in_ok-upper.ensures.keeps (keeps_then c.both.new.net c.but_not.new.net c.both-2.new.net c.in_ok-lower.ensures.keeps c.in_ok-three.ensures.keeps)) c.requires.digit.low

pub both-requires-3-clause-right : goal.both-requires-3-clause-right
both-requires-3-clause-right c =
    bit_kept c.args.net.now c.but_not-2.new.net c.args.digit.low
    (keeps_then c.args.net.now c.but_not.new.net c.but_not-2.new.net (keeps_then c.args.net.now c.both.new.net c.but_not.new.net c.in_ok-upper.ensures.keeps c.in_ok-lower.ensures.keeps)
    (keeps_then c.but_not.new.net c.both-2.new.net c.but_not-2.new.net c.in_ok-three.ensures.keeps c.in_ok-two.ensures.keeps)) c.requires.digit.low

pub but_not-requires-3-clause-right : goal.but_not-requires-3-clause-right
but_not-requires-3-clause-right c =
    bit_kept c.args.net.now c.both-3.new.net c.args.digit.low
    (keeps_then c.args.net.now c.but_not-2.new.net c.both-3.new.net
    (keeps_then c.args.net.now c.but_not.new.net c.but_not-2.new.net (keeps_then c.args.net.now c.both.new.net c.but_not.new.net c.in_ok-upper.ensures.keeps c.in_ok-lower.ensures.keeps)
    (keeps_then c.but_not.new.net c.both-2.new.net c.but_not-2.new.net c.in_ok-three.ensures.keeps c.in_ok-two.ensures.keeps)) c.in_ok-one.ensures.keeps) c.requires.digit.low

pub returns : goal.returns
returns c =
    let upper = c.in_ok-upper.ensures in
    let lower = c.in_ok-lower.ensures in
    let three = c.in_ok-three.ensures in
    let two = c.in_ok-two.ensures in
    let one = c.in_ok-one.ensures in
    let zero = c.in_ok-zero.ensures in
    let k_one = zero.keeps in
    let k_two = keeps_then c.but_not-2.new.net c.both-3.new.net c.but_not-3.new.net one.keeps k_one in
    let k_three = keeps_then c.both-2.new.net c.but_not-2.new.net c.but_not-3.new.net two.keeps k_two in
    let k_lower = keeps_then c.but_not.new.net c.both-2.new.net c.but_not-3.new.net three.keeps k_three in
    let k_upper = keeps_then c.both.new.net c.but_not.new.net c.but_not-3.new.net lower.keeps k_lower in
    record {
      keeps = keeps_then c.args.net.now c.both.new.net c.but_not-3.new.net upper.keeps k_upper;
      cost = record {
        nodes = omega (arith, upper.cost.nodes, lower.cost.nodes, three.cost.nodes, two.cost.nodes, one.cost.nodes, zero.cost.nodes);
        registers = omega (arith, upper.cost.registers, lower.cost.registers, three.cost.registers, two.cost.registers, one.cost.registers, zero.cost.registers);
        memories = omega (arith, upper.cost.memories, lower.cost.memories, three.cost.memories, two.cost.memories, one.cost.memories, zero.cost.memories);
      };
      has = record {
        zero' = zero.bit;
        one' = bit_kept c.both-3.new.net c.but_not-3.new.net c.in_ok-one.one k_one one.bit;
        two' = bit_kept c.but_not-2.new.net c.but_not-3.new.net c.in_ok-two.two k_two two.bit;
        three' = bit_kept c.both-2.new.net c.but_not-3.new.net c.in_ok-three.three k_three three.bit;
      };
      line = λ run r t i l.
          take_lines run c.args.make c.in_ok-upper.upper c.in_ok-lower.lower c.args.digit c.in_ok-zero.zero c.in_ok-one.one c.in_ok-two.two c.in_ok-three.three t
          (upper.line run (k_upper.runs run r) t) (lower.line run (k_lower.runs run r) t)
          (zero.line run r t) (one.line run (k_one.runs run r) t) (two.line run (k_two.runs run r) t) (three.line run (k_three.runs run r) t) i l;
    }
