use Rattle.std.proofs.Common.{suc, sym, arith}
use Rattle.gl_net.proofs.Determined.{keeps_then}
use Rattle.gl_wire.specs.Wire.{line_at}
use Rattle.gl_wire.proofs.ColumnLemmas.{bit_kept, bus_kept}
use Rattle.gl_frames_tree.proofs.TakeNet.{now_parts}
use Rattle.gl_frames_tree.proofs.writing.put_all_now.Goals as goal

pub put_now-requires-clause-part : goal.put_now-requires-clause-part
put_now-requires-clause-part c = c.requires.parts.zero'

pub put_now-requires-clause-takes : goal.put_now-requires-clause-takes
put_now-requires-clause-takes c = c.requires.takes.zero'

pub put_now-requires-clause-widths : goal.put_now-requires-clause-widths
put_now-requires-clause-widths c = sym c.requires.parts.zero_width

pub put_now-requires-2-clause-part : goal.put_now-requires-2-clause-part
put_now-requires-2-clause-part c = bus_kept c.args.net.now c.put_now.new.net c.args.parts.one c.in_ok-zero.ensures.keeps c.requires.parts.one'

pub put_now-requires-2-clause-takes : goal.put_now-requires-2-clause-takes
put_now-requires-2-clause-takes c = bit_kept c.args.net.now c.put_now.new.net c.args.takes.one c.in_ok-zero.ensures.keeps c.requires.takes.one'

pub put_now-requires-2-clause-widths : goal.put_now-requires-2-clause-widths
put_now-requires-2-clause-widths c = sym c.requires.parts.one_width

pub put_now-requires-3-clause-part : goal.put_now-requires-3-clause-part
put_now-requires-3-clause-part c =
    bus_kept c.args.net.now c.put_now-2.new.net c.args.parts.two (keeps_then c.args.net.now c.put_now.new.net c.put_now-2.new.net c.in_ok-zero.ensures.keeps c.in_ok-one.ensures.keeps) c.requires.parts.two'

pub put_now-requires-3-clause-takes : goal.put_now-requires-3-clause-takes
put_now-requires-3-clause-takes c =
    bit_kept c.args.net.now c.put_now-2.new.net c.args.takes.two (keeps_then c.args.net.now c.put_now.new.net c.put_now-2.new.net c.in_ok-zero.ensures.keeps c.in_ok-one.ensures.keeps) c.requires.takes.two'

pub put_now-requires-3-clause-widths : goal.put_now-requires-3-clause-widths
put_now-requires-3-clause-widths c = sym c.requires.parts.two_width

pub put_now-requires-4-clause-part : goal.put_now-requires-4-clause-part
put_now-requires-4-clause-part c =
    bus_kept c.args.net.now c.put_now-3.new.net c.args.parts.three
    (keeps_then c.args.net.now c.put_now-2.new.net c.put_now-3.new.net (keeps_then c.args.net.now c.put_now.new.net c.put_now-2.new.net c.in_ok-zero.ensures.keeps c.in_ok-one.ensures.keeps) c.in_ok-two.ensures.keeps) c.requires.parts.three'

pub put_now-requires-4-clause-takes : goal.put_now-requires-4-clause-takes
put_now-requires-4-clause-takes c =
    bit_kept c.args.net.now c.put_now-3.new.net c.args.takes.three
    (keeps_then c.args.net.now c.put_now-2.new.net c.put_now-3.new.net (keeps_then c.args.net.now c.put_now.new.net c.put_now-2.new.net c.in_ok-zero.ensures.keeps c.in_ok-one.ensures.keeps) c.in_ok-two.ensures.keeps) c.requires.takes.three'

pub put_now-requires-4-clause-widths : goal.put_now-requires-4-clause-widths
put_now-requires-4-clause-widths c = sym c.requires.parts.three_width

pub returns : goal.returns
returns c =
    let zero = c.in_ok-zero.ensures in
    let one = c.in_ok-one.ensures in
    let two = c.in_ok-two.ensures in
    let three = c.in_ok-three.ensures in
    let k_two = three.keeps in
    let k_one = keeps_then c.put_now-2.new.net c.put_now-3.new.net c.put_now-4.new.net two.keeps k_two in
    let k_zero = keeps_then c.put_now.new.net c.put_now-2.new.net c.put_now-4.new.net one.keeps k_one in
    record {
      keeps = keeps_then c.args.net.now c.put_now.new.net c.put_now-4.new.net zero.keeps k_zero;
      cost = record {
        nodes = omega (arith, zero.cost.nodes, one.cost.nodes, two.cost.nodes, three.cost.nodes);
        registers = omega (arith, zero.cost.registers, one.cost.registers, two.cost.registers, three.cost.registers);
        memories = omega (arith, zero.cost.memories, one.cost.memories, two.cost.memories, three.cost.memories);
      };
      has = record {
        zero' = bus_kept c.put_now.new.net c.put_now-4.new.net c.in_ok-zero.zero k_zero zero.bus;
        zero_width = zero.part_width;
        one' = bus_kept c.put_now-2.new.net c.put_now-4.new.net c.in_ok-one.one k_one one.bus;
        one_width = one.part_width;
        two' = bus_kept c.put_now-3.new.net c.put_now-4.new.net c.in_ok-two.two k_two two.bus;
        two_width = two.part_width;
        three' = three.bus;
        three_width = three.part_width;
      };
      value = λ run r t i l.
          now_parts run c.args.parts (record { zero = c.in_ok-zero.zero; one = c.in_ok-one.one; two = c.in_ok-two.two; three = c.in_ok-three.three }) c.args.takes
          (run.at (suc t) c.args.mark.node) (suc t) (line_at run c.args.fresh (suc t))
          (zero.value run (k_zero.runs run r) t) (one.value run (k_one.runs run r) t) (two.value run (k_two.runs run r) t) (three.value run r t) i l;
    }
