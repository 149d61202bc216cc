use Rattle.std.proofs.Common.{◌-◌, ◌*◌, arith, ◌∙◌}
use Rattle.gl_net.proofs.Determined.{keeps_then}
use Rattle.gl_wire.proofs.ColumnLemmas.{bus_kept}
use Rattle.gl_frames_tree.proofs.PartLemmas.{cut_part}
use Rattle.gl_frames_tree.proofs.parts.put_parts.Goals as goal

pub returns : goal.returns
returns c =
    let w = c.args.width in
    let some = c.requires.width.some' in
    let zero = c.in_ok-zero.ensures in
    let one = c.in_ok-one.ensures in
    let two = c.in_ok-two.ensures in
    let three = c.in_ok-three.ensures in
    let k_two = three.keeps in
    let k_one = keeps_then c.cut-2.new.self c.cut-3.new.self c.cut-4.new.self two.keeps k_two in
    let k_zero = keeps_then c.cut.new.self c.cut-2.new.self c.cut-4.new.self one.keeps k_one in
    record {
      keeps = keeps_then c.args.net.now c.cut.new.self c.cut-4.new.self zero.keeps k_zero;
      cost = record {
        nodes = omega (arith, zero.size, one.size, two.size, three.size);
        registers = omega (arith, zero.register_bits, one.register_bits, two.register_bits, three.register_bits);
        memories = omega (arith, zero.memory_bits, one.memory_bits, two.memory_bits, three.memory_bits);
      };
      has = record {
        zero' = bus_kept c.cut.new.self c.cut-4.new.self c.in_ok-zero.zero k_zero zero.bus;
        zero_width = omega (arith, zero.width, some);
        one' = bus_kept c.cut-2.new.self c.cut-4.new.self c.in_ok-one.one k_one one.bus;
        one_width = omega (arith, one.width, some);
        two' = bus_kept c.cut-3.new.self c.cut-4.new.self c.in_ok-two.two k_two two.bus;
        two_width = omega (arith, two.width, some);
        three' = three.bus;
        three_width = omega (arith, three.width, some);
      };
      law = λ run r.
          let at_two = k_two.runs run r in
          let at_one = k_one.runs run r in
          let at_zero = k_zero.runs run r in
          record {
            zero' = λ t. zero.value run at_zero t ∙ cut_part w 0 (w - 1) 0 (run.at t c.args.word.node) (omega arith) (omega (arith, some));
            one' = λ t. one.value run at_one t ∙ cut_part w 1 (2 * w - 1) w (run.at t c.args.word.node) (omega arith) (omega (arith, some));
            two' = λ t. two.value run at_two t ∙ cut_part w 2 (3 * w - 1) (2 * w) (run.at t c.args.word.node) (omega arith) (omega (arith, some));
            three' = λ t. three.value run r t ∙ cut_part w 3 (4 * w - 1) (3 * w) (run.at t c.args.word.node) (omega arith) (omega (arith, some));
          };
    }
