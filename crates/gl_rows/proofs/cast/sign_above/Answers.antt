use Rattle.std.proofs.Common.{ℕ, ◌-◌, ◌^◌, arith, ap, ◌∙◌}
use Rattle.gl_bits.specs.Words.{choose_of, cut_of, join_of}
use Rattle.gl_net.proofs.Determined.{keeps_then}
use Rattle.gl_net.proofs.Values.{bus_fits}
use Rattle.gl_rows.proofs.CastLemmas.{sign_join}
use Rattle.gl_rows.proofs.cast.sign_above.Goals as goal

pub returns : goal.returns
returns c =
    let old = c.args.net.now in
    let new = c.join.new.self in
    let bus = c.args.bus in
    let width = c.args.width in
    let sign = c.in_ok-sign.ensures in
    let ones = c.in_ok-ones.ensures in
    let zeros = c.in_ok-zeros.ensures in
    let above = c.in_ok-above.ensures in
    let joined = c.in_ok-joined.ensures in
    let wide = above.width ∙ ones.width ∙ c.ones_word.ensures.width in
    record {
      keeps = keeps_then old c.cut.new.self new sign.keeps (keeps_then _ c.constant.new.self new ones.keeps (keeps_then _ c.put_zeros.new.net new zeros.keeps
          (keeps_then _ c.choose.new.self new above.keeps joined.keeps)));
      cost = record {
        nodes = omega (arith, sign.size, ones.size, zeros.cost.nodes, above.size, joined.size);
        registers = omega (arith, sign.register_bits, ones.register_bits, zeros.cost.registers, above.register_bits, joined.register_bits);
        memories = omega (arith, sign.memory_bits, ones.memory_bits, zeros.cost.memories, above.memory_bits, joined.memory_bits);
      };
      bus = joined.bus;
      same_width = omega (arith, joined.width, wide, c.requires.more);
      carries = λ run r t.
          let at_above = joined.keeps.runs run r in
          let at_zeros = above.keeps.runs run at_above in
          let at_ones = zeros.keeps.runs run at_zeros in
          let at_sign = ones.keeps.runs run at_ones in
          let x = run.at t bus.node in
          joined.value run r t
          ∙ ap (λ (n : ℕ). join_of bus.width n x)
          (above.value run at_above t
          ∙ ap (λ (n : ℕ). choose_of n (run.at t c.in_ok-ones.ones.node) (run.at t c.in_ok-zeros.zeros.node)) (ap (run.at t) c.bit.ensures ∙ sign.value run at_sign t)
          ∙ ap (λ (n : ℕ). choose_of (cut_of (bus.width - 1) (bus.width - 1) x) n (run.at t c.in_ok-zeros.zeros.node)) (ones.value run at_ones t ∙ c.ones_word.ensures.bits)
          ∙ ap (choose_of (cut_of (bus.width - 1) (bus.width - 1) x) (2 ^ (width - bus.width) - 1)) (zeros.carries run at_zeros t))
          ∙ sign_join bus.width width x c.requires.bus.width.some' (bus_fits old bus run c.requires.bus (sign.keeps.runs run at_sign) t) (omega (arith, c.requires.more));
    }
