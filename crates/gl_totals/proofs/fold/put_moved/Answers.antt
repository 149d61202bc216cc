use Rattle.std.proofs.Common.{Bool, suc, ap, arith, ◌∙◌}
use Rattle.gl_divide.specs.Division.{with_bit}
use Rattle.gl_net.proofs.Determined.{keeps_then}
use Rattle.gl_totals.proofs.FoldNet.{low_line}
use Rattle.gl_totals.proofs.fold.put_moved.Goals as goal

pub returns : goal.returns
returns c =
    let old = c.args.net.now in
    let new = c.shift.new.net in
    let low = c.in_ok-low.ensures in
    let out = c.in_ok-out.ensures in
    record {
      keeps = keeps_then old c.constant.new.self new low.keeps out.keeps;
      cost = record {
        nodes = omega (arith, low.size, out.cost.nodes);
        registers = omega (arith, low.register_bits, out.cost.registers);
        memories = omega (arith, low.memory_bits, out.cost.memories);
      };
      bus = out.bus;
      same_width = out.same_width;
      value = λ run r t.
          let bit = low_line run c.bit.result t (ap (run.at (suc t)) c.bit.ensures ∙ low.value run (out.keeps.runs run r) (suc t) ∙ c.small_word.ensures.bits) in
          out.value run r t ∙ ap (λ (b : Bool). with_bit c.args.state.width (run.at (suc t) c.args.state.node) b) bit;
    }
