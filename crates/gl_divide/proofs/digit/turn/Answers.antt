use Rattle.std.proofs.Common.{ℕ, ap, arith, ◌∙◌}
use Rattle.gl_bits.specs.Words.{not_of}
use Rattle.gl_wire.proofs.GateLemmas.{bit_of}
use Rattle.gl_wire.proofs.ColumnLemmas.{bit_kept}
use Rattle.gl_divide.proofs.DigitNet.{turned_line}
use Rattle.gl_divide.proofs.digit.turn.Goals as goal

pub returns : goal.returns
returns c =
    let new = c.not.new.self in
    let out = c.in_ok-out.ensures in
    record {
      keeps = out.keeps;
      cost = record { nodes = omega (arith, out.size); registers = omega (arith, out.register_bits); memories = omega (arith, out.memory_bits) };
      bit = bit_of new c.in_ok-out.out c.bit.result out.bus (out.width ∙ c.bus.ensures.width) c.bit.ensures;
      line = λ run r.
          turned_line new run c.args.line c.bit.result (bit_kept c.args.net.now new c.args.line out.keeps c.requires) r
          (λ t. ap (run.at t) c.bit.ensures ∙ out.value run r t ∙ ap (λ (w : ℕ). not_of w (run.at t c.bus.result.node)) c.bus.ensures.width
          ∙ ap (λ (n : ℕ). not_of 1 (run.at t n)) c.bus.ensures.node);
    }
