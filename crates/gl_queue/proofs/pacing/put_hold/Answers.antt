use Rattle.std.proofs.Common.{ap, arith, ◌∙◌}
use Rattle.gl_net.proofs.Determined.{keeps_then}
use Rattle.gl_wire.proofs.GateLemmas.{bit_of}
use Rattle.gl_queue.proofs.PacingLemmas.{hold_is}
use Rattle.gl_queue.proofs.pacing.put_hold.Goals as goal

pub returns : goal.returns
returns c =
    let zero = c.in_ok-zero.ensures in
    let above = c.in_ok-above.ensures in
    record {
      keeps = keeps_then c.args.net.now c.constant.new.self c.binary.new.self zero.keeps above.keeps;
      cost = record {
        nodes = omega (arith, zero.size, above.size);
        registers = omega (arith, zero.register_bits, above.register_bits);
        memories = omega (arith, zero.memory_bits, above.memory_bits);
      };
      bit = bit_of c.binary.new.self c.in_ok-above.above c.bit.result above.bus above.width c.bit.ensures;
      line = λ run r.
          hold_is run c.in_ok-zero.zero c.args.timer c.bit.result
          (λ t. zero.value run (above.keeps.runs run r) t ∙ c.word.ensures.bits)
          (λ t. ap (run.at t) c.bit.ensures ∙ above.value run r t);
    }
