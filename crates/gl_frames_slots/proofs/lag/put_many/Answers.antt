use Rattle.std.proofs.Common.{ap, suc, arith, ◌∙◌}
use Rattle.gl_bits.specs.Words.{le_of}
use Rattle.gl_net.proofs.Determined.{keeps_then}
use Rattle.gl_wire.proofs.GateLemmas.{bit_of}
use Rattle.gl_frames_wire.proofs.LagNet.{many_line}
use Rattle.gl_frames_slots.proofs.lag.put_many.Goals as goal

pub binary-requires-clause-widths : goal.binary-requires-clause-widths
binary-requires-clause-widths c = c.in_ok-least.ensures.width ∙ c.back_word.ensures.width

pub returns : goal.returns
returns c =
    let least = c.in_ok-least.ensures in
    let gate = c.in_ok-there.ensures in
    record {
      keeps = keeps_then _ _ _ least.keeps gate.keeps;
      cost = record {
        nodes = omega (arith, least.size, gate.size);
        registers = omega (arith, least.register_bits, gate.register_bits);
        memories = omega (arith, least.memory_bits, gate.memory_bits);
      };
      bit = bit_of c.binary.new.self c.in_ok-there.there c.bit.result gate.bus gate.width c.bit.ensures;
      line = λ run r t. many_line run c.bit.result c.args.reach.back (run.at (suc t) c.args.count.node) t
          (ap (run.at (suc t)) c.bit.ensures ∙ gate.value run r (suc t)
          ∙ ap (λ n. le_of n (run.at (suc t) c.args.count.node)) (least.value run (gate.keeps.runs run r) (suc t) ∙ c.back_word.ensures.bits));
    }
