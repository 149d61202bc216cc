use Rattle.std.proofs.Common.{suc, ap, arith, ◌∙◌}
use Rattle.gl_bits.specs.Words.{choose_of}
use Rattle.gl_net.proofs.Determined.{keeps_then}
use Rattle.gl_wire.proofs.GateLemmas.{choose_line}
use Rattle.gl_wire_registers.proofs.numbers.number_or.Goals as goal

pub returns : goal.returns
returns c =
    let number = c.in_ok-number.ensures in
    let chosen = c.in_ok-chosen.ensures in
    record {
      keeps = keeps_then c.args.net.now c.constant.new.self c.choose.new.self number.keeps chosen.keeps;
      cost = record {
        nodes = omega (arith, number.size, chosen.size);
        registers = omega (arith, number.register_bits, chosen.register_bits);
        memories = omega (arith, number.memory_bits, chosen.memory_bits);
      };
      bus = chosen.bus;
      width = chosen.width ∙ number.width ∙ c.word.ensures.width;
      value = λ run r t.
          let other = run.at (suc t) c.args.other.node in
          chosen.value run r (suc t)
          ∙ ap (λ v. choose_of (run.at (suc t) c.args.line.node) v other) (number.value run (chosen.keeps.runs run r) (suc t) ∙ c.word.ensures.bits)
          ∙ choose_line run c.args.line c.args.number other t;
    }
