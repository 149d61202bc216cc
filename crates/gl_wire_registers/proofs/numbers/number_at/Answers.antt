use Rattle.std.proofs.Common.{suc, ap, arith, ◌∙◌, Bool}
use Rattle.std.specs.Prelude.{if◌then◌else◌}
use Rattle.gl_bits.specs.Words.{eq_of}
use Rattle.gl_net.proofs.Determined.{keeps_then}
use Rattle.gl_wire_registers.proofs.NumberLemmas.{same_line}
use Rattle.gl_wire_registers.proofs.numbers.number_at.Goals as goal

pub returns : goal.returns
returns c =
    let at = c.in_ok-at.ensures in
    let same = c.in_ok-same.ensures in
    let chosen = c.in_ok-chosen.ensures in
    record {
      keeps = keeps_then c.args.net.now c.constant.new.self _ at.keeps (keeps_then c.constant.new.self c.binary.new.self c.number_or.new.net same.keeps chosen.keeps);
      cost = record {
        nodes = omega (arith, at.size, same.size, chosen.cost.nodes);
        registers = omega (arith, at.register_bits, same.register_bits, chosen.cost.registers);
        memories = omega (arith, at.memory_bits, same.memory_bits, chosen.cost.memories);
      };
      bus = chosen.bus;
      width = chosen.width;
      value = λ run r t.
          let before = chosen.keeps.runs run r in
          chosen.value run r t
          ∙ ap (λ (b : Bool). if b then c.args.number else run.at (suc t) c.args.other.node)
          (same_line run c.bit.result (run.at (suc t) c.args.bus.node) c.args.at t
          (ap (run.at (suc t)) c.bit.ensures ∙ same.value run before (suc t)
          ∙ ap (eq_of (run.at (suc t) c.args.bus.node)) (at.value run (same.keeps.runs run before) (suc t) ∙ c.word.ensures.bits)));
    }
