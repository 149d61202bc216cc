use Rattle.std.proofs.Common.{suc, ap, arith, ◌∙◌}
use Rattle.std.proofs.lemmas.Grind.{common_steps}
use Rattle.gl_wire.proofs.GateLemmas.{bit_of}
use Rattle.gl_wire.proofs.StageLemmas.{line_later}
use Rattle.gl_wire.proofs.stages.later_bit.Goals as goal

pub returns : goal.returns
returns c =
    let a = c.in_ok-register.ensures in
    let d = c.in_ok-drive.ensures in
    record {
      keeps = grind (arith, common_steps);
      cost = record { nodes = omega (arith, a.size, d.size); registers = omega (arith, a.register_bits, d.register_bits); memories = omega (arith, a.memory_bits, d.memory_bits) };
      bit = bit_of c.drive.new.self c.in_ok-register.register c.bit.result (record { there = d.grows.shapes _ _ a.bus.there; width = a.bus.width }) a.width c.bit.ensures;
      line = λ run r. line_later run c.args.line c.bit.result
          (ap (run.at 1) c.bit.ensures ∙ a.start run (d.grows.runs run r) ∙ c.clear.ensures.bits)
          (λ u. ap (run.at (suc (suc u))) c.bit.ensures ∙ d.value run r u ∙ ap (run.at (suc u)) c.bus.ensures.node);
    }
