use Rattle.std.proofs.Common.{ℕ, Some, suc, ap, arith, ◌∙◌}
use Rattle.gl_net.specs.Net.{Value, shape_in}
use Rattle.gl_net.proofs.Drive.{driven_keeps}
use Rattle.gl_wiring.proofs.OutputLemmas.{sticky_is}
use Rattle.gl_wiring.proofs.output.put_sticky.Goals as goal

pub returns : goal.returns
returns c =
    let register = c.in_ok-register.ensures in
    let next = c.in_ok-next.ensures in
    let drive = c.in_ok-drive.ensures in
    record {
      keeps = driven_keeps c.args.net.now c.register.new.self c.either.new.net c.drive.new.self c.in_ok-register.register.node
          register.grows register.ports register.name register.others register.fresh
          next.keeps drive.grows drive.ports drive.name drive.others drive.driven;
      cost = record {
        nodes = omega (arith, register.size, next.cost.nodes, drive.size);
        registers = omega (arith, register.register_bits, next.cost.registers, drive.register_bits);
        memories = omega (arith, register.memory_bits, next.cost.memories, drive.memory_bits);
      };
      bit = record {
        there = ap (shape_in c.drive.new.self.nodes) c.bit-kept.ensures ∙ drive.grows.shapes _ _ (next.keeps.shapes _ _ register.bus.there)
            ∙ ap (λ (w : ℕ). Some (Value w)) register.width;
      };
      sticky = λ run r.
          let at_next = drive.grows.runs run r in
          let at_register = next.keeps.runs run at_next in
          sticky_is run c.args.line c.in_ok-next.next c.bit-kept.result
          (ap (run.at 1) c.bit-kept.ensures ∙ register.start run at_register ∙ c.low.ensures.bits)
          (λ t. ap (run.at (suc (suc t))) c.bit-kept.ensures ∙ drive.value run r t ∙ ap (run.at (suc t)) c.bus.ensures.node)
          (next.line run at_next);
    }
