use Rattle.std.proofs.Common.{suc, ap, sym, arith, ◌∙◌, Bool}
use Rattle.std.proofs.lemmas.Grind.{common_steps}
use Rattle.std.specs.Prelude.{not, ◌&&◌}
use Rattle.gl_wire.specs.Wire.{line_at}
use Rattle.gl_wire.proofs.GateLemmas.{bit_of}
use Rattle.gl_wire_registers.proofs.CounterLemmas.{latch_at, same_node}
use Rattle.gl_wire_registers.proofs.counters.latch.Goals as goal

pub returns : goal.returns
returns c =
    let register = c.in_ok-register.ensures in
    let kept = c.in_ok-kept.ensures in
    let next = c.in_ok-next.ensures in
    let drive = c.in_ok-drive.ensures in
    record {
      keeps = grind (arith, common_steps);
      cost = record {
        nodes = omega (arith, register.size, kept.cost.nodes, next.cost.nodes, drive.size);
        registers = omega (arith, register.register_bits, kept.cost.registers, next.cost.registers, drive.register_bits);
        memories = omega (arith, register.memory_bits, kept.cost.memories, next.cost.memories, drive.memory_bits);
      };
      bit = bit_of c.drive.new.self c.in_ok-register.register c.bit-2.result
          (record { there = drive.grows.shapes _ _ (next.keeps.shapes _ _ (kept.keeps.shapes _ _ register.bus.there)); width = register.bus.width }) register.width c.bit-2.ensures;
      line = λ run r.
          let before_drive = drive.grows.runs run r in
          let before_next = next.keeps.runs run before_drive in
          let before_kept = kept.keeps.runs run before_next in
          latch_at run c.bit-2.result c.args.set c.args.clear c.in_ok-kept.kept c.in_ok-next.next
          (ap (run.at 1) c.bit-2.ensures ∙ register.start run before_kept ∙ c.word.ensures.bits)
          (λ t. ap (run.at (suc (suc t))) c.bit-2.ensures ∙ drive.value run r t ∙ ap (run.at (suc t)) c.bus.ensures.node)
          (λ t. kept.line run before_next t ∙ ap (λ (b : Bool). b && not (line_at run c.args.clear t)) (same_node run c.bit.result c.bit-2.result t (c.bit.ensures ∙ sym c.bit-2.ensures)))
          (next.line run before_drive);
    }
