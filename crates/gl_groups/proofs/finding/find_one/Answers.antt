use Rattle.std.proofs.Common.{suc, ap, sym, arith, ◌∙◌, length, Bool}
use Rattle.std.proofs.lemmas.Grind.{common_steps}
use Rattle.std.specs.Prelude.{not, ◌&&◌, if◌then◌else◌}
use Rattle.gl_wire.specs.Wire.{line_at}
use Rattle.gl_wire.proofs.ColumnLemmas.{bit_kept}
use Rattle.gl_wire.proofs.GateLemmas.{bit_of}
use Rattle.gl_wire.proofs.StageLemmas.{line_later}
use Rattle.gl_wire_registers.specs.Lines.{any_line, any_to, line_of}
use Rattle.gl_wire_registers.proofs.CounterLemmas.{same_node}
use Rattle.gl_slots.specs.Choices.{chosen}
use Rattle.gl_slots.proofs.SeenNet.{bit_opened}
use Rattle.gl_slots.proofs.SlotNet.{bits_opened}
use Rattle.gl_groups.proofs.finding.find_one.Goals as goal

pub any-requires : goal.any-requires
any-requires c = bits_opened c.args.net.now c.register.new.self c.args.hits.now c.in_ok-register.ensures.grows c.requires.hits

pub returns : goal.returns
unfolding chosen any_line
returns c =
    let register = c.in_ok-register.ensures in
    let some = c.in_ok-some.ensures in
    let there = c.in_ok-there.ensures in
    let one = c.in_ok-one.ensures in
    let next = c.in_ok-next.ensures in
    let drive = c.in_ok-drive.ensures in
    record {
      keeps = grind (arith, common_steps);
      one_bit = bit_opened c.either.new.net c.drive.new.self c.in_ok-one.one drive.grows (bit_kept c.but_not.new.net c.either.new.net c.in_ok-one.one next.keeps one.bit);
      had_bit = bit_of c.drive.new.self c.in_ok-register.register c.bit-2.result
          (record { there = drive.grows.shapes _ _ (next.keeps.shapes _ _ (one.keeps.shapes _ _ (there.keeps.shapes _ _ (some.keeps.shapes _ _ register.bus.there)))); width = register.bus.width }) register.width c.bit-2.ensures;
      cost = record {
        nodes = omega (arith, register.size, some.cost.nodes, there.cost.nodes, one.cost.nodes, next.cost.nodes, drive.size);
        registers = omega (arith, register.register_bits, some.cost.registers, there.cost.registers, one.cost.registers, next.cost.registers, drive.register_bits);
        memories = omega (arith, register.memory_bits, some.cost.memories, there.cost.memories, one.cost.memories, next.cost.memories, drive.memory_bits);
      };
      one = λ run r t.
          let at_next = drive.grows.runs run r in
          let at_one = next.keeps.runs run at_next in
          let at_there = one.keeps.runs run at_one in
          let at_some = there.keeps.runs run at_there in
          one.line run at_one t ∙ ap (λ (b : Bool). b && not (line_at run c.args.free t)) (there.line run at_there t)
          ∙ ap (λ (b : Bool). (if line_at run c.args.moved t then b else line_at run c.bit.result t) && not (line_at run c.args.free t)) (some.line run at_some t)
          ∙ ap (λ (b : Bool). (if line_at run c.args.moved t then any_to (length c.args.hits.now) (λ k. line_of run c.args.hits.now k t) else b) && not (line_at run c.args.free t))
          (same_node run c.bit.result c.bit-2.result t (c.bit.ensures ∙ sym c.bit-2.ensures));
      had = λ run r t.
          let at_next = drive.grows.runs run r in
          let at_register = some.keeps.runs run (there.keeps.runs run (one.keeps.runs run (next.keeps.runs run at_next))) in
          line_later run c.in_ok-next.next c.bit-2.result (ap (run.at 1) c.bit-2.ensures ∙ register.start run at_register ∙ c.word.ensures.bits)
          (λ u. ap (run.at (suc (suc u))) c.bit-2.ensures ∙ drive.value run r u ∙ ap (run.at (suc u)) c.bus.ensures.node) t
          ∙ next.line run at_next t;
    }
