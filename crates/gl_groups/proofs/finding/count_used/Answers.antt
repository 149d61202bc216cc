use Rattle.std.proofs.Common.{arith, ◌∙◌}
use Rattle.std.proofs.lemmas.Grind.{common_steps}
use Rattle.gl_wire_registers.proofs.RegisterLemmas.{grown_bus}
use Rattle.gl_wire.proofs.ColumnLemmas.{bus_kept}
use Rattle.gl_net.proofs.Determined.{keeps_then}
use Rattle.gl_groups.proofs.CountLemmas.{base_at, many_at}
use Rattle.gl_groups.proofs.finding.count_used.Goals as goal

pub returns : goal.returns
returns c =
    let register = c.in_ok-many.ensures in
    let base = c.in_ok-base.ensures in
    let more = c.in_ok-more.ensures in
    let next = c.in_ok-next.ensures in
    let drive = c.in_ok-drive.ensures in
    record {
      keeps = grind (arith, common_steps);
      many_bus = grind (arith, common_steps);
      many_width = register.width;
      base_bus = grown_bus c.choose.new.self c.drive.new.self c.in_ok-base.base drive.grows
          (bus_kept c.number_or.new.net c.choose.new.self c.in_ok-base.base (keeps_then c.number_or.new.net c.with_one.new.net c.choose.new.self more.keeps next.keeps) base.bus);
      base_width = base.width ∙ register.width;
      cost = record {
        nodes = omega (arith, register.size, base.cost.nodes, more.cost.nodes, next.size, drive.size);
        registers = omega (arith, register.register_bits, base.cost.registers, more.cost.registers, next.register_bits, drive.register_bits);
        memories = omega (arith, register.memory_bits, base.cost.memories, more.cost.memories, next.memory_bits, drive.memory_bits);
      };
      base = λ run r.
          let at_choose = drive.grows.runs run r in
          let at_base = more.keeps.runs run (next.keeps.runs run at_choose) in
          base_at run c.args.free c.in_ok-many.many c.in_ok-base.base (base.value run at_base);
      many = λ run r.
          let at_choose = drive.grows.runs run r in
          let at_more = next.keeps.runs run at_choose in
          let at_base = more.keeps.runs run at_more in
          let at_register = base.keeps.runs run at_base in
          many_at run c.args.free c.args.new c.in_ok-many.many c.in_ok-base.base c.in_ok-more.more c.in_ok-next.next c.args.width
          (register.start run at_register ∙ c.word.ensures.bits) (base.width ∙ register.width) (base.value run at_base) (more.value run at_more) (next.value run at_choose) (drive.value run r);
    }
