use Rattle.std.proofs.Common.{arith, ◌∙◌}
use Rattle.std.proofs.lemmas.Grind.{common_steps}
use Rattle.gl_wire_registers.specs.Held.{held_at}
use Rattle.gl_wire_registers.proofs.RegisterLemmas.{grown_bus}
use Rattle.gl_groups.proofs.CountLemmas.{home_at, number_at}
use Rattle.gl_groups.proofs.FindingNet.{alike_opened}
use Rattle.gl_slots.proofs.SlotNet.{bits_opened}
use Rattle.gl_groups.proofs.finding.find_place.Goals as goal

pub pick-requires-clause-lines : goal.pick-requires-clause-lines
pick-requires-clause-lines c = bits_opened c.args.net.now c.register.new.self c.args.hits.now c.in_ok-home.ensures.grows c.requires.hits

pub pick-requires-clause-buses : goal.pick-requires-clause-buses
pick-requires-clause-buses c = alike_opened c.args.net.now c.register.new.self c.args.choice.base.width c.args.numbers.now c.in_ok-home.ensures.grows c.requires.numbers

pub returns : goal.returns
returns c =
    let register = c.in_ok-home.ensures in
    let met = c.in_ok-met.ensures in
    let there = c.in_ok-there.ensures in
    let number = c.in_ok-number.ensures in
    let drive = c.in_ok-drive.ensures in
    record {
      keeps = grind (arith, common_steps);
      number_bus = grown_bus c.choose-2.new.self c.drive.new.self c.in_ok-number.number drive.grows number.bus;
      number_width = number.width ∙ there.width ∙ met.same_width;
      home_bus = grind (arith, common_steps);
      home_width = register.width;
      cost = record {
        nodes = omega (arith, register.size, met.cost.nodes, there.size, number.size, drive.size);
        registers = omega (arith, register.register_bits, met.cost.registers, there.register_bits, number.register_bits, drive.register_bits);
        memories = omega (arith, register.memory_bits, met.cost.memories, there.memory_bits, number.memory_bits, drive.memory_bits);
      };
      met = λ run t. held_at 0 run c.in_ok-met.met t;
      picked = λ run r t.
          let at_number = drive.grows.runs run r in
          met.law run (there.keeps.runs run (number.keeps.runs run at_number)) t;
      number = λ run r.
          let at_number = drive.grows.runs run r in
          number_at run c.args.choice.one c.args.choice.moved c.in_ok-met.met c.in_ok-home.home c.args.choice.base c.in_ok-there.there c.in_ok-number.number
          (there.value run (number.keeps.runs run at_number)) (number.value run at_number);
      home = λ run r. home_at run c.in_ok-home.home c.in_ok-number.number (drive.value run r);
    }
