use Rattle.std.proofs.Common.{arith, ◌∙◌}
use Rattle.gl_net.specs.Net.{Keeps}
use Rattle.gl_net.proofs.Determined.{keeps_then}
use Rattle.gl_net.proofs.Drive.{driven_keeps}
use Rattle.gl_wire.proofs.ColumnLemmas.{buses_kept}
use Rattle.gl_queue.proofs.DriveLemmas.{buses_driven}
use Rattle.gl_queue.proofs.PacingLemmas.{pacing_is}
use Rattle.gl_queue.proofs.pacing.put_paced.Goals as goal

pub put_queue-requires-clause-columns : goal.put_queue-requires-clause-columns
put_queue-requires-clause-columns c = buses_kept _ _ _ c.in_ok-hold.ensures.keeps (buses_driven c.args.net.now c.register.new.self _ c.in_ok-timer.ensures.grows c.requires.columns)

pub returns : goal.returns
returns c = rw c.note_pace.ensures (
    let timer = c.in_ok-timer.ensures in
    let hold = c.in_ok-hold.ensures in
    let queue = c.in_ok-queue.ensures in
    let pop = c.in_ok-pop.ensures in
    let next = c.in_ok-next.ensures in
    let drive = c.in_ok-drive.ensures in
    let behind_queue : Keeps c.put_queue.new.net c.put_countdown.new.net = keeps_then _ c.but_not.new.net _ pop.keeps next.keeps in
    let middle : Keeps c.register.new.self c.put_countdown.new.net = keeps_then _ c.put_hold.new.net _ hold.keeps (keeps_then _ c.put_queue.new.net _ queue.keeps behind_queue) in
    record {
      keeps = driven_keeps c.args.net.now c.register.new.self c.put_countdown.new.net c.drive.new.self c.in_ok-timer.timer.node timer.grows timer.ports timer.name timer.others timer.fresh
          middle drive.grows drive.ports drive.name drive.others drive.driven;
      cost = record {
        nodes = omega (arith, timer.size, hold.cost.nodes, queue.cost.nodes, pop.cost.nodes, next.cost.nodes, drive.size);
        registers = omega (arith, timer.register_bits, hold.cost.registers, queue.cost.registers, pop.cost.registers, next.cost.registers, drive.register_bits);
        memories = omega (arith, timer.memory_bits, hold.cost.memories, queue.cost.memories, pop.cost.memories, next.cost.memories, drive.memory_bits);
      };
      pop = record { there = drive.grows.shapes _ _ (next.keeps.shapes _ _ pop.bit.there) };
      passed = record { there = drive.grows.shapes _ _ (behind_queue.shapes _ _ queue.passed.there) };
      buses = buses_driven c.put_countdown.new.net c.drive.new.self _ drive.grows (buses_kept c.put_queue.new.net c.put_countdown.new.net _ behind_queue queue.buses);
      same_widths = queue.same_widths;
      pacing = λ run r.
          let at_next = drive.grows.runs run r in
          let at_pop = next.keeps.runs run at_next in
          let at_queue = pop.keeps.runs run at_pop in
          let at_hold = queue.keeps.runs run at_queue in
          let at_timer = hold.keeps.runs run at_hold in
          let holds = hold.line run at_hold in
          pacing_is run c.args.depth c.args.gap c.args.push c.in_ok-hold.hold c.args.columns.now c.in_ok-timer.timer c.in_ok-next.next (record { queue = c.in_ok-queue.queue; pop = c.in_ok-pop.pop })
          holds (queue.queue run at_queue) (pop.line run at_pop) (timer.start run at_timer ∙ c.word.ensures.bits) (λ t. drive.value run r t) (next.value run at_next holds);
    })
