use Rattle.std.proofs.Common.{ap, arith, ◌∙◌}
use Rattle.gl_net.specs.Net.{Keeps}
use Rattle.gl_net.proofs.Determined.{keeps_then}
use Rattle.gl_net.proofs.Drive.{driven_keeps}
use Rattle.gl_queue.proofs.JoinLinesLemmas.{waiting_both}
use Rattle.gl_queue.proofs.joiner.put_waiting.Goals as goal

pub returns : goal.returns
returns c = rw c.note_ends.ensures (
    let left = c.in_ok-left.ensures in
    let right = c.in_ok-right.ensures in
    let now = c.in_ok-now.ensures in
    let right_stays = c.in_ok-right_stays.ensures in
    let right_next = c.in_ok-right_next.ensures in
    let right_drive = c.in_ok-drive.ensures in
    let left_stays = c.in_ok-left_stays.ensures in
    let left_next = c.in_ok-left_next.ensures in
    let left_drive = c.in_ok-drive-2.ensures in
    let old = c.args.net.now in
    let inner : Keeps c.register-2.new.self c.either.new.net = keeps_then _ c.both.new.net _ now.keeps (keeps_then _ c.but_not.new.net _ right_stays.keeps right_next.keeps) in
    let closed : Keeps c.register.new.self c.drive.new.self =
    driven_keeps c.register.new.self c.register-2.new.self c.either.new.net c.drive.new.self c.in_ok-right.right.node right.grows right.ports right.name right.others right.fresh
    inner right_drive.grows right_drive.ports right_drive.name right_drive.others right_drive.driven in
    let middle : Keeps c.register.new.self c.either-2.new.net = keeps_then _ c.drive.new.self _ closed (keeps_then _ c.but_not-2.new.net _ left_stays.keeps left_next.keeps) in
    record {
      keeps = driven_keeps old c.register.new.self c.either-2.new.net c.drive-2.new.self c.in_ok-left.left.node left.grows left.ports left.name left.others left.fresh
          middle left_drive.grows left_drive.ports left_drive.name left_drive.others left_drive.driven;
      cost = record {
        nodes = omega (arith, left.size, right.size, now.cost.nodes, right_stays.cost.nodes, right_next.cost.nodes, right_drive.size, left_stays.cost.nodes, left_next.cost.nodes, left_drive.size);
        registers = omega (arith, left.register_bits, right.register_bits, now.cost.registers, right_stays.cost.registers, right_next.cost.registers, right_drive.register_bits, left_stays.cost.registers, left_next.cost.registers, left_drive.register_bits);
        memories = omega (arith, left.memory_bits, right.memory_bits, now.cost.memories, right_stays.cost.memories, right_next.cost.memories, right_drive.memory_bits, left_stays.cost.memories, left_next.cost.memories, left_drive.memory_bits);
      };
      bit = record {
        there = left_drive.grows.shapes _ _ (left_next.keeps.shapes _ _ (left_stays.keeps.shapes _ _ (right_drive.grows.shapes _ _ (right_next.keeps.shapes _ _ (right_stays.keeps.shapes _ _ now.bit.there)))));
      };
      waits = λ run r.
          let at_left_next = left_drive.grows.runs run r in
          let at_left_stays = left_next.keeps.runs run at_left_next in
          let at_drive = left_stays.keeps.runs run at_left_stays in
          let at_right_next = right_drive.grows.runs run at_drive in
          let at_right_stays = right_next.keeps.runs run at_right_next in
          let at_now = right_stays.keeps.runs run at_right_stays in
          let at_right = now.keeps.runs run at_now in
          let at_left = right.grows.runs run at_right in
          waiting_both run c.args.left_end c.args.right_end c.bit-left_waits.result c.bit-right_waits.result c.in_ok-now.now c.in_ok-left_stays.left_stays c.in_ok-left_next.left_next
          c.in_ok-right_stays.right_stays c.in_ok-right_next.right_next
          (ap (run.at 1) c.bit-left_waits.ensures ∙ left.start run at_left ∙ c.word.ensures.bits)
          (ap (run.at 1) c.bit-right_waits.ensures ∙ right.start run at_right ∙ c.word-2.ensures.bits)
          (λ t. ap (run.at _) c.bit-left_waits.ensures ∙ left_drive.value run r t ∙ ap (run.at _) c.bus-2.ensures.node)
          (λ t. ap (run.at _) c.bit-right_waits.ensures ∙ right_drive.value run at_drive t ∙ ap (run.at _) c.bus.ensures.node)
          (now.line run at_now)
          (left_stays.line run at_left_stays)
          (left_next.line run at_left_next)
          (right_stays.line run at_right_stays)
          (right_next.line run at_right_next);
    })
