use Rattle.std.proofs.Common.{ℕ, Some, ap, arith, ◌∙◌}
use Rattle.gl_net.specs.Net.{Keeps, Value, shape_in}
use Rattle.gl_net.proofs.Determined.{keeps_then}
use Rattle.gl_net.proofs.Drive.{driven_keeps}
use Rattle.gl_wire.specs.Wire.{widths}
use Rattle.gl_wire.proofs.ColumnLemmas.{buses_kept}
use Rattle.gl_queue.proofs.QueueCosts.{place_cost}
use Rattle.gl_queue.proofs.ShortLemmas.{single_queue}
use Rattle.gl_queue.proofs.short.put_single.Goals as goal

pub returns : goal.returns
returns c = rw c.note_queue.ensures (
    let kept = c.in_ok-columns.ensures in
    let flag = c.in_ok-flag.ensures in
    let stays = c.in_ok-stays.ensures in
    let next = c.in_ok-next.ensures in
    let passed = c.in_ok-passed.ensures in
    let drive = c.in_ok-drive.ensures in
    let middle : Keeps c.register.new.self c.both-2.new.net = keeps_then _ c.both.new.net _ stays.keeps (keeps_then _ c.either.new.net _ next.keeps passed.keeps) in
    let closed : Keeps c.put_row.new.net c.drive.new.self =
    driven_keeps c.put_row.new.net c.register.new.self c.both-2.new.net c.drive.new.self c.in_ok-flag.flag.node flag.grows flag.ports flag.name flag.others flag.fresh
    middle drive.grows drive.ports drive.name drive.others drive.driven in
    record {
      keeps = keeps_then c.args.net.now c.put_row.new.net c.drive.new.self kept.keeps closed;
      cost = place_cost c.args.net.now c.drive.new.self (widths c.args.columns.now) (record {
        nodes = omega (arith, kept.cost.nodes, flag.size, stays.cost.nodes, next.cost.nodes, passed.cost.nodes, drive.size);
        registers = omega (arith, kept.cost.registers, flag.register_bits, stays.cost.registers, next.cost.registers, passed.cost.registers, drive.register_bits);
        memories = omega (arith, kept.cost.memories, flag.memory_bits, stays.cost.memories, next.cost.memories, passed.cost.memories, drive.memory_bits);
      });
      some = record { there = ap (shape_in c.drive.new.self.nodes) c.bit-some.ensures ∙ drive.grows.shapes _ _ (middle.shapes _ _ flag.bus.there) ∙ ap (λ (w : ℕ). Some (Value w)) flag.width };
      passed = record { there = drive.grows.shapes _ _ passed.bit.there };
      buses = buses_kept _ _ _ closed kept.buses;
      same_widths = kept.same_widths;
      queue = λ run r.
          let at_passed = drive.grows.runs run r in
          let at_next = passed.keeps.runs run at_passed in
          let at_stays = next.keeps.runs run at_next in
          let at_flag = stays.keeps.runs run at_stays in
          single_queue run c.args.push c.args.hold c.bit-some.result c.in_ok-stays.stays c.in_ok-next.next c.in_ok-passed.passed c.args.columns.now c.in_ok-columns.columns
          (ap (run.at 1) c.bit-some.ensures ∙ flag.start run at_flag ∙ c.word.ensures.bits)
          (λ t. ap (run.at _) c.bit-some.ensures ∙ drive.value run r t ∙ ap (run.at _) c.bus.ensures.node)
          (stays.line run at_stays) (next.line run at_next) (passed.line run at_passed) (kept.row run (flag.grows.runs run at_flag));
    })
