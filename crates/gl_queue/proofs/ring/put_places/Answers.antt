use Rattle.std.proofs.Common.{ℕ, Some, ap, arith, ◌∙◌}
use Rattle.gl_bits.proofs.Wrapping.{one_fits}
use Rattle.gl_net.specs.declared.node.Bus.{Bus}
use Rattle.gl_net.specs.Net.{IsBus, Keeps, Value, shape_in}
use Rattle.gl_net.proofs.Determined.{keeps_then}
use Rattle.gl_net.proofs.Drive.{driven_keeps}
use Rattle.gl_wire.proofs.ColumnLemmas.{bus_kept}
use Rattle.gl_queue.proofs.PartLemmas.{places_are}
use Rattle.gl_queue.proofs.ring.put_places.Goals as goal

pub put_meeting-requires-clause-number : goal.put_meeting-requires-clause-number
put_meeting-requires-clause-number c = one_fits c.args.bits c.requires.bits.some'

pub returns : goal.returns
returns c = rw c.note_places.ensures (
    let flag = c.in_ok-flag.ensures in
    let pop = c.in_ok-pop.ensures in
    let head = c.in_ok-head.ensures in
    let tail = c.in_ok-tail.ensures in
    let last = c.in_ok-last.ensures in
    let next = c.in_ok-next.ensures in
    let drive = c.in_ok-drive.ensures in
    let to_next : (b : Bus) → IsBus c.put_place-2.new.net b → IsBus c.put_flag.new.net b = λ b i. bus_kept _ _ b next.keeps (bus_kept _ _ b last.keeps i) in
    let behind_pop : Keeps c.but_not.new.net c.put_flag.new.net =
    keeps_then _ c.put_place.new.net _ head.keeps (keeps_then _ c.put_place-2.new.net _ tail.keeps (keeps_then _ c.put_meeting.new.net _ last.keeps next.keeps)) in
    let middle : Keeps c.register.new.self c.put_flag.new.net = keeps_then _ c.but_not.new.net _ pop.keeps behind_pop in
    let tail_bus = to_next c.in_ok-tail.tail tail.bus in
    let head_bus = to_next c.in_ok-head.head (bus_kept _ _ _ tail.keeps head.bus) in
    record {
      keeps = driven_keeps c.args.net.now c.register.new.self c.put_flag.new.net c.drive.new.self c.in_ok-flag.flag.node flag.grows flag.ports flag.name flag.others flag.fresh
          middle drive.grows drive.ports drive.name drive.others drive.driven;
      cost = record {
        nodes = omega (arith, flag.size, pop.cost.nodes, head.cost.nodes, tail.cost.nodes, last.cost.nodes, next.cost.nodes, drive.size);
        registers = omega (arith, flag.register_bits, pop.cost.registers, head.cost.registers, tail.cost.registers, last.cost.registers, next.cost.registers, drive.register_bits);
        memories = omega (arith, flag.memory_bits, pop.cost.memories, head.cost.memories, tail.cost.memories, last.cost.memories, next.cost.memories, drive.memory_bits);
      };
      some = record { there = ap (shape_in c.drive.new.self.nodes) c.bit-some.ensures ∙ drive.grows.shapes _ _ (middle.shapes _ _ flag.bus.there) ∙ ap (λ (w : ℕ). Some (Value w)) flag.width };
      pop = record { there = drive.grows.shapes _ _ (behind_pop.shapes _ _ pop.bit.there) };
      head = record { there = drive.grows.shapes _ _ head_bus.there; width = head_bus.width };
      head_width = head.width;
      tail = record { there = drive.grows.shapes _ _ tail_bus.there; width = tail_bus.width };
      tail_width = tail.width;
      places = λ run r.
          let at_next = drive.grows.runs run r in
          let at_last = next.keeps.runs run at_next in
          let at_tail = last.keeps.runs run at_last in
          let at_head = tail.keeps.runs run at_tail in
          let at_pop = head.keeps.runs run at_head in
          let at_flag = pop.keeps.runs run at_pop in
          places_are run c.args.bits c.args.push c.args.hold c.bit-some.result c.in_ok-pop.pop c.in_ok-last.last c.in_ok-next.next c.in_ok-head.head c.in_ok-tail.tail
          (head.pointer run at_head)
          (tail.pointer run at_tail)
          (pop.line run at_pop)
          (last.line run at_last)
          (next.line run at_next)
          (ap (run.at 1) c.bit-some.ensures ∙ flag.start run at_flag ∙ c.word.ensures.bits)
          (λ t. ap (run.at _) c.bit-some.ensures ∙ drive.value run r t ∙ ap (run.at _) c.bus.ensures.node);
    })
