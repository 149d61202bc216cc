use Rattle.std.proofs.Common.{ℕ, List, Some, length, subst, sym, ap, arith, ◌∙◌}
use Rattle.gl_net.specs.declared.node.Bus.{Bus}
use Rattle.gl_net.specs.Net.{Keeps, Value}
use Rattle.gl_net.proofs.Determined.{keeps_then}
use Rattle.gl_net.proofs.Drive.{driven_keeps}
use Rattle.gl_wire.proofs.ColumnLemmas.{bit_kept, bus_kept}
use Rattle.gl_wire_registers.specs.Lines.{AddsLines}
use Rattle.gl_wire_registers.proofs.RegisterLemmas.{grown_bus}
use Rattle.gl_slots.specs.Homes.{AddsMark, AreMarks}
use Rattle.gl_slots.specs.SlotLines.{AreKeysOf, AreSeen, same_to}
use Rattle.gl_slots.proofs.HomeNet.{marks_there, slots_add}
use Rattle.gl_slots.proofs.SeenNet.{bit_opened}
use Rattle.gl_slots.proofs.homes.put_slots.Goals as goal

pub same_each-requires-clause-keys : goal.same_each-requires-clause-keys
same_each-requires-clause-keys c =
    let marks = c.in_ok-marks.ensures in
    let home = c.in_ok-home.ensures in
    subst (AreKeysOf c.register.new.self c.in_ok-home.home) (sym c.as_slice.ensures)
    (record { each = λ k b e. grown_bus c.marks.new.net c.register.new.self b home.grows (marks.alike.each k b e); widths = λ k b e. marks.alike.widths k b e ∙ sym home.width })

pub keep_slots-requires-clause-free : goal.keep_slots-requires-clause-free
keep_slots-requires-clause-free c =
    bit_kept c.register.new.self c.same_each.new.net c.args.wanted.free c.in_ok-homes.ensures.keeps
    (bit_opened c.marks.new.net c.register.new.self c.args.wanted.free c.in_ok-home.ensures.grows (bit_kept c.args.net.now c.marks.new.net c.args.wanted.free c.in_ok-marks.ensures.keeps c.requires.free))

pub keep_slots-requires-clause-ask : goal.keep_slots-requires-clause-ask
keep_slots-requires-clause-ask c =
    bit_kept c.register.new.self c.same_each.new.net c.args.wanted.ask c.in_ok-homes.ensures.keeps
    (bit_opened c.marks.new.net c.register.new.self c.args.wanted.ask c.in_ok-home.ensures.grows (bit_kept c.args.net.now c.marks.new.net c.args.wanted.ask c.in_ok-marks.ensures.keeps c.requires.ask))

pub keep_slots-requires-clause-here : goal.keep_slots-requires-clause-here
keep_slots-requires-clause-here c =
    bus_kept c.register.new.self c.same_each.new.net c.args.wanted.here c.in_ok-homes.ensures.keeps
    (grown_bus c.marks.new.net c.register.new.self c.args.wanted.here c.in_ok-home.ensures.grows (bus_kept c.args.net.now c.marks.new.net c.args.wanted.here c.in_ok-marks.ensures.keeps c.requires.here))

pub keep_slots-requires-clause-homes_count : goal.keep_slots-requires-clause-homes_count
keep_slots-requires-clause-homes_count c = c.in_ok-homes.ensures.count ∙ ap (λ (bs : List Bus). length bs) c.as_slice.ensures ∙ c.in_ok-marks.ensures.count

pub mark_slot-requires-clause-seen : goal.mark_slot-requires-clause-seen
mark_slot-requires-clause-seen c =
    subst (λ (n : ℕ). AreSeen c.keep_slots.new.net n c.in_ok-slots.slots.seen) (sym (ap (λ (bs : List Bus). length bs) c.as_slice-2.ensures ∙ c.in_ok-marks.ensures.count)) c.in_ok-slots.ensures.are

pub mark_slot-requires-clause-some : goal.mark_slot-requires-clause-some
mark_slot-requires-clause-some c = omega (arith, c.requires.count, ap (λ (bs : List Bus). length bs) c.as_slice-2.ensures, c.in_ok-marks.ensures.count)

pub mark_slot-requires-clause-marks : goal.mark_slot-requires-clause-marks
mark_slot-requires-clause-marks c =
    let read : Keeps c.register.new.self c.keep_slots.new.net =
    keeps_then c.register.new.self c.same_each.new.net c.keep_slots.new.net c.in_ok-homes.ensures.keeps c.in_ok-slots.ensures.keeps in
    subst (λ (bs : List Bus). AreMarks c.keep_slots.new.net (length bs) c.args.width bs) (sym c.as_slice-2.ensures)
    (marks_there c.args.net.now c.marks.new.net c.register.new.self c.keep_slots.new.net c.args.count c.args.width c.in_ok-marks.marks c.in_ok-marks.ensures c.in_ok-home.ensures.grows read)

pub drive-requires-clause-undriven : goal.drive-requires-clause-undriven
drive-requires-clause-undriven c =
    let inner : Keeps c.register.new.self c.mark_slot.new.net =
    keeps_then c.register.new.self c.same_each.new.net c.mark_slot.new.net c.in_ok-homes.ensures.keeps
    (keeps_then c.same_each.new.net c.keep_slots.new.net c.mark_slot.new.net c.in_ok-slots.ensures.keeps c.in_ok-next.ensures.keeps) in
    inner.undriven c.in_ok-home.home.node ∙ c.in_ok-home.ensures.undriven ∙ ap (λ (w : ℕ). Some (Value w)) (sym c.in_ok-home.ensures.width)

pub drive-requires-clause-widths : goal.drive-requires-clause-widths
drive-requires-clause-widths c = c.in_ok-next.ensures.same_width ∙ sym c.in_ok-home.ensures.width

pub returns : goal.returns
returns c = rw c.note_home.ensures (
    let home = c.in_ok-home.ensures in
    let drive = c.in_ok-drive.ensures in
    let inner : Keeps c.register.new.self c.mark_slot.new.net =
    keeps_then c.register.new.self c.same_each.new.net c.mark_slot.new.net c.in_ok-homes.ensures.keeps
    (keeps_then c.same_each.new.net c.keep_slots.new.net c.mark_slot.new.net c.in_ok-slots.ensures.keeps c.in_ok-next.ensures.keeps) in
    let closed : Keeps c.marks.new.net c.drive.new.self =
    driven_keeps c.marks.new.net c.register.new.self c.mark_slot.new.net c.drive.new.self c.in_ok-home.home.node home.grows home.ports home.name home.others home.fresh
    inner drive.grows drive.ports drive.name drive.others drive.driven in
    let lines = subst (λ (bs : List Bus). AddsLines c.register.new.self c.same_each.new.net (length bs) 1 c.in_ok-homes.homes (same_to c.in_ok-home.home bs)) c.as_slice.ensures c.in_ok-homes.ensures in
    let next = subst (λ (bs : List Bus). AddsMark c.keep_slots.new.net c.mark_slot.new.net c.in_ok-slots.slots.seen (length bs) c.args.width c.in_ok-next.next) c.as_slice-2.ensures c.in_ok-next.ensures in
    slots_add c.args.net.now c.marks.new.net c.register.new.self c.same_each.new.net c.keep_slots.new.net c.mark_slot.new.net c.drive.new.self c.args.wanted.free c.args.wanted.ask c.args.wanted.here c.args.count c.args.width
    c.in_ok-marks.marks c.in_ok-home.home c.in_ok-homes.homes c.in_ok-slots.slots c.in_ok-next.next c.in_ok-marks.ensures (λ run r. home.start run r ∙ c.word.ensures.bits)
    (record { nodes = omega (arith, home.size); registers = omega (arith, home.register_bits); memories = omega (arith, home.memory_bits) }) home.grows lines c.in_ok-slots.ensures next
    drive.grows (record { nodes = omega (arith, drive.size); registers = omega (arith, drive.register_bits); memories = omega (arith, drive.memory_bits) }) drive.value closed)
