use Rattle.std.proofs.Common.{◌-◌, ◌≤◌, ℕ, refl, subst, sym}
use Rattle.gl_algebra.proofs.FigureLemmas.{one_in_time}
use Rattle.gl_net.proofs.Determined.{keeps_then}
use Rattle.gl_wire.proofs.ColumnLemmas.{bit_kept, buses_kept}
use Rattle.gl_wire_registers.proofs.LineLemmas.{bits_kept}
use Rattle.gl_windows.proofs.TimeRotationNet.{keeps_on, time_fronts_are}
use Rattle.gl_windows.proofs.times.put_time_front.Goals as goal

pub pointer-requires-clause-tick : goal.pointer-requires-clause-tick
pointer-requires-clause-tick c =
    bit_kept c.either-3.new.net c.but_not.new.net c.in_ok-opens.opens
    (keeps_then _ c.count_flush.new.net _ c.in_ok-flush.ensures.keeps (keeps_then _ c.count_left.new.net _ c.in_ok-trigger.ensures.keeps
    (keeps_then _ c.keep_tail.new.net c.but_not.new.net c.in_ok-kept.ensures.keeps c.in_ok-tail.ensures.keeps)))
    c.in_ok-opens.ensures.bit

pub rotate-requires-clause-opens : goal.rotate-requires-clause-opens
rotate-requires-clause-opens c =
    bit_kept c.either-3.new.net c.pointer.new.net c.in_ok-opens.opens
    (keeps_then _ c.count_flush.new.net _ c.in_ok-flush.ensures.keeps (keeps_then _ c.count_left.new.net _ c.in_ok-trigger.ensures.keeps
    (keeps_then _ c.keep_tail.new.net _ c.in_ok-kept.ensures.keeps (keeps_then _ c.but_not.new.net c.pointer.new.net c.in_ok-tail.ensures.keeps c.in_ok-opened.ensures.keeps))))
    c.in_ok-opens.ensures.bit

pub rotate-requires-clause-trigger : goal.rotate-requires-clause-trigger
rotate-requires-clause-trigger c =
    bit_kept c.count_left.new.net c.pointer.new.net c.in_ok-trigger.trigger.trigger
    (keeps_then _ c.keep_tail.new.net _ c.in_ok-kept.ensures.keeps (keeps_then _ c.but_not.new.net c.pointer.new.net c.in_ok-tail.ensures.keeps c.in_ok-opened.ensures.keeps))
    c.in_ok-trigger.ensures.bit

pub take_rows-requires-clause-valid : goal.take_rows-requires-clause-valid
take_rows-requires-clause-valid c =
    let keeps = keeps_on c.in_ok-reopens.ensures.keeps c.in_ok-brings.ensures.keeps c.in_ok-busy.ensures.keeps c.in_ok-opening.ensures.keeps c.in_ok-opens.ensures.keeps c.in_ok-flush.ensures.keeps c.in_ok-trigger.ensures.keeps c.in_ok-kept.ensures.keeps c.in_ok-tail.ensures.keeps c.in_ok-opened.ensures.keeps c.in_ok-open.ensures.keeps c.in_ok-stay.ensures.keeps in
    bit_kept c.args.net.now c.pairwise.new.net c.args.wire.now.valid keeps c.requires.wire.valid

pub take_rows-requires-clause-eos : goal.take_rows-requires-clause-eos
take_rows-requires-clause-eos c =
    let keeps = keeps_on c.in_ok-reopens.ensures.keeps c.in_ok-brings.ensures.keeps c.in_ok-busy.ensures.keeps c.in_ok-opening.ensures.keeps c.in_ok-opens.ensures.keeps c.in_ok-flush.ensures.keeps c.in_ok-trigger.ensures.keeps c.in_ok-kept.ensures.keeps c.in_ok-tail.ensures.keeps c.in_ok-opened.ensures.keeps c.in_ok-open.ensures.keeps c.in_ok-stay.ensures.keeps in
    bit_kept c.args.net.now c.pairwise.new.net c.args.wire.now.eos keeps c.requires.wire.eos

pub take_rows-requires-clause-tail : goal.take_rows-requires-clause-tail
take_rows-requires-clause-tail c =
    bit_kept c.but_not.new.net c.pairwise.new.net c.in_ok-tail.tail
    (keeps_then _ c.pointer.new.net _ c.in_ok-opened.ensures.keeps (keeps_then _ c.rotate.new.net c.pairwise.new.net c.in_ok-open.ensures.keeps c.in_ok-stay.ensures.keeps))
    c.in_ok-tail.ensures.bit

pub hold_all-requires-clause-load : goal.hold_all-requires-clause-load
hold_all-requires-clause-load c =
    let keeps = keeps_on c.in_ok-reopens.ensures.keeps c.in_ok-brings.ensures.keeps c.in_ok-busy.ensures.keeps c.in_ok-opening.ensures.keeps c.in_ok-opens.ensures.keeps c.in_ok-flush.ensures.keeps c.in_ok-trigger.ensures.keeps c.in_ok-kept.ensures.keeps c.in_ok-tail.ensures.keeps c.in_ok-opened.ensures.keeps c.in_ok-open.ensures.keeps c.in_ok-stay.ensures.keeps in
    bit_kept c.args.net.now c.take_rows.new.net c.args.wire.now.valid (keeps_then c.args.net.now c.pairwise.new.net c.take_rows.new.net keeps c.in_ok-takes.ensures.keeps) c.requires.wire.valid

pub hold_all-requires-clause-columns : goal.hold_all-requires-clause-columns
hold_all-requires-clause-columns c =
    let keeps = keeps_on c.in_ok-reopens.ensures.keeps c.in_ok-brings.ensures.keeps c.in_ok-busy.ensures.keeps c.in_ok-opening.ensures.keeps c.in_ok-opens.ensures.keeps c.in_ok-flush.ensures.keeps c.in_ok-trigger.ensures.keeps c.in_ok-kept.ensures.keeps c.in_ok-tail.ensures.keeps c.in_ok-opened.ensures.keeps c.in_ok-open.ensures.keeps c.in_ok-stay.ensures.keeps in
    buses_kept c.args.net.now c.take_rows.new.net c.args.wire.now.columns (keeps_then c.args.net.now c.pairwise.new.net c.take_rows.new.net keeps c.in_ok-takes.ensures.keeps) c.requires.wire.columns

pub copy_wires-requires-clause-ends : goal.copy_wires-requires-clause-ends
copy_wires-requires-clause-ends c =
    bits_kept c.rotate.new.net c.hold_all.new.net c.in_ok-open.open.ends
    (keeps_then _ c.pairwise.new.net _ c.in_ok-stay.ensures.keeps (keeps_then _ c.take_rows.new.net c.hold_all.new.net c.in_ok-takes.ensures.keeps c.in_ok-row.ensures.keeps))
    c.in_ok-open.ensures.ends

pub returns : goal.returns
returns c = rw c.note_ticks.ensures (
    time_fronts_are c.args.net.now c.timer.new.net c.either.new.net c.either-2.new.net c.count_openings.new.net c.either-3.new.net c.count_flush.new.net c.count_left.new.net c.keep_tail.new.net c.but_not.new.net
    c.pointer.new.net c.rotate.new.net c.pairwise.new.net c.take_rows.new.net c.hold_all.new.net c.copy_wires.new.net
    c.args.r.now c.args.wire.now c.args.tick c.copies-count.result c.stride.result c.turns.result c.bits_to.result c.from.result (c.copies-count.result - 1) c.bits_to.ensures.few
    (subst (λ (n : ℕ). 1 ≤ n) (sym c.copies-count.ensures) (one_in_time c.args.r.now.size c.args.r.now.advance))
    c.copies-count.ensures c.stride.ensures c.turns.ensures c.from.ensures refl
    c.in_ok-reopens.reopens c.in_ok-brings.brings c.in_ok-busy.busy c.in_ok-opens.opens c.in_ok-tail.tail c.in_ok-opening.opening c.in_ok-flush.flush c.in_ok-trigger.trigger c.in_ok-kept.kept c.in_ok-opened.opened
    c.in_ok-open.open c.in_ok-stay.stay c.in_ok-takes.takes c.in_ok-row.row c.in_ok-wires.wires
    c.in_ok-reopens.ensures c.in_ok-brings.ensures c.in_ok-busy.ensures c.in_ok-opening.ensures c.in_ok-opens.ensures c.in_ok-flush.ensures c.in_ok-trigger.ensures c.in_ok-kept.ensures c.in_ok-tail.ensures c.in_ok-opened.ensures
    c.in_ok-open.ensures c.in_ok-stay.ensures c.in_ok-takes.ensures c.in_ok-row.ensures c.in_ok-wires.ensures)
