use Rattle.gl_net.proofs.Determined.{keeps_then}
use Rattle.gl_wire.proofs.ColumnLemmas.{buses_kept}
use Rattle.gl_wire_registers.proofs.LineLemmas.{bits_kept}
use Rattle.gl_windows.proofs.FrontNet.{fronts_are}
use Rattle.gl_windows.proofs.front.put_front.Goals as goal

pub hold_all-requires-clause-columns : goal.hold_all-requires-clause-columns
hold_all-requires-clause-columns c =
    buses_kept c.args.net.now c.take_rows.new.net c.args.wire.now.columns
    (keeps_then c.args.net.now c.count_openings.new.net _ c.in_ok-opening.ensures.keeps (keeps_then _ c.count_flush.new.net _ c.in_ok-flush.ensures.keeps
    (keeps_then _ c.count_left.new.net _ c.in_ok-trigger.ensures.keeps (keeps_then _ c.keep_tail.new.net _ c.in_ok-tail.ensures.keeps
    (keeps_then _ c.pointer.new.net _ c.in_ok-opened.ensures.keeps (keeps_then _ c.rotate.new.net c.take_rows.new.net c.in_ok-open.ensures.keeps c.in_ok-takes.ensures.keeps))))))
    c.requires.wire.columns

pub copy_wires-requires-clause-ends : goal.copy_wires-requires-clause-ends
copy_wires-requires-clause-ends c =
    bits_kept c.rotate.new.net c.hold_all.new.net c.in_ok-open.open.ends
    (keeps_then c.rotate.new.net c.take_rows.new.net c.hold_all.new.net c.in_ok-takes.ensures.keeps c.in_ok-row.ensures.keeps) c.in_ok-open.ensures.ends

pub returns : goal.returns
returns c =
    fronts_are c.args.net.now c.count_openings.new.net c.count_flush.new.net c.count_left.new.net c.keep_tail.new.net c.pointer.new.net c.rotate.new.net c.take_rows.new.net c.hold_all.new.net c.copy_wires.new.net
    c.args.wire.now c.args.numbers.size c.args.numbers.advance c.args.numbers.copies c.args.numbers.stride c.bits_to-bits.result c.from.result c.bits_to-bits.ensures.few c.requires.size c.requires.advance c.requires.copies c.from.ensures
    c.in_ok-opening.opening c.in_ok-flush.flush c.in_ok-trigger.trigger c.in_ok-tail.tail c.in_ok-opened.opened c.in_ok-open.open c.in_ok-takes.takes c.in_ok-row.row c.in_ok-wires.wires
    c.in_ok-opening.ensures c.in_ok-flush.ensures c.in_ok-trigger.ensures c.in_ok-tail.ensures c.in_ok-opened.ensures c.in_ok-open.ensures c.in_ok-takes.ensures c.in_ok-row.ensures c.in_ok-wires.ensures
