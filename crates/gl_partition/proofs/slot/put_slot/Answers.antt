use Rattle.gl_net.proofs.Determined.{keeps_then}
use Rattle.gl_wire.proofs.ColumnLemmas.{bit_kept}
use Rattle.gl_partition.proofs.SlotNet.{slot_adds}
use Rattle.gl_partition.proofs.slot.put_slot.Goals as goal

pub take_rows-requires-clause-valid : goal.take_rows-requires-clause-valid
take_rows-requires-clause-valid c =
    bit_kept c.both.new.net c.rotate.new.net c.in_ok-own.own
    (keeps_then c.both.new.net c.both-2.new.net c.rotate.new.net c.in_ok-last.ensures.keeps (keeps_then c.both-2.new.net c.count_openings.new.net c.rotate.new.net c.in_ok-next.ensures.keeps
    (keeps_then c.count_openings.new.net c.count_filled.new.net c.rotate.new.net c.in_ok-filled.ensures.keeps (keeps_then c.count_filled.new.net c.pointer.new.net c.rotate.new.net c.in_ok-opened.ensures.keeps c.in_ok-open.ensures.keeps))))
    c.in_ok-own.ensures.bit

pub take_rows-requires-clause-eos : goal.take_rows-requires-clause-eos
take_rows-requires-clause-eos c =
    bit_kept c.args.net.now c.rotate.new.net c.args.comes.eos
    (keeps_then c.args.net.now c.both.new.net c.rotate.new.net c.in_ok-own.ensures.keeps (keeps_then c.both.new.net c.both-2.new.net c.rotate.new.net c.in_ok-last.ensures.keeps
    (keeps_then c.both-2.new.net c.count_openings.new.net c.rotate.new.net c.in_ok-next.ensures.keeps (keeps_then c.count_openings.new.net c.count_filled.new.net c.rotate.new.net c.in_ok-filled.ensures.keeps
    (keeps_then c.count_filled.new.net c.pointer.new.net c.rotate.new.net c.in_ok-opened.ensures.keeps c.in_ok-open.ensures.keeps)))))
    c.requires.eos

pub take_rows-requires-clause-tail : goal.take_rows-requires-clause-tail
take_rows-requires-clause-tail c =
    bit_kept c.both-2.new.net c.rotate.new.net c.in_ok-last.last
    (keeps_then c.both-2.new.net c.count_openings.new.net c.rotate.new.net c.in_ok-next.ensures.keeps (keeps_then c.count_openings.new.net c.count_filled.new.net c.rotate.new.net c.in_ok-filled.ensures.keeps
    (keeps_then c.count_filled.new.net c.pointer.new.net c.rotate.new.net c.in_ok-opened.ensures.keeps c.in_ok-open.ensures.keeps)))
    c.in_ok-last.ensures.bit

pub returns : goal.returns
returns c = rw (c.note_bit-2.ensures, c.note_bit.ensures) (
    slot_adds c.args.net.now c.both.new.net c.both-2.new.net c.count_openings.new.net c.count_filled.new.net c.pointer.new.net c.rotate.new.net c.take_rows.new.net
    c.args.comes.valid c.args.comes.eos c.args.comes.tail c.args.mine c.args.due c.in_ok-own.own c.in_ok-last.last c.args.sizes.size c.args.sizes.advance c.args.sizes.copies c.bits_to.result c.from.result c.requires.copies c.bits_to.ensures.few c.from.ensures
    c.in_ok-next.next c.in_ok-filled.filled c.in_ok-opened.opened c.in_ok-open.open c.in_ok-takes.takes
    c.in_ok-own.ensures c.in_ok-last.ensures c.in_ok-next.ensures c.in_ok-filled.ensures c.in_ok-opened.ensures c.in_ok-open.ensures c.in_ok-takes.ensures)
