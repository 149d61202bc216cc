use Rattle.gl_wire.proofs.ColumnLemmas.{bit_kept}
use Rattle.gl_slots.proofs.FrontNet.{fronts_are}
use Rattle.gl_slots.proofs.front.put_front.Goals as goal

pub later_bit-requires : goal.later_bit-requires
later_bit-requires c = bit_kept c.choose_slots.new.net c.copy_wires.new.net c.in_ok-chosen.chosen.passes c.in_ok-wires.ensures.keeps c.in_ok-chosen.ensures.passes

pub returns : goal.returns
returns c = rw c.note_bit.ensures (
    fronts_are c.args.net.now c.choose_slots.new.net c.copy_wires.new.net c.later_bit.new.net c.args.wire.now c.args.numbers.key c.args.numbers.slots c.args.numbers.stride c.args.numbers.width
    c.in_ok-chosen.chosen c.in_ok-wires.wires c.in_ok-further.further c.in_ok-chosen.ensures c.in_ok-wires.ensures c.in_ok-further.ensures)
