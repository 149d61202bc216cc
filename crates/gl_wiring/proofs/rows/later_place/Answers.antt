use Rattle.gl_wire.proofs.ColumnLemmas.{bit_kept}
use Rattle.gl_wiring.proofs.LaneRowLemmas.{place_later}
use Rattle.gl_wiring.proofs.rows.later_place.Goals as goal

pub later_bit-requires : goal.later_bit-requires
later_bit-requires c = bit_kept c.args.net.now c.later.new.net c.args.place.first c.in_ok-slot.ensures.keeps c.requires.first

pub returns : goal.returns
returns c = rw c.note_place.ensures (
    place_later c.args.net.now c.later.new.net c.later_bit.new.net c.args.place c.in_ok-slot.slot c.in_ok-first.first c.in_ok-slot.ensures c.in_ok-first.ensures)
