use Rattle.gl_wire.proofs.ColumnLemmas.{bus_kept, bit_kept}
use Rattle.gl_wire_registers.proofs.LineLemmas.{lines_more}
use Rattle.gl_slots.specs.Parts.{turned_at, turned_to}
use Rattle.gl_slots.proofs.PartLemmas.{turned_here}
use Rattle.gl_slots.proofs.parts.turn_lines.Goals as goal

pub loop-slot-preserved : goal.loop-slot-preserved
loop-slot-preserved c =
    rw (c.in_ok-push.ensures.ok)
    (lines_more c.args.net.now c.loop-slot.net c.at_slot.new.net c.loop-slot.slot 3 c.loop-slot.all c.in_ok-bit.bit (turned_to c.args.count c.args.line c.args.at) (turned_at c.args.count c.args.line c.args.at c.loop-slot.slot) c.loop-slot.invariant c.in_ok-bit.ensures
    (λ run r t. turned_here run c.args.count c.args.line c.args.at c.loop-slot.slot t))

pub at_slot-requires-clause-line : goal.at_slot-requires-clause-line
at_slot-requires-clause-line c = bit_kept c.args.net.now c.loop-slot.net _ c.loop-slot.invariant.keeps c.requires.line

pub at_slot-requires-clause-at : goal.at_slot-requires-clause-at
at_slot-requires-clause-at c = bus_kept c.args.net.now c.loop-slot.net _ c.loop-slot.invariant.keeps c.requires.at
