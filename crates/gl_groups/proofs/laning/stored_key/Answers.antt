use Rattle.std.proofs.Common.{◌*◌, List, length, subst, sym, ap, arith, ◌∙◌}
use Rattle.gl_net.specs.declared.node.Bit.{Bit}
use Rattle.gl_net.specs.declared.node.Bus.{Bus}
use Rattle.gl_net.proofs.Determined.{keeps_then}
use Rattle.gl_wire.proofs.ColumnLemmas.{bit_kept, bus_kept}
use Rattle.gl_wire_registers.specs.Lines.{AreBits}
use Rattle.gl_wire_registers.proofs.LineLemmas.{bits_kept}
use Rattle.gl_slots.specs.Picks.{AreAlike, PicksOne}
use Rattle.gl_groups.proofs.LanedNet.{stored_is}
use Rattle.gl_slots.proofs.PickLemmas.{alike_kept}
use Rattle.gl_groups.proofs.laning.stored_key.Goals as goal

pub any-requires : goal.any-requires
any-requires c = bits_kept c.args.net.now c.numbers.new.net c.args.lane.now.nexts c.in_ok-places.ensures.keeps c.requires.nexts

pub pick-requires-clause-lines : goal.pick-requires-clause-lines
pick-requires-clause-lines c =
    subst (AreBits c.any.new.net) (sym c.as_slice.ensures)
    (bits_kept c.args.net.now c.any.new.net c.args.lane.now.nexts (keeps_then c.args.net.now c.numbers.new.net c.any.new.net c.in_ok-places.ensures.keeps c.in_ok-write.ensures.keeps) c.requires.nexts)

pub pick-requires-clause-buses : goal.pick-requires-clause-buses
pick-requires-clause-buses c =
    subst (AreAlike c.any.new.net c.slot_bits-bits.result) (sym c.as_slice-2.ensures)
    (alike_kept c.numbers.new.net c.any.new.net c.slot_bits-bits.result c.in_ok-places.places c.in_ok-write.ensures.keeps c.in_ok-places.ensures.alike)

pub pick-requires-clause-count : goal.pick-requires-clause-count
pick-requires-clause-count c =
    ap (λ (bs : List Bus). length bs) c.as_slice-2.ensures ∙ c.in_ok-places.ensures.count ∙ sym c.requires.nexts_count ∙ sym (ap (λ (bs : List Bit). length bs) c.as_slice.ensures)

pub pick-requires-clause-some : goal.pick-requires-clause-some
pick-requires-clause-some c = omega (arith, c.requires.some, c.requires.nexts_count, ap (λ (bs : List Bit). length bs) c.as_slice.ensures)

pub put_memory-requires-clause-write : goal.put_memory-requires-clause-write
put_memory-requires-clause-write c = bit_kept c.any.new.net c.pick.new.net c.in_ok-write.write c.in_ok-place.ensures.keeps c.in_ok-write.ensures.bit

pub put_memory-requires-clause-at : goal.put_memory-requires-clause-at
put_memory-requires-clause-at c =
    bus_kept c.args.net.now c.pick.new.net c.args.slot
    (keeps_then c.args.net.now c.numbers.new.net c.pick.new.net c.in_ok-places.ensures.keeps (keeps_then c.numbers.new.net c.any.new.net c.pick.new.net c.in_ok-write.ensures.keeps c.in_ok-place.ensures.keeps))
    c.requires.slot

pub put_memory-requires-clause-at_width : goal.put_memory-requires-clause-at_width
put_memory-requires-clause-at_width c = c.requires.slot_width ∙ sym c.slot_bits-bits.ensures.value

pub put_memory-requires-clause-value : goal.put_memory-requires-clause-value
put_memory-requires-clause-value c =
    bus_kept c.args.net.now c.pick.new.net c.args.lane.now.here
    (keeps_then c.args.net.now c.numbers.new.net c.pick.new.net c.in_ok-places.ensures.keeps (keeps_then c.numbers.new.net c.any.new.net c.pick.new.net c.in_ok-write.ensures.keeps c.in_ok-place.ensures.keeps))
    c.requires.here

pub returns : goal.returns
returns c = rw c.note_bus.ensures (
    let place = subst (λ (bs : List Bus). PicksOne c.any.new.net c.pick.new.net c.args.lane.now.nexts bs c.slot_bits-bits.result (length c.args.lane.now.nexts * 2) c.in_ok-place.place) c.as_slice-2.ensures
    (subst (λ (ls : List Bit). PicksOne c.any.new.net c.pick.new.net ls c.as_slice-2.result.now c.slot_bits-bits.result (length ls * 2) c.in_ok-place.place) c.as_slice.ensures c.in_ok-place.ensures) in
    stored_is c.args.net.now c.numbers.new.net c.any.new.net c.pick.new.net c.put_memory.new.net c.args.slots c.args.lane.now c.args.slot c.in_ok-place.place c.in_ok-key.key c.in_ok-write.write c.in_ok-places.places
    c.slot_bits-bits.result c.slot_bits-bits.ensures.value c.requires.some c.requires.nexts_count c.requires.here_width c.in_ok-places.ensures c.in_ok-write.ensures place c.in_ok-key.ensures)
