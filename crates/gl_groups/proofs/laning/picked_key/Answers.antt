use Rattle.std.proofs.Common.{◌*◌, ◌≤◌, List, length, subst, arith}
use Rattle.std.specs.Prelude.{slice_index_or}
use Rattle.gl_net.specs.declared.node.Bit.{Bit}
use Rattle.gl_net.specs.declared.node.Bus.{Bus}
use Rattle.gl_net.proofs.Determined.{keeps_then}
use Rattle.gl_wire_registers.specs.Lines.{AddsLines}
use Rattle.gl_slots.specs.Picks.{PicksOne}
use Rattle.gl_slots.specs.SlotLines.{same_to}
use Rattle.gl_groups.proofs.LanedNet.{alike_keys, first_width, picked_is}
use Rattle.gl_slots.proofs.PickLemmas.{alike_kept}
use Rattle.gl_groups.proofs.laning.picked_key.Goals as goal

pub pick-requires-clause-buses : goal.pick-requires-clause-buses
pick-requires-clause-buses c =
    let some : 1 ≤ length c.args.lane.now.keys = omega (arith, c.requires.some, c.requires.keys_count) in
    alike_kept c.args.net.now c.same_each.new.net _ c.as_slice-keys.result.now (keeps_then c.args.net.now c.numbers.new.net c.same_each.new.net c.in_ok-places.ensures.keeps c.in_ok-lines.ensures.keeps)
    (alike_keys c.args.net.now c.args.lane.now.keys c.as_slice-keys.result.now (record { node = 0; width = 0 }) c.as_slice-keys.ensures some c.requires.keys)

pub returns : goal.returns
returns c = rw c.note_bus.ensures (
    let some : 1 ≤ length c.args.lane.now.keys = omega (arith, c.requires.some, c.requires.keys_count) in
    let lines = subst (λ (bs : List Bus). AddsLines c.numbers.new.net c.same_each.new.net (length bs) 1 c.in_ok-lines.lines (same_to c.args.slot bs)) c.as_slice.ensures c.in_ok-lines.ensures in
    let width = (slice_index_or c.as_slice-keys.result.now 0 (record { node = 0; width = 0 })).width in
    let picked = subst (λ (bs : List Bus). PicksOne c.same_each.new.net c.pick.new.net c.in_ok-lines.lines bs width (length c.in_ok-lines.lines * 2) c.in_ok-picked.picked) c.as_slice-keys.ensures
    (subst (λ (ls : List Bit). PicksOne c.same_each.new.net c.pick.new.net ls c.as_slice-keys.result.now width (length ls * 2) c.in_ok-picked.picked) c.as_slice-2.ensures c.in_ok-picked.ensures) in
    picked_is c.args.net.now c.numbers.new.net c.same_each.new.net c.pick.new.net c.args.slots c.args.lane.now c.args.slot c.in_ok-places.places c.in_ok-lines.lines c.in_ok-picked.picked width c.slot_bits.result
    (first_width c.args.net.now c.args.lane.now.keys c.as_slice-keys.result.now (record { node = 0; width = 0 }) c.as_slice-keys.ensures some c.requires.keys)
    c.requires.keys_count c.in_ok-places.ensures lines picked)
