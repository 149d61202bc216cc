use Rattle.std.proofs.Common.{◌≡◌, ◌<◌, length, arith, ◌∙◌, ap, Some, take}
use Rattle.std.specs.Prelude.{slice_get, slice_index_or}
use Rattle.std.proofs.lemmas.List.{take_more}
use Rattle.std.proofs.lemmas.Option.{slice_get-get_or}
use Rattle.gl_wire_registers.proofs.RegisterLemmas.{grown_bus, drives_more, not_yet, length_taken}
use Rattle.gl_wire_registers.proofs.registers.drive_all.Goals as goal

pub drive-requires-clause-next : goal.drive-requires-clause-next
drive-requires-clause-next c =
    let more : c.loop-i.i < length c.args.nexts.now = omega (arith, c.loop-i-test.true, c.requires.nexts.count) in
    grown_bus c.args.net.now c.loop-i.net _ c.loop-i.invariant.grows (c.requires.nexts.each c.loop-i.i _ (slice_get-get_or _ _ _ more))

pub drive-requires-clause-widths : goal.drive-requires-clause-widths
drive-requires-clause-widths c =
    let more : c.loop-i.i < length c.args.nexts.now = omega (arith, c.loop-i-test.true, c.requires.nexts.count) in
    c.requires.nexts.widths c.loop-i.i _ _ (slice_get-get_or _ _ _ c.loop-i-test.true) (slice_get-get_or _ _ _ more)

pub loop-i-preserved : goal.loop-i-preserved
loop-i-preserved c =
    let d = c.in_ok-drive.ensures in
    let more : c.loop-i.i < length c.args.nexts.now = omega (arith, c.loop-i-test.true, c.requires.nexts.count) in
    let here : slice_get c.args.registers.now c.loop-i.i ≡ Some (slice_index_or c.args.registers.now c.loop-i.i (record { node = 0; width = 0 })) = slice_get-get_or _ _ _ c.loop-i-test.true in
    let long = length_taken c.args.registers.now c.loop-i.i c.loop-i-test.true in
    rw (take_more c.args.registers.now c.loop-i.i (record { node = 0; width = 0 }) c.loop-i-test.true)
    (drives_more c.args.net.now c.loop-i.net c.drive.new.self (take c.loop-i.i c.args.registers.now) c.args.nexts.now _ (slice_index_or c.args.nexts.now c.loop-i.i (record { node = 0; width = 0 })) c.loop-i.invariant
    (record { grows = d.grows; ports = d.ports; name = d.name; others = d.others; driven = d.driven; cost = record { nodes = omega (arith, d.size); registers = omega (arith, d.register_bits); memories = omega (arith, d.memory_bits) }; value = d.value })
    (ap (slice_get c.args.nexts.now) long ∙ slice_get-get_or _ _ _ more)
    (not_yet c.args.net.now c.args.registers.now c.loop-i.i _ c.requires.open here))
