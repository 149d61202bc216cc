use Rattle.std.proofs.Common.{◌<◌, length, arith, sym}
use Rattle.std.specs.Prelude.{slice_index_or}
use Rattle.std.proofs.lemmas.Option.{slice_get-get_or}
use Rattle.gl_net.specs.declared.node.Bit.{Bit}
use Rattle.gl_net.specs.declared.node.Bus.{Bus}
use Rattle.gl_wire.proofs.ColumnLemmas.{bit_kept, bus_kept}
use Rattle.gl_slots.proofs.SlotNet.{nexts_more, nexts_none}
use Rattle.gl_slots.proofs.slots.key_each.Goals as goal

pub loop-i-init : goal.loop-i-init
loop-i-init c = rw (c.new-all.ensures) (nexts_none c.args.net.now c.args.nexts.now c.args.value c.args.keys.now)

pub choose-requires-clause-test : goal.choose-requires-clause-test
choose-requires-clause-test c =
    let more : c.loop-i.i < length c.args.nexts.now = omega (arith, c.loop-i-test.true, c.requires.count) in
    bit_kept c.args.net.now c.loop-i.net _ c.loop-i.invariant.keeps (c.requires.nexts.each c.loop-i.i _ (slice_get-get_or _ _ _ more))

pub choose-requires-clause-yes : goal.choose-requires-clause-yes
choose-requires-clause-yes c = bus_kept c.args.net.now c.loop-i.net _ c.loop-i.invariant.keeps c.requires.value

pub choose-requires-clause-no : goal.choose-requires-clause-no
choose-requires-clause-no c = bus_kept c.args.net.now c.loop-i.net _ c.loop-i.invariant.keeps (c.requires.keys.each c.loop-i.i _ (slice_get-get_or _ _ _ c.loop-i-test.true))

pub choose-requires-clause-widths : goal.choose-requires-clause-widths
choose-requires-clause-widths c = sym (c.requires.keys.widths c.loop-i.i _ (slice_get-get_or _ _ _ c.loop-i-test.true))

pub loop-i-preserved : goal.loop-i-preserved
loop-i-preserved c =
    let more : c.loop-i.i < length c.args.nexts.now = omega (arith, c.loop-i-test.true, c.requires.count) in
    let x : Bit = slice_index_or c.args.nexts.now c.loop-i.i (record { node = 0 }) in
    let key : Bus = slice_index_or c.args.keys.now c.loop-i.i (record { node = 0; width = 0 }) in
    let next = c.in_ok-next.ensures in
    rw (c.in_ok-push.ensures.ok)
    (nexts_more c.args.net.now c.loop-i.net c.choose.new.self c.args.nexts.now c.args.value key c.in_ok-next.next c.args.keys.now c.loop-i.all c.loop-i.i x c.loop-i.invariant (slice_get-get_or _ _ _ more)
    (slice_get-get_or _ _ _ c.loop-i-test.true) next.keeps next.bus next.width (record { nodes = omega (arith, next.size); registers = omega (arith, next.register_bits); memories = omega (arith, next.memory_bits) }) next.value)
