use Rattle.std.proofs.Common.{◌<◌, length, arith}
use Rattle.std.specs.Prelude.{slice_index_or}
use Rattle.std.proofs.lemmas.Option.{slice_get-get_or}
use Rattle.gl_net.specs.declared.node.Bit.{Bit}
use Rattle.gl_wire.proofs.ColumnLemmas.{bit_kept}
use Rattle.gl_partition.proofs.SlotNet.{slots_more, slots_none}
use Rattle.gl_partition.proofs.slot.put_windows.Goals as goal

pub loop-i-init : goal.loop-i-init
loop-i-init c = rw (c.new-takes.ensures, c.new-ends.ensures) (slots_none c.args.net.now c.args.comes.valid c.args.comes.eos c.args.comes.tail c.args.matches.now c.args.dues.now c.args.sizes.size c.args.sizes.advance c.args.sizes.copies)

pub put_slot-requires-clause-valid : goal.put_slot-requires-clause-valid
put_slot-requires-clause-valid c = bit_kept c.args.net.now c.loop-i.net _ c.loop-i.invariant.keeps c.requires.valid

pub put_slot-requires-clause-eos : goal.put_slot-requires-clause-eos
put_slot-requires-clause-eos c = bit_kept c.args.net.now c.loop-i.net _ c.loop-i.invariant.keeps c.requires.eos

pub put_slot-requires-clause-tail : goal.put_slot-requires-clause-tail
put_slot-requires-clause-tail c = bit_kept c.args.net.now c.loop-i.net _ c.loop-i.invariant.keeps c.requires.tail

pub put_slot-requires-clause-mine : goal.put_slot-requires-clause-mine
put_slot-requires-clause-mine c = bit_kept c.args.net.now c.loop-i.net _ c.loop-i.invariant.keeps (c.requires.matches.each c.loop-i.i _ (slice_get-get_or _ _ _ c.loop-i-test.true))

pub put_slot-requires-clause-due : goal.put_slot-requires-clause-due
put_slot-requires-clause-due c =
    let more : c.loop-i.i < length c.args.dues.now = omega (arith, c.loop-i-test.true, c.requires.count) in
    bit_kept c.args.net.now c.loop-i.net _ c.loop-i.invariant.keeps (c.requires.dues.each c.loop-i.i _ (slice_get-get_or _ _ _ more))

pub loop-i-preserved : goal.loop-i-preserved
loop-i-preserved c =
    let more : c.loop-i.i < length c.args.dues.now = omega (arith, c.loop-i-test.true, c.requires.count) in
    let line : Bit = slice_index_or c.args.matches.now c.loop-i.i (record { node = 0 }) in
    let due : Bit = slice_index_or c.args.dues.now c.loop-i.i (record { node = 0 }) in
    rw (c.in_ok-append.ensures, c.in_ok-append-2.ensures, c.as_slice.ensures, c.as_slice-in-loop-i.ensures)
    (slots_more c.args.net.now c.loop-i.net c.put_slot.new.net c.args.comes.valid c.args.comes.eos c.args.comes.tail line due c.args.matches.now c.args.dues.now c.args.sizes.size c.args.sizes.advance c.args.sizes.copies c.loop-i.i
    (record { takes = c.loop-i.takes; ends = c.loop-i.ends }) c.in_ok-slot.slot (slice_get-get_or _ _ _ c.loop-i-test.true) (slice_get-get_or _ _ _ more) c.loop-i.invariant c.in_ok-slot.ensures)
