use Rattle.std.proofs.Common.{◌<◌, length, arith}
use Rattle.std.specs.Prelude.{slice_index_or}
use Rattle.std.proofs.lemmas.Option.{slice_get-get_or}
use Rattle.gl_wire.proofs.ColumnLemmas.{buses_kept, bit_kept}
use Rattle.gl_wire_registers.proofs.RowLemmas.{wires_more}
use Rattle.gl_wire_registers.proofs.rows.copy_each.Goals as goal

pub copy_wire-requires-clause-valid : goal.copy_wire-requires-clause-valid
copy_wire-requires-clause-valid c = bit_kept c.args.net.now c.loop-i.net _ c.loop-i.invariant.keeps (c.requires.valids.each c.loop-i.i _ (slice_get-get_or _ _ _ c.loop-i-test.true))

pub copy_wire-requires-clause-end : goal.copy_wire-requires-clause-end
copy_wire-requires-clause-end c =
    let more : c.loop-i.i < length c.args.ends.now = omega (arith, c.loop-i-test.true, c.requires.count) in
    bit_kept c.args.net.now c.loop-i.net _ c.loop-i.invariant.keeps (c.requires.ends.each c.loop-i.i _ (slice_get-get_or _ _ _ more))

pub copy_wire-requires-clause-row : goal.copy_wire-requires-clause-row
copy_wire-requires-clause-row c = buses_kept c.args.net.now c.loop-i.net c.args.row.now c.loop-i.invariant.keeps c.requires.row

pub loop-i-preserved : goal.loop-i-preserved
loop-i-preserved c =
    let more : c.loop-i.i < length c.args.ends.now = omega (arith, c.loop-i-test.true, c.requires.count) in
    rw (c.in_ok-push.ensures.ok)
    (wires_more c.args.net.now c.loop-i.net c.copy_wire.new.net c.loop-i.i c.args.valids.now c.args.ends.now c.args.row.now c.loop-i.all c.in_ok-wire.wire
    (slice_index_or c.args.valids.now c.loop-i.i (record { node = 0 })) (slice_index_or c.args.ends.now c.loop-i.i (record { node = 0 }))
    c.loop-i.invariant c.in_ok-wire.ensures (slice_get-get_or _ _ _ c.loop-i-test.true) (slice_get-get_or _ _ _ more))
