use Rattle.std.specs.Prelude.{slice_index_or}
use Rattle.std.proofs.lemmas.Option.{slice_get-get_or}
use Rattle.gl_net.specs.declared.node.Bit.{Bit}
use Rattle.gl_wire.proofs.ColumnLemmas.{bit_kept}
use Rattle.gl_groups.proofs.FindingNet.{later_more}
use Rattle.gl_groups.proofs.finding.later_each.Goals as goal

pub later_bit-requires : goal.later_bit-requires
later_bit-requires c = bit_kept c.args.net.now c.loop-line.net _ c.loop-line.invariant.keeps (c.requires.lines.each c.loop-line.line-index _ (slice_get-get_or _ _ _ c.loop-line-test.true))

pub loop-line-preserved : goal.loop-line-preserved
loop-line-preserved c =
    let x : Bit = slice_index_or c.args.lines.now c.loop-line.line-index (record { node = 0 }) in
    rw (c.in_ok-push.ensures.ok)
    (later_more c.args.net.now c.loop-line.net c.later_bit.new.net c.loop-line.line-index c.args.lines.now c.loop-line.all x c.in_ok-bit.bit c.loop-line.invariant
    (slice_get-get_or _ _ _ c.loop-line-test.true) c.in_ok-bit.ensures)
