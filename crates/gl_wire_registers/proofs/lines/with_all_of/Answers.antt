use Rattle.std.specs.Prelude.{slice_index_or}
use Rattle.std.proofs.lemmas.Option.{slice_get-get_or}
use Rattle.gl_net.specs.declared.node.Bit.{Bit}
use Rattle.gl_wire.proofs.ColumnLemmas.{bit_kept}
use Rattle.gl_wire_registers.specs.Lines.{with_line, gated}
use Rattle.gl_wire_registers.proofs.LineLemmas.{lines_more, with_here}
use Rattle.gl_wire_registers.proofs.lines.with_all_of.Goals as goal

pub gate-requires-clause-left : goal.gate-requires-clause-left
gate-requires-clause-left c = bit_kept c.args.net.now c.loop-left.net _ c.loop-left.invariant.keeps (c.requires.lefts.each c.loop-left.left-index _ (slice_get-get_or _ _ _ c.loop-left-test.true))

pub loop-left-preserved : goal.loop-left-preserved
loop-left-preserved c =
    let x : Bit = slice_index_or c.args.lefts.now c.loop-left.left-index (record { node = 0 }) in
    rw (c.in_ok-push.ensures.ok)
    (lines_more c.args.net.now c.loop-left.net c.gate.new.net c.loop-left.left-index 1 c.loop-left.all c.in_ok-bit.bit (with_line c.args.op c.args.lefts.now c.args.right) (gated c.args.op x c.args.right) c.loop-left.invariant c.in_ok-bit.ensures
    (λ run r t. with_here c.args.op run c.args.lefts.now x c.args.right c.loop-left.left-index t (slice_get-get_or _ _ _ c.loop-left-test.true)))
