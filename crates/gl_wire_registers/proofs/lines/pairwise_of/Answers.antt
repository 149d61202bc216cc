use Rattle.std.proofs.Common.{◌<◌, length, arith}
use Rattle.std.specs.Prelude.{slice_index_or}
use Rattle.std.proofs.lemmas.Option.{slice_get-get_or}
use Rattle.gl_net.specs.declared.node.Bit.{Bit}
use Rattle.gl_wire.proofs.ColumnLemmas.{bit_kept}
use Rattle.gl_wire_registers.specs.Lines.{pairs, gated}
use Rattle.gl_wire_registers.proofs.LineLemmas.{lines_more, pairs_here}
use Rattle.gl_wire_registers.proofs.lines.pairwise_of.Goals as goal

pub gate-requires-clause-left : goal.gate-requires-clause-left
gate-requires-clause-left c = bit_kept c.args.net.now c.loop-i.net _ c.loop-i.invariant.keeps (c.requires.lefts.each c.loop-i.i _ (slice_get-get_or _ _ _ c.loop-i-test.true))

pub gate-requires-clause-right : goal.gate-requires-clause-right
gate-requires-clause-right c =
    let more : c.loop-i.i < length c.args.rights.now = omega (arith, c.loop-i-test.true, c.requires.count) in
    bit_kept c.args.net.now c.loop-i.net _ c.loop-i.invariant.keeps (c.requires.rights.each c.loop-i.i _ (slice_get-get_or _ _ _ more))

pub loop-i-preserved : goal.loop-i-preserved
loop-i-preserved c =
    let more : c.loop-i.i < length c.args.rights.now = omega (arith, c.loop-i-test.true, c.requires.count) in
    let x : Bit = slice_index_or c.args.lefts.now c.loop-i.i (record { node = 0 }) in
    let y : Bit = slice_index_or c.args.rights.now c.loop-i.i (record { node = 0 }) in
    rw (c.in_ok-push.ensures.ok)
    (lines_more c.args.net.now c.loop-i.net c.gate.new.net c.loop-i.i 1 c.loop-i.all c.in_ok-bit.bit (pairs c.args.op c.args.lefts.now c.args.rights.now) (gated c.args.op x y) c.loop-i.invariant c.in_ok-bit.ensures
    (λ run r t. pairs_here c.args.op run c.args.lefts.now c.args.rights.now x y c.loop-i.i t (slice_get-get_or _ _ _ c.loop-i-test.true) (slice_get-get_or _ _ _ more)))
