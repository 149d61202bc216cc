use Rattle.std.proofs.Common.{[], take, sym, subst}
use Rattle.gl_bits.proofs.AllLists.{taken_next}
use Rattle.gl_algebra.specs.Columns.{kind_of_op}
use Rattle.gl_algebra.specs.Values.{value_of_op}
use Rattle.gl_rows.specs.Made.{AreOperations}
use Rattle.gl_rows.proofs.MadeLemmas.{made_none, made_more, source_kept}
use Rattle.gl_rows.proofs.operation.put_operations.Goals as goal

pub loop-op-init : goal.loop-op-init
loop-op-init c =
    let columns = c.args.source.columns.now in
    let kinds = c.args.source.kinds.now in
    subst (AreOperations c.args.net.now c.args.net.now columns kinds []) (sym c.new-all.ensures)
    (made_none 7 columns (kind_of_op kinds) (λ sets. value_of_op sets kinds) c.args.net.now)

pub put_column-requires-clause-source : goal.put_column-requires-clause-source
put_column-requires-clause-source c =
    source_kept c.args.net.now c.loop-op.net c.args.source.columns.now c.args.source.kinds.now c.args.source.words.now c.loop-op.invariant.keeps c.requires.source

pub loop-op-preserved : goal.loop-op-preserved
loop-op-preserved c =
    rw (taken_next c.args.ops.now c.loop-op.op-index c.op-item.result c.loop-op-test.true c.op-item.is, c.in_ok-push.ensures.ok)
    (made_more 7 c.args.source.columns.now (kind_of_op c.args.source.kinds.now) (λ sets. value_of_op sets c.args.source.kinds.now) c.args.net.now c.loop-op.net
    c.put_column.new.net (take c.loop-op.op-index c.args.ops.now) c.op-item.result c.loop-op.all c.in_ok-bus.bus c.loop-op.invariant c.in_ok-bus.ensures)
