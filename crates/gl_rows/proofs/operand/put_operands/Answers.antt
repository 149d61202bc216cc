use Rattle.std.proofs.Common.{[], take, sym, subst}
use Rattle.gl_bits.proofs.AllLists.{taken_next}
use Rattle.gl_algebra.specs.Columns.{kind_of_operand}
use Rattle.gl_algebra.specs.Values.{value_of_operand}
use Rattle.gl_rows.specs.Made.{AreOperands}
use Rattle.gl_rows.proofs.MadeLemmas.{made_none, made_more, source_kept}
use Rattle.gl_rows.proofs.operand.put_operands.Goals as goal

pub loop-operand-init : goal.loop-operand-init
loop-operand-init c =
    let columns = c.args.source.columns.now in
    let kinds = c.args.source.kinds.now in
    subst (AreOperands c.args.net.now c.args.net.now columns kinds []) (sym c.new-all.ensures)
    (made_none 1 columns (kind_of_operand kinds) value_of_operand c.args.net.now)

pub put_operand-requires-clause-source : goal.put_operand-requires-clause-source
put_operand-requires-clause-source c =
    source_kept c.args.net.now c.loop-operand.net c.args.source.columns.now c.args.source.kinds.now c.args.source.words.now c.loop-operand.invariant.keeps c.requires.source

pub loop-operand-preserved : goal.loop-operand-preserved
loop-operand-preserved c =
    rw (taken_next c.args.operands.now c.loop-operand.operand-index c.operand-item.result c.loop-operand-test.true c.operand-item.is, c.in_ok-push.ensures.ok)
    (made_more 1 c.args.source.columns.now (kind_of_operand c.args.source.kinds.now) value_of_operand c.args.net.now c.loop-operand.net c.put_operand.new.net
    (take c.loop-operand.operand-index c.args.operands.now) c.operand-item.result c.loop-operand.all c.in_ok-bus.bus c.loop-operand.invariant c.in_ok-bus.ensures)
