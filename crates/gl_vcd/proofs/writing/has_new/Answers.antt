use Rattle.std.proofs.Common.{Some, refl, arith}
use Rattle.gl_vcd.proofs.Changes.{new_behind, new_here, new_none}
use Rattle.gl_vcd.proofs.writing.has_new.Goals as goal

pub loop-number-init : goal.loop-number-init
loop-number-init c = refl

pub returns-then-is_new : goal.returns-then-is_new
returns-then-is_new c =
    new_here (Some c.args.before.now) c.args.row.now c.loop-number.number c.word_at.result c.word_at.ensures c.if-is_new.ensures c.loop-number.invariant

pub loop-number-preserved : goal.loop-number-preserved
loop-number-preserved c =
    new_behind (Some c.args.before.now) c.args.row.now c.loop-number.number c.word_at.result c.word_at.ensures c.if-is_new.ensures c.loop-number.invariant

pub returns : goal.returns
returns c =
    new_none (Some c.args.before.now) c.args.row.now c.loop-number.number (omega (arith, c.loop-number-test.false, c.len-number-end.ensures)) c.loop-number.invariant
