use Rattle.std.proofs.Common.{refl, sym, ◌∙◌}
use Rattle.std.proofs.lemmas.Result.{IfOk-weaker}
use Rattle.gl_values.specs.declared.kind.Kind.TheVariants.{Signed}
use Rattle.gl_rows.specs.Made.{IsGated, IsGatedTurned, IsOperated}
use Rattle.gl_rows.proofs.OperatorNet.{turned_operates, unordered_operates}
use Rattle.gl_rows.proofs.operation.put_signed.Goals as goal

pub returns-then-is_order : goal.returns-then-is_order
returns-then-is_order c =
    let old = c.args.net.now in
    let new = c.put_turned.new.net in
    let left = c.args.left in
    let right = c.args.right in
    IfOk-weaker c.put_turned.result (IsGatedTurned old new c.args.op left right) (IsOperated old new c.args.op (Signed left.width) left right)
    (λ b. turned_operates old new c.args.op left right b c.requires.fits c.requires.left c.requires.right c.requires.widths (sym c.is_order.ensures ∙ c.if-is_order.true))
    c.put_turned.ensures

pub returns : goal.returns
returns c =
    let old = c.args.net.now in
    let new = c.put_gate.new.net in
    let left = c.args.left in
    let right = c.args.right in
    IfOk-weaker c.put_gate.result (IsGated old new c.args.op left right) (IsOperated old new c.args.op (Signed left.width) left right)
    (λ b. unordered_operates old new c.args.op (Signed left.width) left right b c.requires.fits refl c.requires.still (sym c.is_order.ensures ∙ c.if-is_order.false))
    c.put_gate.ensures
