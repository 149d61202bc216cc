use Rattle.std.proofs.Common.{ap, sym, subst, ◌∙◌}
use Rattle.std.specs.Prelude.{IfOk}
use Rattle.std.proofs.lemmas.Result.{IfOk-weaker}
use Rattle.gl_algebra.specs.Columns.{SortFits}
use Rattle.gl_values.specs.Operators.{sort_of}
use Rattle.gl_values.specs.declared.kind.Kind.{Kind}
use Rattle.gl_values.specs.declared.kind.Kind.TheVariants.{Signed}
use Rattle.gl_rows.specs.Made.{IsGated, IsOperated}
use Rattle.gl_rows.proofs.OperatorNet.{plain_operates, signed_kind}
use Rattle.gl_rows.proofs.operation.put_operator.Goals as goal

pub put_signed-requires-clause-fits : goal.put_signed-requires-clause-fits
put_signed-requires-clause-fits c =
    let same = ap Signed c.requires.left_width ∙ signed_kind c.args.kind (sym c.is_signed.ensures ∙ c.if-is_signed.true) in
    subst (SortFits (sort_of c.args.op)) (sym same) c.requires.fits

pub returns-then-is_signed : goal.returns-then-is_signed
returns-then-is_signed c =
    let same = ap Signed c.requires.left_width ∙ signed_kind c.args.kind (sym c.is_signed.ensures ∙ c.if-is_signed.true) in
    subst (λ (k : Kind). IfOk c.put_signed.result (IsOperated c.args.net.now c.put_signed.new.net c.args.op k c.args.left c.args.right)) same c.put_signed.ensures

pub returns : goal.returns
returns c =
    let old = c.args.net.now in
    let new = c.put_gate.new.net in
    IfOk-weaker c.put_gate.result (IsGated old new c.args.op c.args.left c.args.right) (IsOperated old new c.args.op c.args.kind c.args.left c.args.right)
    (λ b. plain_operates old new c.args.op c.args.kind c.args.left c.args.right b c.requires.fits c.requires.left_width c.requires.still (sym c.is_signed.ensures ∙ c.if-is_signed.false))
    c.put_gate.ensures
