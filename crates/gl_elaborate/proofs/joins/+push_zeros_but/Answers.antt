use Rattle.std.proofs.Common.{◌++◌, [], ◌∷◌, ap, ◌∙◌}
use Rattle.gl_bits.proofs.Options.{on_ok}
use Rattle.gl_algebra.specs.declared.node.Operand.{Operand}
use Rattle.gl_elaborate.proofs.JoinItems.{zeros_behind}
use Rattle.gl_elaborate.proofs.joins.+push_zeros_but.Goals as goal

pub returns : goal.returns
returns t c =
    on_ok c.push_zeros_but.result
    (zeros_behind c.args.into.now c.push.new.self c.push_zeros_but.new.into c.args.columns.now c.in-Some.rest.now c.in-Some.first.now c.args.key
    c.in-Some.ensures.cases.0 c.if-key-eq0.false (c.in_ok-push.ensures.ok ∙ ap (λ (x : Operand). c.args.into.now ++ x ∷ []) c.zero_of.ensures)) c.push_zeros_but.ensures
