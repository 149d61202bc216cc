use Rattle.std.proofs.Common.{◌≡◌, None, refl}
use Rattle.gl_query.specs.Alike.{expr_alike}
use Rattle.gl_query.specs.Trees.{expr_tree}
use Rattle.gl_query.specs.Values.{own_kind}
use Rattle.gl_query_check.proofs.expressions.settle.Goals as goal

pub returns-in-Loose : goal.returns-in-Loose
returns-in-Loose c = λ columns h.
    let loose : own_kind columns (expr_alike (expr_tree c.args.expr.now)) ≡ None = rw c.in-Loose.is at h in
    record { kind' = rw loose refl; fault' = c.loose_fault.ensures columns loose }
