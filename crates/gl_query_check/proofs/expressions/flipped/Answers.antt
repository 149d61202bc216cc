use Rattle.gl_query.specs.Trees.{expr_tree}
use Rattle.gl_query_check.specs.Judging.{IsFixed}
use Rattle.gl_query_check.proofs.Judging.{flip_fixed}
use Rattle.gl_query_check.proofs.expressions.flipped.Goals as goal

pub returns-in-Fixed : goal.returns-in-Fixed
returns-in-Fixed c = λ columns h.
    let e = expr_tree c.args.arg.now in
    let f : IsFixed columns e c.in-Fixed.kind c.in-Fixed.fault = rw c.in-Fixed.is at h in
    rw (c.or_else.ensures, c.unless-number.ensures, c.is_number.ensures) (flip_fixed columns e c.args.at c.in-Fixed.kind c.in-Fixed.fault f)
