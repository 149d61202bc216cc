use Rattle.std.proofs.Common.{◌≡◌, None, refl}
use Rattle.gl_values.specs.Operators.{sort_of}
use Rattle.gl_query.specs.Alike.{expr_alike}
use Rattle.gl_query.specs.Trees.{expr_tree}
use Rattle.gl_query.specs.Trees as tree
use Rattle.gl_query.specs.Values.{own_kind}
use Rattle.gl_query_check.proofs.Judging.{loose_flip, loose_operator, loose_parts}
use Rattle.gl_query_check.proofs.expressions.+loose_fault.Goals as goal

pub returns-in-Binary : goal.returns-in-Binary
returns-in-Binary t c = λ columns loose.
    let op = c.in-Binary.op in
    let l = expr_tree c.in-Binary.left.value in
    let r = expr_tree c.in-Binary.right.value in
    let h : own_kind columns (expr_alike (tree.Binary op l r c.in-Binary.at)) ≡ None = rw c.in-Binary.is at loose in
    let p = loose_parts (sort_of op) (own_kind columns (expr_alike l)) (own_kind columns (expr_alike r)) h in
    rw (c.in-Binary.is, loose_operator columns c.args.place op l r c.in-Binary.at h, c.or_else-in-Binary-2.ensures, c.or_else-in-Binary.ensures, c.or_else-operands.ensures, c.distance_fault-distance.ensures, c.loose_fault-in-Binary.ensures columns (rw c.deref-in-Binary.ensures p.left'), c.loose_fault-in-Binary-2.ensures columns (rw c.deref-in-Binary-2.ensures p.right'), c.unless-number-in-Binary.ensures, c.is_number-in-Binary.ensures, c.deref-in-Binary.ensures, c.deref-in-Binary-2.ensures, c.deref-in-Binary-3.ensures) refl

pub returns-in-Flip : goal.returns-in-Flip
returns-in-Flip t c = λ columns loose.
    let e = expr_tree c.in-Flip.arg.value in
    let h : own_kind columns (expr_alike e) ≡ None = rw c.in-Flip.is at loose in
    rw (c.in-Flip.is, loose_flip columns c.args.place e c.in-Flip.at h, c.or_else.ensures, c.loose_fault.ensures columns (rw c.deref.ensures h), c.unless-number.ensures, c.is_number.ensures, c.deref.ensures) refl
