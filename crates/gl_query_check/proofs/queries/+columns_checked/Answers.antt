use Rattle.std.proofs.Common.{◌≡◌, None}
use Rattle.gl_query.specs.Accepted.{columns_under}
use Rattle.gl_query.specs.Alike.{query_alike}
use Rattle.gl_query.specs.Faults.{query_fault}
use Rattle.gl_query.specs.Sources.{scope_of}
use Rattle.gl_query.specs.Trees.{query_tree}
use Rattle.gl_query_check.proofs.Joining.{OfSides, behind_sides}
use Rattle.gl_query_check.proofs.queries.+columns_checked.Goals as goal

pub returns-in_ok-second-in-AsOf : goal.returns-in_ok-second-in-AsOf
returns-in_ok-second-in-AsOf t c =
    let scope = scope_of c.args.sources in
    let l = query_tree c.in-AsOf.left.value in
    let r = query_tree c.in-AsOf.right.value in
    let lefts = c.in_ok-first-in-AsOf.first in
    let rights = c.in_ok-second-in-AsOf.second in
    let none-left : query_fault scope l ≡ None = rw c.deref-in-AsOf.ensures at c.in_ok-first-in-AsOf.ensures.0 in
    let left : lefts ≡ columns_under scope (query_alike l) = rw c.deref-in-AsOf.ensures at c.in_ok-first-in-AsOf.ensures.1 in
    let none-right : query_fault scope r ≡ None = rw c.deref-in-AsOf-2.ensures at c.in_ok-second-in-AsOf.ensures.0 in
    let right : rights ≡ columns_under scope (query_alike r) = rw c.deref-in-AsOf-2.ensures at c.in_ok-second-in-AsOf.ensures.1 in
    let both : OfSides l r c.in-AsOf.slots c.in-AsOf.at lefts rights c.join_checked.result = rw (c.deref-in-AsOf-3.ensures, c.deref-in-AsOf-4.ensures) at c.join_checked.ensures in
    rw c.in-AsOf.is (behind_sides l r c.in-AsOf.slots c.in-AsOf.at scope lefts rights c.join_checked.result none-left left none-right right both)
