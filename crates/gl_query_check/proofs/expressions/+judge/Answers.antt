use Rattle.gl_query.specs.Trees.{expr_tree}
use Rattle.gl_query_check.specs.Judging.{Judges}
use Rattle.gl_query_check.proofs.expressions.+judge.Goals as goal

pub returns-in-Binary : goal.returns-in-Binary
returns-in-Binary t c =
    let columns = c.args.columns.now in
    let left : Judges columns (expr_tree c.in-Binary.left.value) c.judge-left_judged.result = rw c.deref-in-Binary.ensures at c.judge-left_judged.ensures in
    let right : Judges columns (expr_tree c.in-Binary.right.value) c.judge-right_judged.result = rw c.deref-in-Binary-2.ensures at c.judge-right_judged.ensures in
    let both = c.combined.ensures columns (rw c.deref-in-Binary-3.ensures left) (rw c.deref-in-Binary-4.ensures right) in
    rw c.in-Binary.is (rw (c.deref-in-Binary-3.ensures, c.deref-in-Binary-4.ensures) at both)

pub returns-in-Flip : goal.returns-in-Flip
returns-in-Flip t c =
    let columns = c.args.columns.now in
    let inner : Judges columns (expr_tree c.in-Flip.arg.value) c.judge-judged.result = rw c.deref-in-Flip.ensures at c.judge-judged.ensures in
    let turned = c.flipped.ensures columns (rw c.deref-in-Flip-2.ensures inner) in
    rw c.in-Flip.is (rw c.deref-in-Flip-2.ensures at turned)
