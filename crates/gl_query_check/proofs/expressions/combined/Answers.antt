use Rattle.std.proofs.Common.{◌≡◌, Option, Some, sym, subst, ◌∙◌}
use Rattle.std.specs.Prelude.{is_none, is_some, not}
use Rattle.gl_values.specs.declared.kind.Kind.{Kind}
use Rattle.gl_values.specs.Operators.{sort_of}
use Rattle.gl_query.specs.Alike.{expr_alike}
use Rattle.gl_query.specs.Trees.{expr_tree}
use Rattle.gl_query.specs.Values.{operator_kind}
use Rattle.gl_query_check.specs.Judging.{IsPlaced, kind_judged, place_beside}
use Rattle.gl_query_check.proofs.Judging.{combined_fixed, none_is}
use Rattle.gl_query_check.proofs.expressions.combined.Goals as goal

pub returns : goal.returns
returns c = λ columns hl hr.
    let op = c.args.op in
    let l = expr_tree c.args.left.now in
    let r = expr_tree c.args.right.now in
    let jl = c.args.left_judged in
    let jr = c.args.right_judged in
    let kind : operator_kind (sort_of op) (kind_judged jl) (kind_judged jr) ≡ Some c.in-Some.kind = rw (c.sort-sort.ensures, c.kind_judged-of_left.ensures, c.kind_judged-of_right.ensures) at (sym c.operator_kind.ensures ∙ c.in-Some.is) in
    let at_left : c.place_beside.result ≡ place_beside (sort_of op) (kind_judged jr) (expr_alike l) = rw (c.sort-sort.ensures, c.kind_judged-of_right.ensures) at c.place_beside.ensures in
    let at_right : c.place_beside-2.result ≡ place_beside (sort_of op) (kind_judged jl) (expr_alike r) = rw (c.sort-sort.ensures, c.kind_judged-of_left.ensures) at c.place_beside-2.ensures in
    let left : IsPlaced columns (place_beside (sort_of op) (kind_judged jr) (expr_alike l)) l c.settle-left_placed.result = rw at_left at (c.settle-left_placed.ensures columns hl) in
    let right : IsPlaced columns (place_beside (sort_of op) (kind_judged jl) (expr_alike r)) r c.settle-right_placed.result = rw at_right at (c.settle-right_placed.ensures columns hr) in
    let left_none : c.is_none.result ≡ is_none (kind_judged jl) = none_is (kind_judged jl) c.is_none.result (subst (λ (own : Option Kind). is_some own ≡ not c.is_none.result) c.kind_judged-of_left.ensures c.is_none.ensures) in
    let right_none : c.is_none-2.result ≡ is_none (kind_judged jr) = none_is (kind_judged jr) c.is_none-2.result (subst (λ (own : Option Kind). is_some own ≡ not c.is_none-2.result) c.kind_judged-of_right.ensures c.is_none-2.ensures) in
    rw (c.or_else-2.ensures, c.or_else.ensures, c.of_operands-operands.ensures, c.operator_fault-own.ensures, c.distance_fault-distance.ensures, left_none, right_none, c.sort-sort.ensures)
    (combined_fixed columns op l r c.args.at jl jr c.settle-left_placed.result c.settle-right_placed.result c.in-Some.kind hl hr kind left right)
