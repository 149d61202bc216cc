use Rattle.std.proofs.Common.{◌≡◌, ◌≤◌, [], Some, length, refl, sym, ap, ◌∙◌}
use Rattle.std.specs.Prelude.{not}
use Rattle.std.proofs.lemmas.Bool.{eqb-true}
use Rattle.gl_algebra.specs.Direct.{form_of, is_direct}
use Rattle.gl_algebra.specs.Shapes.{kinds_of, shape_of}
use Rattle.gl_wire_registers.proofs.JoinLemmas.{some_copies}
use Rattle.gl_wiring.proofs.CanLemmas.{first_within}
use Rattle.gl_wiring.proofs.FormLemmas.{direct_over, none_direct, others_not_direct}
use Rattle.gl_wiring.proofs.direct.is_direct.Goals as goal

pub is_rowwise-requires : goal.is_rowwise-requires
is_rowwise-requires c =
    first_within c.args.plan.now c.args.body _ c.node.ensures.plan (c.node.ensures.node ∙ ap Some c.in-Aggregate.is) c.in-Aggregate.child [] refl

pub returns-then-not-is_empty : goal.returns-then-not-is_empty
returns-then-not-is_empty c =
    let nodes = c.args.plan.now in
    let follows = c.laws_below.ensures.nodes_follow_tables nodes c.args.body _ c.node.ensures.plan (c.node.ensures.node ∙ ap Some c.in-Aggregate.is) in
    let some : 1 ≤ length c.as_slice.result.now = some_copies (length c.as_slice.result.now) (sym c.is_empty.ensures ∙ c.if-not-is_empty.true) in
    c.is_rowwise.ensures ∙ direct_over (form_of nodes c.in-Aggregate.child) (kinds_of nodes c.in-Aggregate.child) c.in-Aggregate.aggs (rw c.as_slice.ensures at some)
    ∙ sym (ap is_direct follows.form)

pub returns-else-not-is_empty : goal.returns-else-not-is_empty
returns-else-not-is_empty c =
    let nodes = c.args.plan.now in
    let follows = c.laws_below.ensures.nodes_follow_tables nodes c.args.body _ c.node.ensures.plan (c.node.ensures.node ∙ ap Some c.in-Aggregate.is) in
    let none : length c.as_slice.result.now ≡ 0 = eqb-true (length c.as_slice.result.now) 0 (sym c.is_empty.ensures ∙ c.if-not-is_empty.false) in
    ap not c.if-not-is_empty.false
    ∙ none_direct (form_of nodes c.in-Aggregate.child) (kinds_of nodes c.in-Aggregate.child) c.in-Aggregate.aggs (rw c.as_slice.ensures at none)
    ∙ sym (ap is_direct follows.form)

pub returns-in_default : goal.returns-in_default
returns-in_default c =
    others_not_direct (shape_of c.args.plan.now) (form_of c.args.plan.now) c.node.result.now c.in_default.not-Aggregate
    ∙ sym (ap is_direct (c.laws_below.ensures.nodes_follow_tables c.args.plan.now c.args.body c.node.result.now c.node.ensures.plan c.node.ensures.node).form)
