use Rattle.std.proofs.Common.{[], Some, refl, sym, ap, ◌∙◌, arith}
use Rattle.gl_algebra.specs.Direct.{form_of, is_rowwise}
use Rattle.gl_algebra.specs.Shapes.{shape_of}
use Rattle.gl_wiring.proofs.CanLemmas.{first_before, first_within}
use Rattle.gl_wiring.proofs.FormLemmas.{others_no_rows, same_rows}
use Rattle.gl_wiring.proofs.direct.+is_rowwise.Goals as goal

pub is_rowwise-requires : goal.is_rowwise-requires
is_rowwise-requires t c =
    let at = c.node.ensures.node ∙ ap Some c.in-Compute.is in
    let before = first_before c.args.plan.now c.args.id _ c.node.ensures.plan at c.in-Compute.child [] refl in
    (omega (arith, before), first_within c.args.plan.now c.args.id _ c.node.ensures.plan at c.in-Compute.child [] refl)

pub is_rowwise-requires-in-Select : goal.is_rowwise-requires-in-Select
is_rowwise-requires-in-Select t c =
    let at = c.node.ensures.node ∙ ap Some c.in-Select.is in
    let before = first_before c.args.plan.now c.args.id _ c.node.ensures.plan at c.in-Select.child [] refl in
    (omega (arith, before), first_within c.args.plan.now c.args.id _ c.node.ensures.plan at c.in-Select.child [] refl)

pub is_rowwise-requires-in-Project : goal.is_rowwise-requires-in-Project
is_rowwise-requires-in-Project t c =
    let at = c.node.ensures.node ∙ ap Some c.in-Project.is in
    let before = first_before c.args.plan.now c.args.id _ c.node.ensures.plan at c.in-Project.child [] refl in
    (omega (arith, before), first_within c.args.plan.now c.args.id _ c.node.ensures.plan at c.in-Project.child [] refl)

pub returns-in-Body : goal.returns-in-Body
returns-in-Body t c =
    sym (ap is_rowwise (c.laws_below.ensures.nodes_follow_tables c.args.plan.now c.args.id _ c.node.ensures.plan (c.node.ensures.node ∙ ap Some c.in-Body.is)).form)

pub returns-in-Compute : goal.returns-in-Compute
returns-in-Compute t c =
    c.is_rowwise.ensures ∙ same_rows (form_of c.args.plan.now c.in-Compute.child)
    ∙ sym (ap is_rowwise (c.laws_below.ensures.nodes_follow_tables c.args.plan.now c.args.id _ c.node.ensures.plan (c.node.ensures.node ∙ ap Some c.in-Compute.is)).form)

pub returns-in-Select : goal.returns-in-Select
returns-in-Select t c =
    c.is_rowwise-in-Select.ensures ∙ same_rows (form_of c.args.plan.now c.in-Select.child)
    ∙ sym (ap is_rowwise (c.laws_below.ensures.nodes_follow_tables c.args.plan.now c.args.id _ c.node.ensures.plan (c.node.ensures.node ∙ ap Some c.in-Select.is)).form)

pub returns-in-Project : goal.returns-in-Project
returns-in-Project t c =
    c.is_rowwise-in-Project.ensures ∙ same_rows (form_of c.args.plan.now c.in-Project.child)
    ∙ sym (ap is_rowwise (c.laws_below.ensures.nodes_follow_tables c.args.plan.now c.args.id _ c.node.ensures.plan (c.node.ensures.node ∙ ap Some c.in-Project.is)).form)

pub returns-in_default : goal.returns-in_default
returns-in_default t c =
    others_no_rows (shape_of c.args.plan.now) (form_of c.args.plan.now) c.node.result.now c.in_default.not-Body c.in_default.not-Compute c.in_default.not-Select c.in_default.not-Project
    ∙ sym (ap is_rowwise (c.laws_below.ensures.nodes_follow_tables c.args.plan.now c.args.id c.node.result.now c.node.ensures.plan c.node.ensures.node).form)
