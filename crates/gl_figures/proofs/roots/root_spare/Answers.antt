use Rattle.std.proofs.Common.{◌-◌, ◌∙◌, None, Some, ap, sym}
use Rattle.gl_algebra.specs.Views.{copies_of_window}
use Rattle.gl_figures.proofs.RootLemmas.{body_sound, body_within, is_light, is_past, no_windows, rows, source_sound, source_within, spare_by, step, weight_is}
use Rattle.gl_figures.proofs.roots.root_spare.Goals as goal

pub figures_at-around-requires-clause-within : goal.figures_at-around-requires-clause-within
figures_at-around-requires-clause-within c = source_within c.args.plan.now c.args.root c.node.ensures.plan (c.node.ensures.node ∙ ap Some c.in-Window.is)

pub figures_at-inside-requires-clause-within : goal.figures_at-inside-requires-clause-within
figures_at-inside-requires-clause-within c = body_within c.args.plan.now c.args.root c.node.ensures.plan (c.node.ensures.node ∙ ap Some c.in-Window.is)

pub spare-requires-clause-source : goal.spare-requires-clause-source
spare-requires-clause-source c = rw c.figures_at-around.ensures (source_sound c.args.plan.now c.args.root c.node.ensures.plan (c.node.ensures.node ∙ ap Some c.in-Window.is) c.figures_are_sound.ensures)

pub spare-requires-clause-body : goal.spare-requires-clause-body
spare-requires-clause-body c = rw c.figures_at-inside.ensures (body_sound c.args.plan.now c.args.root c.node.ensures.plan (c.node.ensures.node ∙ ap Some c.in-Window.is) c.figures_are_sound.ensures)

pub spare-requires-clause-size : goal.spare-requires-clause-size
spare-requires-clause-size c = rows c.args.plan.now c.args.root c.node.ensures.plan (c.node.ensures.node ∙ ap Some c.in-Window.is)

pub spare-requires-clause-advance : goal.spare-requires-clause-advance
spare-requires-clause-advance c = step c.args.plan.now c.args.root c.node.ensures.plan (c.node.ensures.node ∙ ap Some c.in-Window.is)

pub returns-in_err-it-in-Window : goal.returns-in_err-it-in-Window
returns-in_err-it-in-Window c =
    let none = rw (c.figures_at-around.ensures, c.figures_at-inside.ensures) at (sym c.spare.ensures ∙ c.in_err-it-in-Window.was) in
    c.from_residual.ensures ∙ sym (spare_by c.args.plan.now c.args.root _ (c.node.ensures.node ∙ ap Some c.in-Window.is) None none)

pub copies_of_window-requires : goal.copies_of_window-requires
copies_of_window-requires c = (step c.args.plan.now c.args.root c.node.ensures.plan (c.node.ensures.node ∙ ap Some c.in-Window.is)).least

pub weight_at-each-requires-clause-within : goal.weight_at-each-requires-clause-within
weight_at-each-requires-clause-within c = body_within c.args.plan.now c.args.root c.node.ensures.plan (c.node.ensures.node ∙ ap Some c.in-Window.is)

pub lines_of-lines-requires : goal.lines_of-lines-requires
lines_of-lines-requires c = source_within c.args.plan.now c.args.root c.node.ensures.plan (c.node.ensures.node ∙ ap Some c.in-Window.is)

pub returns-then-weight_with_further-gt-MOST_WEIGHT : goal.returns-then-weight_with_further-gt-MOST_WEIGHT
returns-then-weight_with_further-gt-MOST_WEIGHT c =
    let some = rw (c.figures_at-around.ensures, c.figures_at-inside.ensures) at (sym c.spare.ensures ∙ c.in_ok-it-in-Window.was) in
    let weight = rw (c.weight_at-weight.ensures, c.weight_at-each.ensures, c.lines_of-lines.ensures.value, c.lines_of.ensures.value, c.copies_of_window.ensures)
    at c.weight_with_further.ensures in
    let is = weight_is c.args.plan.now c.args.root c.node.ensures.plan (c.node.ensures.node ∙ ap Some c.in-Window.is) (c.in_ok-it-in-Window.it.copies - copies_of_window c.in-Window.size c.in-Window.advance) in
    is_past c.args.plan.now c.args.root _ (c.node.ensures.node ∙ ap Some c.in-Window.is) c.in_ok-it-in-Window.it c.weight_with_further.result some (weight ∙ is) c.if-weight_with_further-gt-MOST_WEIGHT.true

pub returns-else-weight_with_further-gt-MOST_WEIGHT : goal.returns-else-weight_with_further-gt-MOST_WEIGHT
returns-else-weight_with_further-gt-MOST_WEIGHT c =
    let some = rw (c.figures_at-around.ensures, c.figures_at-inside.ensures) at (sym c.spare.ensures ∙ c.in_ok-it-in-Window.was) in
    let weight = rw (c.weight_at-weight.ensures, c.weight_at-each.ensures, c.lines_of-lines.ensures.value, c.lines_of.ensures.value, c.copies_of_window.ensures)
    at c.weight_with_further.ensures in
    let is = weight_is c.args.plan.now c.args.root c.node.ensures.plan (c.node.ensures.node ∙ ap Some c.in-Window.is) (c.in_ok-it-in-Window.it.copies - copies_of_window c.in-Window.size c.in-Window.advance) in
    is_light c.args.plan.now c.args.root _ (c.node.ensures.node ∙ ap Some c.in-Window.is) c.in_ok-it-in-Window.it c.weight_with_further.result some (weight ∙ is) c.if-weight_with_further-gt-MOST_WEIGHT.false

pub returns-in_default : goal.returns-in_default
returns-in_default c = no_windows c.args.plan.now c.args.root c.node.result.now c.node.ensures.node c.in_default.not-Window
