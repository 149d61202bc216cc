use Rattle.std.proofs.Common.{◌≡◌, ◌∙◌, None, Some, ap}
use Rattle.gl_figures.proofs.PrintedLemmas.{enough, printed_with}
use Rattle.gl_figures.proofs.RootLemmas.{body_within, no_windows, source_within, step}
use Rattle.gl_figures.proofs.roots.printed_with.Goals as goal

pub figures_at-around-requires-clause-within : goal.figures_at-around-requires-clause-within
figures_at-around-requires-clause-within c = source_within c.args.plan.now c.args.root c.node.ensures.plan (c.node.ensures.node ∙ ap Some c.in-Window.is)

pub figures_at-within-requires-clause-within : goal.figures_at-within-requires-clause-within
figures_at-within-requires-clause-within c = body_within c.args.plan.now c.args.root c.node.ensures.plan (c.node.ensures.node ∙ ap Some c.in-Window.is)

pub copies_of_window-turns-requires : goal.copies_of_window-turns-requires
copies_of_window-turns-requires c = (step c.args.plan.now c.args.root c.node.ensures.plan (c.node.ensures.node ∙ ap Some c.in-Window.is)).least

pub overflow_sub-it : goal.overflow_sub-it
overflow_sub-it c = rw c.copies_of_window-turns.ensures (enough c.args.plan.now c.args.root c.args.it c.node.ensures.plan (c.node.ensures.node ∙ ap Some c.in-Window.is) c.requires.spare)

pub returns : goal.returns
returns c =
    let last = rw (c.figures_at-around.ensures, c.figures_at-within.ensures, c.copies_of_window-turns.ensures) at c.last_with_spare-last.ensures in
    rw (c.cap.ensures, c.cap-in-Window.ensures, c.times-further.ensures.turned, c.copies_of_window-turns.ensures)
    (printed_with c.args.plan.now c.args.root c.args.it c.node.ensures.plan (c.node.ensures.node ∙ ap Some c.in-Window.is) c.requires.spare c.nodes_follow_tables.ensures c.last_with_spare-last.result c.args.copies c.args.inside last
    c.requires.copies c.requires.inside)

pub unreachable-requires : goal.unreachable-requires
unreachable-requires c =
    let none : None ≡ Some c.args.it = no_windows c.args.plan.now c.args.root c.node.result.now c.node.ensures.node c.in_default.not-Window ∙ c.requires.spare in
    cc (none)
