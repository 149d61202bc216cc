use Rattle.std.proofs.Common.{◌∙◌, Some, ap, sym}
use Rattle.std.specs.Prelude.{option_and_then}
use Rattle.gl_algebra.specs.declared.node.PlanNode.TheVariants.{TimeWindow}
use Rattle.gl_root_gaps.specs.Roots.{rows_below}
use Rattle.gl_root_gaps.proofs.GapLemmas.{ticks_there}
use Rattle.gl_figures.proofs.RootLemmas.{no_time_windows, time_body_within}
use Rattle.gl_figures.proofs.ticks.own_ticks.Goals as goal

pub figures_at-inside-requires-clause-within : goal.figures_at-inside-requires-clause-within
figures_at-inside-requires-clause-within c = time_body_within c.args.plan.now c.args.id c.node.ensures.plan (c.node.ensures.node ∙ ap Some c.in-TimeWindow.is)

pub tick_gaps-requires-clause-body : goal.tick_gaps-requires-clause-body
tick_gaps-requires-clause-body c =
    let at = c.node.ensures.node ∙ ap Some c.in-TimeWindow.is in
    rw c.figures_at-inside.ensures (c.figures_are_sound.ensures c.args.plan.now c.in-TimeWindow.body c.node.ensures.plan (time_body_within c.args.plan.now c.args.id c.node.ensures.plan at))

pub tick_gaps-requires-clause-advance : goal.tick_gaps-requires-clause-advance
tick_gaps-requires-clause-advance c =
    let at = c.node.ensures.node ∙ ap Some c.in-TimeWindow.is in
    (c.node.ensures.plan.fits c.args.id (TimeWindow c.in-TimeWindow.source c.in-TimeWindow.body c.in-TimeWindow.size c.in-TimeWindow.advance) at).suits.2.least

pub returns-in-TimeWindow : goal.returns-in-TimeWindow
returns-in-TimeWindow c =
    let at = c.node.ensures.node ∙ ap Some c.in-TimeWindow.is in
    let is = rw c.figures_at-inside.ensures at c.tick_gaps.ensures in
    is ∙ sym (ticks_there c.args.plan.now c.args.id _ c.node.ensures.plan at)

pub returns-in_default : goal.returns-in_default
returns-in_default c =
    no_time_windows c.args.plan.now c.args.id c.node.result.now c.node.ensures.node c.node.ensures.plan
    (sym (ap (option_and_then rows_below) c.node.ensures.node) ∙ c.requires.alone) c.in_default.not-TimeWindow
