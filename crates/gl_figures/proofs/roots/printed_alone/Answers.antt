use Rattle.gl_figures.proofs.PrintedLemmas.{printed_alone}
use Rattle.gl_figures.proofs.roots.printed_alone.Goals as goal

pub returns : goal.returns
returns c =
    printed_alone c.nodes_follow_tables.ensures c.args.plan.now c.args.root c.figures_at-own.result c.gap_with.result c.ticks_with.result c.root_ticks-ticks.result c.args.copies c.len.ensures.plan c.requires.root
    c.figures_at-own.ensures c.root_ticks-ticks.ensures c.gap_with.ensures c.ticks_with.ensures c.requires.copies c.requires.light c.requires.spare
