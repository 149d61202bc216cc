use Rattle.std.proofs.Common.{◌∙◌}
use Rattle.gl_root_gaps.specs.Roots.{gap_with}
use Rattle.gl_figures.proofs.ticks.gap_alone.Goals as goal

pub returns : goal.returns
returns c = c.gap_with.ensures ∙ (λ i. gap_with (c.root_ticks-ticks.ensures i) (c.figures_at-own.ensures i).gt)
