use Rattle.std.proofs.Common.{Option, ap, sym, ◌∙◌}
use Rattle.std.specs.Prelude.{unwrap_or}
use Rattle.gl_algebra.specs.declared.figures.Figures.{Figures}
use Rattle.gl_algebra.specs.FigureTable.{figures_of}
use Rattle.gl_root_gaps.specs.declared.TickGaps.{TickGaps}
use Rattle.gl_root_gaps.specs.Roots.{gap_with, ticks_with}
use Rattle.gl_figures.proofs.ticks.ticks_alone.Goals as goal

pub returns-in-None : goal.returns-in-None
returns-in-None c =
    let own = (figures_of c.args.plan.now c.args.root).gt in
    ap (λ (f : Figures). f.gt) c.figures_at-own.ensures
    ∙ ap (λ (o : Option TickGaps). unwrap_or (ticks_with o) (gap_with o own)) (sym c.in-None.is ∙ c.root_ticks-ticks.ensures)

pub returns-in-Some : goal.returns-in-Some
returns-in-Some c =
    let own = (figures_of c.args.plan.now c.args.root).gt in
    ap (λ (o : Option TickGaps). unwrap_or (ticks_with o) (gap_with o own)) (sym c.in-Some.is ∙ c.root_ticks-ticks.ensures)
