use Rattle.std.proofs.Common.{Some, subst}
use Rattle.gl_algebra.specs.declared.figures.Figures.{Figures}
use Rattle.gl_algebra.specs.Results.{projected}
use Rattle.gl_algebra.proofs.FigureLemmas.{delayed_by_none}
use Rattle.gl_values.specs.Results.{Row}
use Rattle.gl_wire.specs.Wire.{carried}
use Rattle.gl_wire.specs.Serves.{Serves}
use Rattle.gl_wire.specs.Shapes.{Mapped}
use Rattle.gl_wire.proofs.SettledLemmas.{settled_serves}
use Rattle.gl_rows.proofs.project.ProjectRowOperator.emit.Goals as goal

pub returns-clause-serves : goal.returns-clause-serves
returns-clause-serves c = λ run r f sound.
    let items = c.args.self.now.items.now in
    let a = carried run c.args.below.wire in
    let b = carried run c.in_ok-put.put.wire in
    settled_serves f f (Mapped (λ (row : Row). Some (projected run.held items row))) a b sound
    (subst (λ (g : Figures). Serves f g (Mapped (λ (row : Row). Some (projected run.held items row))) a b) (delayed_by_none f)
    (c.steady_serves.ensures 0 (λ (row : Row). Some (projected run.held items row)) a b f (c.in_ok-put.ensures.shape run r)))
