use Rattle.std.proofs.Common.{Some}
use Rattle.gl_algebra.proofs.SoundLemmas.{delayed_sound}
use Rattle.gl_algebra.specs.FigureTable.{delayed}
use Rattle.gl_algebra.specs.Results.{computed}
use Rattle.gl_values.specs.Results.{Row}
use Rattle.gl_wire.specs.Wire.{carried}
use Rattle.gl_wire.specs.Shapes.{Mapped}
use Rattle.gl_wire.proofs.SettledLemmas.{settled_serves}
use Rattle.gl_rows.proofs.compute.ComputeRowOperator.emit.Goals as goal

pub returns-clause-serves : goal.returns-clause-serves
returns-clause-serves c = λ run r f sound.
    let kinds = c.args.self.now.kinds.now in
    let ops = c.args.self.now.ops.now in
    let a = carried run c.args.below.wire in
    let b = carried run c.in_ok-put.put.wire in
    settled_serves f (delayed 1 f) (Mapped (λ (row : Row). Some (computed run.held kinds ops row))) a b (delayed_sound 1 f sound)
    (c.steady_serves.ensures 1 (λ (row : Row). Some (computed run.held kinds ops row)) a b f (c.in_ok-put.ensures.shape run r))
