use Rattle.gl_algebra.proofs.SoundLemmas.{delayed_sound}
use Rattle.gl_algebra.specs.FigureTable.{delayed}
use Rattle.gl_wire.specs.Wire.{carried}
use Rattle.gl_wire.specs.Shapes.{Mapped, keep_where}
use Rattle.gl_wire.proofs.SettledLemmas.{settled_serves}
use Rattle.gl_rows.proofs.select.SelectRowOperator.emit.Goals as goal

pub returns-clause-serves : goal.returns-clause-serves
returns-clause-serves c = λ run r f sound.
    let step = keep_where c.args.self.now.column in
    let a = carried run c.args.below.wire in
    let b = carried run c.in_ok-put.put.wire in
    settled_serves f (delayed 1 f) (Mapped step) a b (delayed_sound 1 f sound) (c.steady_serves.ensures 1 step a b f (c.in_ok-put.ensures.shape run r))
