use Rattle.std.proofs.Common.{ℕ, List, Some, sym, subst}
use Rattle.gl_values.specs.Results.{Row}
use Rattle.gl_frames_wire.specs.Running.{Runs}
use Rattle.gl_wire.specs.Wire.{carried}
use Rattle.gl_algebra.specs.Results.{row_of_frames}
use Rattle.gl_algebra.proofs.SoundLemmas.{delayed_sound}
use Rattle.gl_frames_stages.proofs.frames.FrameRowsOperator.emit.Goals as goal

pub returns-clause-serves : goal.returns-clause-serves
returns-clause-serves c = λ run r f sound.
    let self = c.args.self.now in
    let kinds = self.kinds.now in
    let items = self.items.now in
    let below = carried run c.args.below.wire in
    let put = carried run c.in_ok-put.put.wire in
    c.running_serves.ensures.settles self.cycles (λ (rows : List Row). Some (row_of_frames run.held kinds items rows)) below put f (delayed_sound self.cycles f sound)
    (subst (λ (m : ℕ). Runs m (λ (rows : List Row). Some (row_of_frames run.held kinds items rows)) below put) (sym c.requires.columns.3) (c.in_ok-put.ensures.shape run r))
