use Rattle.gl_ticks.proofs.RotationNet.{is_root_fronted}
use Rattle.gl_ticks.proofs.rotation.RootTickedOverCopies.front.Goals as goal

pub returns : goal.returns
returns c = is_root_fronted c.args.net.now c.front.new.net c.args.self.now.ticked c.args.source c.in_ok-front.front c.in_ok-front.ensures
