use Rattle.gl_ticks.proofs.RotationNet.{is_root_backed}
use Rattle.gl_ticks.proofs.rotation.RootTickedOverCopies.back.Goals as goal

pub returns : goal.returns
returns c =
    is_root_backed c.args.net.now c.join_all.new.net c.args.self.now.ticked c.args.front.now c.args.copies.now c.in_ok-whole.whole c.requires.numbers c.requires.front c.requires.count c.in_ok-whole.ensures
