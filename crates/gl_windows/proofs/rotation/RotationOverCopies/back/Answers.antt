use Rattle.gl_windows.proofs.RotationNet.{is_backed}
use Rattle.gl_windows.proofs.rotation.RotationOverCopies.back.Goals as goal

pub returns : goal.returns
returns c =
    is_backed c.rotations_serve.ensures c.args.net.now c.join_all.new.net c.args.self.now c.args.front.now c.args.copies.now c.in_ok-whole.whole c.requires.numbers c.requires.front c.requires.count c.in_ok-whole.ensures
