use Rattle.gl_spare.proofs.RotationNet.{is_backed}
use Rattle.gl_spare.proofs.rotation.SpareRotationOverCopies.back.Goals as goal

pub returns : goal.returns
returns c =
    is_backed c.args.net.now c.join_all.new.net c.args.self.now c.args.front.now c.args.copies.now c.in_ok-whole.whole c.requires.numbers c.requires.front c.requires.count c.in_ok-whole.ensures
