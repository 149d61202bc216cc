use Rattle.gl_groups.proofs.FindingNet.{held_are}
use Rattle.gl_groups.proofs.finding.stay_used.Goals as goal

pub returns : goal.returns
returns c =
    held_are c.args.net.now c.with_all.new.net c.pairwise.new.net c.args.kept.now c.args.nexts.now c.args.one c.in_ok-takes.takes c.in_ok-has.has c.requires.count c.in_ok-takes.ensures c.in_ok-has.ensures
