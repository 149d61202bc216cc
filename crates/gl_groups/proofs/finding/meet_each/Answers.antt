use Rattle.std.proofs.Common.{List, length, subst}
use Rattle.gl_net.specs.declared.node.Bit.{Bit}
use Rattle.gl_groups.specs.Finding.{AddsLater}
use Rattle.gl_groups.proofs.FindingNet.{met_are}
use Rattle.gl_groups.proofs.finding.meet_each.Goals as goal

pub returns : goal.returns
returns c =
    let later = subst (λ (bs : List Bit). AddsLater c.pairwise.new.net c.later_each.new.net bs (length bs) c.in_ok-met.met) c.as_slice.ensures c.in_ok-met.ensures in
    met_are c.args.net.now c.same_each.new.net c.pairwise.new.net c.later_each.new.net c.args.kept.now c.args.keys.now c.args.here c.in_ok-same.same c.in_ok-both.both c.in_ok-met.met c.requires.count
    c.in_ok-same.ensures c.in_ok-both.ensures later
