use Rattle.std.proofs.Common.{◌∙◌}
use Rattle.gl_wiring.proofs.GroupLemmas.{in_source, key_column, some_gap}
use Rattle.gl_wiring.proofs.LaneLemmas.{lane_behind}
use Rattle.gl_wiring.proofs.groups.GroupOf.lane.Goals as goal

pub put_source-requires-clause-within : goal.put_source-requires-clause-within
put_source-requires-clause-within c = in_source c.laws_below.ensures c.args.site.plan.now c.args.self.now c.args.site.planned c.requires.node

pub put_source-requires-clause-gap : goal.put_source-requires-clause-gap
put_source-requires-clause-gap c =
    rw c.grouping-grouping.ensures.value (some_gap c.laws_below.ensures c.args.site.plan.now c.args.self.now c.args.site.planned c.requires.node)

pub lane-requires-clause-key : goal.lane-requires-clause-key
lane-requires-clause-key c =
    let x = c.in_ok-source.ensures in
    rw c.grouping-grouping.ensures.value (key_column c.laws_below.ensures c.args.site.plan.now c.args.self.now c.args.site.planned c.requires.node c.in_ok-source.source.wire.columns
    (x.spaced'.behind.same_widths ∙ x.gives.same_widths))

pub returns : goal.returns
returns c =
    let x = rw c.grouping-grouping.ensures.value at c.in_ok-source.ensures in
    lane_behind c.laws_below.ensures c.args.site.plan.now c.args.self.now c.args.site.planned c.requires.node c.args.net.now c.put_source.new.net c.lane.new.net c.args.site.tick
    c.args.site.leaves.now x.below c.in_ok-source.source c.in_ok-lane.lane x.gives x.spaced' (rw c.grouping-grouping.ensures.value at c.in_ok-lane.ensures)
