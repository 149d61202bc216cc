use Rattle.gl_groups.proofs.LanedNet.{is_laned}
use Rattle.gl_groups.proofs.grouping.Grouping.lane.Goals as goal

pub returns : goal.returns
returns c =
    is_laned c.args.net.now c.put_lane.new.net c.close_line.new.net c.args.self.now c.args.source.now c.in_ok-lane.lane c.in_ok-close.close c.stride.result c.cycles-cycles.result c.slot_bits.result
    c.stride.ensures c.cycles-cycles.ensures c.slot_bits.ensures.value c.slot_bits.ensures.few c.requires.grouping c.in_ok-lane.ensures c.in_ok-close.ensures
