use Rattle.gl_frames_stages.proofs.WholeNet.{count_item}
use Rattle.gl_frames_stages.proofs.whole.put_all_count.Goals as goal

pub later-requires : goal.later-requires
later-requires c = (c.in_ok-count.ensures c.in_ok-count.count).bus

pub returns : goal.returns
returns c =
    count_item c.args.net.now c.put_passing.new.net c.put_count.new.net c.later.new.net c.args.input c.args.filter c.in_ok-lines.lines c.in_ok-count.count c.in_ok-out.out
    c.in_ok-lines.ensures c.in_ok-count.ensures c.in_ok-out.ensures
