use Rattle.std.proofs.Common.{arith, ◌-◌}
use Rattle.gl_wire.proofs.ColumnLemmas.{same_length}
use Rattle.gl_frames_tree.proofs.RaiseNet.{own_climb, raised_more, raised_none}
use Rattle.gl_frames_tree.proofs.lane.put_levels.Goals as goal

pub loop-done-init : goal.loop-done-init
loop-done-init c = raised_none c.args.net.now c.args.keys c.args.root c.args.levels c.requires.root

pub put_level-requires-clause-climb : goal.put_level-requires-clause-climb
put_level-requires-clause-climb c = own_climb c.loop-done.net c.args.keys c.args.root c.loop-done.climb c.loop-done.invariant.has

pub put_level-requires-clause-column : goal.put_level-requires-clause-column
put_level-requires-clause-column c = omega (arith, c.requires.column, same_length c.loop-done.climb.wire.columns c.args.root.wire.columns c.loop-done.invariant.has.same_widths)

pub loop-done-preserved : goal.loop-done-preserved
loop-done-preserved c =
    raised_more c.args.net.now c.loop-done.net c.put_level.new.net c.args.keys c.args.root c.loop-done.climb c.in_ok-climb.climb c.args.levels c.loop-done.done (c.args.levels - 1 - c.loop-done.done)
    (omega arith) c.loop-done.invariant c.in_ok-climb.ensures
