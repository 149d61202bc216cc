use Rattle.gl_frames_tree.specs.TreeNets.{IsRaisedIn}
use Rattle.gl_frames_tree.proofs.lane.put_levels.Given as goal

abbrev pub invariant-loop-done : goal.invariant-loop-done
invariant-loop-done l = IsRaisedIn l.initial.net l.net l.keys l.initial.climb l.levels l.done l.climb
