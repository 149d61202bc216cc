use Rattle.std.proofs.Common.{◌≡◌, drop}
use Rattle.gl_tuples.specs.Flat.{close_head}
use Rattle.gl_tuples.proofs.beats.kept.Given as goal

-- none is too close so far
abbrev pub invariant-loop-beat : goal.invariant-loop-beat
invariant-loop-beat l = close_head l.gaps l.next l.tick (drop l.beat-index l.beats) ≡ close_head l.gaps 0 0 l.beats
