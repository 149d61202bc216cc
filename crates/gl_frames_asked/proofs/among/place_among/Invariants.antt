use Rattle.std.proofs.Common.{◌≡◌, ◌≤◌}
use Rattle.gl_frames_asked.specs.Among.{place_among}
use Rattle.gl_frames_asked.proofs.among.place_among.Given as goal

abbrev pub invariant-loop-below : goal.invariant-loop-below
invariant-loop-below l = (l.place ≡ place_among l.asked l.below) × (l.place ≤ l.below)
