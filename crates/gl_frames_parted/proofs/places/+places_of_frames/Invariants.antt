use Rattle.std.proofs.Common.{length}
use Rattle.gl_frames_parted.proofs.places.+places_of_frames.Given as goal

abbrev pub decreases-places_of_frames : goal.decreases-places_of_frames
decreases-places_of_frames l = length l.items.now
