-- The worked rows, by computing them.
use Rattle.std.proofs.Common.{refl}
use Rattle.gl_values.specs.Tables.{with_key}
use Rattle.gl_frames_tree.specs.Worked.{WorkedTree}

pub worked : WorkedTree
unfolding with_key
worked = record {
  together = refl;
  apart = refl;
  half = refl;
  lost = refl;
  still = refl;
  node = refl;
  slot = refl;
  full = refl;
  last = refl;
  ended = refl;
}
