use Rattle.std.proofs.Common.{◌≢◌, ℕ, ◌<◌, Some, slice_get}
use Rattle.gl_outside.proofs.words.Words.place_of.Given as goal

abbrev pub invariant-loop-at : goal.invariant-loop-at
invariant-loop-at l = (k : ℕ) → k < l.at → slice_get l.self k ≢ Some l.word
