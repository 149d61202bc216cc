use Rattle.std.proofs.Common.{◌≡◌, Some, map, take}
use Rattle.std.specs.Prelude.{slice_get}
use Rattle.gl_frames_parted.proofs.picked.picked_wire.Given as goal

abbrev pub invariant-loop-column : goal.invariant-loop-column
invariant-loop-column l = map Some l.columns ≡ map (slice_get l.wire.columns) (take l.column-index l.asked)
