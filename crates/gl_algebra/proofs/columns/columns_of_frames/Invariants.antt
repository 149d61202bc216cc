use Rattle.std.proofs.Common.{◌≡◌, take, map}
use Rattle.gl_algebra.specs.Columns.{kind_of_frame}
use Rattle.gl_algebra.proofs.columns.columns_of_frames.Given as goal

abbrev pub invariant-loop-item : goal.invariant-loop-item
invariant-loop-item l = l.all.items ≡ map (kind_of_frame l.kinds) (take l.item-index l.items)
