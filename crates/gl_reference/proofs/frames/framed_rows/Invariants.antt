use Rattle.std.proofs.Common.{◌≡◌, ◌-◌, length, map, take}
use Rattle.gl_frames.specs.Frames.{framed}
use Rattle.gl_query.specs.Shapes.{frame_item_shape}
use Rattle.gl_query.specs.Results.{reached_row}
use Rattle.gl_reference.specs.Rows.{reach_seen}
use Rattle.gl_reference.proofs.frames.framed_rows.Given as goal

abbrev pub invariant-loop-number : goal.invariant-loop-number
invariant-loop-number l = l.out ≡ framed (reached_row (reach_seen l.seen) (map frame_item_shape l.items)) (take l.number l.rows)

abbrev pub decreases-loop-number : goal.decreases-loop-number
decreases-loop-number l = length l.rows - l.number
