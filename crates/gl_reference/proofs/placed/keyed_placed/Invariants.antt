use Rattle.std.proofs.Common.{◌≡◌, map, slice_index, take}
use Rattle.gl_values.specs.Results.{Row}
use Rattle.gl_arrival.specs.Changes.{framed_by_key_at}
use Rattle.gl_query.specs.Shapes.{frame_item_shape}
use Rattle.gl_query.specs.Results.{reached_row}
use Rattle.gl_reference.specs.Rows.{reach_seen}
use Rattle.gl_reference.specs.Sources.{placed_of}
use Rattle.gl_reference.proofs.placed.keyed_placed.Given as goal

abbrev pub invariant-loop-i : goal.invariant-loop-i
invariant-loop-i l = map placed_of l.out ≡ framed_by_key_at l.keys.most (λ (r : Row). slice_index r l.keys.column) (reached_row (reach_seen l.seen) (map frame_item_shape l.items)) (map placed_of (take l.i l.rows))
