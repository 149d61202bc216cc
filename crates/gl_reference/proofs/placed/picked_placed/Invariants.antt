use Rattle.std.proofs.Common.{◌≡◌, map, take}
use Rattle.gl_query.specs.Shapes.{pick_shape}
use Rattle.gl_reference.specs.Arrivals.{picked_one}
use Rattle.gl_reference.specs.Rows.{reach_seen}
use Rattle.gl_reference.proofs.placed.picked_placed.Given as goal

abbrev pub invariant-loop-row : goal.invariant-loop-row
invariant-loop-row l = l.out ≡ map (picked_one (reach_seen l.seen) (pick_shape l.pick)) (take l.row-index l.rows)
