use Rattle.std.proofs.Common.{◌≡◌, [], map, take}
use Rattle.gl_arrival.specs.Changes.{each_at}
use Rattle.gl_reference.specs.Sides.{join_row}
use Rattle.gl_reference.specs.Sources.{placed_of}
use Rattle.gl_reference.proofs.joins.joined_placed.Given as goal

abbrev pub invariant-loop-i : goal.invariant-loop-i
invariant-loop-i l = map placed_of l.out ≡ each_at (join_row l.partners.zeros.now l.partners.column l.partners.most) [] (map placed_of (take l.i l.rows))
