use Rattle.std.proofs.Common.{◌≡◌, map, take}
use Rattle.gl_arrival.specs.Places.{at_places}
use Rattle.gl_reference.specs.Sources.{placed_of, places_on}
use Rattle.gl_reference.proofs.placed.placed_rows.Given as goal

-- the rows so far, at their places
abbrev pub invariant-loop-index : goal.invariant-loop-index
invariant-loop-index l = map placed_of l.out ≡ at_places (take l.index l.rows) (places_on l.clock l.rows)
