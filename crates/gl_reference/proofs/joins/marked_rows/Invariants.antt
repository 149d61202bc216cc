use Rattle.std.proofs.Common.{◌≡◌, map, take}
use Rattle.gl_reference.specs.Sides.{marked}
use Rattle.gl_reference.proofs.joins.marked_rows.Given as goal

abbrev pub invariant-loop-row : goal.invariant-loop-row
invariant-loop-row l = l.out ≡ map (marked l.side l.column) (take l.row-index l.rows)
