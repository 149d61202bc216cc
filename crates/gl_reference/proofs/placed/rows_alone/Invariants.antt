use Rattle.std.proofs.Common.{◌≡◌, take}
use Rattle.gl_reference.specs.Arrivals.{rows_in}
use Rattle.gl_reference.proofs.placed.rows_alone.Given as goal

abbrev pub invariant-loop-row : goal.invariant-loop-row
invariant-loop-row l = l.out ≡ rows_in (take l.row-index l.rows)
