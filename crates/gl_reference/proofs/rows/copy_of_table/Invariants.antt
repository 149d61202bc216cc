use Rattle.std.proofs.Common.{◌≡◌, take}
use Rattle.gl_reference.proofs.rows.copy_of_table.Given as goal

abbrev pub invariant-loop-row : goal.invariant-loop-row
invariant-loop-row l = l.out ≡ take l.row-index l.rows
