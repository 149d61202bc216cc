use Rattle.std.proofs.Common.{◌≡◌, ◌++◌, take}
use Rattle.gl_reference.proofs.placed.add_placed.Given as goal

-- the rows so far, behind what there was
abbrev pub invariant-loop-row : goal.invariant-loop-row
invariant-loop-row l = l.out ≡ l.initial.out ++ take l.row-index l.rows
