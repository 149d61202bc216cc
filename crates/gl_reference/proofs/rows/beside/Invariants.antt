use Rattle.std.proofs.Common.{◌≡◌, take}
use Rattle.gl_values.specs.Results.{beside}
use Rattle.gl_reference.proofs.rows.beside.Given as goal

abbrev pub invariant-loop-i : goal.invariant-loop-i
invariant-loop-i l = l.out ≡ beside (take l.i l.left) (take l.i l.right)
