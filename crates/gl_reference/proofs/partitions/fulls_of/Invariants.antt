use Rattle.std.proofs.Common.{◌≡◌, take}
use Rattle.gl_reference.specs.Partitions.{table_fulls}
use Rattle.gl_reference.proofs.partitions.fulls_of.Given as goal

-- the windows that the rows so far complete
abbrev pub invariant-loop-i : goal.invariant-loop-i
invariant-loop-i l = l.out ≡ table_fulls l.windows.most l.windows.column l.windows.size l.windows.advance (take l.i l.rows)
