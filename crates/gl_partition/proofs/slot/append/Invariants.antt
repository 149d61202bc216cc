use Rattle.std.proofs.Common.{◌≡◌, ◌++◌, take}
use Rattle.gl_partition.proofs.slot.append.Given as goal

abbrev pub invariant-loop-line : goal.invariant-loop-line
invariant-loop-line l = l.to ≡ l.initial.to ++ take l.line-index l.lines
