use Rattle.std.proofs.Common.{◌≡◌, ◌++◌, take}
use Rattle.gl_algebra.proofs.columns.columns_of_both.Given as goal

abbrev pub invariant-loop-kind : goal.invariant-loop-kind
invariant-loop-kind l = l.all.items ≡ l.left ++ take l.kind-index l.right
