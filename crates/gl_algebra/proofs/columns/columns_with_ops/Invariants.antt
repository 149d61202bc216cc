use Rattle.std.proofs.Common.{◌≡◌, ◌++◌, take, map}
use Rattle.gl_algebra.specs.Columns.{kind_of_op}
use Rattle.gl_algebra.proofs.columns.columns_with_ops.Given as goal

abbrev pub invariant-loop-op : goal.invariant-loop-op
invariant-loop-op l = l.all.items ≡ l.kinds ++ map (kind_of_op l.kinds) (take l.op-index l.ops)
