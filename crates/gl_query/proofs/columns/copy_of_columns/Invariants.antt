use Rattle.std.proofs.Common.{◌≡◌, take}
use Rattle.gl_query.proofs.columns.copy_of_columns.Given as goal

abbrev pub invariant-loop-column : goal.invariant-loop-column
invariant-loop-column l = l.out ≡ take l.column-index l.columns
