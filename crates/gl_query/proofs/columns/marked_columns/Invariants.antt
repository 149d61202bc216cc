use Rattle.std.proofs.Common.{◌≡◌, take, map}
use Rattle.gl_query.specs.Columns.{marked}
use Rattle.gl_query.proofs.columns.marked_columns.Given as goal

abbrev pub invariant-loop-parameter : goal.invariant-loop-parameter
invariant-loop-parameter l = l.out ≡ map marked (take l.parameter-index l.parameters)
