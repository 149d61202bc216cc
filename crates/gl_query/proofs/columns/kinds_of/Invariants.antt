use Rattle.std.proofs.Common.{◌≡◌, take}
use Rattle.gl_schema.specs.Schemas.{kinds_of}
use Rattle.gl_query.proofs.columns.kinds_of.Given as goal

abbrev pub invariant-loop-column : goal.invariant-loop-column
invariant-loop-column l = l.out ≡ kinds_of (take l.column-index l.columns)
