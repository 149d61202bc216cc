use Rattle.std.proofs.Common.{◌≡◌, take}
use Rattle.gl_schema.specs.Schemas.{kinds_of}
use Rattle.gl_runner.proofs.faces.kinds_in.Given as goal

abbrev pub invariant-loop-column : goal.invariant-loop-column
invariant-loop-column l = l.kinds.items ≡ kinds_of (take l.column-index l.columns)
