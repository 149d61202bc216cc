use Rattle.std.proofs.Common.{◌≡◌, take}
use Rattle.gl_schema.specs.Schemas.{column_names}
use Rattle.gl_query.proofs.columns.names_of.Given as goal

abbrev pub invariant-loop-column : goal.invariant-loop-column
invariant-loop-column l = l.out ≡ column_names (take l.column-index l.columns)
