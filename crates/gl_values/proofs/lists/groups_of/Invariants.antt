use Rattle.std.proofs.Common.{◌≡◌, take, map}
use Rattle.gl_values.specs.Tables.{table_group}
use Rattle.gl_values.proofs.lists.groups_of.Given as goal

abbrev pub invariant-loop-key : goal.invariant-loop-key
invariant-loop-key l = l.out ≡ map (table_group l.column l.rows) (take l.key-index l.key-items)
