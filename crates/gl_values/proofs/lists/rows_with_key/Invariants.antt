use Rattle.std.proofs.Common.{◌≡◌, slice_index, take}
use Rattle.gl_values.specs.Lists.{rows_with}
use Rattle.gl_values.proofs.lists.rows_with_key.Given as goal

abbrev pub invariant-loop-row : goal.invariant-loop-row
invariant-loop-row l = l.out ≡ rows_with (λ r. slice_index r l.column) (take l.row-index l.rows) l.key
