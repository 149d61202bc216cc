use Rattle.std.proofs.Common.{◌≡◌, slice_index, take}
use Rattle.gl_values.specs.Lists.{keys_of}
use Rattle.gl_values.proofs.lists.first_keys.Given as goal

abbrev pub invariant-loop-row : goal.invariant-loop-row
invariant-loop-row l = l.keys.items ≡ take l.most (keys_of (λ r. slice_index r l.column) (take l.row-index l.rows))
