use Rattle.std.proofs.Common.{◌≡◌, take, map}
use Rattle.gl_reference.proofs.windows.slices_in.Given as goal

abbrev pub invariant-loop-table : goal.invariant-loop-table
invariant-loop-table l = map (λ s. s.now) l.out.items ≡ take l.table-index l.tables
