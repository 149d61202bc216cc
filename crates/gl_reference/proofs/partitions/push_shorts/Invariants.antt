use Rattle.std.proofs.Common.{◌≡◌, ◌++◌, map, take}
use Rattle.std.specs.Prelude.{flat_map}
use Rattle.gl_reference.specs.Partitions.{table_short}
use Rattle.gl_reference.proofs.partitions.push_shorts.Given as goal

-- the slices so far that the end cuts short, behind what there was
abbrev pub invariant-loop-slice : goal.invariant-loop-slice
invariant-loop-slice l = l.out ≡ l.initial.out ++ flat_map (table_short l.size l.group.key) (map (λ s. s.now) (take l.slice-index l.slice-items))
