use Rattle.std.proofs.Common.{◌≡◌, ◌++◌, take}
use Rattle.std.specs.Prelude.{flat_map}
use Rattle.gl_reference.specs.Partitions.{table_shorts_of}
use Rattle.gl_reference.proofs.partitions.push_all_shorts.Given as goal

-- those of the groups so far, behind what there was
abbrev pub invariant-loop-group : goal.invariant-loop-group
invariant-loop-group l = l.out ≡ l.initial.out ++ flat_map (table_shorts_of l.size l.advance) (take l.group-index l.groups)
