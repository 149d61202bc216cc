use Rattle.std.proofs.Common.{◌≡◌, ◌++◌, length, map}
use Rattle.gl_values.specs.Lists.{slices}
use Rattle.gl_values.proofs.lists.slices_of.Given as goal

abbrev pub invariant-loop-rest : goal.invariant-loop-rest
invariant-loop-rest g l = map (λ s. s.now) l.out.items ++ slices l.size l.advance l.rest ≡ slices l.size l.advance l.values

abbrev pub decreases-loop-rest : goal.decreases-loop-rest
decreases-loop-rest g l = length l.rest
