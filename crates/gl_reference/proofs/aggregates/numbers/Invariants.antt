use Rattle.std.proofs.Common.{◌≡◌, take, map}
use Rattle.gl_reference.proofs.aggregates.numbers.Given as goal

abbrev pub invariant-loop-num : goal.invariant-loop-num
invariant-loop-num l = l.out.items ≡ map (λ n. n.value) (take l.num-index l.nums)
