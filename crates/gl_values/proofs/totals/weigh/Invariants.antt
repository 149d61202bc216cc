use Rattle.std.proofs.Common.{◌≡◌, ◌+◌, ◌%◌, ◌^◌}
use Rattle.gl_values.specs.Totals.{weighted}
use Rattle.gl_values.proofs.totals.weigh.Given as goal

abbrev pub invariant-loop-weight : goal.invariant-loop-weight
invariant-loop-weight l = (l.total + weighted l.weight-iterator.a.rest.now l.weight-iterator.b.rest.now) % 2 ^ 128 ≡ weighted l.weights l.values % 2 ^ 128
