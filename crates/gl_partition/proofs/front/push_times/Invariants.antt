use Rattle.std.proofs.Common.{◌≡◌, ◌++◌, replicate}
use Rattle.gl_partition.proofs.front.push_times.Given as goal

abbrev pub invariant-loop : goal.invariant-loop
invariant-loop l = l.to ≡ l.initial.to ++ replicate l.counter l.key
