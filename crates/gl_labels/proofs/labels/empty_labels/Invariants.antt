use Rattle.std.proofs.Common.{◌≡◌, length}
use Rattle.gl_labels.proofs.labels.empty_labels.Given as goal

abbrev pub invariant-loop : goal.invariant-loop
invariant-loop l = length l.labels.items ≡ l.counter
