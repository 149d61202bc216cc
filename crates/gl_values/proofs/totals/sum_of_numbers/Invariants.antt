use Rattle.std.proofs.Common.{◌≡◌, take}
use Rattle.gl_values.specs.Kinds.{word_of}
use Rattle.gl_values.specs.Totals.{sum_of_numbers}
use Rattle.gl_values.proofs.totals.sum_of_numbers.Given as goal

abbrev pub invariant-loop-value : goal.invariant-loop-value
invariant-loop-value l = l.total ≡ word_of 128 (sum_of_numbers l.kind (take l.value-index l.values))
