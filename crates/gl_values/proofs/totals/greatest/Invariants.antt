use Rattle.std.proofs.Common.{◌≡◌, take}
use Rattle.std.specs.Prelude.{fold}
use Rattle.gl_values.specs.Totals.{greater}
use Rattle.gl_values.proofs.totals.greatest.Given as goal

abbrev pub invariant-loop-value : goal.invariant-loop-value
invariant-loop-value l = l.best ≡ fold (greater l.kind) l.initial.best (take l.value-index l.others)
