use Rattle.std.proofs.Common.{◌≡◌, map, take}
use Rattle.gl_values.specs.Kinds.{width_of}
use Rattle.gl_tuples.proofs.beats.widths_of.Given as goal

abbrev pub invariant-loop-column : goal.invariant-loop-column
invariant-loop-column l = l.widths ≡ map (λ c. width_of c.kind) (take l.column-index l.columns)
