use Rattle.std.proofs.Common.{◌≡◌, ◌∷◌, take}
use Rattle.gl_query.specs.Results.{first_row, numbered}
use Rattle.gl_reference.specs.Sources.{env_view, given_inputs, source_of}
use Rattle.gl_reference.proofs.results.sources_of.Given as goal

abbrev pub invariant-loop-i : goal.invariant-loop-i
invariant-loop-i l = env_view l.out.items ≡ source_of l.first ∷ numbered 0 (take l.i l.streams) (given_inputs l.rows l.places l.times l.ticks (first_row (source_of l.first).rows))
