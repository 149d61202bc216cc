use Rattle.std.proofs.Common.{◌≡◌}
use Rattle.std.specs.Prelude.{replicate, None}
use Rattle.gl_tuple_reader.proofs.setting.no_sets.Given as goal

-- as many entries as turns
abbrev pub invariant-loop : goal.invariant-loop
invariant-loop l = l.sets ≡ replicate l.counter None
