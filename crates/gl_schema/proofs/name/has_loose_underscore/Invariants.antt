use Rattle.std.proofs.Common.{◌≡◌, length}
use Rattle.gl_schema.specs.Names.{has_loose_underscore}
use Rattle.gl_schema.proofs.name.has_loose_underscore.Given as goal

-- what is left has a loose underscore where the whole has one
abbrev pub invariant-loop-rest : goal.invariant-loop-rest
invariant-loop-rest l = has_loose_underscore l.rest ≡ has_loose_underscore l.fn.word

abbrev pub decreases-loop-rest : goal.decreases-loop-rest
decreases-loop-rest l = length l.rest
