use Rattle.std.proofs.Common.{◌≡◌, take}
use Rattle.gl_wiring.specs.Many.{ids_of}
use Rattle.gl_wiring.proofs.many.ids_of.Given as goal

abbrev pub invariant-loop-root : goal.invariant-loop-root
invariant-loop-root l = l.ids.items ≡ ids_of (take l.root-index l.roots)
