use Rattle.std.proofs.Common.{◌≡◌, drop}
use Rattle.gl_outside.specs.Held.{told_of}
use Rattle.gl_outside.proofs.held.text_of.Given as goal

abbrev pub invariant-loop-text : goal.invariant-loop-text
invariant-loop-text l = told_of (drop l.text-index l.texts) l.name ≡ told_of l.texts l.name
