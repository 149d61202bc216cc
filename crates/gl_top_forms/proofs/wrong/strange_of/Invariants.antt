use Rattle.std.proofs.Common.{◌≡◌, drop}
use Rattle.gl_top_forms.specs.Wrong.{strange_in, strange_of}
use Rattle.gl_top_forms.proofs.wrong.strange_of.Given as goal

abbrev pub invariant-loop-at : goal.invariant-loop-at
invariant-loop-at l = strange_of l.words ≡ strange_in l.option l.valued (drop l.at l.words)
