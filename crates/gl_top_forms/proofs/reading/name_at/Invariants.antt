use Rattle.std.proofs.Common.{◌≡◌, drop, slice_get}
use Rattle.gl_top_forms.specs.Forms.{names_of, names_in}
use Rattle.gl_top_forms.proofs.reading.name_at.Given as goal

abbrev pub invariant-loop-at : goal.invariant-loop-at
invariant-loop-at l = slice_get (names_of l.words) l.index ≡ slice_get (names_in l.option l.valued (drop l.at l.words)) l.left
