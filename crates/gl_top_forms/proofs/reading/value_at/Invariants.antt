use Rattle.std.proofs.Common.{◌≡◌, drop, slice_get}
use Rattle.gl_top_forms.specs.Forms.{values_of, values_in}
use Rattle.gl_top_forms.proofs.reading.value_at.Given as goal

abbrev pub invariant-loop-at : goal.invariant-loop-at
invariant-loop-at l = slice_get (values_of l.words) l.index ≡ slice_get (values_in l.option l.valued (drop l.at l.words)) l.left
