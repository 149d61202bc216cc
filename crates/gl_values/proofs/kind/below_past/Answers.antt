use Rattle.std.proofs.Common.{sym, ◌∙◌, inl, inr}
use Rattle.std.proofs.lemmas.Bool.{cases_lt, true≢false}
use Rattle.gl_values.proofs.KindLemmas.{wide_enough}
use Rattle.gl_values.proofs.kind.below_past.Goals as goal

pub overflow_shl-result : goal.overflow_shl-result
overflow_shl-result c = elim (cases_lt c.args.bits 128) [
  | inl lt ↦ lt
  | inr ge ↦ absurd (true≢false (sym (wide_enough c.args.past c.args.bits c.ranges.past.fits ge) ∙ sym c.fits.ensures ∙ c.if-fits.false))
]
