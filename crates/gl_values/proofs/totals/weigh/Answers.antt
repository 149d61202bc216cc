use Rattle.std.proofs.Common.{◌≡◌, ◌∙◌, ◌⊎◌, inl, inr, length}
use Rattle.gl_values.proofs.Totalling.{weighed}
use Rattle.gl_values.proofs.totals.weigh.Goals as goal

pub returns : goal.returns
returns c =
    let left = c.loop-weight.weight-iterator.a.rest.now in
    let rest = c.loop-weight.weight-iterator.b.rest.now in
    let done : (length left ≡ 0) ⊎ (length rest ≡ 0) = elim c.in-None.ensures.steps [ inl t ↦ inl t.1.0 | inr t ↦ inr t.1.0 ] in
    c.wrapped.ensures ∙ weighed c.args.width c.loop-weight.total left rest c.args.weights.now c.args.values.now c.requires.most done c.loop-weight.invariant
