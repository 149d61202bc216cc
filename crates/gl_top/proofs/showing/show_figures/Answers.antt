use Rattle.std.proofs.Common.{List, ℕ, inl, sym, subst}
use Rattle.gl_outside.proofs.Takes.{took_none}
use Rattle.gl_top_status.specs.declared.refusal.Refusal.TheVariants as refusal
use Rattle.gl_top.specs.Verdicts.{IsGiven, Refused}
use Rattle.gl_top.proofs.showing.show_figures.Goals as goal

pub figures-requires : goal.figures-requires
figures-requires g c = (c.requires.passes.0, c.args.words.now, c.requires.passes.1)

pub returns-in-Ok-clause-answer : goal.returns-in-Ok-clause-answer
returns-in-Ok-clause-answer g c = λ ch passes calm.
    let of_text : List ℕ → Type 0 = λ v. IsGiven ch.old.told c.args.words.now c.deref.result.now v in
    let of_bytes : List ℕ → Type 0 = λ v. IsGiven ch.old.told c.args.words.now v (g.C.Shows.verilog c.args.compiled.now) in
    c.show_text.ensures.answer ch (subst of_text (sym c.text.ensures.same) (subst of_bytes (sym c.deref.ensures.value) (c.in-Ok.ensures _ _ passes c.requires.wants))) calm

pub returns-in-Err-clause-answer : goal.returns-in-Err-clause-answer
returns-in-Err-clause-answer g c = λ ch passes calm. Refused (record {
  refusal = refusal.Memory;
  cause = calm;
  untouched = took_none _;
  noted = c.tell.ensures;
  left = inl c.requires.empty;
})
