use Rattle.std.proofs.Common.{inl, ◌∙◌}
use Rattle.gl_outside.proofs.Takes.{took_none}
use Rattle.gl_top.specs.Verdicts.{Refused}
use Rattle.gl_top_status.specs.declared.refusal.Refusal.TheVariants as refusal
use Rattle.gl_top.proofs.chain.keep_and_finish.Goals as goal

pub returns-in-Err-clause-answer : goal.returns-in-Err-clause-answer
returns-in-Err-clause-answer g c = λ ch passes calm. Refused (record {
  refusal = refusal.Memory;
  cause = calm;
  untouched = took_none _;
  noted = c.tell.ensures;
  left = inl (c.in-Err.ensures.items ∙ c.requires.empty);
})
