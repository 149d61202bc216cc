use Rattle.gl_compiler.proofs.below.laws_below.Goals as goal

pub returns : goal.returns
returns c = record {
  texts_have_one_verdict = c.texts_have_one_verdict.ensures;
  texts_have_one_fault = c.texts_have_one_fault.ensures;
  plans_pass_one_limit = c.plans_pass_one_limit.ensures;
}
