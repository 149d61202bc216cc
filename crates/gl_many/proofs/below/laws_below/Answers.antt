use Rattle.gl_many.proofs.below.laws_below.Goals as goal

pub returns : goal.returns
returns c = record {
  texts_have_one_verdict = c.texts_have_one_verdict.ensures;
  several_pass_one_limit = c.several_pass_one_limit.ensures;
}
