use Rattle.gl_top_inputs.proofs.below.laws_below.Goals as goal

pub returns : goal.returns
returns c = record {
  one = c.laws_below.ensures;
  several = c.laws_below-2.ensures;
  one_verdict = c.one_verdict.ensures.only;
}
