use Rattle.gl_top.specs.Verdicts.{Explained}
use Rattle.gl_top.proofs.asking.tell_why.Goals as goal

pub returns-clause-answer : goal.returns-clause-answer
returns-clause-answer g c = λ ch cause. Explained (record {
  asks = c.requires.asks;
  refusal = c.args.refusal.now;
  cause = cause;
  told = c.explain.ensures;
  left = c.requires.empty;
})
