use Rattle.gl_plan.proofs.TogetherLemmas.{several-one-limit}
use Rattle.gl_plan.proofs.several_laws.several_pass_one_limit.Goals as goal

pub returns : goal.returns
returns c = several-one-limit
