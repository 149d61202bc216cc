use Rattle.gl_plan.proofs.LimitLemmas.{one_limit}
use Rattle.gl_plan.proofs.laws.plans_pass_one_limit.Goals as goal

pub returns : goal.returns
returns c = one_limit
