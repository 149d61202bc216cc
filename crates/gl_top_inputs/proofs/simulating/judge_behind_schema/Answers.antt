use Rattle.gl_top_inputs.proofs.Changes.{leaves_later}
use Rattle.gl_top_inputs.proofs.simulating.judge_behind_schema.Goals as goal

pub returns-clause-leaves : goal.returns-clause-leaves
returns-clause-leaves g c = leaves_later _ _ _ _ c.judge_behind_module.result c.judge_module.ensures.stays c.in_ok-fitted.ensures.leaves c.judge_behind_module.ensures.leaves
