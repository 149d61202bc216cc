use Rattle.gl_sim.proofs.Exists as law
use Rattle.gl_sim.proofs.laws.a_run_is_there.Goals as goal

pub returns : goal.returns
returns c = law.a_run_is_there c.has_runs.ensures
