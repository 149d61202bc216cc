use Rattle.gl_testbench.proofs.Views.{worked}
use Rattle.gl_testbench.proofs.emission_laws.worked_views.Goals as goal

pub returns : goal.returns
returns c = worked
