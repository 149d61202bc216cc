use Rattle.gl_testbench.proofs.Unbound.{binds_nothing}
use Rattle.gl_testbench.proofs.emission_laws.outputs_bind_nothing.Goals as goal

pub returns : goal.returns
returns c = binds_nothing
