use Rattle.gl_top_inputs.proofs.Placed.{told}
use Rattle.gl_top_inputs.proofs.laws.port_faults_are_told.Goals as goal

pub returns : goal.returns
returns c = told
