use Rattle.gl_query.proofs.FirstFaults.{exact}
use Rattle.gl_query.proofs.laws.first_faults_are_exact.Goals as goal

pub returns : goal.returns
returns c = exact
