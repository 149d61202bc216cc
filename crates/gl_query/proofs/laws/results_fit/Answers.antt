use Rattle.gl_query.proofs.Fitting.{fitting}
use Rattle.gl_query.proofs.laws.results_fit.Goals as goal

pub returns : goal.returns
returns c = fitting
