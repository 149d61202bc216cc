use Rattle.gl_query.proofs.Existing.{existing}
use Rattle.gl_query.proofs.laws.accepted_have_results.Goals as goal

pub returns : goal.returns
returns c = existing
