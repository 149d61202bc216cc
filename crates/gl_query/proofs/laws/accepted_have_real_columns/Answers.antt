use Rattle.gl_query.proofs.Real.{real_columns}
use Rattle.gl_query.proofs.laws.accepted_have_real_columns.Goals as goal

pub returns : goal.returns
returns c = real_columns
