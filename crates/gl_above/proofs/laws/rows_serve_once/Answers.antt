use Rattle.gl_above.proofs.AboveLemmas.{rows_serve_once}
use Rattle.gl_above.proofs.laws.rows_serve_once.Goals as goal

pub returns : goal.returns
returns c = rows_serve_once
