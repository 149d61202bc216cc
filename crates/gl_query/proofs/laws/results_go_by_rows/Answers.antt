use Rattle.gl_query.proofs.Timeless.{go_by_rows}
use Rattle.gl_query.proofs.laws.results_go_by_rows.Goals as goal

pub returns : goal.returns
returns c = go_by_rows
