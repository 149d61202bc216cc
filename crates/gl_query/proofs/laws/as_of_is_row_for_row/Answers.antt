use Rattle.gl_query.proofs.Rising.{row_for_row}
use Rattle.gl_query.proofs.laws.as_of_is_row_for_row.Goals as goal

pub returns : goal.returns
returns c = row_for_row
