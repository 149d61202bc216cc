use Rattle.gl_query_reader.proofs.Regular.{regular}
use Rattle.gl_query_reader.proofs.laws.statements_are_regular.Goals as goal

pub returns : goal.returns
returns c = regular
