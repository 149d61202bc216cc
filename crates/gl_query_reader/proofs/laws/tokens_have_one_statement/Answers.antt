use Rattle.gl_query_reader.proofs.ReadQueries.{one_statement}
use Rattle.gl_query_reader.proofs.laws.tokens_have_one_statement.Goals as goal

pub returns : goal.returns
returns c = one_statement
