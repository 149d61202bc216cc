use Rattle.gl_query_reader.proofs.LimitingQueries.{limits_are_counted}
use Rattle.gl_query_reader.proofs.laws.limits_are_counted.Goals as goal

pub returns : goal.returns
returns c = limits_are_counted
