use Rattle.gl_algebra.proofs.TableLemmas.{nodes_follow_tables}
use Rattle.gl_algebra.proofs.laws.nodes_follow_tables.Goals as goal

pub returns : goal.returns
returns c = nodes_follow_tables
