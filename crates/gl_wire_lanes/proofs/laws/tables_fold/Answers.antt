use Rattle.gl_wire_lanes.proofs.FoldLemmas.{tables_fold}
use Rattle.gl_wire_lanes.proofs.laws.tables_fold.Goals as goal

pub returns : goal.returns
returns c = tables_fold
