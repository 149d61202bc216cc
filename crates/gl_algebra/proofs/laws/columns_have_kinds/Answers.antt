use Rattle.gl_algebra.proofs.KindLemmas.{columns_have_kinds}
use Rattle.gl_algebra.proofs.laws.columns_have_kinds.Goals as goal

pub returns : goal.returns
returns c = columns_have_kinds
