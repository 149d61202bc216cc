use Rattle.gl_queue.proofs.UnionLemmas.{union_serves}
use Rattle.gl_queue.proofs.laws.union_serves.Goals as goal

pub returns : goal.returns
returns c = union_serves c.fits_is_side.ensures
