use Rattle.gl_algebra.proofs.ReadLemmas.{body_reads}
use Rattle.gl_algebra.proofs.laws.bodies_read_their_input.Goals as goal

pub returns : goal.returns
returns c = body_reads
