use Rattle.gl_reference.proofs.Accepting.{refused}
use Rattle.gl_reference.proofs.worked.refuses_what_does_not_fit.Goals as goal

pub returns : goal.returns
returns c = refused
