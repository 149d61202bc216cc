use Rattle.gl_schema.proofs.Timed.{have_places}
use Rattle.gl_schema.proofs.beats.rows_have_places.Goals as goal

pub returns : goal.returns
returns c = have_places
