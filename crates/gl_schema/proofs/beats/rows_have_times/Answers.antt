use Rattle.gl_schema.proofs.Timed.{have_times}
use Rattle.gl_schema.proofs.beats.rows_have_times.Goals as goal

pub returns : goal.returns
returns c = have_times
