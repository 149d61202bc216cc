use Rattle.gl_vcd.proofs.RoundTrip.{reads_back}
use Rattle.gl_vcd.proofs.laws.dumps_read_back.Goals as goal

pub returns : goal.returns
returns c = reads_back
