use Rattle.gl_verilog.proofs.Runs as law
use Rattle.gl_verilog.proofs.laws.settles_some_way.Goals as goal

pub returns : goal.returns
returns c = law.settles_some_way
