use Rattle.gl_verilog.proofs.Settles as law
use Rattle.gl_verilog.proofs.laws.settles_one_way.Goals as goal

pub returns : goal.returns
returns c = law.settles_one_way
