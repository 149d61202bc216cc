use Rattle.gl_verilog.proofs.Runs as law
use Rattle.gl_verilog.proofs.laws.keeps_start.Goals as goal

pub returns : goal.returns
returns c = law.keeps_start
