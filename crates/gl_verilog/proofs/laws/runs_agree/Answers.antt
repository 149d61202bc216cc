use Rattle.gl_verilog.proofs.Runs as law
use Rattle.gl_verilog.proofs.laws.runs_agree.Goals as goal

pub returns : goal.returns
returns c = law.runs_agree
