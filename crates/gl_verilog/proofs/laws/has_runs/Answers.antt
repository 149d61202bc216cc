use Rattle.gl_verilog.proofs.Runs as law
use Rattle.gl_verilog.proofs.laws.has_runs.Goals as goal

pub returns : goal.returns
returns c = law.has_runs
