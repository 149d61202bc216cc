use Rattle.gl_verilog.proofs.Runs as law
use Rattle.gl_verilog.proofs.laws.runs_are_causal.Goals as goal

pub returns : goal.returns
returns c = law.runs_are_causal
