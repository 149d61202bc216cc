use Rattle.gl_verilog.proofs.Acyclic.{runnable}
use Rattle.gl_verilog.proofs.laws.valid_modules_run.Goals as goal

pub returns : goal.returns
returns c = runnable
