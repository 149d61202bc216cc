use Rattle.gl_verilog_ports.proofs.Declared as declared
use Rattle.gl_verilog_ports.proofs.laws.inputs_are_ports.Goals as goal

pub returns : goal.returns
returns c = λ text m has. declared.inputs_are_ports text m has
