use Rattle.gl_verilog_grammar.proofs.ReadModules.{one_module}
use Rattle.gl_verilog_grammar.proofs.laws.one_module.Goals as goal

pub returns : goal.returns
returns c = one_module
