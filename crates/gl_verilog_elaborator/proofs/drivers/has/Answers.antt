use Rattle.std.proofs.Common.{◌∙◌}
use Rattle.gl_verilog_elaborator.proofs.Found.{any_in}
use Rattle.gl_verilog_elaborator.proofs.drivers.has.Goals as goal

pub returns : goal.returns
returns c = c.contains.ensures ∙ any_in c.args.name.now c.args.names.now.keys
