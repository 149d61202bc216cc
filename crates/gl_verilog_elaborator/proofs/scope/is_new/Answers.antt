use Rattle.std.proofs.Common.{◌∙◌, ap}
use Rattle.std.specs.Prelude.{not}
use Rattle.gl_verilog_elaborator.proofs.Found.{seen_is}
use Rattle.gl_verilog_elaborator.proofs.scope.is_new.Goals as goal

pub returns : goal.returns
returns c = ap not (c.contains_key.ensures ∙ seen_is c.args.scope.now.names.entries c.args.name.bytes.now)
