use Rattle.std.proofs.Common.{sym}
use Rattle.gl_verilog_elaborator.proofs.Found.{known_none, known_some}
use Rattle.gl_verilog_elaborator.proofs.scope.look_up.Goals as goal

pub returns-in-Some : goal.returns-in-Some
returns-in-Some c = sym (known_some c.args.scope.now.names.entries c.args.name.now c.in-Some.number _ (sym c.in-Some.ensures.index) c.in-Some.ensures.entry)

pub returns-in-None : goal.returns-in-None
returns-in-None c = sym (known_none c.args.scope.now.names.entries c.args.name.now (sym c.in-None.ensures.index))
