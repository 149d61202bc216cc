use Rattle.gl_verilog_elaborator.proofs.Found.{added_is}
use Rattle.gl_verilog_elaborator.proofs.scope.add.Goals as goal

pub returns-clause-done : goal.returns-clause-done
returns-clause-done c = added_is c.args.scope.now.names.entries c.insert.new.self.entries c.args.name.bytes c.args.declared c.requires c.in_ok-insert.ensures.entries
