use Rattle.gl_verilog_elaborator.proofs.Found.{put_is}
use Rattle.gl_verilog_elaborator.proofs.drivers.put.Goals as goal

pub returns : goal.returns
returns c = put_is c.args.names.now.keys c.insert.new.self.keys c.args.name c.in_ok-insert.ensures.keys
