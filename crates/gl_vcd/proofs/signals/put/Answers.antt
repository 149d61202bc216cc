use Rattle.gl_vcd.proofs.Found.{put_is}
use Rattle.gl_vcd.proofs.signals.put.Goals as goal

pub returns : goal.returns
returns c = put_is c.args.words.now.keys c.insert.new.self.keys c.args.word c.requires c.in_ok-insert.ensures.keys
