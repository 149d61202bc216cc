use Rattle.gl_top.proofs.Wanted.{text_given}
use Rattle.gl_top.proofs.showing.CompiledShows.text.Goals as goal

pub returns-clause-given : goal.returns-clause-given
returns-clause-given c = text_given c.args.self.now
