use Rattle.gl_top.proofs.Wanted.{text_of_all_given}
use Rattle.gl_top.proofs.showing.ManyShows.text.Goals as goal

pub returns-clause-given : goal.returns-clause-given
returns-clause-given c = text_of_all_given c.args.self.now
