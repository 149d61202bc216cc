use Rattle.gl_top.proofs.Wanted.{figures_given}
use Rattle.gl_top.proofs.showing.CompiledShows.figures.Goals as goal

pub returns : goal.returns
returns c = figures_given c.args.self.now c.in_ok-bytes.bytes.items c.in_ok-bytes.ensures
