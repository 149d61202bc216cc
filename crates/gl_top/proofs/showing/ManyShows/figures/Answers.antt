use Rattle.gl_top.proofs.Wanted.{figures_of_all_given}
use Rattle.gl_top.proofs.showing.ManyShows.figures.Goals as goal

pub many_figures_text-requires : goal.many_figures_text-requires
many_figures_text-requires c = c.requires.2.0

pub returns : goal.returns
returns c = figures_of_all_given c.args.self.now c.in_ok-bytes.bytes.items c.in_ok-bytes.ensures
