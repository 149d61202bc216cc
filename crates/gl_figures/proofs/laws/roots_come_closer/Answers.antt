use Rattle.gl_figures.proofs.RootLemmas.{roots_come_closer}
use Rattle.gl_figures.proofs.laws.roots_come_closer.Goals as goal

pub returns : goal.returns
returns c = roots_come_closer c.nodes_follow_tables.ensures c.figures_are_sound.ensures
