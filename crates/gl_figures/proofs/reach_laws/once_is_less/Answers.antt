use Rattle.gl_figures.proofs.ReachLemmas as lemmas
use Rattle.gl_figures.proofs.reach_laws.once_is_less.Goals as goal

pub returns : goal.returns
returns c = lemmas.once_is_less c.nodes_follow_tables.ensures
