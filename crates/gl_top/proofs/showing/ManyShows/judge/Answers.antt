use Rattle.gl_top.proofs.Wanted.{both, names_queries}
use Rattle.gl_top.proofs.showing.ManyShows.judge.Goals as goal

pub judge_many-requires-clause-named : goal.judge_many-requires-clause-named
judge_many-requires-clause-named g c = names_queries c.args.words.now c.requires.wants

pub returns-clause-passes : goal.returns-clause-passes
returns-clause-passes g c = both _ _ c.judge_many.result c.judge_many.ensures.compiled c.judge_many.ensures.passes
