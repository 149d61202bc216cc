use Rattle.gl_top.proofs.Wanted.{both, names_query}
use Rattle.gl_top.proofs.showing.CompiledShows.judge.Goals as goal

pub judge_compile-requires-clause-named : goal.judge_compile-requires-clause-named
judge_compile-requires-clause-named g c = names_query c.args.words.now c.requires.wants

pub returns-clause-passes : goal.returns-clause-passes
returns-clause-passes g c = both _ _ c.judge_compile.result c.judge_compile.ensures.compiled c.judge_compile.ensures.passes
