use Rattle.gl_top_inputs.proofs.Changes.{leaves_later}
use Rattle.gl_top_inputs.proofs.Texts.{run_names_query}
use Rattle.gl_top_inputs.proofs.judging.judge_rest.Goals as goal

pub judge_query-requires-clause-named : goal.judge_query-requires-clause-named
judge_query-requires-clause-named g c = run_names_query c.args.words.now c.requires.runs

pub returns-clause-leaves : goal.returns-clause-leaves
returns-clause-leaves g c = leaves_later _ _ _ _ c.judge_file.result c.judge_query.ensures.stays c.in_ok-compiled.ensures.leaves c.judge_file.ensures.leaves
