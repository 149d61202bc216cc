use Rattle.gl_top_forms.proofs.Named.{many_run_names_queries}
use Rattle.gl_top_inputs.proofs.Changes.{leaves_later}
use Rattle.gl_top_inputs.proofs.several.judge_behind_schema.Goals as goal

pub judge_queries-requires-clause-named : goal.judge_queries-requires-clause-named
judge_queries-requires-clause-named g c = many_run_names_queries c.args.words.now c.requires.runs

pub returns-clause-leaves : goal.returns-clause-leaves
returns-clause-leaves g c = leaves_later _ _ _ _ c.judge_behind_queries.result c.judge_queries.ensures.stays c.in_ok-many.ensures.leaves c.judge_behind_queries.ensures.leaves
