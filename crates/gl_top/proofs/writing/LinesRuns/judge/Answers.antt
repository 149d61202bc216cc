use Rattle.std.proofs.Common.{inl}
use Rattle.gl_top.proofs.writing.LinesRuns.judge.Goals as goal

pub judge_run-requires-clause-runs : goal.judge_run-requires-clause-runs
judge_run-requires-clause-runs g c = inl c.requires.wants
