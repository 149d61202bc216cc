use Rattle.std.proofs.Common.{inl, inr}
use Rattle.gl_top.proofs.writing.DumpRuns.judge.Goals as goal

pub judge_run-requires-clause-runs : goal.judge_run-requires-clause-runs
judge_run-requires-clause-runs g c = inr (inl c.requires.wants)
