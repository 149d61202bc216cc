use Rattle.gl_testbench.proofs.Runs.{runs_over, started}
use Rattle.gl_testbench.proofs.laws.has_runs_over.Goals as goal

pub returns : goal.returns
returns c = record {
  any = λ m schema valid is ok. runs_over m schema valid is ok (c.has_event_runs.ensures.same m valid);
  started = λ m schema valid is ok. started m schema (runs_over m schema valid is ok (c.has_event_runs.ensures.same m valid))
      (λ start rows fit. c.a_run_is_there.ensures m start rows (c.valid_modules_run.ensures m valid) fit);
}
