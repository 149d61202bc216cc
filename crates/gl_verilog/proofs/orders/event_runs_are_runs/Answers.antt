use Rattle.gl_verilog.proofs.EventRuns.{event_runs_are_runs, runs_are_seen}
use Rattle.gl_verilog.proofs.orders.event_runs_are_runs.Goals as goal

pub returns : goal.returns
returns c = record { runs = λ m h. event_runs_are_runs m h; seen = λ m h. runs_are_seen c.valid_modules_run.ensures c.runs_agree.ensures m h }
