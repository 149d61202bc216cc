use Rattle.gl_verilog.proofs.EventRuns.{has_event_runs, has_event_runs_of}
use Rattle.gl_verilog.proofs.orders.has_event_runs.Goals as goal

pub returns : goal.returns
returns c = record { any = λ m h. has_event_runs_of m h; same = λ m h. has_event_runs m h }
