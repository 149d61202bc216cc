use Rattle.gl_verilog_faults.proofs.Exact.{keeps_spelled, spelled_keeps}
use Rattle.gl_verilog_faults.proofs.laws.limits_are_counted.Goals as goal

pub returns : goal.returns
returns c = λ w. (spelled_keeps w, keeps_spelled w)
