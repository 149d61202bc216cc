use Rattle.gl_verilog.proofs.Cycle.{cycles_are_two_phase}
use Rattle.gl_verilog.proofs.orders.cycles_are_two_phase.Goals as goal

pub returns : goal.returns
returns c = λ m h. cycles_are_two_phase m h
