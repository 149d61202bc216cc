use Rattle.gl_verilog.proofs.TwiceAssigned.{twice_assigned_races}
use Rattle.gl_verilog.proofs.orders.two_blocks_race.Goals as goal

pub returns : goal.returns
returns c = twice_assigned_races
