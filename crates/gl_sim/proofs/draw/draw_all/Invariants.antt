use Rattle.gl_verilog.specs.View.{module_of}
use Rattle.gl_sim.specs.Starts.{IsDrawnTo}
use Rattle.gl_sim.proofs.draw.draw_all.Given as goal

abbrev pub invariant-loop-n : goal.invariant-loop-n
invariant-loop-n l = IsDrawnTo (module_of l.design).declarations l.seed l.n l.state l.values.items l.banks.items
