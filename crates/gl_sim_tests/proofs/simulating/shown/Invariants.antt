use Rattle.std.proofs.Common.{◌≡◌, map, length}
use Rattle.gl_verilog.specs.View.{module_of}
use Rattle.gl_verilog.specs.Widths.{width_at}
use Rattle.gl_verilog.specs.Runnable.{inputs_of}
use Rattle.gl_sim_tests.proofs.simulating.shown.Given as goal

-- what is known of the module's ports stays so
abbrev pub invariant-loop-inputs : goal.invariant-loop-inputs
invariant-loop-inputs l = (l.count ≡ length (module_of l.sim.design).declarations) × (l.widths.items ≡ map (width_at (module_of l.sim.design).declarations) (inputs_of (module_of l.sim.design)))
