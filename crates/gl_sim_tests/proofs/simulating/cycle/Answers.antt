use Rattle.std.proofs.Common.{refl}
use Rattle.gl_verilog.specs.View.{module_of}
use Rattle.gl_sim.proofs.Fitting.{fit_inputs}
use Rattle.gl_sim_tests.proofs.simulating.cycle.Goals as goal

pub step-requires : goal.step-requires
step-requires c = fit_inputs (module_of c.args.sim.now.design) c.args.widths.now c.args.inputs.now c.requires.widths (c.if-not-fits.ensures refl)
