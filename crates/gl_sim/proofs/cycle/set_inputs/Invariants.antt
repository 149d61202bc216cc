use Rattle.std.proofs.Common.{◌≡◌, drop}
use Rattle.gl_verilog.specs.View.{module_of}
use Rattle.gl_verilog.specs.Evaluate.{IsStore, nets_of}
use Rattle.gl_sim.specs.Inputs.{with_inputs}
use Rattle.gl_sim.proofs.cycle.set_inputs.Given as goal

abbrev pub invariant-loop-i : goal.invariant-loop-i
invariant-loop-i l = record {
  store : IsStore (module_of l.design).declarations l.values.items l.banks;
  set : with_inputs (drop l.i l.ports) (drop l.i l.inputs) (nets_of l.values.items) ≡ with_inputs l.ports l.inputs (nets_of l.initial.values.items);
}
