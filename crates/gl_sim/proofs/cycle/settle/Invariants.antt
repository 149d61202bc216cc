use Rattle.std.proofs.Common.{◌≡◌, drop}
use Rattle.gl_verilog.specs.View.{module_of}
use Rattle.gl_verilog.specs.Evaluate.{IsStore, nets_of, memories_of}
use Rattle.gl_verilog.specs.Order.{evaluated}
use Rattle.gl_verilog_check.specs.Orders.{picked}
use Rattle.gl_sim.proofs.cycle.settle.Given as goal

abbrev pub invariant-loop-k : goal.invariant-loop-k
invariant-loop-k l = record {
  store : IsStore (module_of l.design).declarations l.values.items l.banks;
  settled : evaluated (picked (module_of l.design).assignments (drop l.k-index l.order)) (memories_of l.banks) (nets_of l.values.items) ≡ evaluated (picked (module_of l.design).assignments l.order) (memories_of l.banks) (nets_of l.initial.values.items);
}
