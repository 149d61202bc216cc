use Rattle.std.proofs.Common.{◌≡◌, ◌∙◌, ℕ, List, length, sym, subst}
use Rattle.gl_bits.proofs.AllLists.{length_map}
use Rattle.gl_verilog.specs.View.{declaration_of, module_of}
use Rattle.gl_verilog.specs.declared.module.Assignment.{Assignment}
use Rattle.gl_verilog_check.specs.Kept.{AreNets}
use Rattle.gl_verilog_check.specs.Orders.{meant, IsMissing}
use Rattle.gl_verilog_check.proofs.Marks.{are_nets}
use Rattle.gl_sim.proofs.order.order_in.Goals as goal

pub unreachable-requires : goal.unreachable-requires
unreachable-requires c =
    let m = module_of c.args.design.now in
    let count : length m.declarations ≡ c.len.result = length_map declaration_of c.args.design.now.declarations ∙ sym c.len.ensures in
    let missing : IsMissing c.len.result m.assignments c.in_ok-found.found = subst (λ (as' : List Assignment). IsMissing c.len.result (meant as') c.in_ok-found.found) c.as_slice-assignments.ensures c.in_ok-found.ensures.none in
    missing (subst (λ (n : ℕ). AreNets n m.assignments) count (are_nets m.declarations m.assignments c.requires.assignments)) c.in-None.is c.requires.ordered
