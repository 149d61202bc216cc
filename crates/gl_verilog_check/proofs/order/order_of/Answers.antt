use Rattle.std.proofs.Common.{◌≡◌, ℕ, true, false, sym, subst}
use Rattle.gl_verilog_check.specs.Kept.{AreNets}
use Rattle.gl_verilog_check.specs.Orders.{meant}
use Rattle.gl_verilog_check.proofs.Drives.{can_once_each}
use Rattle.gl_verilog_check.proofs.order.order_of.Goals as goal

pub returns-then-not-mark_targets-clause-none : goal.returns-then-not-mark_targets-clause-none
returns-then-not-mark_targets-clause-none c = λ nets e can.
    let as' = meant c.args.assignments.now in
    absurd (let f : false ≡ true = c.if-not-mark_targets.ensures.complete (subst (λ (n : ℕ). AreNets n as') (sym c.in_ok-marks.ensures.size) nets, can_once_each as' can) in cc)
