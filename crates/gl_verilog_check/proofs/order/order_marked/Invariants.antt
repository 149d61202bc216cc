use Rattle.std.proofs.Common.{◌≡◌, length}
use Rattle.gl_verilog_check.specs.Orders.{meant}
use Rattle.gl_verilog_check.specs.Passes.{IsPlacing}
use Rattle.gl_verilog_check.proofs.Orders.{count}
use Rattle.gl_verilog_check.proofs.order.order_marked.Given as goal

abbrev pub invariant-passes : goal.invariant-passes
invariant-passes l = record {
  placing : IsPlacing (meant l.assignments) l.marks.items l.order.items;
  size : length l.marks.items ≡ length l.fn.marks.items;
}

abbrev pub decreases-passes : goal.decreases-passes
decreases-passes l = count l.marks.items
