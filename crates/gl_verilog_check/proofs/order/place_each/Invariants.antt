use Rattle.std.proofs.Common.{◌≡◌, length}
use Rattle.gl_verilog_check.specs.Orders.{meant}
use Rattle.gl_verilog_check.specs.Passes.{IsPlacing}
use Rattle.gl_verilog_check.proofs.order.place_each.Given as goal

abbrev pub invariant-loop-k : goal.invariant-loop-k
invariant-loop-k l = record {
  placing : IsPlacing (meant l.assignments) l.marks.items l.order.items;
  size : length l.marks.items ≡ length l.initial.marks.items;
}
