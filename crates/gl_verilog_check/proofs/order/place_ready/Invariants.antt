use Rattle.std.proofs.Common.{◌≡◌, drop}
use Rattle.std.specs.Prelude.{map, ◌||◌}
use Rattle.gl_verilog.specs.View.{assignment_of}
use Rattle.gl_verilog_check.specs.Orders.{meant}
use Rattle.gl_verilog_check.specs.Passes.{passed, finds, IsPlacing}
use Rattle.gl_verilog_check.proofs.order.place_ready.Given as goal

abbrev pub invariant-loop-k : goal.invariant-loop-k
invariant-loop-k l = record {
  placing : IsPlacing (meant l.assignments) l.marks.items l.order.items;
  marks : passed l.marks.items (map assignment_of (drop l.k l.assignments)) ≡ passed l.initial.marks.items (map assignment_of l.assignments);
  found : (l.found || finds l.marks.items (map assignment_of (drop l.k l.assignments))) ≡ finds l.initial.marks.items (map assignment_of l.assignments);
}
