use Rattle.std.proofs.Common.{◌≡◌, ◌-◌, length, drop}
use Rattle.std.specs.Prelude.{map}
use Rattle.gl_verilog.specs.View.{assignment_of}
use Rattle.gl_verilog_check.specs.Kept.{AreMarks}
use Rattle.gl_verilog_check.specs.Passes.{AreOnce}
use Rattle.gl_verilog_check.proofs.order.mark_targets.Given as goal

abbrev pub invariant-loop-done : goal.invariant-loop-done
invariant-loop-done l = record {
  marks : AreMarks (map assignment_of (drop (length l.assignments - l.done) l.assignments)) l.marks.items;
  once : AreOnce (map assignment_of (drop (length l.assignments - l.done) l.assignments));
  size : length l.marks.items ≡ length l.initial.marks.items;
}
