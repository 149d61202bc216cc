use Rattle.std.proofs.Common.{◌≡◌, ◌+◌, ◌≤◌, drop, map}
use Rattle.gl_verilog_elaborator.specs.Judged.{widths_of}
use Rattle.gl_verilog_elaborator.specs.View.{typed_of}
use Rattle.gl_verilog_elaborator.proofs.trees.are_narrow.Given as goal

abbrev pub invariant-loop-part : goal.invariant-loop-part
invariant-loop-part l = record {
  same : widths_of (map typed_of (drop l.part-index l.parts)) + l.width ≡ widths_of (map typed_of l.parts) + l.last;
  small : l.width ≤ 383;
}
