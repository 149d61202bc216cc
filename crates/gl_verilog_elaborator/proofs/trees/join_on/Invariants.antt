use Rattle.std.proofs.Common.{◌≡◌, ◌+◌, ◌≤◌, map, vec_len}
use Rattle.gl_verilog_elaborator.specs.Judged.{joined_on, widths_of}
use Rattle.gl_verilog_elaborator.specs.View.{typed_of}
use Rattle.gl_verilog_elaborator.proofs.trees.join_on.Given as goal

abbrev pub invariant-loop-part : goal.invariant-loop-part
invariant-loop-part l = record {
  same : joined_on (map typed_of l.rest.items) (typed_of l.all) ≡ joined_on (map typed_of l.initial.rest.items) (typed_of l.initial.all);
  small : widths_of (map typed_of l.rest.items) + l.all.width ≤ 128;
}

abbrev pub decreases-loop-part : goal.decreases-loop-part
decreases-loop-part l = vec_len l.rest
