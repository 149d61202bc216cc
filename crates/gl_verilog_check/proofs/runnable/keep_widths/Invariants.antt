use Rattle.std.proofs.Common.{◌≡◌, drop}
use Rattle.std.specs.Prelude.{map}
use Rattle.gl_verilog.specs.View.{declaration_of, assignment_of}
use Rattle.gl_verilog_check.specs.Kept.{all_kept}
use Rattle.gl_verilog_check.proofs.runnable.keep_widths.Given as goal

abbrev pub invariant-loop-assignment : goal.invariant-loop-assignment
invariant-loop-assignment l = all_kept (map declaration_of l.declarations) (map assignment_of (drop l.assignment-index l.assignments)) ≡ all_kept (map declaration_of l.declarations) (map assignment_of l.assignments)
