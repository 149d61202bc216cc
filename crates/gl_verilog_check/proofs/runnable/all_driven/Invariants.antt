use Rattle.std.proofs.Common.{◌≡◌, drop}
use Rattle.std.specs.Prelude.{map}
use Rattle.gl_verilog.specs.View.{declaration_of}
use Rattle.gl_verilog_check.specs.Kept.{all_driven}
use Rattle.gl_verilog_check.proofs.runnable.all_driven.Given as goal

abbrev pub invariant-loop-n : goal.invariant-loop-n
invariant-loop-n l = all_driven l.marks l.n (map declaration_of (drop l.n l.declarations)) ≡ all_driven l.marks 0 (map declaration_of l.declarations)
