use Rattle.std.proofs.Common.{◌≡◌, drop}
use Rattle.std.specs.Prelude.{map}
use Rattle.gl_verilog.specs.View.{declaration_of}
use Rattle.gl_verilog_check.specs.Kept.{all_sized}
use Rattle.gl_verilog_check.proofs.runnable.have_sizes.Given as goal

abbrev pub invariant-loop-declaration : goal.invariant-loop-declaration
invariant-loop-declaration l = all_sized (map declaration_of (drop l.declaration-index l.declarations)) ≡ all_sized (map declaration_of l.declarations)
