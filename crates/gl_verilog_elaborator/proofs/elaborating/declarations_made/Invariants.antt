use Rattle.std.proofs.Common.{◌≡◌, take, map}
use Rattle.gl_verilog.specs.View.{declaration_of}
use Rattle.gl_verilog_elaborator.specs.View.{declarations_of}
use Rattle.gl_verilog_elaborator.proofs.elaborating.declarations_made.Given as goal

abbrev pub invariant-loop-i : goal.invariant-loop-i
invariant-loop-i l = map declaration_of l.all.items ≡ take l.i (declarations_of l.scope)
