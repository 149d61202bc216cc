use Rattle.std.proofs.Common.{◌≡◌, drop, map}
use Rattle.std.specs.Prelude.{[]}
use Rattle.gl_verilog.specs.View.{declaration_of}
use Rattle.gl_verilog_check.specs.Tests.{are_new}
use Rattle.gl_verilog_check.proofs.valid.are_distinct.Given as goal

abbrev pub invariant-loop-declaration : goal.invariant-loop-declaration
invariant-loop-declaration l = are_new (map (λ k. k.now) l.names.keys) (map declaration_of (drop l.declaration-index l.declarations)) ≡ are_new [] (map declaration_of l.declarations)
