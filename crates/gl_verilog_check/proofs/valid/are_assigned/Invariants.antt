use Rattle.std.proofs.Common.{◌≡◌, drop}
use Rattle.std.specs.Prelude.{map}
use Rattle.gl_verilog.specs.View.{declaration_of, statement_of}
use Rattle.gl_verilog_check.specs.Tests.{all_assigned}
use Rattle.gl_verilog_check.proofs.valid.are_assigned.Given as goal

abbrev pub invariant-loop-n : goal.invariant-loop-n
invariant-loop-n l = all_assigned (map statement_of l.blocks) l.n (map declaration_of (drop l.n l.declarations)) ≡ all_assigned (map statement_of l.blocks) 0 (map declaration_of l.declarations)
