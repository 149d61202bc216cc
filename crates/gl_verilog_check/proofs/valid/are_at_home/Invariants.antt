use Rattle.std.proofs.Common.{◌≡◌, drop}
use Rattle.std.specs.Prelude.{map}
use Rattle.gl_verilog.specs.View.{declaration_of, statement_of}
use Rattle.gl_verilog_check.specs.Homes.{all_at_home}
use Rattle.gl_verilog_check.proofs.valid.are_at_home.Given as goal

abbrev pub invariant-loop-n : goal.invariant-loop-n
invariant-loop-n l = all_at_home l.homes (map statement_of l.blocks) l.n (map declaration_of (drop l.n l.declarations)) ≡ all_at_home l.homes (map statement_of l.blocks) 0 (map declaration_of l.declarations)
