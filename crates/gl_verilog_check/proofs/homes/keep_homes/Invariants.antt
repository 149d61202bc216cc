use Rattle.std.proofs.Common.{◌≡◌, drop}
use Rattle.std.specs.Prelude.{map}
use Rattle.gl_verilog.specs.View.{statement_of}
use Rattle.gl_verilog_check.specs.Homes.{keep_homes}
use Rattle.gl_verilog_check.proofs.homes.keep_homes.Given as goal

abbrev pub invariant-loop-block : goal.invariant-loop-block
invariant-loop-block l = keep_homes l.homes l.block (map statement_of (drop l.block l.blocks)) ≡ keep_homes l.homes 0 (map statement_of l.blocks)
