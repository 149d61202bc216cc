use Rattle.std.proofs.Common.{◌≡◌, ◌≤◌, ◌+◌, ℕ, drop}
use Rattle.std.specs.Prelude.{map, option_map}
use Rattle.gl_verilog.specs.View.{statement_of}
use Rattle.gl_verilog_check.specs.Tests.{blocks_once, at_most_two}
use Rattle.gl_verilog_check.proofs.valid.blocks_of.Given as goal

abbrev pub invariant-loop-block : goal.invariant-loop-block
invariant-loop-block l = record {
  same : option_map (λ (n : ℕ). at_most_two (l.count + n)) (blocks_once l.register (map statement_of (drop l.block-index l.blocks))) ≡ option_map at_most_two (blocks_once l.register (map statement_of l.blocks));
  few : l.count ≤ 2;
}
