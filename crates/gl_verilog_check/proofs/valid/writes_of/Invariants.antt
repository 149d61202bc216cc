use Rattle.std.proofs.Common.{◌≡◌, ◌≤◌, ◌+◌, drop}
use Rattle.std.specs.Prelude.{map}
use Rattle.gl_verilog.specs.View.{statement_of}
use Rattle.gl_verilog.specs.Valid.{writes_of}
use Rattle.gl_verilog_check.specs.Tests.{at_most_two}
use Rattle.gl_verilog_check.proofs.valid.writes_of.Given as goal

abbrev pub invariant-loop-block : goal.invariant-loop-block
invariant-loop-block l = record {
  same : at_most_two (l.count + writes_of (map statement_of (drop l.block-index l.blocks)) l.memory) ≡ at_most_two (writes_of (map statement_of l.blocks) l.memory);
  few : l.count ≤ 2;
}
