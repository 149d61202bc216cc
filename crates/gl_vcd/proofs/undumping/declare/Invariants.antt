use Rattle.std.proofs.Common.{◌≡◌, ◌-◌, ◌≤◌, length}
use Rattle.gl_vcd.specs.Lexing.{tokens_behind}
use Rattle.gl_vcd.specs.Reading.{dump_from, dump_of}
use Rattle.gl_vcd.specs.Standing.{CanDeclare, declaring_of}
use Rattle.gl_vcd.proofs.undumping.declare.Given as goal

abbrev pub invariant-loop-declaring : goal.invariant-loop-declaring
invariant-loop-declaring l = record {
  inside : l.at ≤ length l.text;
  can : CanDeclare l.declaring;
  same : dump_of l.text ≡ dump_from (length l.text) (tokens_behind l.text l.at) (declaring_of l.declaring);
}

abbrev pub decreases-loop-declaring : goal.decreases-loop-declaring
decreases-loop-declaring l = length l.text - l.at
