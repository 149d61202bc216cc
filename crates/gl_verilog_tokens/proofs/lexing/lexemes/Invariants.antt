use Rattle.std.proofs.Common.{◌≡◌, take, ◌++◌}
use Rattle.gl_verilog.specs.Tokens.{to, scan, Between}
use Rattle.gl_verilog_tokens.specs.View.{tokens_in}
use Rattle.gl_verilog_tokens.specs.Lexed.{mode_of, IsInside}
use Rattle.gl_verilog_tokens.specs.Placed.{places_in, AreSoFar, opened}
use Rattle.gl_verilog_tokens.proofs.lexing.lexemes.Given as goal

abbrev pub invariant-loop-at : goal.invariant-loop-at
invariant-loop-at l = record {
  inside : IsInside l.text l.at l.standing;
  same : scan Between (take l.at l.text) ≡ to (mode_of l.text l.at l.standing) (tokens_in l.out.items);
  places : AreSoFar l.text l.at (places_in l.out.items ++ opened l.standing);
}
