use Rattle.std.proofs.Common.{◌≡◌, drop}
use Rattle.gl_query_tokens.specs.Tokens.{to, then_scan, scan, Between}
use Rattle.gl_query_tokens.specs.Places.{mode_of, IsInside}
use Rattle.gl_query_tokens.proofs.lexing.lexemes.Given as goal

abbrev pub invariant-loop-at : goal.invariant-loop-at
invariant-loop-at l = record {
  inside : IsInside l.at l.standing;
  same : then_scan (to (mode_of l.text l.at l.standing) l.out.items) (scan (mode_of l.text l.at l.standing) l.at (drop l.at l.text)) ≡ scan Between 0 l.text;
}
