use Rattle.std.proofs.Common.{◌≡◌, take, Some}
use Rattle.std.specs.List.{fold}
use Rattle.gl_query_tokens.specs.Words.{with_digit}
use Rattle.gl_query_tokens.proofs.words.number_of.Given as goal

abbrev pub invariant-loop-b : goal.invariant-loop-b
invariant-loop-b l = fold with_digit (Some 0) (take l.b-index l.word) ≡ Some l.value
