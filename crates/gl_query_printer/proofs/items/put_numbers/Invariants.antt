-- what is put and what is left make all
use Rattle.std.proofs.Common.{◌≡◌, ◌++◌, drop}
use Rattle.gl_query_printer.proofs.Loops.{behind_commas, number_tokens}
use Rattle.gl_query_printer.proofs.items.put_numbers.Given as goal

abbrev pub invariant-loop-number : goal.invariant-loop-number
invariant-loop-number l = l.tokens.items ++ behind_commas number_tokens (drop l.number-index l.rest) ≡ l.initial.tokens.items ++ behind_commas number_tokens l.rest
