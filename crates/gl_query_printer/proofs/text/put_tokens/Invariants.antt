-- what is written and what is left make the whole text
use Rattle.std.proofs.Common.{◌≡◌, ◌++◌, drop}
use Rattle.gl_query_printer.specs.Spaced.{spaced, text_of}
use Rattle.gl_query_printer.proofs.text.put_tokens.Given as goal

abbrev pub invariant-loop-token : goal.invariant-loop-token
invariant-loop-token l = l.text.items ++ spaced l.place (drop l.token-index l.tokens) ≡ l.initial.text.items ++ text_of l.tokens
