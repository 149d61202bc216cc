use Rattle.std.proofs.Common.{sym, ◌∙◌}
use Rattle.gl_query_tokens.specs.Words.{number_of}
use Rattle.gl_query_tokens.proofs.Numbers.{number_stuck}
use Rattle.gl_query_tokens.proofs.words.number_of.Goals as goal

pub returns-in_err-value : goal.returns-in_err-value
unfolding number_of
returns-in_err-value c = c.from_residual.ensures ∙ number_stuck _ _ c.loop-b-test.true (rw c.loop-b.invariant (sym c.with_digit.ensures ∙ c.in_err-value.was))
