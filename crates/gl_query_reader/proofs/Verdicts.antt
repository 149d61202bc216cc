-- Tokens come to what reading answers, and to nothing else.
use Rattle.std.proofs.Common.{◌≡◌, ℕ, List, length, Ok, Err, sym}
use Rattle.gl_query.specs.declared.fault.QueryFault.TheVariants as fault
use Rattle.gl_query_tokens.specs.declared.token.Lexeme.{Lexeme}
use Rattle.gl_query_tokens.specs.Tokens.{tokens_of}
use Rattle.gl_query_reader.specs.Grammar.{HaveVerdict, TextsHaveOneVerdict, Verdict}
use Rattle.gl_query_reader.proofs.Meets.{answer_for, answer_is, only_answer}
use Rattle.gl_query_reader.proofs.Exact.{depth_answer, items_answer, syntax_answer}

pub only_verdict : (tokens : List Lexeme) (end : ℕ) (other : Verdict) → HaveVerdict tokens end other → other ≡ answer_for tokens end
only_verdict tokens end (Ok s) h = sym (only_answer tokens end s h)
only_verdict tokens end (Err (fault.Syntax at)) h = sym (syntax_answer tokens end at h)
only_verdict tokens end (Err (fault.TooDeep at)) h = sym (depth_answer tokens end at h)
only_verdict tokens end (Err (fault.MixedItems at)) h = sym (items_answer tokens end at h)
only_verdict tokens end (Err e) h = absurd h

pub verdicts : TextsHaveOneVerdict
verdicts text = record {
  verdict = answer_for (tokens_of text) (length text);
  is = answer_is (tokens_of text) (length text);
  only = only_verdict (tokens_of text) (length text);
}
