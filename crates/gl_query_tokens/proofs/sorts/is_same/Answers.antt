use Rattle.std.proofs.Common.{◌≡◌, refl, ◌∙◌}
use denote.Enum.Bare.{sameb}
use Rattle.gl_query_tokens.specs.contracts.token.Word.{the_type}
use Rattle.gl_query_tokens.specs.declared.token.Word.{Word}
use Rattle.gl_query_tokens.specs.declared.token.Word.TheVariants as word
use Rattle.gl_query_tokens.specs.Sorts.{word_eq}
use Rattle.gl_query_tokens.proofs.sorts.is_same.Goals as goal

same : (a b : Word) → sameb the_type a b ≡ word_eq a b
unfolding word_eq
same word.Over word.Over = refl
same word.Filter word.Filter = refl
same word.Partition word.Partition = refl
same word.Rows word.Rows = refl
same word.Preceding word.Preceding = refl
same word.Unbounded word.Unbounded = refl
same word.Between word.Between = refl
same word.Current word.Current = refl
same word.Row word.Row = refl
same word.Lag word.Lag = refl
same word.LastValue word.LastValue = refl
same word.Arrival word.Arrival = refl
same word.AsOf word.AsOf = refl
same a b = refl

pub returns : goal.returns
returns c = c.eq.ensures ∙ same c.args.a c.args.b
