-- What stands between two queries, and the tokens that spell it.
use Rattle.std.specs.Prelude.{ℕ, List, [], ◌∷◌}
use Rattle.gl_query_tokens.specs.declared.token.Join.{Join}
use Rattle.gl_query_tokens.specs.declared.token.Join.TheVariants as join
use Rattle.gl_query_tokens.specs.declared.token.Spelling.{Spelling}
use Rattle.gl_query_tokens.specs.declared.token.Spelling.TheVariants.{Small, Capital}
use Rattle.gl_query_tokens.specs.declared.token.Token.{Token}
use Rattle.gl_query_tokens.specs.declared.token.Token.TheVariants as token
use Rattle.gl_query_tokens.specs.declared.token.Word.{Word}
use Rattle.gl_query_tokens.specs.declared.token.Word.TheVariants as word
use Rattle.gl_query_tokens.specs.Words.{word_text}
use Rattle.gl_query_reader.specs.declared.joins.Joining.{Joining}
use Rattle.gl_query_reader.specs.declared.joins.Joining.TheVariants as joining

-- the token of a word of frames, or of a union by arrival: a name in small letters, or the word
abbrev pub spell_word : Word → Spelling → Token
spell_word w (Small at) = token.Name (record { text = word_text w; at = at })
spell_word w (Capital at) = token.Word w at

-- the tokens between two queries, the first of them at a place: UNION, UNION BY ARRIVAL or CONCAT
abbrev pub spell_join : Joining → ℕ → List Token
spell_join joining.Union at = token.Join join.Union at ∷ []
spell_join (joining.Arrival by' w) at = token.Join join.Union at ∷ token.By by' ∷ spell_word word.Arrival w ∷ []
spell_join joining.Concat at = token.Join join.Concat at ∷ []

-- what a keyword between two queries stands for, as far as nothing follows it
abbrev pub joining_of : Join → Joining
joining_of join.Union = joining.Union
joining_of join.Concat = joining.Concat
