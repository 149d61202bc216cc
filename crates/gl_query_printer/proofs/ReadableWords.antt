-- The words of frames, and of a union by arrival, are read from their text.
use Rattle.std.proofs.Common.{◌≡◌, ℕ, true, refl}
use Rattle.std.specs.Prelude.{codes}
use Rattle.gl_schema.specs.Names.{is_name, has_name_bytes, begins_with_letter, has_loose_underscore, is_taken, keywords, reserved}
use Rattle.gl_query_tokens.specs.declared.token.Word.TheVariants as word
use Rattle.gl_query_tokens.specs.declared.token.Token.TheVariants as token
use Rattle.gl_query_tokens.specs.Tokens.{class_of}
use Rattle.gl_query_tokens.specs.Words.{is_keyword, word_text, word_token}
use Rattle.gl_query_tokens.proofs.Sound.{IsNameWord, is_word}
use Rattle.gl_query_printer.specs.Spaced.{token_text, capitals, place_behind}
use Rattle.gl_query_printer.proofs.Lexed.{Readable, no_number, read_word}

-- words of frames in capitals
pub over_readable : Readable (token.Word word.Over 0)
unfolding token_text capitals place_behind class_of word_token is_keyword is_name has_name_bytes begins_with_letter has_loose_underscore is_taken keywords reserved
over_readable = no_number refl (λ p at bs e. read_word (codes "OVER") (token.Word word.Over 0) refl (λ a. refl) at bs e)

pub filter_word_readable : Readable (token.Word word.Filter 0)
unfolding token_text capitals place_behind class_of word_token is_keyword is_name has_name_bytes begins_with_letter has_loose_underscore is_taken keywords reserved
filter_word_readable = no_number refl (λ p at bs e. read_word (codes "FILTER") (token.Word word.Filter 0) refl (λ a. refl) at bs e)

pub partition_word_readable : Readable (token.Word word.Partition 0)
unfolding token_text capitals place_behind class_of word_token is_keyword is_name has_name_bytes begins_with_letter has_loose_underscore is_taken keywords reserved
partition_word_readable = no_number refl (λ p at bs e. read_word (codes "PARTITION") (token.Word word.Partition 0) refl (λ a. refl) at bs e)

pub rows_word_readable : Readable (token.Word word.Rows 0)
unfolding token_text capitals place_behind class_of word_token is_keyword is_name has_name_bytes begins_with_letter has_loose_underscore is_taken keywords reserved
rows_word_readable = no_number refl (λ p at bs e. read_word (codes "ROWS") (token.Word word.Rows 0) refl (λ a. refl) at bs e)

pub preceding_readable : Readable (token.Word word.Preceding 0)
unfolding token_text capitals place_behind class_of word_token is_keyword is_name has_name_bytes begins_with_letter has_loose_underscore is_taken keywords reserved
preceding_readable = no_number refl (λ p at bs e. read_word (codes "PRECEDING") (token.Word word.Preceding 0) refl (λ a. refl) at bs e)

pub unbounded_readable : Readable (token.Word word.Unbounded 0)
unfolding token_text capitals place_behind class_of word_token is_keyword is_name has_name_bytes begins_with_letter has_loose_underscore is_taken keywords reserved
unbounded_readable = no_number refl (λ p at bs e. read_word (codes "UNBOUNDED") (token.Word word.Unbounded 0) refl (λ a. refl) at bs e)

-- ASOF in capitals
pub as_of_readable : Readable (token.Word word.AsOf 0)
unfolding token_text capitals place_behind class_of word_token is_keyword is_name has_name_bytes begins_with_letter has_loose_underscore is_taken keywords reserved
as_of_readable = no_number refl (λ p at bs e. read_word (codes "ASOF") (token.Word word.AsOf 0) refl (λ a. refl) at bs e)

-- the word of a union by arrival in capitals
pub arrival_readable : Readable (token.Word word.Arrival 0)
unfolding token_text capitals place_behind class_of word_token is_keyword is_name has_name_bytes begins_with_letter has_loose_underscore is_taken keywords reserved
arrival_readable = no_number refl (λ p at bs e. read_word (codes "ARRIVAL") (token.Word word.Arrival 0) refl (λ a. refl) at bs e)

-- LAG and LAST_VALUE are names in small letters
lag_is_word : is_word (word_text word.Lag) ≡ true
unfolding class_of word_text
lag_is_word = refl

lag_is_name : is_name (word_text word.Lag) ≡ true
unfolding word_text is_name has_name_bytes begins_with_letter has_loose_underscore is_taken keywords reserved
lag_is_name = refl

lag_is_token : (at : ℕ) → word_token (word_text word.Lag) at ≡ token.Name (record { text = word_text word.Lag; at = at })
unfolding word_text word_token is_keyword is_name has_name_bytes begins_with_letter has_loose_underscore is_taken keywords reserved
lag_is_token at = refl

pub lag_word : IsNameWord (word_text word.Lag)
lag_word = record { word = lag_is_word; name = lag_is_name; token = lag_is_token }

last_value_is_word : is_word (word_text word.LastValue) ≡ true
unfolding class_of word_text
last_value_is_word = refl

last_value_is_name : is_name (word_text word.LastValue) ≡ true
unfolding word_text is_name has_name_bytes begins_with_letter has_loose_underscore is_taken keywords reserved
last_value_is_name = refl

last_value_is_token : (at : ℕ) → word_token (word_text word.LastValue) at ≡ token.Name (record { text = word_text word.LastValue; at = at })
unfolding word_text word_token is_keyword is_name has_name_bytes begins_with_letter has_loose_underscore is_taken keywords reserved
last_value_is_token at = refl

pub last_value_word : IsNameWord (word_text word.LastValue)
last_value_word = record { word = last_value_is_word; name = last_value_is_name; token = last_value_is_token }
