-- Worked rows: texts, their pieces, and what they come to.
use Rattle.std.proofs.Common.{◌≡◌, ℕ, List, [], ◌∷◌, ◌++◌, length, map, Result, Ok, Err, refl, subst}
use Rattle.std.specs.Prelude.{codes}
use Rattle.gl_values.specs.declared.kind.Kind.TheVariants.{Text}
use Rattle.gl_schema.specs.declared.schema.Schema.{Schema}
use Rattle.gl_schema.specs.Names.{is_name, begins_with_letter, has_name_bytes, has_loose_underscore, is_taken, keywords, reserved}
use Rattle.gl_schema.specs.Schemas.{has_column, has_stream}
use Rattle.gl_query.specs.declared.fault.QueryFault.{QueryFault}
use Rattle.gl_query.specs.declared.fault.QueryFault.TheVariants.{Syntax, TwiceNamed, OutOfRange}
use Rattle.gl_query_tokens.specs.Sorts.{plain_eq}
use Rattle.gl_query_tokens.specs.Tokens.{tokens_of, class_of, sign_token, follow_of, text_token}
use Rattle.gl_query_tokens.specs.Words.{is_keyword, word_token}
use Rattle.gl_query_tokens.specs.Words as words
use Rattle.gl_query_reader.specs.Machine.{reduced, step, finish}
use Rattle.gl_query_reader.specs.Reading.{run}
use Rattle.gl_query_texts.specs.Pieces.{Piece, pieces_behind, pieces_of}
use Rattle.gl_query_texts.specs.Lists.{IsListFault, names_of}
use Rattle.gl_query_texts.specs.ListLaws.{IsVerdict, Verdict}
use Rattle.gl_query_texts.proofs.Verdicts.{all_answer, text_answer, text_is}

-- ---- how many tokens each piece has, and where it ends

abbrev shown : List Piece → List (ℕ × ℕ)
shown ps = map (λ (p : Piece). (length p.tokens, p.end)) ps

abbrev cut : List ℕ → List (ℕ × ℕ)
cut text = shown (pieces_of text)

empty_text : cut [] ≡ (0, 0) ∷ []
unfolding tokens_of pieces_behind
empty_text = refl

one_semicolon : cut (codes ";") ≡ (0, 0) ∷ []
unfolding tokens_of class_of sign_token pieces_behind
one_semicolon = refl

last_semicolon : cut (codes "+; +;") ≡ (1, 1) ∷ (1, 4) ∷ []
unfolding tokens_of class_of sign_token pieces_behind
last_semicolon = refl

two_semicolons : cut (codes "+;; +") ≡ (1, 1) ∷ (0, 2) ∷ (1, 5) ∷ []
unfolding tokens_of class_of sign_token pieces_behind
two_semicolons = refl

semicolon_in_text : cut (codes "';' ; +") ≡ (1, 4) ∷ (1, 7) ∷ []
unfolding tokens_of class_of sign_token text_token pieces_behind
semicolon_in_text = refl

semicolon_in_comment : cut (codes "+ --;" ++ 10 ∷ codes "; + --;") ≡ (1, 6) ∷ (1, 13) ∷ []
unfolding tokens_of class_of sign_token follow_of pieces_behind
semicolon_in_comment = refl

comment_behind : cut (codes "+; --;") ≡ (1, 1) ∷ []
unfolding tokens_of class_of sign_token follow_of pieces_behind
comment_behind = refl

-- ---- what a text comes to: the names of its statements, or its first fault

abbrev rows_schema : Schema
rows_schema = record { streams = record { name = codes "trades"; columns = record { name = codes "price"; kind = Text 8 } ∷ [] } ∷ []; parameters = [] }

abbrev Told : Type 0
Told = Result (List (List ℕ)) QueryFault

abbrev told : Verdict → Told
told (Ok ss) = Ok (names_of ss)
told (Err f) = Err f

abbrev come_to : List ℕ → Told
come_to text = told (text_answer rows_schema text)

one_statement : come_to (codes "SELECT price FROM trades INTO a") ≡ Ok (codes "a" ∷ [])
unfolding tokens_of class_of sign_token word_token is_keyword words.number_of is_name begins_with_letter has_name_bytes has_loose_underscore is_taken keywords reserved pieces_behind all_answer run step finish reduced plain_eq has_column has_stream
one_statement = refl

abbrev twice : List ℕ
twice = codes "SELECT price FROM trades INTO a; SELECT price FROM trades INTO a"

two_of_one_name : come_to twice ≡ Err (TwiceNamed 63)
unfolding tokens_of class_of sign_token word_token is_keyword words.number_of is_name begins_with_letter has_name_bytes has_loose_underscore is_taken keywords reserved pieces_behind all_answer run step finish reduced plain_eq has_column has_stream
two_of_one_name = refl

third_of_four : come_to (codes "SELECT * FROM trades INTO a; SELECT * FROM trades INTO b; SELECT FROM trades INTO c; SELECT x FROM trades INTO d") ≡ Err (Syntax 65)
unfolding tokens_of class_of sign_token word_token is_keyword words.number_of is_name begins_with_letter has_name_bytes has_loose_underscore is_taken keywords reserved pieces_behind all_answer run step finish reduced plain_eq has_column has_stream
third_of_four = refl

empty_piece : come_to (codes "SELECT * FROM trades INTO a;; SELECT * FROM trades INTO b") ≡ Err (Syntax 28)
unfolding tokens_of class_of sign_token word_token is_keyword words.number_of is_name begins_with_letter has_name_bytes has_loose_underscore is_taken keywords reserved pieces_behind all_answer run step finish reduced plain_eq has_column has_stream
empty_piece = refl

last_one_ends : come_to (codes "SELECT * FROM trades INTO a; SELECT price FROM trades INTO b;") ≡ Ok (codes "a" ∷ codes "b" ∷ [])
unfolding tokens_of class_of sign_token word_token is_keyword words.number_of is_name begins_with_letter has_name_bytes has_loose_underscore is_taken keywords reserved pieces_behind all_answer run step finish reduced plain_eq has_column has_stream
last_one_ends = refl

nine_statements : come_to (codes "SELECT * FROM trades INTO a; SELECT * FROM trades INTO b; SELECT * FROM trades INTO c; SELECT * FROM trades INTO d; SELECT * FROM trades INTO e; SELECT * FROM trades INTO f; SELECT * FROM trades INTO g; SELECT * FROM trades INTO h; SELECT * FROM trades INTO i") ≡ Err (OutOfRange 258)
unfolding tokens_of class_of sign_token word_token is_keyword words.number_of is_name begins_with_letter has_name_bytes has_loose_underscore is_taken keywords reserved pieces_behind all_answer run step finish reduced plain_eq has_column has_stream
nine_statements = refl

in_a_literal : come_to (codes "SELECT * FROM trades WHERE price = 'a;b' INTO a; SELECT * FROM trades INTO b") ≡ Ok (codes "a" ∷ codes "b" ∷ [])
unfolding tokens_of class_of sign_token follow_of text_token word_token is_keyword words.number_of is_name begins_with_letter has_name_bytes has_loose_underscore is_taken keywords reserved pieces_behind all_answer run step finish reduced plain_eq has_column has_stream
in_a_literal = refl

in_a_comment : come_to (codes "SELECT * FROM trades --;" ++ 10 ∷ codes " INTO a -- ;") ≡ Ok (codes "a" ∷ [])
unfolding tokens_of class_of sign_token follow_of text_token word_token is_keyword words.number_of is_name begins_with_letter has_name_bytes has_loose_underscore is_taken keywords reserved pieces_behind all_answer run step finish reduced plain_eq has_column has_stream
in_a_comment = refl

-- it is what is wrong with the text
is_told : (text : List ℕ) (f : QueryFault) → come_to text ≡ Err f → IsListFault rows_schema text f
is_told text f e = by (text_answer rows_schema text) (text_is rows_schema text) e
  where
    by : (v : Verdict) → IsVerdict rows_schema text v → told v ≡ Err f → IsListFault rows_schema text f
    by (Ok ss) h k = absurd cc
    by (Err g) h k = let same : g ≡ f = cc in subst (IsListFault rows_schema text) same h

twice_named : IsListFault rows_schema twice (TwiceNamed 63)
twice_named = is_told twice (TwiceNamed 63) two_of_one_name
