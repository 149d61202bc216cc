-- The canonical tokens can be read from their text.
use Rattle.std.proofs.Common.{◌≡◌, ℕ, ◌+◌, Bool, true, false, List, [], ◌∷◌, ◌++◌, map, Option, Some, None, option_map, refl, ap, inl, inr}
use Rattle.std.specs.Prelude.{codes, if◌then◌else◌}
use Rattle.std.specs.List.{AllByRecursion}
use Rattle.gl_values.specs.declared.op.Op.{Op}
use Rattle.gl_values.specs.declared.op.Op.TheVariants as op
use Rattle.gl_query.specs.declared.tree.Measure.{Measure}
use Rattle.gl_query.specs.declared.tree.Measure.TheVariants.{Tuples, Time}
use Rattle.gl_query.specs.Shapes.{ExprShape, AggShape, ItemShape, AggItemShape, FrameAggShape, FrameShape, FrameItemShape, SlotsShape, PickShape, QueryShape, StatementShape}
use Rattle.gl_query.specs.Shapes as shape
use Rattle.gl_query_tokens.specs.declared.token.Fold.{Fold}
use Rattle.gl_query_tokens.specs.declared.token.Fold.TheVariants.{Sum, Min, Max, Avg}
use Rattle.gl_query_tokens.specs.declared.token.Join.{Join}
use Rattle.gl_query_tokens.specs.declared.token.Join.TheVariants.{Union, Concat}
use Rattle.gl_query_tokens.specs.declared.token.Plain.{Plain}
use Rattle.gl_query_tokens.specs.declared.token.Plain.TheVariants as plain
use Rattle.gl_query_tokens.specs.declared.token.Word.TheVariants as word
use Rattle.gl_query_tokens.specs.declared.token.Spelling.TheVariants.{Small, Capital}
use Rattle.gl_query_tokens.specs.declared.token.Token.{Token}
use Rattle.gl_query_tokens.specs.declared.token.Token.TheVariants as token
use Rattle.gl_query_tokens.specs.Tokens.{class_of, follow_of, sign_token}
use Rattle.gl_query_tokens.specs.Words.{is_keyword, word_text, word_token}
use Rattle.gl_query_reader.specs.Written as written
use Rattle.gl_query_reader.specs.Written.{measure_word, spell, spell_numbers, spell_agg, spell_over_agg, spell_filtering, spell_bound, spell_head, spell_part, spell_rows, spell_over, spell_item, spell_items, spell_pick, spell_window, spell_filter, spell_grouping, spell_query}
use Rattle.gl_query_printer.specs.Canonical.{name_of, num_of, fitted, expr_of, agg_of, is_bare, item_of, agg_item_of, over_agg_of, filtering_of, bound_of, rows_of, partition_of, frame_by, frame_item_of, pick_of, bracketed_unless, side_of, source_of, term_of, window_of, grouping_of, query_of, canonical_tokens, column_of}
use Rattle.gl_query_printer.specs.declared.text.Behind.{Behind}
use Rattle.gl_query_printer.specs.declared.text.Behind.TheVariants.{Opening, Named, Operand, Sign, Other}
use Rattle.gl_query_printer.specs.Spaced.{token_text, plain_text, operator_text, fold_text, join_text, place_behind}
use Rattle.gl_query_printer.proofs.Lexed.{Readable, ReadAs, Apart, Ends, EndsIn, dash_ends, ends_apart, half_ends, letters_readable, no_number, read_word}
use Rattle.gl_query_tokens.proofs.Sound.{is_word}
use Rattle.gl_query_printer.proofs.ReadableWords.{over_readable, filter_word_readable, partition_word_readable, rows_word_readable, preceding_readable, unbounded_readable, arrival_readable, as_of_readable, lag_word, last_value_word}
use Rattle.gl_query_printer.proofs.Named.{name_column, parameter_column}
use Rattle.gl_query_printer.proofs.Places.{placeless}
use Rattle.gl_query_tokens.proofs.Sound.{IsNameWord, IsSmall}
use Rattle.gl_bits.proofs.AllLists.{all_append}
use Rattle.gl_query_printer.proofs.Decimals.{number_readable}
use Rattle.gl_query_printer.proofs.Writable.{CanBeColumn, CanBeExpr, AreWeights, CanBeAgg, CanBeItem, CanBeAggItem, CanBeFrameAgg, CanBeBack, CanBeFrame, CanBeFrameItem, CanBeSlots, CanBePick, CanBeFilter, CanBeSource}
use Rattle.gl_query_printer.proofs.WritableQueries.{CanBeStatement}

-- ---- tokens

name_readable : (w : List ℕ) → IsNameWord w → Readable (token.Name (name_of w))
unfolding token_text place_behind
name_readable w h = no_number refl (λ p at bs e. read_word w (token.Name (name_of w)) h.word (λ a. ap placeless (h.token a)) at bs e)

open_readable : Readable (token.Open 0)
unfolding token_text place_behind class_of sign_token
open_readable = no_number refl (λ p at bs e. record { behind = at + 1; is = refl })

colon_readable : Readable (token.Colon 0)
unfolding token_text place_behind class_of sign_token
colon_readable = no_number refl (λ p at bs e. record { behind = at + 1; is = refl })

close_readable : Readable (token.Plain plain.Close)
unfolding token_text plain_text class_of sign_token
close_readable = no_number refl (λ p at bs e. record { behind = at + 1; is = refl })

left_readable : Readable (token.Plain plain.LeftSquare)
unfolding token_text plain_text class_of sign_token
left_readable = no_number refl (λ p at bs e. record { behind = at + 1; is = refl })

right_readable : Readable (token.Plain plain.RightSquare)
unfolding token_text plain_text class_of sign_token
right_readable = no_number refl (λ p at bs e. record { behind = at + 1; is = refl })

comma_readable : Readable (token.Plain plain.Comma)
unfolding token_text plain_text class_of sign_token
comma_readable = no_number refl (λ p at bs e. record { behind = at + 1; is = refl })

-- keywords behind which a word ends
plain_readable : (p : Plain) → is_word (plain_text p) ≡ true → ((at : ℕ) → placeless (word_token (plain_text p) at) ≡ token.Plain p) → ((at : ℕ) (bs : List ℕ) → Ends bs → ReadAs at (plain_text p) bs (token.Plain p))
plain_readable p w k = λ at bs e. read_word (plain_text p) (token.Plain p) w k at bs e

select_readable : Readable (token.Plain plain.Select)
unfolding token_text plain_text place_behind class_of word_token is_keyword
select_readable = no_number refl (λ p. plain_readable plain.Select refl (λ at. refl))

from_readable : Readable (token.Plain plain.From)
unfolding token_text plain_text place_behind class_of word_token is_keyword
from_readable = no_number refl (λ p. plain_readable plain.From refl (λ at. refl))

where_readable : Readable (token.Plain plain.Where)
unfolding token_text plain_text place_behind class_of word_token is_keyword
where_readable = no_number refl (λ p. plain_readable plain.Where refl (λ at. refl))

groups_readable : Readable (token.Plain plain.Groups)
unfolding token_text plain_text place_behind class_of word_token is_keyword
groups_readable = no_number refl (λ p. plain_readable plain.Groups refl (λ at. refl))

in_readable : Readable (token.Plain plain.In)
unfolding token_text plain_text place_behind class_of word_token is_keyword
in_readable = no_number refl (λ p. plain_readable plain.In refl (λ at. refl))

advance_readable : Readable (token.Plain plain.Advance)
unfolding token_text plain_text place_behind class_of word_token is_keyword
advance_readable = no_number refl (λ p. plain_readable plain.Advance refl (λ at. refl))

tuples_readable : Readable (token.Plain plain.Tuples)
unfolding token_text plain_text place_behind class_of word_token is_keyword
tuples_readable = no_number refl (λ p. plain_readable plain.Tuples refl (λ at. refl))

time_readable : Readable (token.Plain plain.Time)
unfolding token_text plain_text place_behind class_of word_token is_keyword
time_readable = no_number refl (λ p. plain_readable plain.Time refl (λ at. refl))

into_readable : Readable (token.Plain plain.Into)
unfolding token_text plain_text place_behind class_of word_token is_keyword
into_readable = no_number refl (λ p. plain_readable plain.Into refl (λ at. refl))

as_readable : Readable (token.Plain plain.As)
unfolding token_text plain_text place_behind class_of word_token is_keyword
as_readable = no_number refl (λ p. plain_readable plain.As refl (λ at. refl))

tilde_readable : Readable (token.Tilde 0)
unfolding token_text place_behind class_of sign_token
tilde_readable = no_number refl (λ p at bs e. record { behind = at + 1; is = refl })

not_readable : Readable (token.Not 0)
unfolding token_text place_behind class_of word_token is_keyword
not_readable = no_number refl (λ p at bs e. read_word (codes "NOT") (token.Not 0) refl (λ a. refl) at bs e)

cast_readable : Readable (token.Cast 0)
unfolding token_text place_behind class_of word_token is_keyword
cast_readable = no_number refl (λ p at bs e. read_word (codes "CAST") (token.Cast 0) refl (λ a. refl) at bs e)

count_readable : Readable (token.Count 0)
unfolding token_text place_behind class_of word_token is_keyword
count_readable = no_number refl (λ p at bs e. read_word (codes "count") (token.Count 0) refl (λ a. refl) at bs e)

wsum_readable : Readable (token.Wsum 0)
unfolding token_text place_behind class_of word_token is_keyword
wsum_readable = no_number refl (λ p at bs e. read_word (codes "wsum") (token.Wsum 0) refl (λ a. refl) at bs e)

each_readable : Readable (token.Each 0)
unfolding token_text place_behind class_of word_token is_keyword
each_readable = no_number refl (λ p at bs e. read_word (codes "EACH") (token.Each 0) refl (λ a. refl) at bs e)

by_readable : Readable (token.By 0)
unfolding token_text place_behind class_of word_token is_keyword
by_readable = no_number refl (λ p at bs e. read_word (codes "BY") (token.By 0) refl (λ a. refl) at bs e)

size_readable : Readable (token.Size 0)
unfolding token_text place_behind class_of word_token is_keyword
size_readable = no_number refl (λ p at bs e. read_word (codes "SIZE") (token.Size 0) refl (λ a. refl) at bs e)

fold_readable : (f : Fold) → Readable (token.Fold f 0)
unfolding token_text fold_text place_behind class_of word_token is_keyword
fold_readable Sum = no_number refl (λ p at bs e. read_word (codes "sum") (token.Fold Sum 0) refl (λ a. refl) at bs e)
fold_readable Min = no_number refl (λ p at bs e. read_word (codes "min") (token.Fold Min 0) refl (λ a. refl) at bs e)
fold_readable Max = no_number refl (λ p at bs e. read_word (codes "max") (token.Fold Max 0) refl (λ a. refl) at bs e)
fold_readable Avg = no_number refl (λ p at bs e. read_word (codes "avg") (token.Fold Avg 0) refl (λ a. refl) at bs e)

join_readable : (j : Join) → Readable (token.Join j 0)
unfolding token_text join_text place_behind class_of word_token is_keyword
join_readable Union = no_number refl (λ p at bs e. read_word (codes "UNION") (token.Join Union 0) refl (λ a. refl) at bs e)
join_readable Concat = no_number refl (λ p at bs e. read_word (codes "CONCAT") (token.Join Concat 0) refl (λ a. refl) at bs e)

-- a minus sign ends whether it is a number's or an operator
behind_minus : (p : Behind) (bs : List ℕ) → EndsIn (place_behind p (token.Operator op.Sub 0)) bs → Apart bs
unfolding place_behind
behind_minus Opening bs e = e
behind_minus Named bs e = ends_apart bs e
behind_minus Operand bs e = e
behind_minus Sign bs e = ends_apart bs e
behind_minus Other bs e = ends_apart bs e

operator_readable : (o : Op) → Readable (token.Operator o 0)
unfolding token_text operator_text place_behind class_of sign_token follow_of word_token is_keyword
operator_readable op.Add = no_number refl (λ p at bs e. record { behind = at + 1; is = refl })
operator_readable op.Sub = no_number refl (λ p at bs e. record { behind = at + 1; is = dash_ends at bs (at + 1) (behind_minus p bs e) })
operator_readable op.Mul = no_number refl (λ p at bs e. record { behind = at + 1; is = refl })
operator_readable op.BitAnd = no_number refl (λ p at bs e. record { behind = at + 1; is = refl })
operator_readable op.BitOr = no_number refl (λ p at bs e. record { behind = at + 1; is = refl })
operator_readable op.BitXor = no_number refl (λ p at bs e. record { behind = at + 1; is = refl })
operator_readable op.ShiftLeft = no_number refl (λ p at bs e. record { behind = at + 1 + 1; is = refl })
operator_readable op.ShiftRight = no_number refl (λ p at bs e. record { behind = at + 1 + 1; is = refl })
operator_readable op.Eq = no_number refl (λ p at bs e. record { behind = at + 1; is = refl })
operator_readable op.Ne = no_number refl (λ p at bs e. record { behind = at + 1 + 1; is = refl })
operator_readable op.Lt = no_number refl (λ p at bs e. record { behind = at + 1; is = half_ends at 60 bs (at + 1) (λ b i. i.less) e })
operator_readable op.Le = no_number refl (λ p at bs e. record { behind = at + 1 + 1; is = refl })
operator_readable op.Gt = no_number refl (λ p at bs e. record { behind = at + 1; is = half_ends at 62 bs (at + 1) (λ b i. i.greater) e })
operator_readable op.Ge = no_number refl (λ p at bs e. record { behind = at + 1 + 1; is = refl })
operator_readable op.And = no_number refl (λ p at bs e. read_word (codes "AND") (token.Operator op.And 0) refl (λ a. refl) at bs e)
operator_readable op.Or = no_number refl (λ p at bs e. read_word (codes "OR") (token.Operator op.Or 0) refl (λ a. refl) at bs e)

-- ---- trees

abbrev AreReadable : List Token → Type 0
AreReadable ts = AllByRecursion Readable ts

join : (xs ys : List Token) → AreReadable xs → AreReadable ys → AreReadable (xs ++ ys)
join xs ys p q = all_append Readable xs ys p q

closed : AreReadable (token.Plain plain.Close ∷ [])
closed = (close_readable, tt)

fitted_readable : (fits : Bool) (e : written.Expr) → AreReadable (spell e) → AreReadable (spell (fitted fits e))
fitted_readable true e h = h
fitted_readable false e h = (open_readable, join (spell e) (token.Plain plain.Close ∷ []) h closed)

column_readable : (name : List ℕ) → CanBeColumn name → AreReadable (spell (column_of name))
column_readable name (inl h) = rw (name_column name h) (name_readable name h, tt)
column_readable [] (inr h) = absurd h
column_readable (b ∷ name) (inr h) = rw (parameter_column b name h.0) (colon_readable, (name_readable name h.1, tt))

expr_readable : (e : ExprShape) → CanBeExpr e → AreReadable (spell (expr_of e))
expr_readable (shape.Column name) c = column_readable name c
expr_readable (shape.Number n) c = (number_readable n c, tt)
expr_readable (shape.Minus n) c = (operator_readable op.Sub, (number_readable n c, tt))
expr_readable (shape.Letters text) c = (letters_readable text c, tt)
expr_readable (shape.Not e) c = (not_readable, fitted_readable _ (expr_of e) (expr_readable e c))
expr_readable (shape.Flip e) c = (tilde_readable, fitted_readable _ (expr_of e) (expr_readable e c))
expr_readable (shape.Cast kind e) c = (cast_readable, (open_readable, join (spell (expr_of e)) _ (expr_readable e c.0) (as_readable, (name_readable _ c.1, closed))))
expr_readable (shape.Binary o l r) c =
    join (spell (fitted _ (expr_of l))) (token.Operator o 0 ∷ spell (fitted _ (expr_of r))) (fitted_readable _ (expr_of l) (expr_readable l c.0)) (operator_readable o, fitted_readable _ (expr_of r) (expr_readable r c.1))

numbers_readable : (ns : List ℕ) → AllByRecursion IsSmall ns → AreReadable (spell_numbers (map num_of ns))
numbers_readable [] c = tt
numbers_readable (n ∷ []) c = (number_readable n c.0, tt)
numbers_readable (n ∷ m ∷ ns) c = (number_readable n c.0, (comma_readable, numbers_readable (m ∷ ns) c.1))

weights_readable : (ns : List ℕ) → AreWeights ns → AreReadable (spell_numbers (map num_of ns))
weights_readable [] c = absurd c
weights_readable (n ∷ ns) c = numbers_readable (n ∷ ns) c

folded : (f : Fold) (e : ExprShape) → CanBeExpr e → AreReadable (spell_agg (written.Fold' f 0 0 (expr_of e)))
folded f e c = (fold_readable f, (open_readable, join (spell (expr_of e)) (token.Plain plain.Close ∷ []) (expr_readable e c) closed))

agg_readable : (a : AggShape) → CanBeAgg a → AreReadable (spell_agg (agg_of a))
agg_readable shape.Count c = (count_readable, (open_readable, closed))
agg_readable (shape.Sum e) c = folded Sum e c
agg_readable (shape.Min e) c = folded Min e c
agg_readable (shape.Max e) c = folded Max e c
agg_readable (shape.Avg e) c = folded Avg e c
agg_readable (shape.Wsum e ns) c =
    (wsum_readable, (open_readable, join (spell (expr_of e)) _ (expr_readable e c.0) (comma_readable, (left_readable, join (spell_numbers (map num_of ns)) _ (weights_readable ns c.1) (right_readable, closed)))))

one_item : (b : Bool) (e : ExprShape) (name : List ℕ) → CanBeExpr e → IsNameWord name → AreReadable (spell_item (if b then written.Bare (name_of name) else written.Named (expr_of e) (name_of name)))
one_item true e name c h = (name_readable name h, tt)
one_item false e name c h = join (spell (expr_of e)) _ (expr_readable e c) (as_readable, (name_readable name h, tt))

item_readable : (i : ItemShape) → CanBeItem i → AreReadable (spell_item (item_of i))
item_readable i c = one_item (is_bare i.expr i.name) i.expr i.name c.0 c.1

agg_item_readable : (i : AggItemShape) → CanBeAggItem i → AreReadable (spell_item (agg_item_of i))
agg_item_readable i c = join (spell_agg (agg_of i.agg)) _ (agg_readable i.agg c.0) (as_readable, (name_readable i.name c.1, tt))

folded_over : (f : Fold) (e : ExprShape) → CanBeExpr e → AreReadable (spell_over_agg (written.FoldOf f 0 0 (expr_of e)))
folded_over f e c = (fold_readable f, (open_readable, join (spell (expr_of e)) (token.Plain plain.Close ∷ []) (expr_readable e c) closed))

over_agg_readable : (a : FrameAggShape) → CanBeFrameAgg a → AreReadable (spell_over_agg (over_agg_of a))
over_agg_readable shape.CountOver c = (count_readable, (open_readable, closed))
over_agg_readable (shape.SumOver e) c = folded_over Sum e c
over_agg_readable (shape.MinOver e) c = folded_over Min e c
over_agg_readable (shape.MaxOver e) c = folded_over Max e c
over_agg_readable (shape.AvgOver e) c = folded_over Avg e c
over_agg_readable (shape.LastOver e) c = (name_readable (word_text word.LastValue) last_value_word, (open_readable, join (spell (expr_of e)) (token.Plain plain.Close ∷ []) (expr_readable e c) closed))

filtering_readable : (f : Option ExprShape) → CanBeFilter f → AreReadable (spell_filtering (filtering_of f))
filtering_readable None c = tt
filtering_readable (Some e) c = (filter_word_readable, (open_readable, (where_readable, join (spell (expr_of e)) (token.Plain plain.Close ∷ []) (expr_readable e c) closed)))

bound_readable : (b : Option ℕ) → CanBeBack b → Readable (spell_bound (bound_of b))
bound_readable None c = unbounded_readable
bound_readable (Some n) c = number_readable n c

under_name : (over : written.Over) (name : List ℕ) → AreReadable (spell_over over) → IsNameWord name → AreReadable (spell_item (written.Framed over (name_of name)))
under_name over name h n = join (spell_over over) (token.Plain plain.As ∷ token.Name (name_of name) ∷ []) h (as_readable, (name_readable name n, tt))

grouping_readable : (key : List ℕ) (groups : ℕ) → IsNameWord key → IsSmall groups → AreReadable (spell_grouping (grouping_of key groups))
grouping_readable key groups k g = (by_readable, (name_readable key k, (groups_readable, (number_readable groups g, tt))))

partition_readable : (slots : Option SlotsShape) → CanBeSlots slots → AreReadable (spell_part (partition_of slots))
partition_readable None c = tt
partition_readable (Some s) c = (partition_word_readable, grouping_readable s.key s.groups c.0 c.1)

frame_readable : (slots : Option SlotsShape) (f : FrameShape) (name : List ℕ) → CanBeSlots slots → CanBeFrame f → IsNameWord name → AreReadable (spell_item (frame_by (partition_of slots) f name))
frame_readable slots (shape.Own e) name k c n = one_item (is_bare e name) e name c n
frame_readable slots (shape.Lag e back) name k c n =
    let head : written.OverHead = written.LagOf (Small 0) 0 (expr_of e) (Some (num_of back)) in
    let part = spell_part (partition_of slots) in
    under_name (written.OverOf head (Capital 0) 0 (partition_of slots) None) name
    (join (spell_head head) (token.Word word.Over 0 ∷ token.Open 0 ∷ (part ++ token.Plain plain.Close ∷ []))
    (name_readable (word_text word.Lag) lag_word, (open_readable, join (spell (expr_of e)) (token.Plain plain.Comma ∷ token.Number (num_of back) ∷ token.Plain plain.Close ∷ []) (expr_readable e c.0) (comma_readable, (number_readable back c.1, closed))))
    (over_readable, (open_readable, join part (token.Plain plain.Close ∷ []) (partition_readable slots k) closed))) n
frame_readable slots (shape.Over agg filter back) name k c n =
    let head : written.OverHead = written.Ranged (over_agg_of agg) (filtering_of filter) in
    let part = spell_part (partition_of slots) in
    let last : List Token = spell_rows (Some (rows_of back)) ++ token.Plain plain.Close ∷ [] in
    under_name (written.OverOf head (Capital 0) 0 (partition_of slots) (Some (rows_of back))) name
    (join (spell_head head) (token.Word word.Over 0 ∷ token.Open 0 ∷ (part ++ last))
    (join (spell_over_agg (over_agg_of agg)) (spell_filtering (filtering_of filter)) (over_agg_readable agg c.0) (filtering_readable filter c.1))
    (over_readable, (open_readable, join part last (partition_readable slots k) (rows_word_readable, (bound_readable back c.2, (preceding_readable, closed)))))) n

frame_item_readable : (slots : Option SlotsShape) → CanBeSlots slots → (i : FrameItemShape) → CanBeFrameItem i → AreReadable (spell_item (frame_item_of (partition_of slots) i))
frame_item_readable slots k i c = frame_readable slots i.frame i.name k c.0 c.1

items_readable : {A : Type 0} (f : A → written.Item) (C : A → Type 0) → ((i : A) → C i → AreReadable (spell_item (f i))) → (is : List A) → AllByRecursion C is → AreReadable (spell_items (map f is))
items_readable f C one [] c = tt
items_readable f C one (i ∷ []) c = one i c.0
items_readable f C one (i ∷ j ∷ is) c = join (spell_item (f i)) _ (one i c.0) (comma_readable, items_readable f C one (j ∷ is) c.1)

pick_readable : (p : PickShape) → CanBePick p → AreReadable (spell_pick (pick_of p))
pick_readable shape.All c = (operator_readable op.Mul, tt)
pick_readable (shape.Items items) c = items_readable item_of CanBeItem item_readable items c.1

filter_readable : (f : Option ExprShape) → CanBeFilter f → AreReadable (spell_filter (option_map expr_of f))
filter_readable None c = tt
filter_readable (Some e) c = (where_readable, expr_readable e c)

bracketed : (b : Bool) (q : written.Query) → AreReadable (spell_query q) → AreReadable (spell_query (bracketed_unless b q))
bracketed true q h = h
bracketed false q h = (open_readable, join (spell_query q) _ h closed)

measure_readable : (measure : Measure) → Readable (token.Plain (measure_word measure))
measure_readable Tuples = tuples_readable
measure_readable Time = time_readable

window_readable : (measure : Measure) (size advance : ℕ) → IsSmall size → IsSmall advance → AreReadable (spell_window (window_of measure size advance))
window_readable measure size advance s a = (left_readable, (size_readable, (number_readable size s, (advance_readable, (number_readable advance a, (measure_readable measure, (right_readable, tt)))))))

abbrev in_brackets : written.Query → List Token
in_brackets q = token.Open 0 ∷ (spell_query q ++ token.Plain plain.Close ∷ [])

body_readable : (q : written.Query) → AreReadable (spell_query q) → AreReadable (in_brackets q)
body_readable q h = (open_readable, join (spell_query q) (token.Plain plain.Close ∷ []) h closed)

query_readable : (q : QueryShape) → CanBeSource q → AreReadable (spell_query (query_of q))
query_readable (shape.Read name) c = (name_readable name c, tt)
query_readable (shape.Rows pick filter source) c =
    (select_readable, join (spell_pick (pick_of pick)) _ (pick_readable pick c.0) (from_readable, join (spell_query (source_of (query_of source))) _ (bracketed _ (query_of source) (query_readable source c.2)) (join (spell_filter (option_map expr_of filter)) [] (filter_readable filter c.1) tt)))
query_readable (shape.Total aggs source) c =
    (select_readable, join (spell_items (map agg_item_of aggs)) _ (items_readable agg_item_of CanBeAggItem agg_item_readable aggs c.1) (from_readable, join (spell_query (source_of (query_of source))) [] (bracketed _ (query_of source) (query_readable source c.2)) tt))
query_readable (shape.Frames items filter slots source) c =
    (select_readable, join (spell_items (map (frame_item_of (partition_of slots)) items)) _ (items_readable (frame_item_of (partition_of slots)) CanBeFrameItem (frame_item_readable slots c.3) items c.1) (from_readable, join (spell_query (source_of (query_of source))) _ (bracketed _ (query_of source) (query_readable source c.4)) (join (spell_filter (option_map expr_of filter)) [] (filter_readable filter c.2) tt)))
query_readable (shape.Each measure var source size advance body) c = (
  each_readable,
  (
    name_readable var c.0,
    (
      in_readable,
      join (spell_query (source_of (query_of source))) _ (bracketed _ (query_of source) (query_readable source c.1))
          (join (spell_window (window_of measure size advance)) (in_brackets (query_of body)) (window_readable measure size advance c.2 c.3) (body_readable (query_of body) (query_readable body c.4))),
    ),
  ),
)
query_readable (shape.PerGroup var source key groups body) c = (
  each_readable,
  (
    name_readable var c.0,
    (
      in_readable,
      join (spell_query (source_of (query_of source))) _ (bracketed _ (query_of source) (query_readable source c.1))
          (join (spell_grouping (grouping_of key groups)) (in_brackets (query_of body)) (grouping_readable key groups c.2 c.3) (body_readable (query_of body) (query_readable body c.4))),
    ),
  ),
)
query_readable (shape.Partition var source key groups size advance body) c = (
  each_readable,
  (
    name_readable var c.0,
    (
      in_readable,
      join (spell_query (source_of (query_of source))) _ (bracketed _ (query_of source) (query_readable source c.1))
          (join (spell_grouping (grouping_of key groups)) (spell_window (window_of Tuples size advance) ++ in_brackets (query_of body)) (grouping_readable key groups c.2 c.3)
          (join (spell_window (window_of Tuples size advance)) (in_brackets (query_of body)) (window_readable Tuples size advance c.4 c.5) (body_readable (query_of body) (query_readable body c.6)))),
    ),
  ),
)
query_readable (shape.Union l r) c = join (spell_query (query_of l)) (token.Join Union 0 ∷ spell_query (term_of (query_of r))) (query_readable l c.0) (join_readable Union, bracketed _ (query_of r) (query_readable r c.2))
query_readable (shape.ByArrival l r) c =
    join (spell_query (query_of l)) (token.Join Union 0 ∷ token.By 0 ∷ token.Word word.Arrival 0 ∷ spell_query (term_of (query_of r))) (query_readable l c.0)
    (join_readable Union, (by_readable, (arrival_readable, bracketed _ (query_of r) (query_readable r c.2))))
query_readable (shape.AsOf l r s) c =
    let tail : List Token = spell_query (side_of (query_of r)) ++ spell_grouping (grouping_of s.key s.groups) in
    join (spell_query (side_of (query_of l))) (token.Word word.AsOf 0 ∷ tail) (bracketed _ (query_of l) (query_readable l c.0)) (
      as_of_readable,
      join (spell_query (side_of (query_of r))) (spell_grouping (grouping_of s.key s.groups)) (bracketed _ (query_of r) (query_readable r c.2))
          (grouping_readable s.key s.groups c.4 c.5),
    )
query_readable (shape.Concat l r) c = join (spell_query (query_of l)) (token.Join Concat 0 ∷ spell_query (term_of (query_of r))) (query_readable l c.0) (join_readable Concat, bracketed _ (query_of r) (query_readable r c.2))

pub statement_readable : (s : StatementShape) → CanBeStatement s → AreReadable (canonical_tokens s)
statement_readable s c = join (spell_query (query_of s.query)) _ (query_readable s.query c.query.0) (into_readable, (name_readable s.name c.name, tt))
