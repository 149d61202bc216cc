-- A statement that a text has is regular: its whole expressions are small, and its names are names.
use Rattle.std.proofs.Common.{◌≡◌, ℕ, true, List, [], ◌∷◌, ◌++◌, Option, Some, None, Result, Ok, Err, refl, sym, subst, inl, inr}
use Rattle.std.specs.Prelude.{codes, IfOk}
use Rattle.std.specs.List.{AllByRecursion}
use Rattle.gl_bits.proofs.AllLists.{all_mapped, all_parts}
use Rattle.gl_schema.specs.Names.{IsName, is_name, has_name_bytes, begins_with_letter, has_loose_underscore, is_taken, keywords, reserved}
use Rattle.gl_query.specs.declared.fault.QueryFault.{QueryFault}
use Rattle.gl_query.specs.declared.tree.Statement as tree
use Rattle.gl_query.specs.Shapes.{query_shape, statement_shape}
use Rattle.gl_query.specs.Trees.{StatementTree, statement_tree}
use Rattle.gl_query.proofs.Alike.{query_same}
use Rattle.gl_query.specs.Alike.{expr_alike, query_alike, statement_alike}
use Rattle.gl_query.specs.Laws.{TreesAreAlike}
use Rattle.gl_query.specs.Names.{HasNames}
use Rattle.gl_query.specs.Sizes.{IsSmall, QueryIsSmall}
use Rattle.gl_query_tokens.specs.declared.token.Plain.TheVariants as plain
use Rattle.gl_query_tokens.specs.declared.token.Word.TheVariants as word
use Rattle.gl_query_tokens.specs.declared.token.Token.{Token}
use Rattle.gl_query_tokens.specs.declared.token.Token.TheVariants as token
use Rattle.gl_query_tokens.specs.declared.token.Lexeme.{Lexeme}
use Rattle.gl_query_tokens.specs.Tokens.{tokens_of}
use Rattle.gl_query_tokens.proofs.Sound.{IsSound, text_sound}
use Rattle.gl_query_reader.specs.declared.written.Grouping.{Grouping}
use Rattle.gl_query_reader.specs.declared.written.Part.{Part}
use Rattle.gl_query_reader.specs.Grammar.{bare_tokens, HaveStatement, HasStatement, IsRegular, StatementsAreRegular}
use Rattle.gl_query_reader.specs.Limits.{keeps_limits, none_counted}
use Rattle.gl_query_reader.specs.Meaning.{expr_meaning, query_meaning, statement_meaning}
use Rattle.gl_query_reader.specs.Written as written
use Rattle.gl_query_reader.proofs.Meanings.{AggHolds, OverAggHolds, FilteringHolds, HeadHolds, PartHolds, OverHolds, FilterHolds, GroupingHolds, ItemHolds, PickHolds, QueryHolds, query_in}
use Rattle.gl_query_reader.proofs.Small.{statement_small}

abbrev pub AreSound : List Token → Type 0
AreSound ts = AllByRecursion IsSound ts

pub sound_parts : (xs ys : List Token) → AreSound (xs ++ ys) → AreSound xs × AreSound ys
sound_parts xs ys h = all_parts IsSound xs ys h

expr_names : (e : written.Expr) → AreSound (written.spell e) → HasNames (expr_alike (expr_meaning e))
expr_names (written.Column name) h = inl h.0.name
expr_names (written.Number n) h = tt
expr_names (written.Minus at n) h = tt
expr_names (written.Parameter at name) h = inr (refl, h.1.0.name)
expr_names (written.Letters text at) h = tt
expr_names (written.Brackets at e) h = expr_names e (sound_parts (written.spell e) (token.Plain plain.Close ∷ []) h.1).0
expr_names (written.Cast at open' e word kind) h =
    expr_names e (sound_parts (written.spell e) (token.Plain plain.As ∷ token.Name word ∷ token.Plain plain.Close ∷ []) h.1.1).0
expr_names (written.Flip at e) h = expr_names e h.1
expr_names (written.Not at e) h = expr_names e h.1
expr_names (written.Binary o at l r) h =
    let p = sound_parts (written.spell l) (token.Operator o at ∷ written.spell r) h in
    (expr_names l p.0, expr_names r p.1.1)

agg_names : (a : written.Agg) → AreSound (written.spell_agg a) → AggHolds HasNames a
agg_names (written.Count at open') h = tt
agg_names (written.Fold' f at open' e) h = expr_names e (sound_parts (written.spell e) (token.Plain plain.Close ∷ []) h.1.1).0
agg_names (written.Wsum at open' e ns) h =
    let tail : List Token = token.Plain plain.Comma ∷ token.Plain plain.LeftSquare ∷ (written.spell_numbers ns ++ token.Plain plain.RightSquare ∷ token.Plain plain.Close ∷ []) in
    expr_names e (sound_parts (written.spell e) tail h.1.1).0

over_agg_names : (a : written.OverAgg) → AreSound (written.spell_over_agg a) → OverAggHolds HasNames a
over_agg_names (written.CountOf at open') h = tt
over_agg_names (written.FoldOf f at open' e) h = expr_names e (sound_parts (written.spell e) (token.Plain plain.Close ∷ []) h.1.1).0
over_agg_names (written.LastOf w open' e) h = expr_names e (sound_parts (written.spell e) (token.Plain plain.Close ∷ []) h.1.1).0

filtering_names : (f : Option written.Filtering) → AreSound (written.spell_filtering f) → FilteringHolds HasNames f
filtering_names None h = tt
filtering_names (Some (written.FilterOf w open' e)) h = expr_names e (sound_parts (written.spell e) (token.Plain plain.Close ∷ []) h.1.1.1).0

head_names : (head : written.OverHead) → AreSound (written.spell_head head) → HeadHolds HasNames head
head_names (written.LagOf w open' e back) h = expr_names e (sound_parts (written.spell e) (written.spell_back back ++ token.Plain plain.Close ∷ []) h.1.1).0
head_names (written.Ranged a f) h =
    let p = sound_parts (written.spell_over_agg a) (written.spell_filtering f) h in
    (over_agg_names a p.0, filtering_names f p.1)

part_names : (p : Option Part) → AreSound (written.spell_part p) → PartHolds IsName p
part_names None h = tt
part_names (Some p) h = h.1.1.0.name

over_names : (o : written.Over) → AreSound (written.spell_over o) → OverHolds HasNames IsName o
over_names (written.OverOf head w open' p r) h =
    let last : List Token = written.spell_rows r ++ token.Plain plain.Close ∷ [] in
    let a = sound_parts (written.spell_head head) (written.spell_word word.Over w ∷ token.Open open' ∷ (written.spell_part p ++ last)) h in
    let b = sound_parts (written.spell_part p) last a.1.1.1 in
    (head_names head a.0, part_names p b.0)

item_names : (i : written.Item) → AreSound (written.spell_item i) → ItemHolds HasNames IsName i
item_names (written.Bare name) h = (inl h.0.name, h.0.name)
item_names (written.Named e name) h =
    let p = sound_parts (written.spell e) (token.Plain plain.As ∷ token.Name name ∷ []) h in
    (expr_names e p.0, p.1.1.0.name)
item_names (written.Total a name) h =
    let p = sound_parts (written.spell_agg a) (token.Plain plain.As ∷ token.Name name ∷ []) h in
    (agg_names a p.0, p.1.1.0.name)
item_names (written.Framed o name) h =
    let p = sound_parts (written.spell_over o) (token.Plain plain.As ∷ token.Name name ∷ []) h in
    (over_names o p.0, p.1.1.0.name)

items_names : (is : List written.Item) → AreSound (written.spell_items is) → AllByRecursion (ItemHolds HasNames IsName) is
items_names [] h = tt
items_names (i ∷ []) h = (item_names i h, tt)
items_names (i ∷ j ∷ is) h =
    let p = sound_parts (written.spell_item i) (token.Plain plain.Comma ∷ written.spell_items (j ∷ is)) h in
    (item_names i p.0, items_names (j ∷ is) p.1.1)

pick_names : (p : written.Pick) → AreSound (written.spell_pick p) → PickHolds HasNames IsName p
pick_names (written.All at) h = tt
pick_names (written.Items items) h = items_names items h

filter_names : (f : Option written.Expr) → AreSound (written.spell_filter f) → FilterHolds HasNames f
filter_names None h = tt
filter_names (Some e) h = expr_names e h.1

grouping_names : (g : Option Grouping) → AreSound (written.spell_if_grouping g) → GroupingHolds IsName g
grouping_names None h = tt
grouping_names (Some g) h = h.1.1.0.name

query_names : (q : written.Query) → AreSound (written.spell_query q) → QueryHolds HasNames IsName q
query_names (written.Stream name) h = h.0.name
query_names (written.InBrackets at q) h = query_names q (sound_parts (written.spell_query q) (token.Plain plain.Close ∷ []) h.1).0
query_names (written.Select pick source window filter grouping) h =
    let windows = written.spell_if_window window in
    let filters = written.spell_filter filter in
    let groups = written.spell_if_grouping grouping in
    let a = sound_parts (written.spell_pick pick) (token.Plain plain.From ∷ (written.spell_query source ++ (windows ++ (filters ++ groups)))) h.1 in
    let b = sound_parts (written.spell_query source) (windows ++ (filters ++ groups)) a.1.1 in
    let c = sound_parts windows (filters ++ groups) b.1 in
    let d = sound_parts filters groups c.1 in
    (query_names source b.0, pick_names pick a.0, filter_names filter d.0, grouping_names grouping d.1)
query_names (written.Windows at var source window open' body) h =
    let tail : List Token = written.spell_query body ++ token.Plain plain.Close ∷ [] in
    let a = sound_parts (written.spell_query source) (written.spell_window window ++ token.Open open' ∷ tail) h.1.1.1 in
    let b = sound_parts (written.spell_window window) (token.Open open' ∷ tail) a.1 in
    let c = sound_parts (written.spell_query body) (token.Plain plain.Close ∷ []) b.1.1 in
    (query_names source a.0, query_names body c.0, h.1.0.name)
query_names (written.Groups at var source grouping window open' body) h =
    let tail : List Token = written.spell_query body ++ token.Plain plain.Close ∷ [] in
    let windowed : List Token = written.spell_row_window window ++ token.Open open' ∷ tail in
    let a = sound_parts (written.spell_query source) (written.spell_grouping grouping ++ windowed) h.1.1.1 in
    let b = sound_parts (written.spell_grouping grouping) windowed a.1 in
    let c = sound_parts (written.spell_row_window window) (token.Open open' ∷ tail) b.1 in
    let d = sound_parts (written.spell_query body) (token.Plain plain.Close ∷ []) c.1.1 in
    (query_names source a.0, query_names body d.0, h.1.0.name, b.0.1.0.name)
query_names (written.AsOf' w l r grouping) h =
    let right : List Token = written.spell_query r ++ written.spell_grouping grouping in
    let a = sound_parts (written.spell_query l) (written.spell_word word.AsOf w ∷ right) h in
    let b = sound_parts (written.spell_query r) (written.spell_grouping grouping) a.1.1 in
    (query_names l a.0, query_names r b.0, b.1.1.0.name)
query_names (written.Join' join at l r) h =
    let a = sound_parts (written.spell_query l) (written.spell_join join at ++ written.spell_query r) h in
    let b = sound_parts (written.spell_join join at) (written.spell_query r) a.1 in
    (query_names l a.0, query_names r b.1)

it_is_name : IsName (codes "it")
unfolding is_name has_name_bytes begins_with_letter has_loose_underscore is_taken keywords reserved
it_is_name = refl

written_small : (w : written.Statement) → keeps_limits none_counted (written.spell_statement w) ≡ true → QueryIsSmall (query_alike (query_meaning w.query))
written_small w k = query_in IsSmall (λ name. Unit {0}) tt w.query (statement_small w k)

written_regular : (w : written.Statement) → keeps_limits none_counted (written.spell_statement w) ≡ true → AreSound (written.spell_statement w)
    → IsRegular (statement_alike (statement_meaning w))
written_regular w k h =
    let p = sound_parts (written.spell_query w.query) (token.Plain plain.Into ∷ token.Name w.name ∷ written.spell_end w.closed) h in
    record {
      small = written_small w k;
      names = (query_in HasNames IsName it_is_name w.query (query_names w.query p.0), p.1.1.0.name);
    }

-- what spells a statement keeps the limits where its tokens do
spelled_keep : (tokens : List Lexeme) (s : StatementTree) (h : HaveStatement tokens s) → keeps_limits none_counted (written.spell_statement h.written) ≡ true
spelled_keep tokens s h = subst (λ (ts : List Token). keeps_limits none_counted ts ≡ true) (sym h.derived.spelled) h.limits

pub small_of : (tokens : List Lexeme) (s : StatementTree) → HaveStatement tokens s → QueryIsSmall (query_alike s.query)
small_of tokens s h = subst (λ (x : StatementTree). QueryIsSmall (query_alike x.query)) (sym h.means) (written_small h.written (spelled_keep tokens s h))

-- the names are names where those of the tokens are
pub regular_of : (tokens : List Lexeme) (s : StatementTree) → AreSound (bare_tokens tokens) → HaveStatement tokens s → IsRegular (statement_alike s)
regular_of tokens s sound h =
    subst (λ (x : StatementTree). IsRegular (statement_alike x)) (sym h.means)
    (written_regular h.written (spelled_keep tokens s h) (subst AreSound (sym h.derived.spelled) sound))

pub regular : StatementsAreRegular
regular text s h = regular_of (tokens_of text) s (all_mapped IsSound (λ (l : Lexeme). l.token) (tokens_of text) (text_sound text)) h

-- ---- for a returned value

pub small_statement : (tokens : List Lexeme) (r : Result tree.Statement QueryFault) → IfOk r (λ s. HaveStatement tokens (statement_tree s)) → IfOk r (λ s. QueryIsSmall (query_shape s.query))
small_statement tokens (Err e) h = tt
small_statement tokens (Ok s) h = subst QueryIsSmall (query_same s.query) (small_of tokens (statement_tree s) h)

pub regular_statement : TreesAreAlike → (text : List ℕ) (r : Result tree.Statement QueryFault) → IfOk r (λ s. HasStatement text (statement_tree s)) → IfOk r (λ s. IsRegular (statement_shape s))
regular_statement alike text (Err e) h = tt
regular_statement alike text (Ok s) h = subst IsRegular (alike s) (regular text (statement_tree s) h)
