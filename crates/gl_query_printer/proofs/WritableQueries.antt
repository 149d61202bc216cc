-- What has a canonical text: selects, queries and statements that some text has.
use Rattle.std.proofs.Common.{◌≡◌, ℕ, Bool, true, false, List, [], ◌∷◌, ◌++◌, map, Option, Some, None, option_map, refl, sym, subst, ◌∙◌}
use Rattle.std.specs.Prelude.{codes, nat_le, if◌then◌else◌}
use Rattle.std.specs.List.{AllByRecursion}
use Rattle.std.proofs.lemmas.Bool.{or_parts, true≢false}
use Rattle.gl_query.specs.Shapes as shape
use Rattle.gl_query.specs.Shapes.{QueryShape}
use Rattle.gl_query_tokens.specs.declared.token.Word.TheVariants as word
use Rattle.gl_query_reader.specs.declared.joins.Joining.{Joining}
use Rattle.gl_query_reader.specs.declared.joins.Joining.TheVariants.{Union, Arrival, Concat}
use Rattle.gl_query_tokens.specs.Tokens.{class_of}
use Rattle.gl_query_tokens.specs.Words.{is_keyword, word_token}
use Rattle.gl_schema.specs.Names.{is_name, has_name_bytes, begins_with_letter, has_loose_underscore, is_taken, keywords, reserved}
use Rattle.gl_query_tokens.specs.declared.token.Plain.TheVariants as plain
use Rattle.gl_query_tokens.specs.declared.token.Token.{Token}
use Rattle.gl_query_tokens.specs.declared.token.Token.TheVariants as token
use Rattle.gl_query_reader.specs.declared.written.Window.{Window}
use Rattle.gl_query_reader.specs.declared.written.Grouping.{Grouping}
use Rattle.gl_query_reader.specs.Written as written
use Rattle.gl_query.specs.Trees as tree
use Rattle.gl_query_reader.specs.Meaning.{expr_meaning, agg_items, is_total, is_framed, has_over, it, filtered, by_over, by_items, by_pick, grouped, select_meaning, join_meaning, query_meaning, statement_meaning}
use Rattle.gl_query_reader.specs.Mixed.{first_other, is_key, behind_key, mixed_pick, least, mixed_in, item_at}
use Rattle.gl_query.specs.Alike.{expr_alike, agg_item_alike, query_alike, statement_alike}
use Rattle.gl_query_tokens.proofs.Sound.{IsNameWord, IsSmall, is_word}
use Rattle.gl_bits.proofs.Options.{not_some, some_same}
use Rattle.gl_query_reader.proofs.Meanings.{back_is_over}
use Rattle.gl_query_reader.proofs.Regular.{sound_parts, AreSound}
use Rattle.gl_query_printer.proofs.Writable.{CanBeFilter, CanBeSource, CanBeQuery, IsNoJoin, IsNoStream, Some', IsSoundItem, expr_can, each_sound, plain_can, aggs_can, some_plain, some_aggs, frames_can, slots_can}

-- ---- selects

abbrev IsSoundFilter : Option written.Expr → Type 0
IsSoundFilter f = written.IsFilter f × AreSound (written.spell_filter f)

filter_can : (f : Option written.Expr) → IsSoundFilter f → CanBeFilter (option_map expr_alike (option_map expr_meaning f))
filter_can None h = tt
filter_can (Some e) h = expr_can e h.0 h.1.1

filtered_can : (f : Option written.Expr) (source : tree.QueryTree) → IsSoundFilter f → CanBeSource (query_alike source) → CanBeSource (query_alike (filtered (option_map expr_meaning f) source))
filtered_can None source h s = s
filtered_can (Some e) source h s = (tt, filter_can (Some e) h, s)

by_over_can : (b : Bool) (i : written.Item) (is : List written.Item) (f : Option written.Expr) (source : tree.QueryTree) → is_total i ≡ false → has_over (i ∷ is) ≡ b → AllByRecursion IsSoundItem (i ∷ is) → IsSoundFilter f → CanBeSource (query_alike source)
    → CanBeQuery (query_alike (by_over b (i ∷ is) (option_map expr_meaning f) source))
by_over_can true i is f source e o h g s = ((back_is_over (i ∷ is) ∙ o, frames_can (i ∷ is) h, filter_can f g, slots_can (i ∷ is) h, s), tt)
by_over_can false i is f source e o h g s = (((some_plain i is e (or_parts (is_framed i) (has_over is) o).0, plain_can (i ∷ is) h), filter_can f g, s), tt)

by_items_can : (b : Bool) (i : written.Item) (is : List written.Item) (f : Option written.Expr) (source : tree.QueryTree) → is_total i ≡ b → AllByRecursion IsSoundItem (i ∷ is) → IsSoundFilter f → CanBeSource (query_alike source)
    → CanBeQuery (query_alike (by_items b (i ∷ is) (option_map expr_meaning f) source))
by_items_can true i is f source e h g s = ((some_aggs i is e, aggs_can (i ∷ is) h, filtered_can f source g s), tt)
by_items_can false i is f source e h g s = by_over_can (has_over (i ∷ is)) i is f source e refl h g s

abbrev IsSoundPick : written.Pick → Type 0
IsSoundPick p = written.IsPick p × AreSound (written.spell_pick p)

by_pick_can : (p : written.Pick) (f : Option written.Expr) (source : tree.QueryTree) → IsSoundPick p → IsSoundFilter f → CanBeSource (query_alike source) → CanBeQuery (query_alike (by_pick p (option_map expr_meaning f) source))
by_pick_can (written.All at) f source h g s = ((tt, filter_can f g, s), tt)
by_pick_can (written.Items []) f source h g s = absurd h.0
by_pick_can (written.Items (i ∷ is)) f source h g s = by_items_can (is_total i) i is f source refl (each_sound (i ∷ is) h.0 h.1) g s

abbrev IsSoundGrouping : Grouping → Type 0
IsSoundGrouping g = IsNameWord g.key.text × IsSmall g.groups.value

it_is_word : is_word (codes "it") ≡ true
unfolding class_of
it_is_word = refl

it_is_name : is_name (codes "it") ≡ true
unfolding is_name has_name_bytes begins_with_letter has_loose_underscore is_taken keywords reserved
it_is_name = refl

it_is_token : (at : ℕ) → word_token (codes "it") at ≡ token.Name (record { text = codes "it"; at = at })
unfolding word_token is_keyword is_name has_name_bytes begins_with_letter has_loose_underscore is_taken keywords reserved
it_is_token at = refl

it_word : IsNameWord (codes "it")
it_word = record { word = it_is_word; name = it_is_name; token = it_is_token }

either_some : (c : Bool) (a b : ℕ) → (if c then Some a else Some b) ≡ None → ⊥
either_some true a b h = not_some a (sym h)
either_some false a b h = not_some b (sym h)

first_total : (i : written.Item) (is : List written.Item) (b : Bool) → is_total i ≡ b → first_other true (i ∷ is) ≡ None → b ≡ true
first_total i is true e h = refl
first_total i is false e h = absurd (let f : first_other true (i ∷ is) ≡ Some (item_at i) = rw e refl in not_some (item_at i) (sym h ∙ f))

-- behind the key stands at least one aggregate
groups_some : (i : written.Item) (is : List written.Item) (g : Grouping) (k : Bool) → is_key g.key i ≡ k → (if k then behind_key g is else Some (item_at i)) ≡ None → Some' (map agg_item_alike (agg_items (i ∷ is)))
groups_some i is g false e h = absurd (not_some (item_at i) (sym h))
groups_some (written.Bare name) [] g true e h = absurd (not_some g.at (sym h))
groups_some (written.Bare name) (j ∷ is) g true e h = some_aggs j is (first_total j is (is_total j) refl h)
groups_some (written.Named x name) is g true e h = absurd (true≢false (sym e))
groups_some (written.Total a name) is g true e h = absurd (true≢false (sym e))
groups_some (written.Framed o name) is g true e h = absurd (true≢false (sym e))

grouped_can : (p : written.Pick) (f : Option written.Expr) (o : Option Grouping) (source : tree.QueryTree) → IsSoundPick p → IsSoundFilter f → ((g : Grouping) → o ≡ Some g → IsSoundGrouping g) → mixed_pick p o ≡ None → CanBeSource (query_alike source)
    → CanBeQuery (query_alike (grouped p (option_map expr_meaning f) o source))
grouped_can p f None source h w r m s = by_pick_can p f source h w s
grouped_can (written.All at) f (Some g) source h w r m s = absurd (not_some at (sym m))
grouped_can (written.Items []) f (Some g) source h w r m s = absurd h.0
grouped_can (written.Items (i ∷ is)) f (Some g) source h w r m s =
    let k = r g refl in
    let a = each_sound (i ∷ is) h.0 h.1 in
    ((it_word, filtered_can f source w s, k.0, k.1, (groups_some i is g (is_key g.key i) refl m, aggs_can (i ∷ is) a, it_word), tt), tt)

abbrev IsSoundWindow : Window → Type 0
IsSoundWindow w = IsSmall w.size.value × IsSmall w.advance.value

select_can : (p : written.Pick) (o : Option Window) (f : Option written.Expr) (g : Option Grouping) (source : tree.QueryTree) → IsSoundPick p → ((w : Window) → o ≡ Some w → IsSoundWindow w) → IsSoundFilter f → ((r : Grouping) → g ≡ Some r → IsSoundGrouping r) → mixed_pick p g ≡ None → CanBeSource (query_alike source)
    → CanBeQuery (query_alike (select_meaning p o (option_map expr_meaning f) g source))
select_can p None f g source h w k r m s = grouped_can p f g source h k r m s
select_can p (Some v) f g source h w k r m s =
    let z = w v refl in
    let b = grouped_can p f g (tree.Read (it v.at)) h k r m it_word in
    ((it_word, s, z.0, z.1, b.0, b.1), tt)

-- ---- queries

window_sound : (o : Option Window) → AreSound (written.spell_if_window o) → (w : Window) → o ≡ Some w → IsSoundWindow w
window_sound None h w e = absurd (not_some w e)
window_sound (Some v) h w e = subst IsSoundWindow (some_same v w e) (h.1.1.0, h.1.1.1.1.0)

grouping_sound : (o : Option Grouping) → AreSound (written.spell_if_grouping o) → (g : Grouping) → o ≡ Some g → IsSoundGrouping g
grouping_sound None h g e = absurd (not_some g e)
grouping_sound (Some r) h g e = subst IsSoundGrouping (some_same r g e) (h.1.1.0, h.1.1.1.1.0)

least_left : (a b : Option ℕ) → least a b ≡ None → a ≡ None
least_left None b h = refl
least_left (Some a) None h = absurd (not_some a (sym h))
least_left (Some a) (Some b) h = absurd (either_some (nat_le a b) a b h)

least_right : (a b : Option ℕ) → least a b ≡ None → b ≡ None
least_right None b h = h
least_right (Some a) None h = refl
least_right (Some a) (Some b) h = absurd (either_some (nat_le a b) a b h)

join_can : (j : Joining) (l r : tree.QueryTree) (at : ℕ) → CanBeQuery (query_alike l) → CanBeQuery (query_alike r) → CanBeQuery (query_alike (join_meaning j l r at))
join_can Union l r at p q = ((p.0, p.1, q.0, q.1), tt)
join_can (Arrival b w) l r at p q = ((p.0, p.1, q.0, q.1), tt)
join_can Concat l r at p q = ((p.0, p.1, q.0, q.1), tt)

query_of_term : (q : written.Query) → written.IsTerm q → written.IsQuery q
query_of_term (written.Stream name) g = absurd g
query_of_term (written.InBrackets at q) g = g
query_of_term (written.Select pick source window filter grouping) g = g
query_of_term (written.Windows at var source window open' body) g = g
query_of_term (written.Groups at var source grouping window open' body) g = g
query_of_term (written.AsOf' w l r grouping) g = absurd g
query_of_term (written.Join' join at l r) g = absurd g

source_of_side : (q : written.Query) → written.IsSide q → written.IsSource q
source_of_side (written.Stream name) g = tt
source_of_side (written.InBrackets at q) g = g
source_of_side (written.Select pick source window filter grouping) g = absurd g
source_of_side (written.Windows at var source window open' body) g = absurd g
source_of_side (written.Groups at var source grouping window open' body) g = absurd g
source_of_side (written.AsOf' w l r grouping) g = absurd g
source_of_side (written.Join' join at l r) g = absurd g

-- what is no bare source is no as-of join
no_join : (q : QueryShape) → IsNoStream q → IsNoJoin q
no_join (shape.Read name) n = tt
no_join (shape.Rows pick filter source) n = tt
no_join (shape.Total aggs source) n = tt
no_join (shape.Frames items filter slots source) n = tt
no_join (shape.Each measure var source size advance body) n = tt
no_join (shape.PerGroup var source key groups body) n = tt
no_join (shape.Partition var source key groups size advance body) n = tt
no_join (shape.Union l r) n = tt
no_join (shape.ByArrival l r) n = tt
no_join (shape.AsOf l r slots) n = absurd n
no_join (shape.Concat l r) n = tt

-- a source, and a query
record Can (q : written.Query) : Type 0 where
  source : written.IsSource q → CanBeSource (query_alike (query_meaning q))
  query : written.IsQuery q → CanBeQuery (query_alike (query_meaning q))

side_alone : (q : written.Query) → Can q → written.IsSide q → IsNoJoin (query_alike (query_meaning q))
side_alone (written.Stream name) c g = tt
side_alone (written.InBrackets at q) c g = no_join (query_alike (query_meaning q)) (c.query g).1
side_alone (written.Select pick source window filter grouping) c g = absurd g
side_alone (written.Windows at var source window open' body) c g = absurd g
side_alone (written.Groups at var source grouping window open' body) c g = absurd g
side_alone (written.AsOf' w l r grouping) c g = absurd g
side_alone (written.Join' join at l r) c g = absurd g

query_can : (q : written.Query) → AreSound (written.spell_query q) → mixed_in q ≡ None → Can q
query_can (written.Stream name) h m = record { source = λ g. h.0; query = λ g. absurd g }
query_can (written.InBrackets at q) h m =
    let c = query_can q (sound_parts (written.spell_query q) (token.Plain plain.Close ∷ []) h.1).0 m in
    record { source = λ g. (c.query g).0; query = λ g. c.query g }
query_can (written.Select pick source window filter grouping) h m =
    let windows = written.spell_if_window window in
    let filters = written.spell_filter filter in
    let groups = written.spell_if_grouping grouping in
    let a = sound_parts (written.spell_pick pick) (token.Plain plain.From ∷ (written.spell_query source ++ (windows ++ (filters ++ groups)))) h.1 in
    let b = sound_parts (written.spell_query source) (windows ++ (filters ++ groups)) a.1.1 in
    let c = sound_parts windows (filters ++ groups) b.1 in
    let d = sound_parts filters groups c.1 in
    let s = query_can source b.0 (least_right (mixed_pick pick grouping) (mixed_in source) m) in
    record {
      source = λ g. absurd g;
      query = λ g. select_can pick window filter grouping (query_meaning source) (g.0, a.0) (window_sound window c.0) (g.2, d.0) (grouping_sound grouping d.1) (least_left (mixed_pick pick grouping) (mixed_in source) m) (s.source g.1);
    }
query_can (written.Windows at var source window open' body) h m =
    let tail : List Token = written.spell_query body ++ token.Plain plain.Close ∷ [] in
    let a = sound_parts (written.spell_query source) (written.spell_window window ++ token.Open open' ∷ tail) h.1.1.1 in
    let b = sound_parts (written.spell_window window) (token.Open open' ∷ tail) a.1 in
    let c = sound_parts (written.spell_query body) (token.Plain plain.Close ∷ []) b.1.1 in
    let s = query_can source a.0 (least_left (mixed_in source) (mixed_in body) m) in
    let i = query_can body c.0 (least_right (mixed_in source) (mixed_in body) m) in
    record {
      source = λ g. absurd g;
      query = λ g. ((h.1.0, s.source g.0, b.0.1.1.0, b.0.1.1.1.1.0, (i.query g.1).0, (i.query g.1).1), tt);
    }
query_can (written.Groups at var source grouping None open' body) h m =
    let tail : List Token = written.spell_query body ++ token.Plain plain.Close ∷ [] in
    let a = sound_parts (written.spell_query source) (written.spell_grouping grouping ++ token.Open open' ∷ tail) h.1.1.1 in
    let b = sound_parts (written.spell_grouping grouping) (token.Open open' ∷ tail) a.1 in
    let c = sound_parts (written.spell_query body) (token.Plain plain.Close ∷ []) b.1.1 in
    let s = query_can source a.0 (least_left (mixed_in source) (mixed_in body) m) in
    let i = query_can body c.0 (least_right (mixed_in source) (mixed_in body) m) in
    record {
      source = λ g. absurd g;
      query = λ g. ((h.1.0, s.source g.0, b.0.1.0, b.0.1.1.1.0, (i.query g.1).0, (i.query g.1).1), tt);
    }
query_can (written.Groups at var source grouping (Some w) open' body) h m =
    let tail : List Token = written.spell_query body ++ token.Plain plain.Close ∷ [] in
    let windowed : List Token = written.spell_row_window (Some w) ++ token.Open open' ∷ tail in
    let a = sound_parts (written.spell_query source) (written.spell_grouping grouping ++ windowed) h.1.1.1 in
    let b = sound_parts (written.spell_grouping grouping) windowed a.1 in
    let d = sound_parts (written.spell_row_window (Some w)) (token.Open open' ∷ tail) b.1 in
    let c = sound_parts (written.spell_query body) (token.Plain plain.Close ∷ []) d.1.1 in
    let s = query_can source a.0 (least_left (mixed_in source) (mixed_in body) m) in
    let i = query_can body c.0 (least_right (mixed_in source) (mixed_in body) m) in
    record {
      source = λ g. absurd g;
      query = λ g. ((h.1.0, s.source g.0, b.0.1.0, b.0.1.1.1.0, d.0.1.1.0, d.0.1.1.1.1.0, (i.query g.1).0, (i.query g.1).1), tt);
    }
query_can (written.AsOf' w l r grouping) h m =
    let tail : List Token = written.spell_query r ++ written.spell_grouping grouping in
    let a = sound_parts (written.spell_query l) (written.spell_word word.AsOf w ∷ tail) h in
    let b = sound_parts (written.spell_query r) (written.spell_grouping grouping) a.1.1 in
    let x = query_can l a.0 (least_left (mixed_in l) (mixed_in r) m) in
    let y = query_can r b.0 (least_right (mixed_in l) (mixed_in r) m) in
    record {
      source = λ g. (
        x.source (source_of_side l g.0),
        side_alone l x g.0,
        y.source (source_of_side r g.1),
        side_alone r y g.1,
        b.1.1.0,
        b.1.1.1.1.0,
      );
      query = λ g. absurd g;
    }
query_can (written.Join' join at l r) h m =
    let a = sound_parts (written.spell_query l) (written.spell_join join at ++ written.spell_query r) h in
    let b = sound_parts (written.spell_join join at) (written.spell_query r) a.1 in
    let x = query_can l a.0 (least_left (mixed_in l) (mixed_in r) m) in
    let y = query_can r b.1 (least_right (mixed_in l) (mixed_in r) m) in
    record {
      source = λ g. absurd g;
      query = λ g. join_can join (query_meaning l) (query_meaning r) at (x.query g.0) (y.query (query_of_term r g.1));
    }

-- what is written of a query and a name
pub record CanBeStatement (s : shape.StatementShape) : Type 0 where
  pub query : CanBeQuery s.query
  pub name : IsNameWord s.name

pub statement_can : (w : written.Statement) → written.IsQuery w.query → AreSound (written.spell_statement w) → mixed_in w.query ≡ None → CanBeStatement (statement_alike (statement_meaning w))
statement_can w g h m =
    let a = sound_parts (written.spell_query w.query) (token.Plain plain.Into ∷ token.Name w.name ∷ written.spell_end w.closed) h in
    record { query = (query_can w.query a.0 m).query g; name = a.1.1.0 }
