-- Each select of a statement that a text has has an item; so its result has a column.
use Rattle.std.proofs.Common.{◌≡◌, ◌⊎◌, ℕ, ◌≤◌, Bool, true, false, List, [], ◌∷◌, length, map, Option, Some, None, refl, sym, subst, ◌∙◌, inl, inr, arith}
use Rattle.std.proofs.lemmas.Bool.{or_parts}
use Rattle.std.specs.Prelude.{nat_le, option_map, if◌then◌else◌}
use Rattle.gl_query.specs.declared.tree.Name.{Name}
use Rattle.gl_query.specs.declared.tree.Statement.{Statement}
use Rattle.gl_query.specs.Alike.{item_alike, agg_item_alike, query_alike}
use Rattle.gl_query.specs.Shapes.{QueryShape, query_shape}
use Rattle.gl_query.specs.Sizes.{HasItems}
use Rattle.gl_query.specs.Trees.{ExprTree, QueryTree, StatementTree, Read, statement_tree}
use Rattle.gl_query.proofs.Alike.{query_same}
use Rattle.gl_query.specs.Laws.{AcceptedHaveRealColumns}
use Rattle.gl_query_reader.specs.declared.joins.Joining.{Joining}
use Rattle.gl_query_reader.specs.declared.joins.Joining.TheVariants as joining
use Rattle.gl_query_reader.specs.declared.written.Grouping.{Grouping}
use Rattle.gl_query_reader.specs.declared.written.RowWindow.{RowWindow}
use Rattle.gl_query_reader.specs.declared.written.Window.{Window}
use Rattle.gl_query_reader.specs.Grammar.{HasStatement}
use Rattle.gl_query_reader.specs.Meaning.{agg_items, by_items, by_over, has_over, is_framed, each_group, expr_meaning, filtered, grouped, is_total, it, join_meaning, plain_items, query_meaning, select_meaning}
use Rattle.gl_query_reader.specs.Mixed.{behind_key, first_other, is_key, item_at, least, mixed_in, mixed_pick}
use Rattle.gl_query_reader.proofs.Meanings.{back_is_over}
use Rattle.gl_query_reader.specs.Written.{IsPick, IsQuery, IsSide, IsSource, IsTerm}
use Rattle.gl_query_reader.specs.Written as written
use Rattle.gl_query_texts.specs.Judged.{AcceptedTextsHaveColumns}

-- ---- items

plain_some : (i : written.Item) (is : List written.Item) → is_total i ≡ false → is_framed i ≡ false → 1 ≤ length (map item_alike (plain_items (i ∷ is)))
plain_some (written.Bare name) is e f = omega arith
plain_some (written.Named x name) is e f = omega arith
plain_some (written.Total a name) is e f = absurd cc
plain_some (written.Framed o name) is e f = absurd cc

aggs_some : (i : written.Item) (is : List written.Item) → is_total i ≡ true → 1 ≤ length (map agg_item_alike (agg_items (i ∷ is)))
aggs_some (written.Bare name) is e = absurd cc
aggs_some (written.Named x name) is e = absurd cc
aggs_some (written.Total a name) is e = omega arith
aggs_some (written.Framed o name) is e = absurd cc

-- behind the key stands an aggregate
first_total : (j : written.Item) (js : List written.Item) → first_other true (j ∷ js) ≡ None → is_total j ≡ true
first_total (written.Bare name) js e = absurd cc
first_total (written.Named x name) js e = absurd cc
first_total (written.Total a name) js e = refl
first_total (written.Framed o name) js e = absurd cc

behind_some : (g : Grouping) (is : List written.Item) → behind_key g is ≡ None → 1 ≤ length (map agg_item_alike (agg_items is))
behind_some g [] e = absurd cc
behind_some g (j ∷ js) e = aggs_some j js (first_total j js e)

key_some : (g : Grouping) (i : written.Item) (is : List written.Item) → (if is_key g.key i then behind_key g is else Some (item_at i)) ≡ None → 1 ≤ length (map agg_item_alike (agg_items (i ∷ is)))
key_some g (written.Bare name) is e = by (is_key g.key (written.Bare name)) refl
  where
    by : (b : Bool) → is_key g.key (written.Bare name) ≡ b → 1 ≤ length (map agg_item_alike (agg_items is))
    by true k = behind_some g is (rw k at e)
    by false k = absurd (let f : ◌≡◌ {A = Option ℕ} (Some (item_at (written.Bare name))) None = rw k at e in cc)
key_some g (written.Named x name) is e = absurd cc
key_some g (written.Total a name) is e = absurd cc
key_some g (written.Framed o name) is e = absurd cc

-- ---- selects

filtered_have : (f : Option ExprTree) (source : QueryTree) → HasItems (query_alike source) → HasItems (query_alike (filtered f source))
filtered_have None source s = s
filtered_have (Some e) source s = (s, tt)

by_over_have : (b : Bool) (i : written.Item) (is : List written.Item) (f : Option ExprTree) (source : QueryTree) → is_total i ≡ false → has_over (i ∷ is) ≡ b → HasItems (query_alike source)
    → HasItems (query_alike (by_over b (i ∷ is) f source))
by_over_have true i is f source e o s = (s, back_is_over (i ∷ is) ∙ o)
by_over_have false i is f source e o s = (s, plain_some i is e (or_parts (is_framed i) (has_over is) o).0)

by_items_have : (b : Bool) (i : written.Item) (is : List written.Item) (f : Option ExprTree) (source : QueryTree) → is_total i ≡ b → HasItems (query_alike source)
    → HasItems (query_alike (by_items b (i ∷ is) f source))
by_items_have true i is f source e s = (filtered_have f source s, aggs_some i is e)
by_items_have false i is f source e s = by_over_have (has_over (i ∷ is)) i is f source e refl s

grouped_have : (p : written.Pick) (f : Option ExprTree) (g : Option Grouping) (source : QueryTree) → IsPick p → mixed_pick p g ≡ None → HasItems (query_alike source)
    → HasItems (query_alike (grouped p f g source))
grouped_have (written.All at) f None source h m s = (s, tt)
grouped_have (written.All at) f (Some g) source h m s = absurd cc
grouped_have (written.Items []) f g source h m s = absurd h
grouped_have (written.Items (i ∷ is)) f None source h m s = by_items_have (is_total i) i is f source refl s
grouped_have (written.Items (i ∷ is)) f (Some g) source h m s = (filtered_have f source s, (tt, key_some g i is m))

select_have : (p : written.Pick) (w : Option Window) (f : Option ExprTree) (g : Option Grouping) (source : QueryTree) → IsPick p → mixed_pick p g ≡ None → HasItems (query_alike source)
    → HasItems (query_alike (select_meaning p w f g source))
select_have p None f g source h m s = grouped_have p f g source h m s
select_have p (Some w) f g source h m s = (s, grouped_have p f g (Read (it w.at)) h m tt)

join_have : (j : Joining) (l r : QueryTree) (at : ℕ) → HasItems (query_alike l) → HasItems (query_alike r) → HasItems (query_alike (join_meaning j l r at))
join_have joining.Union l r at p q = (p, q)
join_have (joining.Arrival b w) l r at p q = (p, q)
join_have joining.Concat l r at p q = (p, q)

-- ---- queries

least_none : (a b : Option ℕ) → least a b ≡ None → (a ≡ None) × (b ≡ None)
least_none None b e = (refl, e)
least_none (Some a) None e = absurd cc
least_none (Some a) (Some b) e = by (nat_le a b) refl
  where
    by : (c : Bool) → nat_le a b ≡ c → (◌≡◌ {A = Option ℕ} (Some a) None) × (◌≡◌ {A = Option ℕ} (Some b) None)
    by true k = absurd (let f : ◌≡◌ {A = Option ℕ} (Some a) None = rw k at e in cc)
    by false k = absurd (let f : ◌≡◌ {A = Option ℕ} (Some b) None = rw k at e in cc)

-- a query, a source or a term of UNION and CONCAT
abbrev IsPart : written.Query → Type 0
IsPart q = IsQuery q ⊎ (IsSource q ⊎ IsTerm q)

each_group_have : (var : Name) (g : Grouping) (w : Option RowWindow) (source body : QueryTree) (at : ℕ) → HasItems (query_alike source) → HasItems (query_alike body) → HasItems (query_alike (each_group var source g w body at))
each_group_have var g None source body at s b = (s, b)
each_group_have var g (Some w) source body at s b = (s, b)

-- a side of a join may stand where a source does
side_source : (q : written.Query) → IsSide q → IsSource q
side_source (written.Stream name) h = tt
side_source (written.InBrackets at q) h = h
side_source (written.Select p source w f g) h = absurd h
side_source (written.Windows at var source w open' body) h = absurd h
side_source (written.Groups at var source g w open' body) h = absurd h
side_source (written.AsOf' w l r grouping) h = absurd h
side_source (written.Join' j at l r) h = absurd h

query_have : (q : written.Query) → IsPart q → mixed_in q ≡ None → HasItems (query_alike (query_meaning q))
query_have (written.Stream name) h m = tt
query_have (written.InBrackets at q) (inl h) m = query_have q (inl h) m
query_have (written.InBrackets at q) (inr (inl h)) m = query_have q (inl h) m
query_have (written.InBrackets at q) (inr (inr h)) m = query_have q (inl h) m
query_have (written.Select p source w f g) (inl h) m =
    let n = least_none (mixed_pick p g) (mixed_in source) m in
    select_have p w (option_map expr_meaning f) g (query_meaning source) h.0 n.0 (query_have source (inr (inl h.1)) n.1)
query_have (written.Select p source w f g) (inr (inl h)) m = absurd h
query_have (written.Select p source w f g) (inr (inr h)) m =
    let n = least_none (mixed_pick p g) (mixed_in source) m in
    select_have p w (option_map expr_meaning f) g (query_meaning source) h.0 n.0 (query_have source (inr (inl h.1)) n.1)
query_have (written.Windows at var source w open' body) (inl h) m =
    let n = least_none (mixed_in source) (mixed_in body) m in (query_have source (inr (inl h.0)) n.0, query_have body (inl h.1) n.1)
query_have (written.Windows at var source w open' body) (inr (inl h)) m = absurd h
query_have (written.Windows at var source w open' body) (inr (inr h)) m =
    let n = least_none (mixed_in source) (mixed_in body) m in (query_have source (inr (inl h.0)) n.0, query_have body (inl h.1) n.1)
query_have (written.Groups at var source g w open' body) (inl h) m =
    let n = least_none (mixed_in source) (mixed_in body) m in each_group_have var g w (query_meaning source) (query_meaning body) at (query_have source (inr (inl h.0)) n.0) (query_have body (inl h.1) n.1)
query_have (written.Groups at var source g w open' body) (inr (inl h)) m = absurd h
query_have (written.Groups at var source g w open' body) (inr (inr h)) m =
    let n = least_none (mixed_in source) (mixed_in body) m in each_group_have var g w (query_meaning source) (query_meaning body) at (query_have source (inr (inl h.0)) n.0) (query_have body (inl h.1) n.1)
query_have (written.AsOf' w l r grouping) (inl h) m = absurd h
query_have (written.AsOf' w l r grouping) (inr (inl h)) m =
    let n = least_none (mixed_in l) (mixed_in r) m in (query_have l (inr (inl (side_source l h.0))) n.0, query_have r (inr (inl (side_source r h.1))) n.1)
query_have (written.AsOf' w l r grouping) (inr (inr h)) m = absurd h
query_have (written.Join' j at l r) (inl h) m =
    let n = least_none (mixed_in l) (mixed_in r) m in
    join_have j (query_meaning l) (query_meaning r) at (query_have l (inl h.0) n.0) (query_have r (inr (inr h.1)) n.1)
query_have (written.Join' j at l r) (inr (inl h)) m = absurd h
query_have (written.Join' j at l r) (inr (inr h)) m = absurd h

statement_has : (text : List ℕ) (s : Statement) → HasStatement text (statement_tree s) → HasItems (query_shape s.query)
statement_has text s h =
    let meant : HasItems (query_alike (query_meaning h.written.query)) = query_have h.written.query (inl h.derived.grammar) h.items in
    let read : HasItems (query_alike (statement_tree s).query) = subst (λ (m : StatementTree). HasItems (query_alike m.query)) (sym h.means) meant in
    subst (λ (q : QueryShape). HasItems q) (query_same s.query) read

pub have_columns : AcceptedHaveRealColumns → AcceptedTextsHaveColumns
have_columns columns schema text s fine is =
    let real = columns schema (query_shape s.query) fine is.accepted in
    record { some' = real.some' (statement_has text s is.has); result = real.result; kinds = real.kinds }
