-- What holds of each expression and each name that is written holds in what is meant.
use Rattle.std.proofs.Common.{◌≡◌, refl, ℕ, Bool, true, false, List, [], ◌∷◌, map, Option, Some, None}
use Rattle.std.specs.Prelude.{codes, option_map}
use Rattle.std.specs.List.{AllByRecursion, list_any}
use Rattle.gl_query_tokens.specs.declared.token.Fold.{Fold}
use Rattle.gl_query_tokens.specs.declared.token.Fold.TheVariants as fold
use Rattle.gl_query_reader.specs.declared.joins.Joining.{Joining}
use Rattle.gl_query_reader.specs.declared.joins.Joining.TheVariants as joining
use Rattle.gl_query.specs.Shapes.{ExprShape, FrameItemShape, slots_shape}
use Rattle.gl_query.specs.Sizes.{looks_back}
use Rattle.gl_query.specs.Trees.{ExprTree, QueryTree, Read}
use Rattle.gl_query.specs.Alike.{expr_alike, agg_alike, item_alike, agg_item_alike, frame_agg_alike, frame_alike, frame_item_alike, query_alike}
use Rattle.gl_query.specs.Parts.{InAgg, InItem, InAggItem, InFrameAgg, InFrame, InFrameItem, InFilter, InSlots, InQuery}
use Rattle.gl_query_reader.specs.declared.written.FrameRows.{FrameRows}
use Rattle.gl_query_reader.specs.declared.written.Part.{Part}
use Rattle.gl_query_reader.specs.declared.written.Window.{Window}
use Rattle.gl_query_reader.specs.declared.written.Grouping.{Grouping}
use Rattle.gl_query_reader.specs.Written as written
use Rattle.gl_query_reader.specs.Meaning.{expr_meaning, fold_meaning, agg_meaning, fold_over, over_agg_meaning, filtering_meaning, frame_meaning, over_meaning, plain_items, agg_items, frame_items, has_over, slots_in, it, filtered, by_over, by_items, begins_total, by_pick, items_in, grouped, select_meaning, join_meaning, query_meaning}

-- E of each whole expression that is written, and N of each name
abbrev pub ExprHolds : (ExprShape → Type 0) → written.Expr → Type 0
ExprHolds E e = E (expr_alike (expr_meaning e))

abbrev pub AggHolds : (ExprShape → Type 0) → written.Agg → Type 0
AggHolds E (written.Count at open') = Unit {0}
AggHolds E (written.Fold' f at open' e) = ExprHolds E e
AggHolds E (written.Wsum at open' e weights) = ExprHolds E e

abbrev pub OverAggHolds : (ExprShape → Type 0) → written.OverAgg → Type 0
OverAggHolds E (written.CountOf at open') = Unit {0}
OverAggHolds E (written.FoldOf f at open' e) = ExprHolds E e
OverAggHolds E (written.LastOf w open' e) = ExprHolds E e

abbrev pub FilteringHolds : (ExprShape → Type 0) → Option written.Filtering → Type 0
FilteringHolds E None = Unit {0}
FilteringHolds E (Some (written.FilterOf w open' e)) = ExprHolds E e

abbrev pub HeadHolds : (ExprShape → Type 0) → written.OverHead → Type 0
HeadHolds E (written.LagOf w open' e back) = ExprHolds E e
HeadHolds E (written.Ranged a f) = OverAggHolds E a × FilteringHolds E f

abbrev pub PartHolds : (List ℕ → Type 0) → Option Part → Type 0
PartHolds N None = Unit {0}
PartHolds N (Some p) = N p.grouping.key.text

abbrev pub OverHolds : (ExprShape → Type 0) → (List ℕ → Type 0) → written.Over → Type 0
OverHolds E N (written.OverOf head w open' p r) = HeadHolds E head × PartHolds N p

abbrev pub ItemHolds : (ExprShape → Type 0) → (List ℕ → Type 0) → written.Item → Type 0
ItemHolds E N (written.Bare name) = ExprHolds E (written.Column name) × N name.text
ItemHolds E N (written.Named e name) = ExprHolds E e × N name.text
ItemHolds E N (written.Total a name) = AggHolds E a × N name.text
ItemHolds E N (written.Framed o name) = OverHolds E N o × N name.text

abbrev pub PickHolds : (ExprShape → Type 0) → (List ℕ → Type 0) → written.Pick → Type 0
PickHolds E N (written.All at) = Unit {0}
PickHolds E N (written.Items items) = AllByRecursion (ItemHolds E N) items

abbrev pub FilterHolds : (ExprShape → Type 0) → Option written.Expr → Type 0
FilterHolds E None = Unit {0}
FilterHolds E (Some e) = ExprHolds E e

abbrev pub GroupingHolds : (List ℕ → Type 0) → Option Grouping → Type 0
GroupingHolds N None = Unit {0}
GroupingHolds N (Some g) = N g.key.text

abbrev pub QueryHolds : (ExprShape → Type 0) → (List ℕ → Type 0) → written.Query → Type 0
QueryHolds E N (written.Stream name) = N name.text
QueryHolds E N (written.InBrackets at q) = QueryHolds E N q
QueryHolds E N (written.Select pick source window filter grouping) = QueryHolds E N source × PickHolds E N pick × FilterHolds E filter × GroupingHolds N grouping
QueryHolds E N (written.Windows at var source window open' body) = QueryHolds E N source × QueryHolds E N body × N var.text
QueryHolds E N (written.Groups at var source grouping window open' body) = QueryHolds E N source × QueryHolds E N body × N var.text × N grouping.key.text
QueryHolds E N (written.AsOf' w l r grouping) = QueryHolds E N l × QueryHolds E N r × N grouping.key.text
QueryHolds E N (written.Join' j at l r) = QueryHolds E N l × QueryHolds E N r

-- the frames that look back are those with OVER
pub back_is_over : (is : List written.Item) → list_any (λ (i : FrameItemShape). looks_back i.frame) (map frame_item_alike (frame_items is)) ≡ has_over is
back_is_over [] = refl
back_is_over (written.Bare name ∷ is) = back_is_over is
back_is_over (written.Named e name ∷ is) = back_is_over is
back_is_over (written.Total a name ∷ is) = back_is_over is
back_is_over (written.Framed (written.OverOf (written.LagOf v begin e b) w open' p r) name ∷ is) = refl
back_is_over (written.Framed (written.OverOf (written.Ranged a f) w open' p r) name ∷ is) = refl

-- E holds of each expression that is meant, and N of each name
module _ (E : ExprShape → Type 0) (N : List ℕ → Type 0) (own : N (codes "it")) where
  fold_in : (f : Fold) (e : ExprTree) → E (expr_alike e) → InAgg E (agg_alike (fold_meaning f e))
  fold_in fold.Sum e h = h
  fold_in fold.Min e h = h
  fold_in fold.Max e h = h
  fold_in fold.Avg e h = h

  agg_in : (a : written.Agg) → AggHolds E a → InAgg E (agg_alike (agg_meaning a))
  agg_in (written.Count at open') h = tt
  agg_in (written.Fold' f at open' e) h = fold_in f (expr_meaning e) h
  agg_in (written.Wsum at open' e weights) h = h

  plain_in : (is : List written.Item) → AllByRecursion (ItemHolds E N) is → AllByRecursion (InItem E N) (map item_alike (plain_items is))
  plain_in [] h = tt
  plain_in (written.Bare name ∷ is) h = (h.0, plain_in is h.1)
  plain_in (written.Named e name ∷ is) h = (h.0, plain_in is h.1)
  plain_in (written.Total a name ∷ is) h = plain_in is h.1
  plain_in (written.Framed o name ∷ is) h = plain_in is h.1

  aggs_in : (is : List written.Item) → AllByRecursion (ItemHolds E N) is → AllByRecursion (InAggItem E N) (map agg_item_alike (agg_items is))
  aggs_in [] h = tt
  aggs_in (written.Bare name ∷ is) h = aggs_in is h.1
  aggs_in (written.Named e name ∷ is) h = aggs_in is h.1
  aggs_in (written.Total a name ∷ is) h = ((agg_in a h.0.0, h.0.1), aggs_in is h.1)
  aggs_in (written.Framed o name ∷ is) h = aggs_in is h.1

  fold_over_in : (f : Fold) (e : ExprTree) → E (expr_alike e) → InFrameAgg E (frame_agg_alike (fold_over f e))
  fold_over_in fold.Sum e h = h
  fold_over_in fold.Min e h = h
  fold_over_in fold.Max e h = h
  fold_over_in fold.Avg e h = h

  over_agg_in : (a : written.OverAgg) → OverAggHolds E a → InFrameAgg E (frame_agg_alike (over_agg_meaning a))
  over_agg_in (written.CountOf at open') h = tt
  over_agg_in (written.FoldOf f at open' e) h = fold_over_in f (expr_meaning e) h
  over_agg_in (written.LastOf w open' e) h = h

  filtering_in : (f : Option written.Filtering) → FilteringHolds E f → InFilter E (option_map expr_alike (filtering_meaning f))
  filtering_in None h = tt
  filtering_in (Some (written.FilterOf w open' e)) h = h

  frame_in : (head : written.OverHead) (r : Option FrameRows) → HeadHolds E head → InFrame E (frame_alike (frame_meaning head r))
  frame_in (written.LagOf w open' e back) r h = h
  frame_in (written.Ranged a f) r h = (over_agg_in a h.0, filtering_in f h.1)

  over_in : (o : written.Over) → OverHolds E N o → InFrame E (frame_alike (over_meaning o))
  over_in (written.OverOf head w open' p r) h = frame_in head r h.0

  frames_in : (is : List written.Item) → AllByRecursion (ItemHolds E N) is → AllByRecursion (InFrameItem E N) (map frame_item_alike (frame_items is))
  frames_in [] h = tt
  frames_in (written.Bare name ∷ is) h = (h.0, frames_in is h.1)
  frames_in (written.Named e name ∷ is) h = (h.0, frames_in is h.1)
  frames_in (written.Total a name ∷ is) h = frames_in is h.1
  frames_in (written.Framed o name ∷ is) h = ((over_in o h.0.0, h.0.1), frames_in is h.1)

  slots_hold : (is : List written.Item) → AllByRecursion (ItemHolds E N) is → InSlots N (option_map slots_shape (slots_in is))
  slots_hold [] h = tt
  slots_hold (written.Bare name ∷ is) h = slots_hold is h.1
  slots_hold (written.Named e name ∷ is) h = slots_hold is h.1
  slots_hold (written.Total a name ∷ is) h = slots_hold is h.1
  slots_hold (written.Framed (written.OverOf head w open' None r) name ∷ is) h = tt
  slots_hold (written.Framed (written.OverOf head w open' (Some p) r) name ∷ is) h = h.0.0.1

  filter_in : (f : Option written.Expr) → FilterHolds E f → InFilter E (option_map expr_alike (option_map expr_meaning f))
  filter_in None h = tt
  filter_in (Some e) h = h

  filtered_in : (f : Option written.Expr) (source : QueryTree) → FilterHolds E f → InQuery E N (query_alike source) → InQuery E N (query_alike (filtered (option_map expr_meaning f) source))
  filtered_in None source h s = s
  filtered_in (Some e) source h s = (s, tt, h)

  by_over_in : (b : Bool) (is : List written.Item) (f : Option written.Expr) (source : QueryTree) → AllByRecursion (ItemHolds E N) is → FilterHolds E f → InQuery E N (query_alike source)
      → InQuery E N (query_alike (by_over b is (option_map expr_meaning f) source))
  by_over_in true is f source h g s = (s, frames_in is h, filter_in f g, slots_hold is h)
  by_over_in false is f source h g s = (s, plain_in is h, filter_in f g)

  by_items_in : (b : Bool) (is : List written.Item) (f : Option written.Expr) (source : QueryTree) → AllByRecursion (ItemHolds E N) is → FilterHolds E f → InQuery E N (query_alike source)
      → InQuery E N (query_alike (by_items b is (option_map expr_meaning f) source))
  by_items_in true is f source h g s = (filtered_in f source g s, aggs_in is h)
  by_items_in false is f source h g s = by_over_in (has_over is) is f source h g s

  by_pick_in : (p : written.Pick) (f : Option written.Expr) (source : QueryTree) → PickHolds E N p → FilterHolds E f → InQuery E N (query_alike source)
      → InQuery E N (query_alike (by_pick p (option_map expr_meaning f) source))
  by_pick_in (written.All at) f source h g s = (s, tt, filter_in f g)
  by_pick_in (written.Items items) f source h g s = by_items_in (begins_total items) items f source h g s

  items_hold : (p : written.Pick) → PickHolds E N p → AllByRecursion (ItemHolds E N) (items_in p)
  items_hold (written.All at) h = tt
  items_hold (written.Items items) h = h

  grouped_in : (p : written.Pick) (f : Option written.Expr) (o : Option Grouping) (source : QueryTree) → PickHolds E N p → FilterHolds E f → GroupingHolds N o
      → InQuery E N (query_alike source) → InQuery E N (query_alike (grouped p (option_map expr_meaning f) o source))
  grouped_in p f None source h g k s = by_pick_in p f source h g s
  grouped_in p f (Some r) source h g k s = (filtered_in f source g s, (own, aggs_in (items_in p) (items_hold p h)), own, k)

  select_in : (p : written.Pick) (o : Option Window) (f : Option written.Expr) (g : Option Grouping) (source : QueryTree) → PickHolds E N p → FilterHolds E f → GroupingHolds N g
      → InQuery E N (query_alike source) → InQuery E N (query_alike (select_meaning p o (option_map expr_meaning f) g source))
  select_in p None f g source h k r s = grouped_in p f g source h k r s
  select_in p (Some w) f g source h k r s = (s, grouped_in p f g (Read (it w.at)) h k r own, own)

  join_in : (j : Joining) (l r : QueryTree) (at : ℕ) → InQuery E N (query_alike l) → InQuery E N (query_alike r) → InQuery E N (query_alike (join_meaning j l r at))
  join_in joining.Union l r at p q = (p, q)
  join_in (joining.Arrival by' w) l r at p q = (p, q)
  join_in joining.Concat l r at p q = (p, q)

  pub query_in : (q : written.Query) → QueryHolds E N q → InQuery E N (query_alike (query_meaning q))
  query_in (written.Stream name) h = h
  query_in (written.InBrackets at q) h = query_in q h
  query_in (written.Select pick source window filter grouping) h =
      select_in pick window filter grouping (query_meaning source) h.1 h.2 h.3 (query_in source h.0)
  query_in (written.Windows at var source window open' body) h = (query_in source h.0, query_in body h.1, h.2)
  query_in (written.Groups at var source grouping None open' body) h = (query_in source h.0, query_in body h.1, h.2, h.3)
  query_in (written.Groups at var source grouping (Some w) open' body) h = (query_in source h.0, query_in body h.1, h.2, h.3)
  query_in (written.AsOf' w l r grouping) h = (query_in l h.0, query_in r h.1, h.2)
  query_in (written.Join' j at l r) h = join_in j (query_meaning l) (query_meaning r) at (query_in l h.0) (query_in r h.1)
