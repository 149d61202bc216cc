-- How deep and how long a written statement may be.
use Rattle.std.specs.Prelude.{◌≡◌, ℕ, ◌+◌, ◌≤◌, max, true, ◌↔◌, List, [], ◌∷◌, Option, Some, None}
use Rattle.std.specs.List.{AllByRecursion}
use Rattle.gl_bits.specs.Limits.{most_brackets, most_joins, most_operators}
use Rattle.gl_query_reader.specs.Limits.{none_counted, keeps_limits}
use Rattle.gl_query_reader.specs.Written.{Expr, Column, Number, Minus, Letters, Brackets, Cast, Flip, Not, Binary, Agg, Count, Fold', Wsum, OverAgg, CountOf, FoldOf, LastOf, Filtering, FilterOf, OverHead, LagOf, Ranged, Over, OverOf, Item, Bare, Named, Total, Framed, Pick, All, Items, Query, Stream, InBrackets, Select, Windows, Groups, AsOf', Join', Statement, spell_statement, Parameter}

-- how many round brackets are open at once
abbrev pub expr_depth : Expr → ℕ
expr_depth (Column name) = 0
expr_depth (Number n) = 0
expr_depth (Minus at n) = 0
expr_depth (Parameter at name) = 0
expr_depth (Letters text at) = 0
expr_depth (Brackets at e) = expr_depth e + 1
expr_depth (Cast at open' e word kind) = expr_depth e + 1
expr_depth (Flip at e) = expr_depth e
expr_depth (Not at e) = expr_depth e
expr_depth (Binary o at l r) = max (expr_depth l) (expr_depth r)

-- how many brackets are open at once in an aggregate, its own among them
abbrev pub agg_depth : Agg → ℕ
agg_depth (Count at open') = 1
agg_depth (Fold' fold at open' e) = expr_depth e + 1
agg_depth (Wsum at open' e weights) = expr_depth e + 1

-- how many brackets are open at once in a function over rows, its own among them
abbrev pub over_agg_depth : OverAgg → ℕ
over_agg_depth (CountOf at open') = 1
over_agg_depth (FoldOf fold at open' e) = expr_depth e + 1
over_agg_depth (LastOf word open' e) = expr_depth e + 1

-- how many brackets are open at once in a FILTER, its own among them
abbrev pub filtering_depth : Option Filtering → ℕ
filtering_depth None = 0
filtering_depth (Some (FilterOf word open' e)) = expr_depth e + 1

-- how many brackets are open at once in what stands before OVER
abbrev pub head_depth : OverHead → ℕ
head_depth (LagOf word open' e back) = expr_depth e + 1
head_depth (Ranged agg filter) = max (over_agg_depth agg) (filtering_depth filter)

-- how many brackets are open at once in a function with OVER: what stands before OVER has one at least, as OVER has
abbrev pub over_depth : Over → ℕ
over_depth (OverOf head word open' part rows) = max (head_depth head) 1

-- how many brackets are open at once in an item
abbrev pub item_depth : Item → ℕ
item_depth (Bare name) = 0
item_depth (Named e name) = expr_depth e
item_depth (Total agg name) = agg_depth agg
item_depth (Framed over name) = over_depth over

-- how many brackets are open at once in any of the items
abbrev pub items_depth : List Item → ℕ
items_depth [] = 0
items_depth (i ∷ is) = max (item_depth i) (items_depth is)

-- how many brackets are open at once in what is picked
abbrev pub pick_depth : Pick → ℕ
pick_depth (All at) = 0
pick_depth (Items items) = items_depth items

-- how many brackets are open at once in a filter
abbrev pub filter_depth : Option Expr → ℕ
filter_depth None = 0
filter_depth (Some e) = expr_depth e

-- how many brackets are open at once in a query, those of bodies among them
abbrev pub depth_of : Query → ℕ
depth_of (Stream name) = 0
depth_of (InBrackets at q) = depth_of q + 1
depth_of (Select pick source window filter grouping) =
    max (pick_depth pick) (max (depth_of source) (filter_depth filter))
depth_of (Windows at var source window open' body) = max (depth_of source) (depth_of body + 1)
depth_of (Groups at var source grouping window open' body) = max (depth_of source) (depth_of body + 1)
depth_of (AsOf' w l r grouping) = max (depth_of l) (depth_of r)
depth_of (Join' join at l r) = max (depth_of l) (depth_of r)

-- how many UNION and CONCAT there are
abbrev pub joins_of : Query → ℕ
joins_of (Stream name) = 0
joins_of (InBrackets at q) = joins_of q
joins_of (Select pick source window filter grouping) = joins_of source
joins_of (Windows at var source window open' body) = joins_of source + joins_of body
joins_of (Groups at var source grouping window open' body) = joins_of source + joins_of body
joins_of (AsOf' w l r grouping) = joins_of l + joins_of r
joins_of (Join' join at l r) = joins_of l + joins_of r + 1

-- how many operators, NOT and CAST an expression has
abbrev pub operators_of : Expr → ℕ
operators_of (Column name) = 0
operators_of (Number n) = 0
operators_of (Minus at n) = 0
operators_of (Parameter at name) = 0
operators_of (Letters text at) = 0
operators_of (Brackets at e) = operators_of e
operators_of (Cast at open' e word kind) = operators_of e + 1
operators_of (Flip at e) = operators_of e + 1
operators_of (Not at e) = operators_of e + 1
operators_of (Binary o at l r) = operators_of l + operators_of r + 1

-- an expression has no more operators than are allowed
abbrev pub IsShort : Expr → Type 0
IsShort e = operators_of e ≤ most_operators

-- each whole expression is short
abbrev pub AggIsShort : Agg → Type 0
AggIsShort (Count at open') = Unit {0}
AggIsShort (Fold' fold at open' e) = IsShort e
AggIsShort (Wsum at open' e weights) = IsShort e

-- the argument of a function over rows is short
abbrev pub OverAggIsShort : OverAgg → Type 0
OverAggIsShort (CountOf at open') = Unit {0}
OverAggIsShort (FoldOf fold at open' e) = IsShort e
OverAggIsShort (LastOf word open' e) = IsShort e

-- the condition of FILTER is short, where there is one
abbrev pub FilteringIsShort : Option Filtering → Type 0
FilteringIsShort None = Unit {0}
FilteringIsShort (Some (FilterOf word open' e)) = IsShort e

-- each whole expression before OVER is short
abbrev pub HeadIsShort : OverHead → Type 0
HeadIsShort (LagOf word open' e back) = IsShort e
HeadIsShort (Ranged agg filter) = OverAggIsShort agg × FilteringIsShort filter

-- each whole expression of a function with OVER is short
abbrev pub OverIsShort : Over → Type 0
OverIsShort (OverOf head word open' part rows) = HeadIsShort head

-- the expression of an item is short
abbrev pub ItemIsShort : Item → Type 0
ItemIsShort (Bare name) = Unit {0}
ItemIsShort (Named e name) = IsShort e
ItemIsShort (Total agg name) = AggIsShort agg
ItemIsShort (Framed over name) = OverIsShort over

-- the expressions of all items that are picked are short
abbrev pub PickIsShort : Pick → Type 0
PickIsShort (All at) = Unit {0}
PickIsShort (Items items) = AllByRecursion ItemIsShort items

-- the expression of a filter is short, where there is a filter
abbrev pub FilterIsShort : Option Expr → Type 0
FilterIsShort None = Unit {0}
FilterIsShort (Some e) = IsShort e

-- every whole expression in a query is short
abbrev pub AreShort : Query → Type 0
AreShort (Stream name) = Unit {0}
AreShort (InBrackets at q) = AreShort q
AreShort (Select pick source window filter grouping) = PickIsShort pick × AreShort source × FilterIsShort filter
AreShort (Windows at var source window open' body) = AreShort source × AreShort body
AreShort (Groups at var source grouping window open' body) = AreShort source × AreShort body
AreShort (AsOf' w l r grouping) = AreShort l × AreShort r
AreShort (Join' join at l r) = AreShort l × AreShort r

-- a statement keeps all limits: brackets, joins, and the operators of each expression
pub record IsWithinLimits (w : Statement) : Type 0 where
  pub brackets : depth_of w.query ≤ most_brackets
  pub joins : joins_of w.query ≤ most_joins
  pub short : AreShort w.query

-- a statement is within the limits exactly where the counts of its tokens keep them
abbrev pub LimitsAreCounted : Type 0
LimitsAreCounted = (w : Statement) → IsWithinLimits w ↔ (keeps_limits none_counted (spell_statement w) ≡ true)
