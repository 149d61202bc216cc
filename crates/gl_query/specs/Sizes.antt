-- How large the expressions of a query are.
use Rattle.std.specs.Prelude.{ℕ, ◌+◌, ◌≤◌, Bool, true, false, List, length, IsTrue}
use Rattle.std.specs.List.{list_any}
use Rattle.gl_query.specs.Shapes.{ExprShape, FrameItemShape, FrameShape, PickShape, QueryShape}
use Rattle.gl_query.specs.Shapes as shape
use Rattle.gl_query.specs.Parts.{InQuery}

-- the operators, NOT, `~` and CAST in an expression; the sign of a number is no operator
abbrev pub operators_in : ExprShape → ℕ
operators_in (shape.Column name) = 0
operators_in (shape.Number n) = 0
operators_in (shape.Minus n) = 0
operators_in (shape.Letters text) = 0
operators_in (shape.Not e) = 1 + operators_in e
operators_in (shape.Flip e) = 1 + operators_in e
operators_in (shape.Cast kind e) = 1 + operators_in e
operators_in (shape.Binary op l r) = 1 + operators_in l + operators_in r

-- a whole expression has at most 256 of them
abbrev pub IsSmall : ExprShape → Type 0
IsSmall e = operators_in e ≤ 256

-- each whole expression of a query is small
abbrev pub QueryIsSmall : QueryShape → Type 0
QueryIsSmall q = InQuery IsSmall (λ name. Unit {0}) q

-- a select has at least one item
abbrev pub PickHasItems : PickShape → Type 0
PickHasItems shape.All = Unit {0}
PickHasItems (shape.Items items) = 1 ≤ length items

-- whether a frame looks at more than its row
abbrev pub looks_back : FrameShape → Bool
looks_back (shape.Own e) = false
looks_back (shape.Lag e back) = true
looks_back (shape.Over agg filter back) = true

-- a select of frames has one that looks at more than its row
abbrev pub HasFrame : List FrameItemShape → Type 0
HasFrame items = IsTrue (list_any (λ (i : FrameItemShape). looks_back i.frame) items)

-- no select in a query has an empty list of items, however deep it stands
abbrev pub HasItems : QueryShape → Type 0
HasItems (shape.Read name) = Unit {0}
HasItems (shape.Rows pick filter source) = HasItems source × PickHasItems pick
HasItems (shape.Total aggs source) = HasItems source × (1 ≤ length aggs)
HasItems (shape.Frames items filter slots source) = HasItems source × HasFrame items
HasItems (shape.Each measure var source size advance body) = HasItems source × HasItems body
HasItems (shape.PerGroup var source key groups body) = HasItems source × HasItems body
HasItems (shape.Partition var source key groups size advance body) = HasItems source × HasItems body
HasItems (shape.Union l r) = HasItems l × HasItems r
HasItems (shape.ByArrival l r) = HasItems l × HasItems r
HasItems (shape.AsOf l r slots) = HasItems l × HasItems r
HasItems (shape.Concat l r) = HasItems l × HasItems r
