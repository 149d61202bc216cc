-- What holds of each whole expression and of each name of a query.
use Rattle.std.specs.Prelude.{ℕ, List, Option, Some, None}
use Rattle.std.specs.List.{AllByRecursion}
use Rattle.gl_query.specs.Shapes.{ExprShape, AggShape, ItemShape, AggItemShape, FrameAggShape, FrameShape, FrameItemShape, PickShape, QueryShape, SlotsShape}
use Rattle.gl_query.specs.Shapes as shape

-- of the argument of an aggregate
abbrev pub InAgg : (ExprShape → Type 0) → AggShape → Type 0
InAgg E shape.Count = Unit {0}
InAgg E (shape.Sum e) = E e
InAgg E (shape.Min e) = E e
InAgg E (shape.Max e) = E e
InAgg E (shape.Avg e) = E e
InAgg E (shape.Wsum e weights) = E e

-- one property holds of an item's expression, another of its name
abbrev pub InItem : (ExprShape → Type 0) → (List ℕ → Type 0) → ItemShape → Type 0
InItem E N i = E i.expr × N i.name

-- one property holds of an aggregate's argument, another of its name
abbrev pub InAggItem : (ExprShape → Type 0) → (List ℕ → Type 0) → AggItemShape → Type 0
InAggItem E N i = InAgg E i.agg × N i.name

-- of the argument of a function over the rows of a frame
abbrev pub InFrameAgg : (ExprShape → Type 0) → FrameAggShape → Type 0
InFrameAgg E shape.CountOver = Unit {0}
InFrameAgg E (shape.SumOver e) = E e
InFrameAgg E (shape.MinOver e) = E e
InFrameAgg E (shape.MaxOver e) = E e
InFrameAgg E (shape.AvgOver e) = E e
InFrameAgg E (shape.LastOver e) = E e

-- a property holds of a filter's expression, where there is a filter
abbrev pub InFilter : (ExprShape → Type 0) → Option ExprShape → Type 0
InFilter E None = Unit {0}
InFilter E (Some e) = E e

-- of the argument and the filter of a frame
abbrev pub InFrame : (ExprShape → Type 0) → FrameShape → Type 0
InFrame E (shape.Own e) = E e
InFrame E (shape.Lag e back) = E e
InFrame E (shape.Over agg filter back) = InFrameAgg E agg × InFilter E filter

-- one property holds of a frame's expressions, another of its name
abbrev pub InFrameItem : (ExprShape → Type 0) → (List ℕ → Type 0) → FrameItemShape → Type 0
InFrameItem E N i = InFrame E i.frame × N i.name

-- a property holds of the key of PARTITION, where there is one
abbrev pub InSlots : (List ℕ → Type 0) → Option SlotsShape → Type 0
InSlots N None = Unit {0}
InSlots N (Some s) = N s.key

-- both properties hold of every item that is picked; the star has none
abbrev pub InPick : (ExprShape → Type 0) → (List ℕ → Type 0) → PickShape → Type 0
InPick E N shape.All = Unit {0}
InPick E N (shape.Items items) = AllByRecursion (InItem E N) items

-- of the items, filters and arguments, and of the names of sources, items, variables and keys
abbrev pub InQuery : (ExprShape → Type 0) → (List ℕ → Type 0) → QueryShape → Type 0
InQuery E N (shape.Read name) = N name
InQuery E N (shape.Rows pick filter source) = InQuery E N source × InPick E N pick × InFilter E filter
InQuery E N (shape.Total aggs source) = InQuery E N source × AllByRecursion (InAggItem E N) aggs
InQuery E N (shape.Frames items filter slots source) =
    InQuery E N source × AllByRecursion (InFrameItem E N) items × InFilter E filter × InSlots N slots
InQuery E N (shape.Each measure var source size advance body) = InQuery E N source × InQuery E N body × N var
InQuery E N (shape.PerGroup var source key groups body) = InQuery E N source × InQuery E N body × N var × N key
InQuery E N (shape.Partition var source key groups size advance body) =
    InQuery E N source × InQuery E N body × N var × N key
InQuery E N (shape.Union l r) = InQuery E N l × InQuery E N r
InQuery E N (shape.ByArrival l r) = InQuery E N l × InQuery E N r
InQuery E N (shape.AsOf l r slots) = InQuery E N l × InQuery E N r × N slots.key
InQuery E N (shape.Concat l r) = InQuery E N l × InQuery E N r
