-- Statements as trees, each name, number and operator with its place, but without where they lie in memory.
use Rattle.std.specs.Prelude.{ℕ, List, map, Option, option_map}
use Rattle.gl_values.specs.declared.kind.Kind.{Kind}
use Rattle.gl_values.specs.declared.op.Op.{Op}
use Rattle.gl_query.specs.declared.tree.Measure.{Measure}
use Rattle.gl_query.specs.declared.tree.Measure.TheVariants.{Tuples, Time}
use Rattle.gl_query.specs.declared.tree.Name.{Name}
use Rattle.gl_query.specs.declared.tree.Num.{Num}
use Rattle.gl_query.specs.declared.tree.Expr.{Expr}
use Rattle.gl_query.specs.declared.tree.Expr.TheVariants as expr
use Rattle.gl_query.specs.declared.tree.Agg.{Agg}
use Rattle.gl_query.specs.declared.tree.Agg.TheVariants as agg
use Rattle.gl_query.specs.declared.tree.Item.{Item}
use Rattle.gl_query.specs.declared.tree.AggItem.{AggItem}
use Rattle.gl_query.specs.declared.tree.FrameAgg.{FrameAgg}
use Rattle.gl_query.specs.declared.tree.FrameAgg.TheVariants as frame_agg
use Rattle.gl_query.specs.declared.tree.Frame.{Frame}
use Rattle.gl_query.specs.declared.tree.Frame.TheVariants as frame
use Rattle.gl_query.specs.declared.tree.FrameItem.{FrameItem}
use Rattle.gl_query.specs.declared.tree.Slots.{Slots}
use Rattle.gl_query.specs.declared.tree.Pick.{Pick}
use Rattle.gl_query.specs.declared.tree.Pick.TheVariants as pick
use Rattle.gl_query.specs.declared.tree.Query.{Query}
use Rattle.gl_query.specs.declared.tree.Query.TheVariants as query
use Rattle.gl_query.specs.declared.tree.Statement.{Statement}

-- an expression with its places: a column, a literal, a negation, other bits, a conversion, or an operator between two
-- expressions
pub data ExprTree : Type 0 where
  Column : (name : Name) → ExprTree
  Number : (n : Num) → ExprTree
  Minus : (n : Num) → ExprTree
  Letters : (text : List ℕ) (at : ℕ) → ExprTree
  Not : (e : ExprTree) (at : ℕ) → ExprTree
  Flip : (e : ExprTree) (at : ℕ) → ExprTree
  Cast : (e : ExprTree) (kind : Kind) (at : ℕ) → ExprTree
  Binary : (o : Op) (l r : ExprTree) (at : ℕ) → ExprTree

-- an aggregate with its places: a count, a fold of an argument, or a sum of an argument's last values with weights
pub data AggTree : Type 0 where
  Count : (at : ℕ) → AggTree
  Sum : (e : ExprTree) → AggTree
  Min : (e : ExprTree) → AggTree
  Max : (e : ExprTree) → AggTree
  Avg : (e : ExprTree) → AggTree
  Wsum : (e : ExprTree) (weights : List Num) → AggTree

-- an expression of a select and the name of its column
pub record ItemTree : Type 0 where
  pub expr : ExprTree
  pub name : Name

-- an aggregate of a select and the name of its column
pub record AggItemTree : Type 0 where
  pub agg : AggTree
  pub name : Name

-- a function over the rows of a frame, with its places
pub data FrameAggTree : Type 0 where
  CountOver : FrameAggTree
  SumOver : (e : ExprTree) → FrameAggTree
  MinOver : (e : ExprTree) → FrameAggTree
  MaxOver : (e : ExprTree) → FrameAggTree
  AvgOver : (e : ExprTree) → FrameAggTree
  LastOver : (e : ExprTree) → FrameAggTree

-- a frame with its places: an expression over the row, the value of an earlier row, or a function over the last rows
pub data FrameTree : Type 0 where
  Own : (e : ExprTree) → FrameTree
  Lag : (e : ExprTree) (back : Num) (at : ℕ) → FrameTree
  Over : (agg : FrameAggTree) (filter : Option ExprTree) (back : Option Num) (at : ℕ) → FrameTree

-- a frame of a select and the name of its column
pub record FrameItemTree : Type 0 where
  pub frame : FrameTree
  pub name : Name

-- what a select picks: all columns of its source, or a list of items
pub data PickTree : Type 0 where
  All : PickTree
  Items : (items : List ItemTree) → PickTree

-- a query in its eleven forms, with the places of its names, its numbers and its keywords
pub data QueryTree : Type 0 where
  Read : (name : Name) → QueryTree
  Rows : (pick : PickTree) (filter : Option ExprTree) (source : QueryTree) → QueryTree
  Total : (aggs : List AggItemTree) (source : QueryTree) → QueryTree
  Frames : (items : List FrameItemTree) (filter : Option ExprTree) (slots : Option Slots) (source : QueryTree) → QueryTree
  Each : (measure : Measure) (var : Name) (source : QueryTree) (size advance : Num) (body : QueryTree) (at : ℕ) → QueryTree
  PerGroup : (var : Name) (source : QueryTree) (key : Name) (groups : Num) (body : QueryTree) (at : ℕ) → QueryTree
  Partition : (var : Name) (source : QueryTree) (key : Name) (groups size advance : Num) (body : QueryTree) (at : ℕ)
      → QueryTree
  Union : (l r : QueryTree) (at : ℕ) → QueryTree
  ByArrival : (l r : QueryTree) (at : ℕ) → QueryTree
  AsOf : (l r : QueryTree) (slots : Slots) (at : ℕ) → QueryTree
  Concat : (l r : QueryTree) (at : ℕ) → QueryTree

-- a statement with its places: a query and the name of its result
pub record StatementTree : Type 0 where
  pub query : QueryTree
  pub name : Name

-- the tree of an expression that code holds in boxes
abbrev pub expr_tree : Expr → ExprTree
expr_tree (expr.Column name) = Column name
expr_tree (expr.Number n) = Number n
expr_tree (expr.Minus n) = Minus n
expr_tree (expr.Letters text at) = Letters text at
expr_tree (expr.Not' p e at) = Not (expr_tree e) at
expr_tree (expr.Flip' p e at) = Flip (expr_tree e) at
expr_tree (expr.Cast' p e kind at) = Cast (expr_tree e) kind at
expr_tree (expr.Binary' o p l q r at) = Binary o (expr_tree l) (expr_tree r) at

-- the tree of an aggregate that code holds in boxes
abbrev pub agg_tree : Agg → AggTree
agg_tree (agg.Count at) = Count at
agg_tree (agg.Sum e) = Sum (expr_tree e)
agg_tree (agg.Min e) = Min (expr_tree e)
agg_tree (agg.Max e) = Max (expr_tree e)
agg_tree (agg.Avg e) = Avg (expr_tree e)
agg_tree (agg.Wsum e weights) = Wsum (expr_tree e) weights

-- the tree of an item that code holds
abbrev pub item_tree : Item → ItemTree
item_tree i = record { expr = expr_tree i.expr; name = i.name }

-- the tree of a named aggregate that code holds
abbrev pub agg_item_tree : AggItem → AggItemTree
agg_item_tree i = record { agg = agg_tree i.agg; name = i.name }

-- the tree of a function over the rows of a frame that code holds
abbrev pub frame_agg_tree : FrameAgg → FrameAggTree
frame_agg_tree frame_agg.Count = CountOver
frame_agg_tree (frame_agg.Sum e) = SumOver (expr_tree e)
frame_agg_tree (frame_agg.Min e) = MinOver (expr_tree e)
frame_agg_tree (frame_agg.Max e) = MaxOver (expr_tree e)
frame_agg_tree (frame_agg.Avg e) = AvgOver (expr_tree e)
frame_agg_tree (frame_agg.LastValue e) = LastOver (expr_tree e)

-- the tree of a filter, where there is one
abbrev pub filter_tree : Option Expr → Option ExprTree
filter_tree o = option_map expr_tree o

-- the tree of a frame that code holds
abbrev pub frame_tree : Frame → FrameTree
frame_tree (frame.Own e) = Own (expr_tree e)
frame_tree (frame.Lag e back at) = Lag (expr_tree e) back at
frame_tree (frame.Over agg filter back at) = Over (frame_agg_tree agg) (filter_tree filter) back at

-- the tree of a named frame that code holds
abbrev pub frame_item_tree : FrameItem → FrameItemTree
frame_item_tree i = record { frame = frame_tree i.frame; name = i.name }

-- the tree of what a select picks, as code holds it
abbrev pub pick_tree : Pick → PickTree
pick_tree pick.All = All
pick_tree (pick.Items items) = Items (map item_tree items)

-- the tree of a query that code holds; windows over tuples and over time differ by their measure
abbrev pub query_tree : Query → QueryTree
query_tree (query.Read name) = Read name
query_tree (query.Rows' pick filter p source) = Rows (pick_tree pick) (filter_tree filter) (query_tree source)
query_tree (query.Total' aggs p source) = Total (map agg_item_tree aggs) (query_tree source)
query_tree (query.Frames' items filter slots p source) =
    Frames (map frame_item_tree items) (filter_tree filter) slots (query_tree source)
query_tree (query.Each' var p source size advance q body at) =
    Each Tuples var (query_tree source) size advance (query_tree body) at
query_tree (query.EachTime' var p source size advance q body at) =
    Each Time var (query_tree source) size advance (query_tree body) at
query_tree (query.PerGroup' var p source key groups q body at) =
    PerGroup var (query_tree source) key groups (query_tree body) at
query_tree (query.Partition' var p source key groups size advance q body at) =
    Partition var (query_tree source) key groups size advance (query_tree body) at
query_tree (query.Union' p l q r at) = Union (query_tree l) (query_tree r) at
query_tree (query.ByArrival' p l q r at) = ByArrival (query_tree l) (query_tree r) at
query_tree (query.AsOf' p l q r slots at) = AsOf (query_tree l) (query_tree r) slots at
query_tree (query.Concat' p l q r at) = Concat (query_tree l) (query_tree r) at

-- the tree of a statement that code holds
abbrev pub statement_tree : Statement → StatementTree
statement_tree s = record { query = query_tree s.query; name = s.name }
