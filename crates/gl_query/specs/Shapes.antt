-- Statements without their places. Two statements are alike where their shapes are equal.
use Rattle.std.specs.Prelude.{ℕ, List, map, Option, option_map}
use Rattle.gl_values.specs.declared.kind.Kind.{Kind}
use Rattle.gl_values.specs.declared.op.Op.{Op}
use Rattle.gl_query.specs.declared.tree.Measure.{Measure}
use Rattle.gl_query.specs.declared.tree.Measure.TheVariants.{Tuples, Time}
use Rattle.gl_query.specs.declared.tree.Num.{Num}
use Rattle.gl_query.specs.declared.tree.Expr.{Expr}
use Rattle.gl_query.specs.declared.tree.Expr.TheVariants as expr
use Rattle.gl_query.specs.declared.tree.Agg.{Agg}
use Rattle.gl_query.specs.declared.tree.Agg.TheVariants as agg
use Rattle.gl_query.specs.declared.tree.Item.{Item}
use Rattle.gl_query.specs.declared.tree.AggItem.{AggItem}
use Rattle.gl_query.specs.declared.tree.FrameAgg.{FrameAgg}
use Rattle.gl_query.specs.declared.tree.FrameAgg.TheVariants as frame_agg
use Rattle.gl_query.specs.declared.tree.Frame.{Frame}
use Rattle.gl_query.specs.declared.tree.Frame.TheVariants as frame
use Rattle.gl_query.specs.declared.tree.FrameItem.{FrameItem}
use Rattle.gl_query.specs.declared.tree.Slots.{Slots}
use Rattle.gl_query.specs.declared.tree.Pick.{Pick}
use Rattle.gl_query.specs.declared.tree.Pick.TheVariants as pick
use Rattle.gl_query.specs.declared.tree.Query.{Query}
use Rattle.gl_query.specs.declared.tree.Query.TheVariants as query
use Rattle.gl_query.specs.declared.tree.Statement.{Statement}

-- an expression over one row
pub data ExprShape : Type 0 where
  Column : (name : List ℕ) → ExprShape
  Number : (n : ℕ) → ExprShape
  Minus : (n : ℕ) → ExprShape
  Letters : (text : List ℕ) → ExprShape
  Not : (e : ExprShape) → ExprShape
  Flip : (e : ExprShape) → ExprShape
  Cast : (kind : Kind) (e : ExprShape) → ExprShape
  Binary : (op : Op) (l r : ExprShape) → ExprShape

-- an aggregate over the rows of a list
pub data AggShape : Type 0 where
  Count : AggShape
  Sum : (e : ExprShape) → AggShape
  Min : (e : ExprShape) → AggShape
  Max : (e : ExprShape) → AggShape
  Avg : (e : ExprShape) → AggShape
  Wsum : (e : ExprShape) (weights : List ℕ) → AggShape

-- an expression of a select and the name of its column
pub record ItemShape : Type 0 where
  pub expr : ExprShape
  pub name : List ℕ

-- an aggregate and the name of its column
pub record AggItemShape : Type 0 where
  pub agg : AggShape
  pub name : List ℕ

-- a function over the rows of a frame
pub data FrameAggShape : Type 0 where
  CountOver : FrameAggShape
  SumOver : (e : ExprShape) → FrameAggShape
  MinOver : (e : ExprShape) → FrameAggShape
  MaxOver : (e : ExprShape) → FrameAggShape
  AvgOver : (e : ExprShape) → FrameAggShape
  LastOver : (e : ExprShape) → FrameAggShape

-- a frame: an expression over the row, the value of an earlier row, or a function over the last rows
pub data FrameShape : Type 0 where
  Own : (e : ExprShape) → FrameShape
  Lag : (e : ExprShape) (back : ℕ) → FrameShape
  Over : (agg : FrameAggShape) (filter : Option ExprShape) (back : Option ℕ) → FrameShape

-- a frame and the name of its column
pub record FrameItemShape : Type 0 where
  pub frame : FrameShape
  pub name : List ℕ

-- PARTITION, or BY of ASOF: the key by which rows are parted, and of how many keys they are kept
pub record SlotsShape : Type 0 where
  pub key : List ℕ
  pub groups : ℕ

-- every column, or these items
pub data PickShape : Type 0 where
  All : PickShape
  Items : (items : List ItemShape) → PickShape

-- a query in its eleven forms
pub data QueryShape : Type 0 where
  Read : (name : List ℕ) → QueryShape
  Rows : (pick : PickShape) (filter : Option ExprShape) (source : QueryShape) → QueryShape
  Total : (aggs : List AggItemShape) (source : QueryShape) → QueryShape
  Frames : (items : List FrameItemShape) (filter : Option ExprShape) (slots : Option SlotsShape) (source : QueryShape)
      → QueryShape
  Each : (measure : Measure) (var : List ℕ) (source : QueryShape) (size advance : ℕ) (body : QueryShape) → QueryShape
  PerGroup : (var : List ℕ) (source : QueryShape) (key : List ℕ) (groups : ℕ) (body : QueryShape) → QueryShape
  Partition : (var : List ℕ) (source : QueryShape) (key : List ℕ) (groups size advance : ℕ) (body : QueryShape)
      → QueryShape
  Union : (l r : QueryShape) → QueryShape
  ByArrival : (l r : QueryShape) → QueryShape
  AsOf : (l r : QueryShape) (slots : SlotsShape) → QueryShape
  Concat : (l r : QueryShape) → QueryShape

-- a statement: a query and the name of its result
pub record StatementShape : Type 0 where
  pub query : QueryShape
  pub name : List ℕ

-- ---- the shapes of trees

-- the shape of an expression that code holds
abbrev pub expr_shape : Expr → ExprShape
expr_shape (expr.Column name) = Column name.text
expr_shape (expr.Number n) = Number n.value
expr_shape (expr.Minus n) = Minus n.value
expr_shape (expr.Letters text at) = Letters text
expr_shape (expr.Not' p e at) = Not (expr_shape e)
expr_shape (expr.Flip' p e at) = Flip (expr_shape e)
expr_shape (expr.Cast' p e kind at) = Cast kind (expr_shape e)
expr_shape (expr.Binary' op p l q r at) = Binary op (expr_shape l) (expr_shape r)

-- the shape of an aggregate that code holds
abbrev pub agg_shape : Agg → AggShape
agg_shape (agg.Count at) = Count
agg_shape (agg.Sum e) = Sum (expr_shape e)
agg_shape (agg.Min e) = Min (expr_shape e)
agg_shape (agg.Max e) = Max (expr_shape e)
agg_shape (agg.Avg e) = Avg (expr_shape e)
agg_shape (agg.Wsum e weights) = Wsum (expr_shape e) (map (λ (n : Num). n.value) weights)

-- the shape of an item that code holds
abbrev pub item_shape : Item → ItemShape
item_shape i = record { expr = expr_shape i.expr; name = i.name.text }

-- the shape of a named aggregate that code holds
abbrev pub agg_item_shape : AggItem → AggItemShape
agg_item_shape i = record { agg = agg_shape i.agg; name = i.name.text }

-- the shape of a function over the rows of a frame that code holds
abbrev pub frame_agg_shape : FrameAgg → FrameAggShape
frame_agg_shape frame_agg.Count = CountOver
frame_agg_shape (frame_agg.Sum e) = SumOver (expr_shape e)
frame_agg_shape (frame_agg.Min e) = MinOver (expr_shape e)
frame_agg_shape (frame_agg.Max e) = MaxOver (expr_shape e)
frame_agg_shape (frame_agg.Avg e) = AvgOver (expr_shape e)
frame_agg_shape (frame_agg.LastValue e) = LastOver (expr_shape e)

-- the shape of a frame that code holds
abbrev pub frame_shape : Frame → FrameShape
frame_shape (frame.Own e) = Own (expr_shape e)
frame_shape (frame.Lag e back at) = Lag (expr_shape e) back.value
frame_shape (frame.Over agg filter back at) =
    Over (frame_agg_shape agg) (option_map expr_shape filter) (option_map (λ (n : Num). n.value) back)

-- the shape of a named frame that code holds
abbrev pub frame_item_shape : FrameItem → FrameItemShape
frame_item_shape i = record { frame = frame_shape i.frame; name = i.name.text }

-- the shape of a PARTITION that code holds
abbrev pub slots_shape : Slots → SlotsShape
slots_shape s = record { key = s.key.text; groups = s.groups.value }

-- the shape of what a select picks, as code holds it
abbrev pub pick_shape : Pick → PickShape
pick_shape pick.All = All
pick_shape (pick.Items items) = Items (map item_shape items)

-- the shape of a query that code holds; windows over tuples and over time differ by their measure
abbrev pub query_shape : Query → QueryShape
query_shape (query.Read name) = Read name.text
query_shape (query.Rows' pick filter p source) =
    Rows (pick_shape pick) (option_map expr_shape filter) (query_shape source)
query_shape (query.Total' aggs p source) = Total (map agg_item_shape aggs) (query_shape source)
query_shape (query.Frames' items filter slots p source) =
    Frames (map frame_item_shape items) (option_map expr_shape filter) (option_map slots_shape slots)
    (query_shape source)
query_shape (query.Each' var p source size advance q body at) =
    Each Tuples var.text (query_shape source) size.value advance.value (query_shape body)
query_shape (query.EachTime' var p source size advance q body at) =
    Each Time var.text (query_shape source) size.value advance.value (query_shape body)
query_shape (query.PerGroup' var p source key groups q body at) =
    PerGroup var.text (query_shape source) key.text groups.value (query_shape body)
query_shape (query.Partition' var p source key groups size advance q body at) =
    Partition var.text (query_shape source) key.text groups.value size.value advance.value (query_shape body)
query_shape (query.Union' p l q r at) = Union (query_shape l) (query_shape r)
query_shape (query.ByArrival' p l q r at) = ByArrival (query_shape l) (query_shape r)
query_shape (query.AsOf' p l q r slots at) = AsOf (query_shape l) (query_shape r) (slots_shape slots)
query_shape (query.Concat' p l q r at) = Concat (query_shape l) (query_shape r)

-- the shape of a statement that code holds
abbrev pub statement_shape : Statement → StatementShape
statement_shape s = record { query = query_shape s.query; name = s.name.text }
