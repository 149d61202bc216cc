-- Selects of frames, with the plans, latencies and gaps that follow by hand from the definitions.
use Rattle.std.specs.Prelude.{ℕ, ◌≡◌, List, [], ◌∷◌, codes, Option, Some, None}
use Rattle.gl_values.specs.declared.kind.Kind.{Kind}
use Rattle.gl_values.specs.declared.kind.Kind.TheVariants.{Signed, Text, Unsigned}
use Rattle.gl_values.specs.declared.op.Op.TheVariants as Op
use Rattle.gl_schema.specs.declared.schema.Schema.{Schema}
use Rattle.gl_query.specs.declared.tree.Measure.TheVariants.{Tuples}
use Rattle.gl_query.specs.Shapes.{ExprShape, FrameItemShape, FrameShape, ItemShape, QueryShape, SlotsShape}
use Rattle.gl_query.specs.Columns.{sources_of}
use Rattle.gl_query.specs.Shapes as shape
use Rattle.gl_algebra.specs.declared.node.ColOp.TheVariants.{Binary}
use Rattle.gl_algebra.specs.declared.node.Operand.{Operand}
use Rattle.gl_algebra.specs.declared.node.Operand.TheVariants.{Column, Literal}
use Rattle.gl_algebra.specs.declared.node.PlanFrame.TheVariants.{Own, Lag, Over}
use Rattle.gl_algebra.specs.declared.node.PlanFrameAgg.TheVariants as over
use Rattle.gl_algebra.specs.declared.node.PlanNode.TheVariants.{Compute, Frames, Select, Stream}
use Rattle.gl_algebra.specs.Added.{Placed}
use Rattle.gl_algebra.specs.Roots.{latency_of}
use Rattle.gl_root_gaps.specs.Roots.{gap_of}
use Rattle.gl_elaborate.specs.Plans.{placed, stream_node}
use Rattle.gl_plan.specs.Worked.{column, trade_columns}

-- trades, quotes, and a stream of a key and a number with a sign
abbrev pub market : Schema
market = record {
  streams =
      record { name = codes "trades"; columns = trade_columns }
      ∷ record {
        name = codes "quotes";
        columns = column (codes "symbol") (Text 4) ∷ column (codes "bid") (Unsigned 32)
            ∷ column (codes "ask") (Unsigned 32) ∷ [];
      }
      ∷ record { name = codes "s"; columns = column (codes "k") (Unsigned 8) ∷ column (codes "v") (Signed 8) ∷ [] }
      ∷ [];
  parameters = [];
}

abbrev pub trades : QueryShape
trades = shape.Read (codes "trades")

abbrev pub price : ExprShape
price = shape.Column (codes "price")

-- a frame under a name
abbrev pub named : FrameShape → List ℕ → FrameItemShape
named frame name = record { frame = frame; name = name }

-- the price itself, and the one before it
abbrev pub own_price : FrameItemShape
own_price = named (shape.Own price) (codes "price")

abbrev pub price_before : FrameItemShape
price_before = named (shape.Lag price 1) (codes "before")

-- SELECT price, lag(price) OVER () AS before FROM trades, all of them or those of a filter
abbrev pub prices_before : Option ExprShape → QueryShape
prices_before filter = shape.Frames (own_price ∷ price_before ∷ []) filter None trades

-- price > 4
abbrev pub dear : ExprShape
dear = shape.Binary Op.Gt price (shape.Number 4)

-- SELECT price, sum(price) OVER (ROWS 1 PRECEDING) AS s, min(price) OVER (ROWS 2 PRECEDING) AS lo,
-- avg(price) OVER (ROWS 1 PRECEDING) AS a FROM trades
abbrev pub last_prices : QueryShape
last_prices =
    shape.Frames
    (own_price ∷ named (shape.Over (shape.SumOver price) None (Some 1)) (codes "s")
    ∷ named (shape.Over (shape.MinOver price) None (Some 2)) (codes "lo")
    ∷ named (shape.Over (shape.AvgOver price) None (Some 1)) (codes "a") ∷ [])
    None None trades

-- SELECT count() OVER (ROWS UNBOUNDED PRECEDING) AS n, sum(price) OVER (ROWS UNBOUNDED PRECEDING) AS s FROM trades
abbrev pub so_many : QueryShape
so_many =
    shape.Frames
    (named (shape.Over shape.CountOver None None) (codes "n")
    ∷ named (shape.Over (shape.SumOver price) None None) (codes "s") ∷ [])
    None None trades

-- SELECT price, sum(price) OVER (ROWS 65535 PRECEDING) AS s, lag(price, 65535) OVER () AS far FROM trades
abbrev pub far_prices : QueryShape
far_prices =
    shape.Frames
    (own_price ∷ named (shape.Over (shape.SumOver price) None (Some 65535)) (codes "s")
    ∷ named (shape.Lag price 65535) (codes "far") ∷ [])
    None None trades

-- SELECT price, max(price) OVER (ROWS 1 PRECEDING) AS top FROM trades
abbrev pub top_prices : QueryShape
top_prices =
    shape.Frames (own_price ∷ named (shape.Over (shape.MaxOver price) None (Some 1)) (codes "top") ∷ [])
    None None trades

-- SELECT avg(v) OVER (ROWS 1 PRECEDING) AS a, min(v) OVER (ROWS UNBOUNDED PRECEDING) AS lo FROM s
abbrev pub signed_numbers : QueryShape
signed_numbers =
    let v = shape.Column (codes "v") in
    shape.Frames
    (named (shape.Over (shape.AvgOver v) None (Some 1)) (codes "a")
    ∷ named (shape.Over (shape.MinOver v) None None) (codes "lo") ∷ [])
    None None (shape.Read (codes "s"))

-- SELECT price, last_value(price) FILTER (WHERE symbol = 'B') OVER (ROWS UNBOUNDED PRECEDING) AS b,
-- count() FILTER (WHERE price > 4) OVER (ROWS 2 PRECEDING) AS n FROM trades
abbrev pub filtered_prices : QueryShape
filtered_prices =
    let of_b = shape.Binary Op.Eq (shape.Column (codes "symbol")) (shape.Letters (codes "B")) in
    shape.Frames
    (own_price ∷ named (shape.Over (shape.LastOver price) (Some of_b) None) (codes "b")
    ∷ named (shape.Over shape.CountOver (Some dear) (Some 2)) (codes "n") ∷ [])
    None None trades

-- SELECT avg(price) OVER (ROWS 1 PRECEDING) AS a FROM trades
abbrev pub averages : QueryShape
averages = shape.Frames (named (shape.Over (shape.AvgOver price) None (Some 1)) (codes "a") ∷ []) None None trades

-- a column under its own name
abbrev pub own : List ℕ → ItemShape
own name = record { expr = shape.Column name; name = name }

-- SELECT price, lag(price) OVER () AS before FROM trades UNION SELECT bid, ask FROM quotes
abbrev pub both_prices : QueryShape
both_prices =
    shape.Union (prices_before None)
    (shape.Rows (shape.Items (own (codes "bid") ∷ own (codes "ask") ∷ [])) None (shape.Read (codes "quotes")))

-- SELECT price FROM trades CONCAT SELECT avg(price) OVER (ROWS 1 PRECEDING) AS a FROM trades
abbrev pub price_and_average : QueryShape
price_and_average = shape.Concat (shape.Rows (shape.Items (own (codes "price") ∷ [])) None trades) averages

-- SELECT price, lag(price) OVER () AS before FROM w
abbrev pub prices_in_window : QueryShape
prices_in_window = shape.Frames (own_price ∷ price_before ∷ []) None None (shape.Read (codes "w"))

-- SELECT price - before AS step FROM (SELECT price, lag(price) OVER () AS before FROM w)
abbrev pub steps : QueryShape
steps =
    shape.Rows
    (shape.Items
    (record { expr = shape.Binary Op.Sub price (shape.Column (codes "before")); name = codes "step" } ∷ []))
    None prices_in_window

-- EACH w IN trades [SIZE 2 ADVANCE 2 TUPLES] (SELECT max(step) AS top FROM (..)), of such steps
abbrev pub greatest_steps : QueryShape
greatest_steps =
    let top = shape.Total (record { agg = shape.Max (shape.Column (codes "step")); name = codes "top" } ∷ []) steps in
    shape.Each Tuples (codes "w") trades 2 2 top

-- ---- by a key

-- PARTITION BY symbol, and so many groups
abbrev pub by_symbol : ℕ → Option SlotsShape
by_symbol groups = Some (record { key = codes "symbol"; groups = groups })

-- the symbol itself
abbrev pub own_symbol : FrameItemShape
own_symbol = named (shape.Own (shape.Column (codes "symbol"))) (codes "symbol")

-- SELECT symbol, lag(price) OVER (PARTITION BY symbol GROUPS n) AS before FROM trades
abbrev pub prices_before_by_symbol : ℕ → QueryShape
prices_before_by_symbol groups = shape.Frames (own_symbol ∷ price_before ∷ []) None (by_symbol groups) trades

-- SELECT symbol, lag(price, 1) OVER (PARTITION BY symbol GROUPS 2) AS before,
-- sum(volume) OVER (PARTITION BY symbol GROUPS 2 ROWS 1 PRECEDING) AS v FROM trades
abbrev pub sums_by_symbol : QueryShape
sums_by_symbol =
    shape.Frames
    (own_symbol ∷ price_before
    ∷ named (shape.Over (shape.SumOver (shape.Column (codes "volume"))) None (Some 1)) (codes "v") ∷ [])
    None (by_symbol 2) trades

-- SELECT k, count() OVER (PARTITION BY k GROUPS 2 ROWS 1 PRECEDING) AS n FROM s
abbrev pub counts_by_key : QueryShape
counts_by_key =
    shape.Frames
    (named (shape.Own (shape.Column (codes "k"))) (codes "k")
    ∷ named (shape.Over shape.CountOver None (Some 1)) (codes "n") ∷ [])
    None (Some (record { key = codes "k"; groups = 2 })) (shape.Read (codes "s"))

-- SELECT symbol, price, avg(price) OVER (PARTITION BY symbol GROUPS 64 ROWS 19 PRECEDING) AS slow,
-- lag(price) OVER (PARTITION BY symbol GROUPS 64) AS before FROM trades WHERE volume > 0
abbrev pub slow_prices : QueryShape
slow_prices =
    shape.Frames
    (own_symbol ∷ own_price ∷ named (shape.Over (shape.AvgOver price) None (Some 19)) (codes "slow") ∷ price_before
    ∷ [])
    (Some (shape.Binary Op.Gt (shape.Column (codes "volume")) (shape.Number 0))) (by_symbol 64) trades

-- a column is a number
abbrev pub is_number : List ℕ → ℕ → ExprShape
is_number name number = shape.Binary Op.Eq (shape.Column name) (shape.Number number)

-- SELECT symbol, price FROM (SELECT symbol, price,
-- count() OVER (PARTITION BY symbol GROUPS 64 ROWS UNBOUNDED PRECEDING) AS n FROM trades) WHERE n = 1
abbrev pub first_prices : QueryShape
first_prices =
    shape.Rows (shape.Items (own (codes "symbol") ∷ own (codes "price") ∷ [])) (Some (is_number (codes "n") 1))
    (shape.Frames (own_symbol ∷ own_price ∷ named (shape.Over shape.CountOver None None) (codes "n") ∷ [])
    None (by_symbol 64) trades)

-- a number of so many bits under a name
abbrev pub constant : ℕ → ℕ → List ℕ → ItemShape
constant number width name = record { expr = shape.Cast (Unsigned width) (shape.Number number); name = name }

-- SELECT symbol, CAST(0 AS u32) AS price, bid, CAST(0 AS u1) AS trade FROM quotes
-- UNION SELECT symbol, price, CAST(0 AS u32) AS bid, CAST(1 AS u1) AS trade FROM trades
abbrev pub quotes_and_trades : QueryShape
quotes_and_trades =
    shape.Union
    (shape.Rows
    (shape.Items
    (own (codes "symbol") ∷ constant 0 32 (codes "price") ∷ own (codes "bid") ∷ constant 0 1 (codes "trade") ∷ []))
    None (shape.Read (codes "quotes")))
    (shape.Rows
    (shape.Items
    (own (codes "symbol") ∷ own (codes "price") ∷ constant 0 32 (codes "bid") ∷ constant 1 1 (codes "trade") ∷ []))
    None trades)

-- the last bid of its symbol beside each row of these: SELECT symbol, price, trade, last_value(bid)
-- FILTER (WHERE trade = 0) OVER (PARTITION BY symbol GROUPS 64 ROWS UNBOUNDED PRECEDING) AS bid FROM (..)
abbrev pub last_bids : QueryShape
last_bids =
    let bid = shape.LastOver (shape.Column (codes "bid")) in
    shape.Frames
    (own_symbol ∷ own_price ∷ named (shape.Own (shape.Column (codes "trade"))) (codes "trade")
    ∷ named (shape.Over bid (Some (is_number (codes "trade") 0)) None) (codes "bid") ∷ [])
    None (by_symbol 64) quotes_and_trades

-- each trade with that bid: SELECT symbol, price, bid FROM (..) WHERE trade = 1
abbrev pub trades_with_bids : QueryShape
trades_with_bids =
    shape.Rows (shape.Items (own (codes "symbol") ∷ own (codes "price") ∷ own (codes "bid") ∷ []))
    (Some (is_number (codes "trade") 1)) last_bids

-- the plan of a query over the market
abbrev pub plan_for : QueryShape → Placed
plan_for q = placed (stream_node market.streams) (sources_of market) q []

-- its latency and its gap
pub record Prints (q : QueryShape) (latency gap : ℕ) : Type 0 where
  pub is_late : latency_of (plan_for q).nodes (plan_for q).root ≡ latency
  pub is_apart : gap_of (plan_for q).nodes (plan_for q).root ≡ gap

-- the kinds of a trade
abbrev pub trade_kinds : List Kind
trade_kinds = Text 4 ∷ Unsigned 32 ∷ Unsigned 32 ∷ []

-- 4, and the text B
abbrev pub four : Operand
four = Literal (record { bits = 4; width = 32 }) (Unsigned 32)

abbrev pub letter : Operand
letter = Literal (record { bits = 1107296256; width = 32 }) (Text 4)

-- plans node by node, latencies and gaps of worked selects of frames, by hand
pub record WorkedFrames : Type 0 where
  pub before : (plan_for (prices_before None)).nodes
      ≡ Stream 0 trade_kinds ∷ Frames 0 None (Own (Column 1) ∷ Lag (Column 1) 1 ∷ []) ∷ []
  pub dear_before : (plan_for (prices_before (Some dear))).nodes
      ≡ Stream 0 trade_kinds ∷ Compute 0 (Binary Op.Gt (Column 1) four ∷ []) ∷ Select 1 3
      ∷ Frames 2 None (Own (Column 1) ∷ Lag (Column 1) 1 ∷ []) ∷ []
  pub filtered : (plan_for filtered_prices).nodes
      ≡ Stream 0 trade_kinds
      ∷ Compute 0 (Binary Op.Eq (Column 0) letter ∷ Binary Op.Gt (Column 1) four ∷ [])
      ∷ Frames 1 None
      (Own (Column 1) ∷ Over (over.LastValue (Column 1)) (Some 3) None ∷ Over over.Count (Some 4) (Some 2) ∷ [])
      ∷ []
  pub of_all : Prints (prices_before None) 2 1
  pub of_dear : Prints (prices_before (Some dear)) 4 1
  pub last_prices : Prints last_prices 39 1
  pub so_many : Prints so_many 2 1
  pub far_prices : Prints far_prices 4 1
  pub top_prices : Prints top_prices 4 1
  pub signed_numbers : Prints signed_numbers 15 1
  pub filtered_prices : Prints filtered_prices 5 1
  pub greatest_steps : Prints greatest_steps 7 1
  pub both_prices : Prints both_prices 5 2
  pub price_and_average : Prints price_and_average 39 1
  pub by_symbol : (plan_for sums_by_symbol).nodes
      ≡ Stream 0 trade_kinds
      ∷ Frames 0 (Some (record { key = 0; groups = 2 }))
      (Own (Column 0) ∷ Lag (Column 1) 1 ∷ Over (over.Sum (Column 2)) None (Some 1) ∷ [])
      ∷ []
  pub sums_by_symbol : Prints sums_by_symbol 7 1
  pub one_symbol : Prints (prices_before_by_symbol 1) 5 1
  pub many_symbols : Prints (prices_before_by_symbol 65) 19 1
  pub counts_by_key : Prints counts_by_key 6 1
  pub slow_prices : Prints slow_prices 47 1
  pub first_prices : Prints first_prices 7 1
  pub trades_with_bids : Prints trades_with_bids 12 2
