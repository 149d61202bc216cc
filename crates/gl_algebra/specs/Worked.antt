-- Worked plans, with the figures, weights and copies that follow from the tables by hand.
use Rattle.std.specs.Prelude.{ℕ, ◌≡◌, List, [], ◌∷◌, Some, None}
use Rattle.gl_values.specs.declared.kind.Kind.{Kind}
use Rattle.gl_values.specs.declared.kind.Kind.TheVariants.{Unsigned, Text}
use Rattle.gl_algebra.specs.declared.node.Operand.TheVariants.{Column, Literal}
use Rattle.gl_values.specs.declared.op.Op.TheVariants as Op
use Rattle.gl_algebra.specs.declared.node.ColOp.TheVariants.{Binary}
use Rattle.gl_algebra.specs.declared.node.PlanAgg.TheVariants.{Count, Sum, Max, Avg}
use Rattle.gl_algebra.specs.declared.node.PlanFrame.TheVariants.{Own, Lag, Over}
use Rattle.gl_algebra.specs.declared.node.PlanFrameAgg.TheVariants as over
use Rattle.gl_algebra.specs.declared.node.PlanNode.{PlanNode}
use Rattle.gl_algebra.specs.declared.node.PlanNode.TheVariants.{Stream, Body, Compute, Select, Project, Frames, Aggregate, Union, Beside, Window, TimeWindow, Group, Partition}
use Rattle.gl_algebra.specs.Cost.{keys_of}
use Rattle.gl_algebra.specs.FigureTable.{figures_of}
use Rattle.gl_algebra.specs.Roots.{copies_with_spare, latency_of, most_memory, most_registers, root_figures, weight_with_output}

-- a symbol, a price and a volume
abbrev pub trade_kinds : List Kind
trade_kinds = Text 4 ∷ Unsigned 32 ∷ Unsigned 32 ∷ []

-- counts of one symbol in windows of 4 rows, one from each second row on
abbrev pub counts_in_windows : List PlanNode
counts_in_windows =
    Stream 0 trade_kinds
    ∷ Body trade_kinds
    ∷ Compute 1 (Binary Op.Eq (Column 0) (Literal (record { bits = 1430410062; width = 32 }) (Text 4)) ∷ [])
    ∷ Select 2 3
    ∷ Project 3 (Column 0 ∷ Column 1 ∷ Column 2 ∷ [])
    ∷ Aggregate 4 (Count ∷ [])
    ∷ Window 0 5 4 2
    ∷ []

-- averages by symbol, of so many symbols
abbrev pub averages_by_symbol : ℕ → List PlanNode
averages_by_symbol symbols =
    Stream 0 trade_kinds ∷ Body trade_kinds ∷ Aggregate 1 (Avg (Column 1) ∷ []) ∷ Group 0 2 0 symbols ∷ []

-- the greatest sums of 2 neighbours in each 4 rows
abbrev pub greatest_sums : List PlanNode
greatest_sums =
    Stream 0 trade_kinds ∷ Body trade_kinds ∷ Aggregate 1 (Sum (Column 1) ∷ []) ∷ Window 1 2 2 1
    ∷ Body (Unsigned 32 ∷ []) ∷ Aggregate 3 (Max (Column 0) ∷ []) ∷ Window 0 5 4 4 ∷ []

-- the same over two streams as one, in each 2 rows: a spacer stands before the outer windows
abbrev pub greatest_sums_of_both : List PlanNode
greatest_sums_of_both =
    Stream 0 trade_kinds ∷ Project 0 (Column 1 ∷ []) ∷ Stream 1 trade_kinds ∷ Project 2 (Column 1 ∷ []) ∷ Union 1 3
    ∷ Body (Unsigned 32 ∷ []) ∷ Aggregate 5 (Sum (Column 0) ∷ []) ∷ Window 5 6 2 1
    ∷ Aggregate 7 (Max (Column 0) ∷ []) ∷ Window 4 8 2 2 ∷ []

-- counts in windows of two streams as one
abbrev pub counts_of_both : List PlanNode
counts_of_both =
    Stream 0 trade_kinds ∷ Body trade_kinds ∷ Aggregate 1 (Count ∷ []) ∷ Window 0 2 2 1
    ∷ Stream 1 trade_kinds ∷ Window 4 2 2 1 ∷ Union 3 5 ∷ []

-- a sum beside a count of the volumes above 10
abbrev pub sum_beside_count : List PlanNode
sum_beside_count =
    Stream 0 trade_kinds ∷ Aggregate 0 (Sum (Column 1) ∷ []) ∷ Stream 1 trade_kinds
    ∷ Compute 2 (Binary Op.Gt (Column 2) (Literal (record { bits = 10; width = 32 }) (Unsigned 32)) ∷ [])
    ∷ Select 3 3 ∷ Project 4 (Column 0 ∷ Column 1 ∷ Column 2 ∷ []) ∷ Aggregate 5 (Count ∷ []) ∷ Beside 1 6 ∷ []

-- a column beside a sum of two
abbrev pub price_beside_sum : List PlanNode
price_beside_sum =
    Stream 0 trade_kinds ∷ Project 0 (Column 1 ∷ []) ∷ Compute 0 (Binary Op.Add (Column 1) (Column 2) ∷ [])
    ∷ Project 2 (Column 3 ∷ []) ∷ Beside 1 3 ∷ []

-- counts in windows of 2 ticks, of which 2 are open at once
abbrev pub counts_in_time : List PlanNode
counts_in_time = Stream 0 trade_kinds ∷ Body trade_kinds ∷ Aggregate 1 (Count ∷ []) ∷ TimeWindow 0 2 2 2 ∷ []

-- sums by symbol, of 4 symbols
abbrev pub sums_by_symbol : List PlanNode
sums_by_symbol = Stream 0 trade_kinds ∷ Body trade_kinds ∷ Aggregate 1 (Sum (Column 2) ∷ []) ∷ Group 0 2 0 4 ∷ []

-- counts by symbol of the volumes above 10, in windows of 2 rows, of which 2 are open at once
abbrev pub counts_by_symbol_in_windows : List PlanNode
counts_by_symbol_in_windows =
    Stream 0 trade_kinds ∷ Body trade_kinds
    ∷ Compute 1 (Binary Op.Gt (Column 2) (Literal (record { bits = 10; width = 32 }) (Unsigned 32)) ∷ [])
    ∷ Select 2 3 ∷ Project 3 (Column 0 ∷ Column 1 ∷ Column 2 ∷ []) ∷ Aggregate 4 (Count ∷ []) ∷ Group 1 5 0 4
    ∷ Window 0 6 2 1 ∷ []

-- sums by symbol, of so many symbols, in windows of each symbol
abbrev pub sums_in_partitions : ℕ → ℕ → ℕ → List PlanNode
sums_in_partitions symbols size advance =
    Stream 0 trade_kinds ∷ Body trade_kinds ∷ Aggregate 1 (Sum (Column 1) ∷ []) ∷ Partition 0 2 0 symbols size advance
    ∷ []

-- how many such sums of neighbours there are in each 4 rows
abbrev pub counts_of_sums : List PlanNode
counts_of_sums =
    Stream 0 trade_kinds ∷ Body trade_kinds ∷ Aggregate 1 (Sum (Column 1) ∷ []) ∷ Partition 1 2 0 2 2 2
    ∷ Aggregate 3 (Count ∷ []) ∷ Window 0 4 4 4 ∷ []

-- the prices of two streams
abbrev pub prices_of_both : List PlanNode
prices_of_both =
    Stream 0 trade_kinds ∷ Project 0 (Column 1 ∷ []) ∷ Stream 1 trade_kinds ∷ Project 2 (Column 1 ∷ []) ∷ Union 1 3 ∷ []

-- each price with the one before it
abbrev pub prices_before : List PlanNode
prices_before = Stream 0 trade_kinds ∷ Frames 0 None (Own (Column 1) ∷ Lag (Column 1) 1 ∷ []) ∷ []

-- each price with the sum of two prices, the least of three and the average of two, its own the last of them
abbrev pub last_prices : List PlanNode
last_prices =
    Stream 0 trade_kinds
    ∷ Frames 0 None
    (Own (Column 1) ∷ Over (over.Sum (Column 1)) None (Some 1) ∷ Over (over.Min (Column 1)) None (Some 2)
    ∷ Over (over.Avg (Column 1)) None (Some 1) ∷ [])
    ∷ []

-- each price with the sum of the last 65,536 and the price 65,535 rows before
abbrev pub far_prices : List PlanNode
far_prices =
    Stream 0 trade_kinds
    ∷ Frames 0 None
    (Own (Column 1) ∷ Over (over.Sum (Column 1)) None (Some 65535) ∷ Lag (Column 1) 65535 ∷ [])
    ∷ []

-- the number of volumes above 10 among the last three, and the number and the sum of all up to each
abbrev pub counted_volumes : List PlanNode
counted_volumes =
    Stream 0 trade_kinds
    ∷ Compute 0 (Binary Op.Gt (Column 2) (Literal (record { bits = 10; width = 32 }) (Unsigned 32)) ∷ [])
    ∷ Frames 1 None
    (Over over.Count (Some 3) (Some 2) ∷ Over over.Count None None ∷ Over (over.Sum (Column 2)) None None ∷ [])
    ∷ []

-- each symbol with the price before it of that symbol, of so many symbols
abbrev pub prices_before_by_symbol : ℕ → List PlanNode
prices_before_by_symbol symbols =
    Stream 0 trade_kinds
    ∷ Frames 0 (Some (record { key = 0; groups = symbols })) (Own (Column 0) ∷ Lag (Column 1) 1 ∷ []) ∷ []

-- the sum of so many prices before each and of its own, by symbol, of 64 symbols
abbrev pub sums_back_by_symbol : ℕ → List PlanNode
sums_back_by_symbol back =
    Stream 0 trade_kinds
    ∷ Frames 0 (Some (record { key = 0; groups = 64 })) (Over (over.Sum (Column 1)) None (Some back) ∷ []) ∷ []

-- each number of 8 bits with how many of it were among its last two, of two numbers
abbrev pub counts_by_number : List PlanNode
counts_by_number =
    Stream 0 (Unsigned 8 ∷ [])
    ∷ Frames 0 (Some (record { key = 0; groups = 2 })) (Own (Column 0) ∷ Over over.Count None (Some 1) ∷ []) ∷ []

-- a root's latency, gap and copies
pub record Has (nodes : List PlanNode) (root latency gap copies : ℕ) : Type 0 where
  pub is_late : latency_of nodes root ≡ latency
  pub is_apart : (root_figures nodes root).gt ≡ gap
  pub is_copied : copies_with_spare nodes root ≡ copies

-- the figures, weights and copies of the worked plans, computed from the tables
pub record WorkedFigures : Type 0 where
  pub counts : figures_of counts_in_windows 6 ≡ record { a = 5; lt = 5; le = 7; nt = 1; ne = 2; gt = 1; ge = 3 }
  pub counts_in_windows : Has counts_in_windows 6 8 1 2
  pub greatest_sums : Has greatest_sums 6 12 1 6
  pub greatest_sums_of_both : Has greatest_sums_of_both 9 20 7 3
  pub counts_of_both : Has counts_of_both 6 11 2 4
  pub sum_beside_count : Has sum_beside_count 7 4 1 0
  pub price_beside_sum : Has price_beside_sum 4 2 1 0
  pub counts_in_time : Has counts_in_time 3 6 1 2
  pub sums_by_symbol : Has sums_by_symbol 3 8 1 4
  pub prices_of_both : Has prices_of_both 4 4 2 0
  pub partition : figures_of (sums_in_partitions 2 2 2) 3
      ≡ record { a = 3; lt = 3; le = 6; nt = 1; ne = 2; gt = 1; ge = 6 }
  pub neighbours_by_symbol : Has (sums_in_partitions 2 2 2) 3 7 1 2
  pub overlaps_by_symbol : Has (sums_in_partitions 2 3 2) 3 9 1 4
  pub gaps_by_symbol : Has (sums_in_partitions 2 1 3) 3 7 1 2
  pub neighbours_in_windows : Has counts_of_sums 5 14 1 9
  pub last_of_each : figures_of last_prices 1
      ≡ record { a = 38; lt = 38; le = 38; nt = 1; ne = 1; gt = 1; ge = 1 }
  pub prices_before : Has prices_before 1 2 1 0
  pub last_prices : Has last_prices 1 39 1 0
  pub far_prices : Has far_prices 1 4 1 0
  pub counted_volumes : Has counted_volumes 2 5 1 0
  pub two_symbols : Has (prices_before_by_symbol 2) 1 5 1 0
  pub many_symbols : Has (prices_before_by_symbol 65) 1 19 1 0
  pub counts_by_number : Has counts_by_number 1 6 1 0

-- 262,144 is the most
pub record WorkedWeights : Type 0 where
  pub most : weight_with_output (averages_by_symbol 200) 3 ≡ 262101
  pub more : weight_with_output (averages_by_symbol 201) 3 ≡ 263410
  pub all : weight_with_output (averages_by_symbol 256) 3 ≡ 335405
  pub one_before : weight_with_output prices_before 1 ≡ 325
  pub last_of_each : weight_with_output last_prices 1 ≡ 1254
  pub far : weight_with_output far_prices 1 ≡ 12793
  pub two_symbols : weight_with_output (prices_before_by_symbol 2) 1 ≡ 501
  pub many_symbols : weight_with_output (prices_before_by_symbol 65) 1 ≡ 2861
  pub counts_by_number : weight_with_output counts_by_number 1 ≡ 547
  pub far_by_symbol : weight_with_output (sums_back_by_symbol 32766) 1 ≡ 132537
  pub farthest_by_symbol : weight_with_output (sums_back_by_symbol 65534) 1 ≡ 263609

-- the states of 200 averages stand in a memory, and so do those of 4 sums; windows at the root have a third copy of
-- groups, and there are three; frames have rings
pub record WorkedBits : Type 0 where
  pub registers : most_registers (averages_by_symbol 200) 3 ≡ 111632
  pub memories : most_memory (averages_by_symbol 200) 3 ≡ 32768
  pub sums : most_memory sums_by_symbol 3 ≡ 512
  pub in_windows : most_memory counts_by_symbol_in_windows 7 ≡ 1536
  pub keys : keys_of counts_by_symbol_in_windows 7 ≡ 272
  pub one_before : most_memory prices_before 1 ≡ 1058
  pub last_of_each : most_memory last_prices 1 ≡ 50348
  pub two_symbols : most_memory (prices_before_by_symbol 2) 1 ≡ 2116
  pub many_symbols : most_memory (prices_before_by_symbol 65) 1 ≡ 114944
  pub counts_by_number : most_memory counts_by_number 1 ≡ 3664
