-- Windows over a body, with the spare copies, the latencies and the gaps of ticks that follow from the definitions by
-- hand.
use Rattle.std.specs.Prelude.{ℕ, ◌≡◌, ◌+◌, Option, Some, None}
use Rattle.gl_algebra.specs.declared.figures.Figures.{Figures}
use Rattle.gl_algebra.specs.FigureTable.{input_figures, union_figures, window_figures, aggregate_figures, group_figures}
use Rattle.gl_algebra.specs.declared.figures.Spare.{Spare}
use Rattle.gl_root_gaps.specs.declared.TickGaps.{TickGaps}
use Rattle.gl_algebra.specs.Spares.{spare_figures, spare_of}
use Rattle.gl_root_gaps.specs.TickGaps.{tick_gaps_of}

-- the greatest sum of so many neighbours
abbrev pub greatest_of : ℕ → Figures
greatest_of neighbours =
    aggregate_figures 1 (window_figures neighbours input_figures (aggregate_figures 1 input_figures))

-- a total of the sums of one group
abbrev pub total_of_group : Figures
total_of_group = aggregate_figures 1 (group_figures 1 input_figures (aggregate_figures 1 input_figures))

-- spare copies with these numbers
abbrev pub spares : ℕ → ℕ → ℕ → Option Spare
spares copies gap shift = Some (record { copies = copies; gap = gap; shift = shift })

-- the spare copies of windows over a stream
abbrev pub over_stream : ℕ → ℕ → Figures → Option Spare
over_stream size advance body = spare_of size advance input_figures body

-- the cycles until the end of windows with spare copies, over a stream
abbrev pub latency : ℕ → ℕ → Figures → ℕ
latency size advance body = (spare_figures size advance input_figures body).le + 1

-- a count of each of so many groups
abbrev pub counts_of : ℕ → Figures
counts_of groups = group_figures groups input_figures (aggregate_figures 1 input_figures)

-- gaps of 1 where ticks are so many cycles apart
abbrev pub apart_by : ℕ → Option TickGaps
apart_by ticks = Some (record { gap = 1; ticks = ticks })

-- spare copies, latencies and gaps of ticks of worked windows, from the definitions by hand
pub record WorkedSpares : Type 0 where
  -- the body's ends are 3 cycles apart, so windows of 4 rows each fill up late enough
  pub each : over_stream 4 4 (greatest_of 2) ≡ spares 2 1 2
  pub each_late : latency 4 4 (greatest_of 2) ≡ 12
  -- overlapping ones do so with a gap of 2
  pub overlap : over_stream 4 2 (greatest_of 2) ≡ spares 3 2 1
  pub overlap_late : latency 4 2 (greatest_of 2) ≡ 14
  -- with rows between windows one copy is enough
  pub apart : over_stream 2 5 (greatest_of 2) ≡ spares 1 1 2
  pub apart_late : latency 2 5 (greatest_of 2) ≡ 12
  -- 64 copies are the most
  pub most : over_stream 126 2 (greatest_of 2) ≡ spares 64 2 1
  pub most_late : latency 126 2 (greatest_of 2) ≡ 197
  pub more : over_stream 128 2 (greatest_of 2) ≡ None
  -- a slow body
  pub slow : over_stream 54 2 (greatest_of 64) ≡ spares 28 33 32
  pub slow_late : latency 54 2 (greatest_of 64) ≡ 1794
  pub spilling : over_stream 2 2 total_of_group ≡ spares 3 1 1
  -- a body that can take the next rows at once needs none, and of a source that merges two a beat's rows come in turn
  pub quick : over_stream 4 2 (aggregate_figures 1 input_figures) ≡ None
  pub merged : spare_of 4 4 (union_figures input_figures input_figures) (greatest_of 2) ≡ None
  -- ticks: counts of 64 groups end 65 cycles apart and are ready again after 67, in windows of each tick and of 60
  pub each_tick : tick_gaps_of 1 1 (counts_of 64) ≡ apart_by 67
  pub each_minute : tick_gaps_of 60 60 (counts_of 64) ≡ apart_by 65
  -- of 4 groups, with ticks between windows, and of 2 in windows of which 3 are open at once
  pub every_fourth : tick_gaps_of 1 4 (counts_of 4) ≡ apart_by 3
  pub three_open : tick_gaps_of 3 1 (counts_of 2) ≡ apart_by 5
  -- a body that can take the next rows at once needs ticks no farther apart
  pub quick_tick : tick_gaps_of 1 1 (aggregate_figures 1 input_figures) ≡ None
