-- How close beats may come to the root of a plan, and ticks where they are farther apart than tuples.
use Rattle.std.specs.Prelude.{◌≡◌, ℕ, ◌<◌, ◌≤◌, List, length, Option, Some, None, option_and_then}
use Rattle.gl_algebra.specs.declared.figures.Figures.{Figures}
use Rattle.gl_algebra.specs.declared.figures.Spare.{Spare}
use Rattle.gl_algebra.specs.declared.node.PlanNode.{PlanNode}
use Rattle.gl_algebra.specs.declared.node.PlanNode.TheVariants.{Compute, Select, Project, TimeWindow}
use Rattle.gl_algebra.specs.FigureTable.{figures_of}
use Rattle.gl_algebra.specs.Fits.{IsPlan}
use Rattle.gl_algebra.specs.Nodewise.{nodewise}
use Rattle.gl_algebra.specs.Roots.{root_figures, spare_at}
use Rattle.gl_root_gaps.specs.declared.TickGaps.{TickGaps}
use Rattle.gl_root_gaps.specs.TickGaps.{tick_gaps_of}

-- the node whose rows this one takes one by one. Each goes on a fixed number of cycles later: with computed columns,
-- where a filter keeps it, or with picked columns
abbrev pub rows_below : PlanNode → Option ℕ
rows_below (Compute child ops) = Some child
rows_below (Select child column) = Some child
rows_below (Project child items) = Some child
rows_below node = None

-- the gaps of a node whose ticks are farther apart than tuples, from those of the nodes that it names: windows of time
-- have their own, and a node that takes rows one by one has those of the node below
abbrev pub tick_gaps_from : (ℕ → Figures) → (ℕ → Option TickGaps) → PlanNode → Option TickGaps
tick_gaps_from figures gaps (TimeWindow source body size advance) = tick_gaps_of size advance (figures body)
tick_gaps_from figures gaps node = option_and_then gaps (rows_below node)

-- those of a root: windows of time, or rows above them
unfoldable pub tick_gaps_at : List PlanNode → ℕ → Option TickGaps
tick_gaps_at nodes = nodewise (tick_gaps_from (figures_of nodes)) None nodes

-- the gap of beats with them, or this one; and that of ticks, where it is another one
abbrev pub gap_with : Option TickGaps → ℕ → ℕ
gap_with None own = own
gap_with (Some it) own = it.gap

abbrev pub ticks_with : Option TickGaps → Option ℕ
ticks_with None = None
ticks_with (Some it) = Some it.ticks

-- the cycles from a beat to the next, at least
abbrev pub gap_of : List PlanNode → ℕ → ℕ
gap_of nodes root = gap_with (tick_gaps_at nodes root) (root_figures nodes root).gt

-- the cycles from a tick to the next one and to the end, at least, where they are others
abbrev pub ticks_of : List PlanNode → ℕ → Option ℕ
ticks_of nodes root = ticks_with (tick_gaps_at nodes root)

-- beats may come as close as the root's own figures say, and closer where it has spare copies or ticks are farther
-- apart
pub record ComesCloser (nodes : List PlanNode) (root : ℕ) : Type 0 where
  pub never_farther : gap_of nodes root ≤ (figures_of nodes root).gt
  pub with_spare : (it : Spare) → spare_at nodes root ≡ Some it → gap_of nodes root < (figures_of nodes root).gt
  pub with_ticks : (n : ℕ) → ticks_of nodes root ≡ Some n → (gap_of nodes root < (figures_of nodes root).gt)
      × (n ≤ (figures_of nodes root).gt)

-- a root's gap is at most its node's own, and less where the root has spare copies, or where ticks are farther apart;
-- these are no farther apart than beats would be
abbrev pub RootsComeCloser : Type 0
RootsComeCloser = (nodes : List PlanNode) (root : ℕ) → IsPlan nodes → root < length nodes → ComesCloser nodes root
