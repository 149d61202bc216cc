-- Buses that carry totals of the open stream, some cycles later.
use Rattle.std.specs.Prelude.{◌≡◌, ℕ, suc, ◌+◌, ◌*◌, List, map}
use Rattle.gl_values.specs.Kinds.{width_of}
use Rattle.gl_values.specs.Results.{Row}
use Rattle.gl_values.specs.Totals.{greatest_of, least_of}
use Rattle.gl_values.specs.declared.kind.Kind.{Kind}
use Rattle.gl_algebra.specs.declared.node.Operand.{Operand}
use Rattle.gl_algebra.specs.declared.node.PlanAgg.{PlanAgg}
use Rattle.gl_algebra.specs.declared.node.PlanAgg.TheVariants.{Max, Min}
use Rattle.gl_algebra.specs.Columns.{kind_of_agg, kind_of_operand}
use Rattle.gl_algebra.specs.Results.{total_of}
use Rattle.gl_algebra.specs.Values.{Sets, value_of_operand}
use Rattle.gl_net.specs.declared.node.Bus.{Bus}
use Rattle.gl_net.specs.Net.{Net, Run, IsRun, IsBit, IsBus, Keeps}
use Rattle.gl_wire.specs.Costs.{Cost, CostsAtMost}
use Rattle.gl_wire.specs.Wire.{AreBuses, row_at, widths}
use Rattle.gl_wire_lanes.specs.Lanes.{IsFresh, rows_now}
use Rattle.gl_totals.specs.Costs.{cost_of_agg, cost_of_each, lag_of}
use Rattle.gl_totals.specs.Open.{AreTold, IsLed, KeepFits, lane_by, row_by, values_at}
use Rattle.gl_rows.specs.Made.{IsSource}
use Rattle.gl_totals.specs.declared.total.Stream.{Stream}
use Rattle.gl_totals.specs.declared.rows.Rows.{Rows}
use Rattle.gl_totals.specs.declared.fold.Extreme.{Extreme}
use Rattle.gl_totals.specs.declared.fold.Extreme.TheVariants.{Least, Greatest}

-- the least, or the greatest, word of a kind
abbrev pub extreme_of : Extreme → Kind → List ℕ → ℕ
extreme_of Least kind xs = least_of kind xs
extreme_of Greatest kind xs = greatest_of kind xs

-- a bus that carries, so many cycles later, a total of the values of a cycle's stream, where it is told when that began
pub record IsTotalOf (old new : Net) (most : Cost) (width cycles : ℕ) (rows : Rows) (x : Bus) (total : List ℕ → ℕ)
    (out : Bus) : Type 0 where
  pub keeps : Keeps old new
  pub cost : CostsAtMost old new most
  pub bus : IsBus new out
  pub same_width : out.width ≡ width
  pub carries : (run : Run) → IsRun new run → AreTold run rows → (t : ℕ)
      → IsFresh (lane_by run rows) (suc t)
      → run.at (suc t + cycles) out.node ≡ total (values_at run rows x (suc t))

-- the lines and columns of streams are in the netlist
pub record IsStream (net : Net) (s : Stream) : Type 0 where
  pub valid : IsBit net s.rows.valid
  pub eos : IsBit net s.rows.eos
  pub keep : KeepFits net s.rows.keep
  pub source : IsSource net s.source.columns.now s.source.kinds.now s.source.words.now

-- the rows of a cycle's stream, this cycle's own included
abbrev pub rows_at : Run → Stream → ℕ → List Row
rows_at run s t = rows_now (lane_by run s.rows) (row_by run s.rows.keep s.source.columns.now) t

-- a bus that carries the values of an operand with the rows
pub record IsValueOf (old new : Net) (s : Stream) (operand : Operand) (x : Bus) : Type 0 where
  pub keeps : Keeps old new
  pub cost : CostsAtMost old new (record {
    nodes = 1 + lag_of s.rows.keep;
    registers = lag_of s.rows.keep * width_of (kind_of_operand s.source.kinds.now operand);
    memories = 0;
  })
  pub bus : IsBus new x
  pub same_width : x.width ≡ width_of (kind_of_operand s.source.kinds.now operand)
  pub values : (run : Run) → IsRun new run → IsLed run s.rows.valid s.rows.keep → (t : ℕ)
      → values_at run s.rows x (suc t) ≡ map (λ row. value_of_operand run.held row operand) (rows_at run s (suc t))

-- the aggregate that takes this extreme of an operand
abbrev pub agg_of_extreme : Extreme → Operand → PlanAgg
agg_of_extreme Least operand = Min operand
agg_of_extreme Greatest operand = Max operand

-- a bus that carries, so many cycles later, an aggregate of a cycle's stream, for so many stages
pub record IsAggOf (old new : Net) (stages cycles : ℕ) (s : Stream) (agg : PlanAgg) (out : Bus) : Type 0 where
  pub keeps : Keeps old new
  pub cost : CostsAtMost old new (cost_of_agg s.rows.keep s.source.kinds.now stages agg)
  pub bus : IsBus new out
  pub same_width : out.width ≡ width_of (kind_of_agg s.source.kinds.now agg)
  pub carries : (run : Run) → IsRun new run → AreTold run s.rows
      → (t : ℕ) → IsFresh (lane_by run s.rows) (suc t)
      → run.at (suc t + cycles) out.node ≡ total_of run.held s.source.kinds.now (rows_at run s (suc t)) agg

-- the row of all aggregates over some rows, where the parameters have these words
abbrev pub total_row : Sets → List Kind → List PlanAgg → List Row → Row
total_row sets kinds aggs rows = map (total_of sets kinds rows) aggs

-- the widths of aggregates over columns of these kinds
abbrev pub total_widths : List Kind → List PlanAgg → List ℕ
total_widths kinds aggs = map width_of (map (kind_of_agg kinds) aggs)

-- a bus for each of some aggregates
pub record AreAggsOf (old new : Net) (cycles : ℕ) (s : Stream) (aggs : List PlanAgg) (outs : List Bus) : Type 0 where
  pub keeps : Keeps old new
  pub cost : CostsAtMost old new (cost_of_each s.rows.keep s.source.kinds.now cycles aggs)
  pub buses : AreBuses new outs
  pub same_widths : widths outs ≡ total_widths s.source.kinds.now aggs
  pub row : (run : Run) → IsRun new run → AreTold run s.rows → (t : ℕ) → IsFresh (lane_by run s.rows) (suc t)
      → row_at run (suc t + cycles) outs ≡ total_row run.held s.source.kinds.now aggs (rows_at run s (suc t))
