-- Direct bodies on a lane, in a netlist: operators of rows that stand once for all slots, and a table of their totals.
use Rattle.std.specs.Prelude.{◌≡◌, ℕ, suc, ◌+◌, ◌-◌, ◌*◌, ◌<◌, ◌≤◌, List, [], ◌∷◌, filter_map, Option, Some, Bool, false, nat_le, slice_get, sum_by}
use Rattle.gl_values.specs.Results.{Row}
use Rattle.gl_values.specs.declared.kind.Kind.{Kind}
use Rattle.gl_algebra.specs.declared.node.PlanAgg.{PlanAgg}
use Rattle.gl_algebra.specs.declared.node.PlanNode.{PlanNode}
use Rattle.gl_algebra.specs.declared.node.PlanNode.TheVariants.{Aggregate}
use Rattle.gl_algebra.specs.Cost.{lean_of}
use Rattle.gl_algebra.specs.FigureTable.{delayed, delay_of_aggs, figures_of, input_figures}
use Rattle.gl_algebra.specs.Shapes.{kinds_of}
use Rattle.gl_algebra.specs.Weights.{weight_of}
use Rattle.gl_net.specs.Net.{Net, Run, IsRun, IsBit, IsBus, Keeps}
use Rattle.gl_totals.specs.Costs.{cost_of_table, kept_of_agg}
use Rattle.gl_wire.specs.declared.wire.Wire.{Wire}
use Rattle.gl_wire.specs.Costs.{Cost, Costs, CostsAtMost}
use Rattle.gl_wire.specs.Faults.{no_faults}
use Rattle.gl_wire.specs.Shapes.{AtEnds, Steady}
use Rattle.gl_wire.specs.Wire.{Carried, IsWire, carried, line_at, widths}
use Rattle.gl_groups.specs.declared.laning.Lane.{Lane}
use Rattle.gl_groups.specs.LaneLaws.{direct_figures}
use Rattle.gl_algebra.specs.Values.{Sets}
use Rattle.gl_wire.specs.Bodies.{OfBody}
use Rattle.gl_wire_lanes.specs.declared.table.TableOut.{TableOut}
use Rattle.gl_wire_lanes.specs.Lanes.{Begins}
use Rattle.gl_wire_lanes.specs.Shares.{lane_of, share, slot_of}
use Rattle.gl_wiring.specs.declared.rows.LaneRows.{LaneRows}
use Rattle.gl_wiring.specs.declared.rows.Place.{Place}
use Rattle.gl_wiring.specs.Leaves.{widths_of}

-- the place of each row on a group's lane
abbrev pub place_of : Lane → Place
place_of l = record { slot = l.slot; first = l.first }

-- a place one cycle later
pub record IsPlaceLater (old new : Net) (place later : Place) : Type 0 where
  pub keeps : Keeps old new
  pub cost : Costs old new (record { nodes = 2; registers = place.slot.width + 1; memories = 0 })
  pub slot_bus : IsBus new later.slot
  pub same_width : later.slot.width ≡ place.slot.width
  pub first_line : IsBit new later.first
  pub slots : (run : Run) → IsRun new run → (t : ℕ)
      → run.at (suc (suc t)) later.slot.node ≡ run.at (suc t) place.slot.node
  pub firsts : (run : Run) → IsRun new run → (t : ℕ) → line_at run later.first (suc t) ≡ line_at run place.first t

-- what a plan counts for operators of rows; they have no memory
abbrev pub cost_of_chain : List PlanNode → ℕ → Cost
cost_of_chain nodes id = record { nodes = weight_of nodes id; registers = 64 * lean_of nodes id; memories = 0 }

-- rows with a node's columns are in the netlist, with their place
pub record HasRows (nodes : List PlanNode) (id : ℕ) (net : Net) (r : LaneRows) : Type 0 where
  pub wire : IsWire net r.rows.wire
  pub same_widths : widths r.rows.wire.columns ≡ widths_of (kinds_of nodes id)
  pub slot_bus : IsBus net r.place.slot
  pub few : r.place.slot.width ≤ 8
  pub first_line : IsBit net r.place.first

-- the operators of rows up to a node, behind a lane: each row that comes is dropped or goes through one step, `depth`
-- cycles later, and so does its place; that step is what the node makes of a body's input
pub record AreRows (nodes : List PlanNode) (id : ℕ) (old new : Net) (lane : Wire) (place : Place) (r : LaneRows)
    : Type 0 where
  pub keeps : Keeps old new
  pub cost : CostsAtMost old new (cost_of_chain nodes id)
  pub has : HasRows nodes id new r
  pub same_width : r.place.slot.width ≡ place.slot.width
  pub no_lines : r.rows.faults ≡ no_faults
  pub depth : ℕ
  pub step : Sets → Row → Option Row
  pub figures : figures_of nodes id ≡ delayed depth input_figures
  pub means : (sets : Sets) (rows : List Row) → OfBody sets nodes id rows (filter_map (step sets) rows) false
  pub steady : (run : Run) → IsRun new run → Steady depth (step run.held) (carried run lane) (carried run r.rows.wire)
  pub slots : (run : Run) → IsRun new run → (t : ℕ)
      → run.at (suc t + depth) r.place.slot.node ≡ run.at (suc t) place.slot.node
  pub no_first : (run : Run) → IsRun new run → (t : ℕ) → t < depth → line_at run r.place.first t ≡ false
  pub firsts : (run : Run) → IsRun new run → (t : ℕ)
      → line_at run r.place.first (t + depth) ≡ line_at run place.first t

-- behind a lane a step for each row, `depth` cycles later, and then, `delay` cycles after each end of a slot, one row of
-- that slot's stream, if the lane tells where streams begin
pub record IsDirectBehind (run : Run) (depth delay : ℕ) (step : Row → Option Row) (total : List Row → Row)
    (lane : Wire) (place : Place) (out : TableOut) : Type 0 where
  pub mid : Carried
  pub slot_mid : ℕ → ℕ
  pub rows : Steady depth step (carried run lane) mid
  pub slots : (c : ℕ) → slot_mid (suc c + depth) ≡ slot_of run place.slot (suc c)
  pub table : Begins (lane_of run lane place.slot place.first) → (k : ℕ)
      → AtEnds delay total (share slot_mid k mid) (share (slot_of run out.slot) k (carried run out.wire))

-- whether a key of `key` bits is within what these aggregates leave of the 128 bits that a plan counts for each
abbrev pub has_room : List Kind → List PlanAgg → ℕ → Bool
has_room kinds aggs key = nat_le key (sum_by (λ agg. 128 - kept_of_agg kinds agg) aggs)

-- what operators of rows up to a node and a table behind them count, for slots whose numbers have `bits` bits
abbrev pub cost_of_body : List PlanNode → ℕ → List PlanAgg → ℕ → Cost
cost_of_body nodes child aggs bits =
    let table = cost_of_table bits (kinds_of nodes child) aggs in
    record {
      nodes = weight_of nodes child + table.nodes;
      registers = 64 * lean_of nodes child + table.registers;
      memories = table.memories;
    }

-- a direct body behind a lane
pub record IsBodyTable (nodes : List PlanNode) (body : ℕ) (old new : Net) (lane : Wire) (place : Place) (out : TableOut)
    : Type 0 where
  pub child : ℕ
  pub aggs : List PlanAgg
  pub at : slice_get nodes body ≡ Some (Aggregate child aggs)
  pub keeps : Keeps old new
  pub cost : CostsAtMost old new (cost_of_body nodes child aggs place.slot.width)
  pub wire : IsWire new out.wire
  pub same_widths : widths out.wire.columns ≡ widths_of (kinds_of nodes body)
  pub slot_bus : IsBus new out.slot
  pub slot_width : out.slot.width ≡ place.slot.width
  pub depth : ℕ
  pub step : Sets → Row → Option Row
  pub total : Sets → List Row → Row
  pub figures : figures_of nodes body ≡ direct_figures depth (delay_of_aggs (kinds_of nodes child) aggs)
  pub means : (sets : Sets) (rows : List Row)
      → OfBody sets nodes body rows (total sets (filter_map (step sets) rows) ∷ []) false
  pub behind : (run : Run) → IsRun new run
      → IsDirectBehind run depth (delay_of_aggs (kinds_of nodes child) aggs) (step run.held) (total run.held)
      lane place out
