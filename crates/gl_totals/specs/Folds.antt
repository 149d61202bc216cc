-- What folds the rows of the open stream: what it does with a row, and what it carries.
use Rattle.std.specs.Prelude.{◌≡◌, ℕ, suc, Bool, false, if◌then◌else◌, ⊤}
use Rattle.gl_values.specs.Kinds.{is_below, width_of}
use Rattle.gl_values.specs.Totals.{greater, lesser}
use Rattle.gl_bits.specs.Words.{bit, sum_of}
use Rattle.gl_values.specs.declared.kind.Kind.{Kind}
use Rattle.gl_divide.specs.Division.{with_bit}
use Rattle.gl_net.specs.declared.node.Bus.{Bus}
use Rattle.gl_net.specs.Net.{Net, Run, IsRun, IsBus, IsBit, Keeps}
use Rattle.gl_rows.specs.Made.{Carries}
use Rattle.gl_totals.specs.Costs.{cost_of_fold}
use Rattle.gl_totals.specs.Open.{IsLed, lane_by}
use Rattle.gl_totals.specs.declared.fold.Best.{Best}
use Rattle.gl_totals.specs.declared.fold.Extreme.{Extreme}
use Rattle.gl_totals.specs.declared.fold.Extreme.TheVariants.{Least, Greatest}
use Rattle.gl_totals.specs.declared.fold.Fold.{Fold}
use Rattle.gl_totals.specs.declared.fold.Step.{Step}
use Rattle.gl_totals.specs.declared.fold.Step.TheVariants.{Add, Keep, Shift, Set}
use Rattle.gl_totals.specs.declared.rows.Rows.{Rows}
use Rattle.gl_wire.specs.Costs.{CostsAtMost, nodes_alone}
use Rattle.gl_wire.specs.Wire.{line_at}
use Rattle.gl_wire_lanes.specs.Keeping.{IsKept}

-- of two words of a kind the lesser, or the greater
abbrev pub better : Extreme → Kind → ℕ → ℕ → ℕ
better Least kind x y = lesser kind x y
better Greatest kind x y = greater kind x y

-- whether a value is better than a state
abbrev pub is_better : Extreme → Kind → ℕ → ℕ → Bool
is_better Least kind state x = is_below kind x state
is_better Greatest kind state x = is_below kind state x

-- a bus of one bit that carries that
abbrev pub IsBetter : Net → Net → Bus → Best → Bus → Type 0
IsBetter old new state best out =
    Carries old new 4 1 (λ run t. bit (is_better best.extreme best.kind (run.at t state.node)
    (run.at t best.value.node))) out

-- what is compared is in the netlist, for a state of this width
pub record BestFits (net : Net) (width : ℕ) (best : Best) : Type 0 where
  pub counts : IsBit net best.some
  pub value : IsBus net best.value
  pub same_width : best.value.width ≡ width
  pub kind : width ≡ width_of best.kind

-- what a step takes is in the netlist, for a state of this width
abbrev pub StepFits : Net → ℕ → Step → Type 0
StepFits net width (Add value) = IsBus net value × (value.width ≡ width)
StepFits net width (Keep best) = BestFits net width best
StepFits net width Shift = ⊤
StepFits net width Set = ⊤

-- what a state of this width becomes with the row of a cycle
abbrev pub next_of : Step → Run → ℕ → ℕ → ℕ → ℕ
next_of (Add value) run width t state = sum_of width state (run.at t value.node)
next_of (Keep best) run width t state =
    if line_at run best.some t then better best.extreme best.kind state (run.at t best.value.node)
    else run.at t best.value.node
next_of Shift run width t state = with_bit width state false
next_of Set run width t state = 1

-- the nodes that it takes at most
abbrev pub nodes_of : Step → ℕ
nodes_of (Add value) = 1
nodes_of (Keep best) = 7
nodes_of Shift = 3
nodes_of Set = 1

-- a bus that carries that
pub record IsNext (old new : Net) (state : Bus) (step : Step) (out : Bus) : Type 0 where
  pub keeps : Keeps old new
  pub cost : CostsAtMost old new (nodes_alone (nodes_of step))
  pub bus : IsBus new out
  pub same_width : out.width ≡ state.width
  pub value : (run : Run) → IsRun new run → (t : ℕ)
      → run.at (suc t) out.node ≡ next_of step run state.width (suc t) (run.at (suc t) state.node)

-- a state that is kept for each stream, from a first one on, and what it is with the cycle's row
pub record IsFolded (run : Run) (width first : ℕ) (step : Step) (rows : Rows) (before now : Bus) : Type 0 where
  pub kept : IsKept first (lane_by run rows) (λ t. run.at t before.node) (λ t. run.at t now.node)
  pub with_row : (t : ℕ) → run.at (suc t) now.node
      ≡ (if line_at run rows.valid (suc t) then next_of step run width (suc t) (run.at (suc t) before.node)
      else run.at (suc t) before.node)

-- a fold over the rows of streams: its state before and with each row, as buses, and what it costs
pub record IsFold (old new : Net) (width first : ℕ) (step : Step) (rows : Rows) (f : Fold) : Type 0 where
  pub keeps : Keeps old new
  pub cost : CostsAtMost old new (cost_of_fold rows.keep (nodes_of step) width)
  pub before : IsBus new f.before
  pub before_width : f.before.width ≡ width
  pub now : IsBus new f.now
  pub now_width : f.now.width ≡ width
  pub folded : (run : Run) → IsRun new run → IsLed run rows.valid rows.keep
      → IsFolded run width first step rows f.before f.now
