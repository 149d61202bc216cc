-- What circuits owe over one stream: that of a node where its ticks are farther apart than tuples, and that of a plan's
-- root, with the root's spare copies.
use Rattle.std.specs.Prelude.{◌≡◌, ℕ, ◌+◌, ◌*◌, List, Option, Some, unwrap_or}
use Rattle.gl_algebra.specs.declared.figures.Figures.{Figures}
use Rattle.gl_root_gaps.specs.declared.TickGaps.{TickGaps}
use Rattle.gl_algebra.specs.declared.node.PlanNode.{PlanNode}
use Rattle.gl_algebra.specs.Cost.{keys_of, lean_of, store_of}
use Rattle.gl_algebra.specs.Results.{IsPlanResult}
use Rattle.gl_algebra.specs.Roots.{further_keys, further_lean, further_store, further_weight, root_figures}
use Rattle.gl_algebra.specs.FigureTable.{figures_of}
use Rattle.gl_root_gaps.specs.Roots.{gap_of, gap_with, tick_gaps_at, ticks_of}
use Rattle.gl_root_gaps.specs.Together.{ticks_alone}
use Rattle.gl_algebra.specs.Weights.{weight_of}
use Rattle.gl_net.specs.declared.node.Bit.{Bit}
use Rattle.gl_net.specs.Net.{Net, Run, IsRun, Keeps}
use Rattle.gl_wire.specs.declared.emitted.Emitted.{Emitted}
use Rattle.gl_wire.specs.declared.wire.Wire.{Wire}
use Rattle.gl_wire.specs.Beats.{Beats, Spaced}
use Rattle.gl_wire.specs.Costs.{Cost, CostsAtMost}
use Rattle.gl_wire.specs.Faults.{line_of, lines_of}
use Rattle.gl_wire.specs.Once.{OneStream, ServingOnce}
use Rattle.gl_wire.specs.Serving.{inputs_at}
use Rattle.gl_wire.specs.Wire.{carried}
use Rattle.gl_ticks.specs.Apart.{TicksApart}
use Rattle.gl_wiring.specs.Leaves.{LeavesFit, leaf}
use Rattle.gl_wiring.specs.Put.{HasColumns}

-- in a run a circuit behind these leaves gives a root's results over each one stream whose beats are spaced by these
-- figures, and whose ticks are so far apart
abbrev pub ServesOnceBy : Figures → ℕ → List PlanNode → ℕ → Option Bit → List Wire → Emitted → Run → Type 0
ServesOnceBy f ticks nodes root tick leaves e run =
    (beats : Beats) (last : ℕ) → OneStream beats last → Spaced f beats → LeavesFit run tick leaves beats
    → TicksApart ticks (line_of run tick) beats
    → ServingOnce f
    (IsPlanResult nodes root (inputs_at run.held (line_of run tick) (leaf run leaves) (leaf run leaves 0) last))
    (lines_of run e.faults) last (carried run e.wire)

-- these figures, with the gap of ticks that are farther apart
abbrev pub gapped : Option TickGaps → Figures → Figures
gapped it f = record f { gt = gap_with it f.gt }

-- the figures of a node with the gap of its tuples, where ticks are farther apart
abbrev pub alone_figures : List PlanNode → ℕ → Figures
alone_figures nodes id = gapped (tick_gaps_at nodes id) (figures_of nodes id)

-- by those, and how far apart its ticks are
abbrev pub ServesAlone : List PlanNode → ℕ → Option Bit → List Wire → Emitted → Run → Type 0
ServesAlone nodes id = ServesOnceBy (alone_figures nodes id) (ticks_alone nodes id) nodes id

-- a node's ticks are farther apart than tuples
abbrev pub HasTicks : List PlanNode → ℕ → Type 0
HasTicks nodes id = (it : TickGaps) × (tick_gaps_at nodes id ≡ Some it)

-- a circuit gives a node's results over one stream, where the node's ticks are farther apart than tuples
pub record GivesOnce (nodes : List PlanNode) (id : ℕ) (net : Net) (tick : Option Bit) (leaves : List Wire) (e : Emitted)
    : Type 0 where
  pub serves : HasTicks nodes id → (run : Run) → IsRun net run → ServesAlone nodes id tick leaves e run

-- the figures of the root, and how far apart ticks are
abbrev pub once_figures : List PlanNode → ℕ → Figures
once_figures nodes root = gapped (tick_gaps_at nodes root) (root_figures nodes root)

abbrev pub once_ticks : List PlanNode → ℕ → ℕ
once_ticks nodes root = unwrap_or (ticks_of nodes root) (gap_of nodes root)

-- by those of the root
abbrev pub ServesOnceIn : List PlanNode → ℕ → Option Bit → List Wire → Emitted → Run → Type 0
ServesOnceIn nodes root = ServesOnceBy (once_figures nodes root) (once_ticks nodes root) nodes root

-- what a plan counts for the circuit of its root: nodes, bits of registers, bits of memories
abbrev pub root_cost : List PlanNode → ℕ → Cost
root_cost nodes root = record {
  nodes = weight_of nodes root + further_weight nodes root;
  registers = 64 * (lean_of nodes root + further_lean nodes root) + (keys_of nodes root + further_keys nodes root);
  memories = store_of nodes root + further_store nodes root;
}

-- the circuit of a root: it gives the root's results over one stream, what stood before is kept, and no more is added
-- than the plan counts
pub record IsRootPut (nodes : List PlanNode) (root : ℕ) (old new : Net) (tick : Option Bit) (leaves : List Wire)
    (e : Emitted) : Type 0 where
  pub keeps : Keeps old new
  pub cost : CostsAtMost old new (root_cost nodes root)
  pub columns : HasColumns nodes root new e
  pub once : (run : Run) → IsRun new run → ServesOnceIn nodes root tick leaves e run
