-- What the calls on figures and weights answer.
use Rattle.std.specs.Prelude.{ℕ, ◌≡◌, ◌<◌, ◌≤◌, ◌^◌, min, List, length, Some, slice_get}
use Rattle.gl_bits.specs.Limits.{most_weight}
use Rattle.gl_algebra.specs.declared.figures.Figures.{Figures}
use Rattle.gl_algebra.specs.declared.node.PlanNode.{PlanNode}
use Rattle.gl_algebra.specs.FigureTable.{AreSmall, figures_of}
use Rattle.gl_algebra.specs.Weights.{weight_of}
use Rattle.gl_algebra.specs.Roots.{copies_with_spare, latency_of, weight_with_output}
use Rattle.gl_root_gaps.specs.Roots.{gap_of, ticks_of}
use Rattle.gl_figures.specs.declared.Limit.{Limit}
use Rattle.gl_figures.specs.declared.Limit.TheVariants.{Latency, Nodes}
use Rattle.gl_figures.specs.declared.Printed.{Printed}

-- a weight or a number of copies as it is told: 2^62 where it is more
abbrev pub capped : ℕ → ℕ
capped n = min n (2 ^ 62)

-- the figures of each node before one are below 2^32
abbrev pub AreSmallBefore : List PlanNode → ℕ → Type 0
AreSmallBefore nodes number = (child : ℕ) → child < number → AreSmall (figures_of nodes child)

-- the first node with a figure of 2^32 or more; the places before it have their nodes' figures, and those from it on
-- are as before
pub record IsLate (nodes : List PlanNode) (old new : List Figures) (limit : Limit) : Type 0 where
  pub node : ℕ
  pub is : limit ≡ Latency node
  pub within : node < length nodes
  pub large : AreSmall (figures_of nodes node) → ⊥
  pub first : AreSmallBefore nodes node
  pub before : (number : ℕ) → number < node → slice_get new number ≡ Some (figures_of nodes number)
  pub behind : (number : ℕ) → node ≤ number → slice_get new number ≡ slice_get old number

-- what is printed of a plan
pub record IsPrinted (nodes : List PlanNode) (root : ℕ) (printed : Printed) : Type 0 where
  pub latency : printed.latency ≡ latency_of nodes root
  pub gap : printed.gap ≡ gap_of nodes root
  pub ticks : printed.ticks ≡ ticks_of nodes root
  pub copies : printed.copies ≡ copies_with_spare nodes root
  pub light : weight_with_output nodes root ≤ most_weight

-- a plan that weighs more
pub record IsHeavy (nodes : List PlanNode) (root : ℕ) (limit : Limit) : Type 0 where
  pub heavy : most_weight < weight_with_output nodes root
  pub is : limit ≡ Nodes (capped (weight_with_output nodes root))

-- the weight of each node of a plan, or 2^62 where it is more
pub record AreWeights (nodes : List PlanNode) (weights : List ℕ) : Type 0 where
  pub each : (number : ℕ) → number < length nodes → slice_get weights number ≡ Some (capped (weight_of nodes number))
