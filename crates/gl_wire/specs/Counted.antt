-- What a block costs is within what a plan counts for it, where no column has more than 64 bits.
use Rattle.std.specs.Prelude.{ℕ, ◌+◌, ◌*◌, ◌≤◌, All, List, length}
use Rattle.gl_algebra.specs.Cost.{own_lean, own_store}
use Rattle.gl_algebra.specs.Direct.{copied}
use Rattle.gl_algebra.specs.declared.figures.Figures.{Figures}
use Rattle.gl_algebra.specs.declared.node.PlanNode.{PlanNode}
use Rattle.gl_algebra.specs.Shapes.{Shape}
use Rattle.gl_algebra.specs.Weights.{own_weight}
use Rattle.gl_wire.specs.Costs.{Cost}

-- no column has more than 64 bits
abbrev pub AreNarrow : List ℕ → Type 0
AreNarrow columns = All (λ w. w ≤ 64) columns

-- a node for each of the weight, 64 bits of registers for each of what is counted lean, and the bits of memories
pub record IsCounted (cost : Cost) (weight lean store : ℕ) : Type 0 where
  pub nodes : cost.nodes ≤ weight
  pub registers : cost.registers ≤ 64 * lean
  pub memories : cost.memories ≤ store

-- the own parts of a node with columns of these widths, bodies aside
abbrev pub IsCountedAt : (ℕ → Shape) → (ℕ → Figures) → PlanNode → List ℕ → Cost → Type 0
IsCountedAt shapes figures node columns cost =
    IsCounted cost (own_weight shapes figures (λ body. 0) (length columns + 2) node)
    (own_lean shapes figures (λ body. copied) (λ body. 0) (length columns + 2) node)
    (own_store shapes figures (λ body. copied) (λ body. 0) (length columns + 2) node)
