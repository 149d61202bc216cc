-- Figures that fit 32 bits, and the figures of all nodes of a plan.
-- A middle layer, proved equal to `FigureTable`: no promise rests on it.
use Rattle.std.specs.Prelude.{ℕ, ◌≡◌, ◌^◌, ◌<◌, Bool, List, [], ◌∷◌, length, nat_lt, Option, Some, None, slice_get, if◌then◌else◌}
use Rattle.std.specs.List.{list_all}
use Rattle.gl_algebra.specs.declared.figures.Figures.{Figures}
use Rattle.gl_algebra.specs.declared.node.PlanNode.{PlanNode}
use Rattle.gl_algebra.specs.FigureTable.{figures_of}

-- whether each figure is below 2^32
unfoldable pub are_small : Figures → Bool
are_small f = list_all (λ x. nat_lt x (2 ^ 32)) (f.a ∷ f.lt ∷ f.le ∷ f.nt ∷ f.ne ∷ f.gt ∷ f.ge ∷ [])

-- the figures, where each is below 2^32
unfoldable pub small_of : Figures → Option Figures
small_of f = if are_small f then Some f else None

-- the figures of each node of a plan
pub record AreFigures (nodes : List PlanNode) (figures : List Figures) : Type 0 where
  pub as_many : length figures ≡ length nodes
  pub each : (number : ℕ) → number < length nodes → slice_get figures number ≡ Some (figures_of nodes number)
