-- Marks of the nodes that roots reach.
use Rattle.std.specs.Prelude.{ℕ, ◌≡◌, ◌<◌, ◌⊎◌, Bool, true, false, List, [], ◌∷◌, length, get_or, slice_set}
use Rattle.gl_algebra.specs.declared.node.PlanNode.{PlanNode}
use Rattle.gl_figures.specs.Reach.{reaches, reached}

-- marks with more numbers marked
abbrev pub with_marks : List Bool → List ℕ → List Bool
with_marks marks [] = marks
with_marks marks (id ∷ ids) = with_marks (slice_set marks id true) ids

-- a mark for each node: whether some root reaches it
pub record AreMarks (nodes : List PlanNode) (roots : List ℕ) (marks : List Bool) : Type 0 where
  pub as_many : length marks ≡ length nodes
  pub each : (id : ℕ) → get_or marks id false ≡ reached nodes roots id

-- marks on the way down: what is not marked yet and is reached, a marked node below the limit reaches
pub record AreMarkedTo (nodes : List PlanNode) (roots : List ℕ) (limit : ℕ) (marks : List Bool) : Type 0 where
  pub as_many : length marks ≡ length nodes
  pub sound : (id : ℕ) → get_or marks id false ≡ true → reached nodes roots id ≡ true
  pub whole : (id : ℕ) → reached nodes roots id ≡ true → (get_or marks id false ≡ true)
      ⊎ ((p : ℕ) × (p < limit) × (get_or marks p false ≡ true) × (reaches nodes p id ≡ true))
