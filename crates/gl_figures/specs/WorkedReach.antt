-- A worked plan: windows over one projection, a sum over it, and the projection as both sides of a union.
use Rattle.std.specs.Prelude.{ℕ, ◌≡◌, ◌+◌, List, [], ◌∷◌, map, Bool, true, false}
use Rattle.gl_values.specs.declared.kind.Kind.TheVariants.{Unsigned}
use Rattle.gl_algebra.specs.declared.node.PlanNode.{PlanNode}
use Rattle.gl_algebra.specs.declared.node.PlanNode.TheVariants.{Stream, Body, Project, Aggregate, Union, Window, TimeWindow, Partition}
use Rattle.gl_algebra.specs.declared.node.PlanAgg.TheVariants.{Count, Sum}
use Rattle.gl_algebra.specs.declared.node.Operand.TheVariants.{Column}
use Rattle.gl_algebra.specs.Weights.{weight_of}
use Rattle.gl_figures.specs.Reach.{reached, weight_of_reached}

-- a plan in which windows, a sum and both sides of a union read one projection
abbrev pub shared : List PlanNode
shared =
    Stream 0 (Unsigned 32 ∷ Unsigned 8 ∷ []) ∷ Project 0 (Column 0 ∷ []) ∷ Body (Unsigned 32 ∷ [])
    ∷ Aggregate 2 (Sum (Column 0) ∷ []) ∷ Window 1 3 4 2 ∷ Aggregate 1 (Sum (Column 0) ∷ []) ∷ Union 1 1 ∷ []

-- windows of each group and windows of time over a stream, with one body
abbrev pub of_groups_and_times : List PlanNode
of_groups_and_times =
    Stream 0 (Unsigned 8 ∷ []) ∷ Body (Unsigned 8 ∷ []) ∷ Aggregate 1 (Count ∷ []) ∷ Partition 0 2 0 4 2 1
    ∷ TimeWindow 0 2 2 1 ∷ []

-- which of these numbers roots reach
abbrev pub reached_of : List PlanNode → List ℕ → List ℕ → List Bool
reached_of nodes numbers roots = map (reached nodes roots) numbers

-- what the roots of the worked plans reach, and what it weighs, found by hand
pub record WorkedReach : Type 0 where
  pub both : reached_of shared (0 ∷ 1 ∷ 2 ∷ 3 ∷ 4 ∷ 5 ∷ 6 ∷ []) (4 ∷ 5 ∷ [])
      ≡ true ∷ true ∷ false ∷ false ∷ true ∷ true ∷ false ∷ []
  pub body : reached_of shared (0 ∷ 1 ∷ 2 ∷ 3 ∷ 4 ∷ []) (3 ∷ []) ≡ false ∷ false ∷ true ∷ true ∷ false ∷ []
  pub twice : reached_of shared (0 ∷ 1 ∷ 2 ∷ 5 ∷ 6 ∷ []) (6 ∷ []) ≡ true ∷ true ∷ false ∷ false ∷ true ∷ []
  pub none : reached_of shared (0 ∷ 1 ∷ 6 ∷ []) [] ≡ false ∷ false ∷ false ∷ []
  pub parted : reached_of of_groups_and_times (0 ∷ 1 ∷ 2 ∷ 3 ∷ 4 ∷ []) (3 ∷ [])
      ≡ true ∷ false ∷ false ∷ true ∷ false ∷ []
  pub timed : reached_of of_groups_and_times (0 ∷ 1 ∷ 2 ∷ 3 ∷ 4 ∷ []) (4 ∷ [])
      ≡ true ∷ false ∷ false ∷ false ∷ true ∷ []
  -- the stream (4) and the projection (12), each once, whichever of them are roots
  pub stream : weight_of_reached shared (0 ∷ []) ≡ 4
  pub projected : weight_of_reached shared (1 ∷ 1 ∷ 0 ∷ []) ≡ 16
  -- for each use they count twice below the union
  pub counted_twice : weight_of shared 6 ≡ weight_of_reached shared (6 ∷ []) + 16
