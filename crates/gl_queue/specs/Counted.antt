-- What the blocks cost is within what a plan counts for them, where no column has more than 64 bits.
use Rattle.std.specs.Prelude.{◌≡◌, ℕ, ◌+◌, List, length, true}
use Rattle.gl_algebra.specs.Cost.{lean_of_spacer, store_of_spacer}
use Rattle.gl_algebra.specs.declared.figures.Figures.{Figures}
use Rattle.gl_algebra.specs.declared.node.PlanNode.TheVariants.{Beside, Union}
use Rattle.gl_algebra.specs.FigureTable.{needs_spacer}
use Rattle.gl_algebra.specs.Shapes.{Shape}
use Rattle.gl_algebra.specs.Weights.{weight_of_spacer}
use Rattle.gl_wire.specs.Counted.{AreNarrow, IsCounted, IsCountedAt}
use Rattle.gl_queue.specs.Joiners.{cost_of_joiner}
use Rattle.gl_queue.specs.Spacers.{cost_of_spacer}
use Rattle.gl_queue.specs.Unions.{cost_of_union}

-- a union costs no more than a plan counts for it, over columns of at most 64 bits
abbrev pub UnionsAreCounted : Type 0
UnionsAreCounted =
    (shapes : ℕ → Shape) (figures : ℕ → Figures) (left right : ℕ) (columns : List ℕ) → AreNarrow columns
    → IsCountedAt shapes figures (Union left right) columns (cost_of_union (figures left) (figures right) columns)

-- a joiner costs no more than a plan counts for it, over columns of at most 64 bits
abbrev pub JoinersAreCounted : Type 0
JoinersAreCounted =
    (shapes : ℕ → Shape) (figures : ℕ → Figures) (left right : ℕ) (columns : List ℕ) → AreNarrow columns
    → IsCountedAt shapes figures (Beside left right) columns (cost_of_joiner (figures left) (figures right) columns)

-- the part of a spacer where one stands
abbrev pub SpacersAreCounted : Type 0
SpacersAreCounted =
    (gap : ℕ) (f : Figures) (columns : List ℕ) → needs_spacer gap f ≡ true → AreNarrow columns
    → IsCounted (cost_of_spacer f columns) (weight_of_spacer gap f (length columns + 2))
    (lean_of_spacer gap f (length columns + 2)) (store_of_spacer gap f (length columns + 2))
