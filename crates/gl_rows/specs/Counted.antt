-- What the operators of rows cost is within what a plan counts for them, where no column has more than 64 bits.
use Rattle.std.specs.Prelude.{ℕ, ◌+◌, All, List, length, map}
use Rattle.gl_values.specs.Kinds.{IsKind, width_of}
use Rattle.gl_values.specs.declared.kind.Kind.{Kind}
use Rattle.gl_algebra.specs.declared.figures.Figures.{Figures}
use Rattle.gl_algebra.specs.declared.node.ColOp.{ColOp}
use Rattle.gl_algebra.specs.declared.node.Operand.{Operand}
use Rattle.gl_algebra.specs.declared.node.PlanNode.TheVariants.{Compute, Project, Select}
use Rattle.gl_algebra.specs.Shapes.{Shape}
use Rattle.gl_rows.specs.Costs.{cost_of_items, cost_of_rows}
use Rattle.gl_wire.specs.Costs.{Cost}
use Rattle.gl_wire.specs.Counted.{AreNarrow, IsCountedAt}

-- the columns of every kind are narrow
abbrev pub KindsAreNarrow : Type 0
KindsAreNarrow = (kinds : List Kind) → All IsKind kinds → AreNarrow (map width_of kinds)

-- a stage's cost with that of two registers beside it, of 9 bits together: a slot's number and a line
abbrev pub with_slot : Cost → Cost
with_slot cost =
    record { nodes = cost.nodes + 2; registers = cost.registers + 9; memories = cost.memories }

-- what stands in stages leaves room for a slot that goes along
abbrev pub ComputesAreCounted : Type 0
ComputesAreCounted =
    (shapes : ℕ → Shape) (figures : ℕ → Figures) (child : ℕ) (ops : List ColOp) (columns : List ℕ) → AreNarrow columns
    → IsCountedAt shapes figures (Compute child ops) columns (with_slot (cost_of_rows columns (length ops)))

-- a filter costs no more than a plan counts for it, over columns of at most 64 bits
abbrev pub SelectsAreCounted : Type 0
SelectsAreCounted =
    (shapes : ℕ → Shape) (figures : ℕ → Figures) (child column : ℕ) (columns : List ℕ) → AreNarrow columns
    → IsCountedAt shapes figures (Select child column) columns (with_slot (cost_of_rows columns 0))

-- items cost no more than a plan counts for them
abbrev pub ProjectsAreCounted : Type 0
ProjectsAreCounted =
    (shapes : ℕ → Shape) (figures : ℕ → Figures) (child : ℕ) (items : List Operand) (columns : List ℕ)
    → IsCountedAt shapes figures (Project child items) columns (cost_of_items columns)
