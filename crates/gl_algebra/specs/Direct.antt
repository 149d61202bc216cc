-- What a body is: whether row operators and totals that stand once serve all slots of a group, or each takes a copy.
use Rattle.std.specs.Prelude.{ℕ, suc, Bool, true, false, List, [], ◌∷◌, length}
use Rattle.gl_values.specs.declared.kind.Kind.{Kind}
use Rattle.gl_algebra.specs.declared.node.PlanNode.{PlanNode}
use Rattle.gl_algebra.specs.declared.node.PlanNode.TheVariants.{Body, Compute, Select, Project, Aggregate}
use Rattle.gl_algebra.specs.declared.node.PlanAgg.{PlanAgg}
use Rattle.gl_algebra.specs.FigureTable.{delay_of_aggs}
use Rattle.gl_algebra.specs.Nodewise.{nodewise}
use Rattle.gl_algebra.specs.Shapes.{Shape, shape_of}

-- what a node makes of a body's input: of each row one or none; the totals of such rows, this many, of which the
-- slowest takes so many cycles; or what takes a copy for each slot. A body of totals is direct
pub data Form : Type 0 where
  copied : Form
  rowwise : Form
  totalling : ℕ → ℕ → Form

-- whether a body gives of each row of its input one or none
abbrev pub is_rowwise : Form → Bool
is_rowwise copied = false
is_rowwise rowwise = true
is_rowwise (totalling many delay) = false

-- a body of totals stands once for all slots of a group; every other body is copied
abbrev pub is_direct : Form → Bool
is_direct copied = false
is_direct rowwise = false
is_direct (totalling many delay) = true

-- an operator of rows over a child of this form
abbrev pub rows_over : Form → Form
rows_over copied = copied
rows_over rowwise = rowwise
rows_over (totalling many delay) = copied

-- aggregates over a child of this form, whose columns have these kinds; none at all come from no query and are copied
abbrev pub totals_over : Form → List Kind → List PlanAgg → Form
totals_over copied kinds aggs = copied
totals_over rowwise kinds [] = copied
totals_over rowwise kinds (agg ∷ aggs) = totalling (suc (length aggs)) (delay_of_aggs kinds (agg ∷ aggs))
totals_over (totalling many delay) kinds aggs = copied

-- a node's form, from those of the nodes that it names
abbrev pub form_from : (ℕ → Shape) → (ℕ → Form) → PlanNode → Form
form_from shapes forms (Body kinds) = rowwise
form_from shapes forms (Compute child ops) = rows_over (forms child)
form_from shapes forms (Select child column) = rows_over (forms child)
form_from shapes forms (Project child items) = rows_over (forms child)
form_from shapes forms (Aggregate child aggs) = totals_over (forms child) (shapes child).kinds aggs
form_from shapes forms node = copied

-- the form of a node
unfoldable pub form_of : List PlanNode → ℕ → Form
form_of nodes = nodewise (form_from (shape_of nodes)) copied nodes
