-- The columns that the operators of rows give, and what they cost at most.
use Rattle.std.specs.Prelude.{ℕ, ◌+◌, ◌*◌, List, ◌++◌, length, map}
use Rattle.std.specs.List.{sum}
use Rattle.gl_values.specs.Kinds.{width_of}
use Rattle.gl_values.specs.declared.kind.Kind.{Kind}
use Rattle.gl_algebra.specs.declared.node.ColOp.{ColOp}
use Rattle.gl_algebra.specs.declared.node.Operand.{Operand}
use Rattle.gl_algebra.specs.Columns.{kind_of_op, kind_of_operand}
use Rattle.gl_wire.specs.Costs.{Cost}

-- the widths of columns of these kinds and of those that operations make of them
abbrev pub computed_widths : List Kind → List ColOp → List ℕ
computed_widths kinds ops = map width_of (kinds ++ map (kind_of_op kinds) ops)

-- the widths of operands over columns of these kinds
abbrev pub projected_widths : List Kind → List Operand → List ℕ
projected_widths kinds items = map width_of (map (kind_of_operand kinds) items)

-- a stage behind columns of these widths, a gate before it, and so many operations, of seven nodes each: three of them are
-- counted with the columns, of which each operation makes one
abbrev pub cost_of_rows : List ℕ → ℕ → Cost
cost_of_rows columns operations =
    record { nodes = 4 * length columns + 3 + 4 * operations; registers = sum columns + 2; memories = 0 }

-- no stage
abbrev pub cost_of_items : List ℕ → Cost
cost_of_items columns = record { nodes = 4 * (length columns + 2); registers = 0; memories = 0 }
