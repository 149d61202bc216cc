-- What is written of the figures of a compiled query: lines of a name and a number. And of several queries.
use Rattle.std.specs.Prelude.{◌≡◌, ℕ, List, [], ◌++◌, codes, decimal, Option, Some, None}
use Rattle.std.specs.List.{flat_map}
use Rattle.gl_schema.specs.declared.schema.Schema.{Schema}
use Rattle.gl_query.specs.declared.tree.Statement.{Statement}
use Rattle.gl_figures.specs.declared.Printed.{Printed}
use Rattle.gl_net.specs.declared.counting.Cost.{Cost}
use Rattle.gl_compiler.specs.Compiles.{HasCost}
use Rattle.gl_compiler.specs.Built.{IsNoFarther, copies_of, gaps_of, latency_of, printed_gaps}
use Rattle.gl_many.specs.Meets.{own_latency, shared_gap, shared_ticks}

-- one figure on a line: its name and its number
unfoldable pub figure_line : List ℕ → ℕ → List ℕ
figure_line name number = name ++ decimal number ++ codes "\n"

-- and one of the ticks' gap, where it is another one
abbrev pub ticks_line : Option ℕ → List ℕ
ticks_line None = []
ticks_line (Some ticks) = figure_line (codes "ticks ") ticks

-- latency and gaps in cycles, copies of bodies, and the bits of registers and of memories
abbrev pub figure_lines : Printed → Cost → List ℕ
figure_lines p cost =
    figure_line (codes "latency ") p.latency
    ++ figure_line (codes "gap ") p.gap
    ++ ticks_line p.ticks
    ++ figure_line (codes "copies ") p.copies
    ++ figure_line (codes "registers ") cost.registers
    ++ figure_line (codes "memories ") cost.memories

-- the bytes are the figures of the statement, with the cost of the text that was emitted for it
pub record IsFigured (schema : Schema) (statement : Statement) (bytes text : List ℕ) : Type 0 where
  pub printed : Printed
  pub cost : Cost
  pub latency : printed.latency ≡ latency_of schema statement
  pub gaps : printed_gaps printed ≡ gaps_of schema statement
  pub closer : IsNoFarther schema statement (printed_gaps printed)
  pub copies : printed.copies ≡ copies_of schema statement
  pub has : HasCost schema statement text cost
  pub shown : bytes ≡ figure_lines printed cost

-- ---- of several

-- the latency of a statement, behind its name
abbrev pub latency_line : Schema → Statement → List ℕ
latency_line schema s = s.name.text ++ figure_line (codes " latency ") (own_latency schema s)

-- a line for each statement, in order, and the gaps of all
abbrev pub figure_lines_of_all : Schema → List Statement → List ℕ
figure_lines_of_all schema statements =
    flat_map (latency_line schema) statements
    ++ figure_line (codes "gap ") (shared_gap schema statements)
    ++ ticks_line (shared_ticks schema statements)
