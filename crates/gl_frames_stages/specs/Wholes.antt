-- Frames of all rows up to each: what they take, and what they cost at most.
use Rattle.std.specs.Prelude.{ℕ, ◌+◌, ◌*◌, Option, List, filter, map}
use Rattle.gl_algebra.specs.Results.{counts_in}
use Rattle.gl_algebra.specs.declared.node.Operand.{Operand}
use Rattle.gl_algebra.specs.Values.{Sets, value_of_operand}
use Rattle.gl_values.specs.Results.{Row}
use Rattle.gl_totals.specs.Costs.{cost_of_average}
use Rattle.gl_totals.specs.declared.rows.Keep.TheVariants.{Register}
use Rattle.gl_wire.specs.Costs.{Cost}

-- the rows that pass
abbrev pub rows_passed : Option ℕ → List Row → List Row
rows_passed by rows = filter (counts_in by) rows

-- the values of an operand of the rows that pass
abbrev pub passed : Sets → Option ℕ → Operand → List Row → List ℕ
passed sets by operand rows = map (λ row. value_of_operand sets row operand) (filter (counts_in by) rows)

-- two gates before a total, an operand, and a register behind it
abbrev pub with_register : Cost → ℕ → Cost
with_register total width = record {
  nodes = total.nodes + 4;
  registers = total.registers + width;
  memories = total.memories;
}

-- a count in 32 bits
abbrev pub cost_of_all_count : Cost
cost_of_all_count = record { nodes = 9; registers = 64; memories = 0 }

-- a sum
abbrev pub cost_of_all_sum : ℕ → Cost
cost_of_all_sum width = record { nodes = 9; registers = 2 * width; memories = 0 }

-- an extreme, which has a bit that tells whether there was a value
abbrev pub cost_of_all_extreme : ℕ → Cost
cost_of_all_extreme width = record { nodes = 23; registers = 2 * width + 1; memories = 0 }

-- an average with its divider
abbrev pub cost_of_all_average : ℕ → Cost
cost_of_all_average width = with_register (cost_of_average Register width) width
