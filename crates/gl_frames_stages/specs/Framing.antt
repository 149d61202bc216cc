-- Frames of the last rows: what they take of a row, and what they cost at most.
use Rattle.std.specs.Prelude.{ℕ, ◌+◌, ◌*◌, ◌^◌, Bool, true}
use Rattle.gl_algebra.specs.declared.node.Operand.{Operand}
use Rattle.gl_algebra.specs.Values.{Sets, value_of_operand}
use Rattle.gl_values.specs.Results.{Row}
use Rattle.gl_frames_wire.specs.Reaches.{place_bits}
use Rattle.gl_wire.specs.Costs.{Cost}
use Rattle.gl_frames_stages.specs.DoublingNets.{cost_of_doublings}

-- the value of an operand of a row, where the parameters have these words
abbrev pub value_in : Sets → Operand → Row → ℕ
value_in sets operand row = value_of_operand sets row operand

-- no FILTER
abbrev pub every : Row → Bool
every row = true

-- an operand, a lag and a choice of its word
abbrev pub cost_of_lag : ℕ → ℕ → Cost
cost_of_lag width back = record {
  nodes = 22;
  registers = place_bits back + 2 + width;
  memories = 2 ^ place_bits back * width;
}

-- an operand, its word where the row passes, and the sum of a frame
abbrev pub cost_of_frame_sum : ℕ → ℕ → Cost
cost_of_frame_sum width back = record {
  nodes = 38;
  registers = place_bits (back + 1) + 6 + 5 * width;
  memories = 2 ^ place_bits (back + 1) * width;
}

-- the sum of the bits of a frame, in 32 bits
abbrev pub cost_of_passing_count : ℕ → Cost
cost_of_passing_count back = record {
  nodes = 45;
  registers = place_bits (back + 1) + 104;
  memories = 2 ^ place_bits (back + 1);
}

-- an operand, all levels of doubling, and a register
abbrev pub cost_of_frame_extreme : ℕ → ℕ → Cost
cost_of_frame_extreme width back = record {
  nodes = (cost_of_doublings 5 back 1 (back + 1) width).nodes + 2;
  registers = (cost_of_doublings 5 back 1 (back + 1) width).registers + width;
  memories = (cost_of_doublings 5 back 1 (back + 1) width).memories;
}

-- a count, at most so many
abbrev pub cost_of_number : ℕ → Cost
cost_of_number back = record { nodes = 19; registers = place_bits (back + 1) + 33; memories = 0 }

-- an operand in a register
abbrev pub cost_of_own : ℕ → Cost
cost_of_own width = record { nodes = 2; registers = width; memories = 0 }

-- two operands, a gate, the last value and a register
abbrev pub cost_of_last : ℕ → Cost
cost_of_last width = record { nodes = 8; registers = 2 * width; memories = 0 }

-- two operands, a last value, its age, and a register
abbrev pub cost_of_recent : ℕ → ℕ → Cost
cost_of_recent width back = record { nodes = 24; registers = place_bits (back + 1) + 1 + 2 * width; memories = 0 }
