-- A bus some cycles behind another, in a netlist.
use Rattle.std.specs.Prelude.{◌≡◌, ℕ, suc, ◌+◌, ◌-◌, ◌*◌, ◌^◌, nat_le, if◌then◌else◌}
use Rattle.gl_net.specs.declared.node.Bus.{Bus}
use Rattle.gl_net.specs.declared.node.Bit.{Bit}
use Rattle.gl_net.specs.Net.{Net, Run, IsRun, IsBit, IsBus, Keeps}
use Rattle.gl_divide.specs.Divider.{IsLineBehind}
use Rattle.gl_frames_wire.specs.Reaches.{place_bits}
use Rattle.gl_wire.specs.Costs.{Cost, CostsAtMost}
use Rattle.gl_frames_stages.specs.Columns.{LinesBehind}
use Rattle.gl_frames_stages.specs.declared.lines.Lines.{Lines}

-- what a ring that turns in each cycle costs: two constants and a lag
abbrev pub cost_of_far : ℕ → ℕ → Cost
cost_of_far cycles width = record {
  nodes = 21;
  registers = place_bits (cycles - 1) + 2 + width;
  memories = 2 ^ place_bits (cycles - 1) * width;
}

-- what a register for each cycle costs
abbrev pub near_cost : ℕ → ℕ → Cost
near_cost cycles width = record { nodes = cycles; registers = width * cycles; memories = 0 }

-- registers where the cycles are few, and else such a ring
abbrev pub cost_of_late : ℕ → ℕ → Cost
cost_of_late cycles width = if nat_le cycles 4 then near_cost cycles width else cost_of_far cycles width

-- a bus so many cycles behind another, whatever the words are at the start
pub record IsBehindBus (old new : Net) (most : Cost) (cycles : ℕ) (source out : Bus) : Type 0 where
  pub keeps : Keeps old new
  pub cost : CostsAtMost old new most
  pub bus : IsBus new out
  pub same_width : out.width ≡ source.width
  pub value : (run : Run) → IsRun new run → (t : ℕ) → run.at (suc t + cycles) out.node ≡ run.at (suc t) source.node

-- in a ring
abbrev pub IsFarIn : Net → Net → ℕ → Bus → Bus → Type 0
IsFarIn old new cycles source out = IsBehindBus old new (cost_of_far cycles source.width) cycles source out

-- in what is cheaper
abbrev pub IsLateIn : Net → Net → ℕ → Bus → Bus → Type 0
IsLateIn old new cycles source out = IsBehindBus old new (cost_of_late cycles source.width) cycles source out

-- what a ring of bits that turns in each cycle costs, with a choice of 0 where it has none
abbrev pub cost_of_far_line : ℕ → Cost
cost_of_far_line cycles = record {
  nodes = 23;
  registers = place_bits (cycles - 1) + 3;
  memories = 2 ^ place_bits (cycles - 1);
}

-- a register for each cycle where they are few, and else such a ring
abbrev pub cost_of_late_line : ℕ → Cost
cost_of_late_line cycles =
    if nat_le cycles 23 then record { nodes = cycles; registers = cycles; memories = 0 } else cost_of_far_line cycles

-- a line so many cycles behind another, and low before, whatever the words are at the start
pub record IsBehindLine (old new : Net) (most : Cost) (cycles : ℕ) (source out : Bit) : Type 0 where
  pub keeps : Keeps old new
  pub cost : CostsAtMost old new most
  pub bit : IsBit new out
  pub line : (run : Run) → IsRun new run → IsLineBehind run cycles source out

-- in a ring
abbrev pub IsFarLineIn : Net → Net → ℕ → Bit → Bit → Type 0
IsFarLineIn old new cycles source out = IsBehindLine old new (cost_of_far_line cycles) cycles source out

-- in what is cheaper
abbrev pub IsLateLineIn : Net → Net → ℕ → Bit → Bit → Type 0
IsLateLineIn old new cycles source out = IsBehindLine old new (cost_of_late_line cycles) cycles source out

-- what both lines cost
abbrev pub cost_of_late_lines : ℕ → Cost
cost_of_late_lines cycles = record {
  nodes = 2 * (cost_of_late_line cycles).nodes;
  registers = 2 * (cost_of_late_line cycles).registers;
  memories = 2 * (cost_of_late_line cycles).memories;
}

-- both lines so many cycles behind
pub record AreLinesLate (old new : Net) (cycles : ℕ) (lines later : Lines) : Type 0 where
  pub keeps : Keeps old new
  pub cost : CostsAtMost old new (cost_of_late_lines cycles)
  pub row_line : IsBit new later.valid
  pub end_line : IsBit new later.eos
  pub behind : (run : Run) → IsRun new run → LinesBehind run cycles lines later
