-- What a block adds to a netlist: nodes, and the bits that its registers and memories hold.
use Rattle.std.specs.Prelude.{◌≡◌, ℕ, ◌+◌, ◌*◌, ◌≤◌, List, length}
use Rattle.std.specs.List.{sum}
use Rattle.gl_net.specs.Net.{Net, size_of, register_bits_of, memory_bits_of}

-- nodes, and the bits of registers and of memories
pub record Cost : Type 0 where
  pub nodes : ℕ
  pub registers : ℕ
  pub memories : ℕ

-- nodes alone
abbrev pub nodes_alone : ℕ → Cost
nodes_alone n = record { nodes = n; registers = 0; memories = 0 }

-- a stage behind each line and column of a wire, so many times
abbrev pub stages_behind : ℕ → List ℕ → Cost
stages_behind m columns = record { nodes = m * (length columns + 2); registers = m * (sum columns + 2); memories = 0 }

-- exactly this was added
pub record Costs (old new : Net) (cost : Cost) : Type 0 where
  pub nodes : size_of new ≡ size_of old + cost.nodes
  pub registers : register_bits_of new ≡ register_bits_of old + cost.registers
  pub memories : memory_bits_of new ≡ memory_bits_of old + cost.memories

-- no more than this was added
pub record CostsAtMost (old new : Net) (most : Cost) : Type 0 where
  pub nodes : size_of new ≤ size_of old + most.nodes
  pub registers : register_bits_of new ≤ register_bits_of old + most.registers
  pub memories : memory_bits_of new ≤ memory_bits_of old + most.memories
