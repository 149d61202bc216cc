-- What the back of copies costs, and what a plan may count for a cost.
use Rattle.std.specs.Prelude.{◌≡◌, ℕ, ◌+◌, ◌*◌, ◌≤◌, List, length}
use Rattle.std.specs.List.{sum}
use Rattle.gl_wire.specs.Costs.{Cost}

-- a back of so many copies, which give these columns, the key among them, and all lines
abbrev pub cost_of_back : ℕ → List ℕ → Cost
cost_of_back copies own = record {
  nodes = copies * 2 + copies * (length own + 1) + length own + 5;
  registers = sum own + 2;
  memories = 0;
}

-- a node for each of the weight, 64 bits of registers for each of it, and no memory
pub record IsCounted (cost : Cost) (weight : ℕ) : Type 0 where
  pub nodes : cost.nodes ≤ weight
  pub registers : cost.registers ≤ 64 * weight
  pub memories : cost.memories ≡ 0
