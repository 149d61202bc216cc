-- What a rotation costs: its front with the line of ends, and its back.
use Rattle.std.specs.Prelude.{◌≡◌, ℕ, ◌+◌, ◌*◌, ◌≤◌, List, length}
use Rattle.std.specs.List.{sum}
use Rattle.gl_algebra.specs.Weights.{weight_of_copies}
use Rattle.gl_wire.specs.Costs.{Cost}
use Rattle.gl_wire.specs.Counted.{AreNarrow}
use Rattle.gl_wire_registers.specs.Joins.{cost_of_back}

-- a front of so many copies over a source of these columns, and the line of ends, which comes so many cycles behind a
-- timer
abbrev pub cost_of_front : ℕ → ℕ → List ℕ → Cost
cost_of_front copies delay source = record {
  nodes = copies * 16 + length source * 2 + delay + 88;
  registers = copies * 3 + sum source + delay + 195;
  memories = 0;
}

-- a front of windows of time, whose copies take no tuple with the tick that ends them, with its timer
abbrev pub cost_of_time_front : ℕ → ℕ → List ℕ → Cost
cost_of_time_front copies delay source = record {
  nodes = copies * 17 + length source * 2 + delay + 112;
  registers = copies * 3 + sum source + delay + 228;
  memories = 0;
}

-- both
abbrev pub cost_of_rotation : ℕ → ℕ → List ℕ → List ℕ → Cost
cost_of_rotation copies delay source own =
    let front = cost_of_front copies delay source in
    let back = cost_of_back copies own in
    record {
      nodes = front.nodes + back.nodes;
      registers = front.registers + back.registers;
      memories = front.memories + back.memories;
    }

abbrev pub cost_of_time_rotation : ℕ → ℕ → List ℕ → List ℕ → Cost
cost_of_time_rotation copies delay source own =
    let front = cost_of_time_front copies delay source in
    let back = cost_of_back copies own in
    record {
      nodes = front.nodes + back.nodes;
      registers = front.registers + back.registers;
      memories = front.memories + back.memories;
    }

-- a node for each of the weight, 64 bits of registers for each of what is counted lean, and no memory
pub record IsCounted (cost : Cost) (weight lean : ℕ) : Type 0 where
  pub nodes : cost.nodes ≤ weight
  pub registers : cost.registers ≤ 64 * lean
  pub memories : cost.memories ≡ 0

-- what a plan counts for what stands before and behind the copies of a body, bodies and spacer aside
abbrev pub counted_for : ℕ → ℕ → List ℕ → List ℕ → ℕ
counted_for copies delay source own = weight_of_copies copies 0 (length source + 2) (length own + 2) + 4 * delay

-- the cost of a rotation is within it, where no column has more than 64 bits
abbrev pub RotationsAreCounted : Type 0
RotationsAreCounted =
    (copies delay : ℕ) (source own : List ℕ) → AreNarrow source → AreNarrow own
    → IsCounted (cost_of_rotation copies delay source own) (counted_for copies delay source own)
    (counted_for copies delay source own)

-- nor is that of windows of time more
abbrev pub TimesAreCounted : Type 0
TimesAreCounted =
    (copies delay : ℕ) (source own : List ℕ) → AreNarrow source → AreNarrow own
    → IsCounted (cost_of_time_rotation copies delay source own) (counted_for copies delay source own)
    (counted_for copies delay source own)
