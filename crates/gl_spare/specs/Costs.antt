-- What a rotation with spare copies costs: its front with late ends and the line of the end, and its back.
use Rattle.std.specs.Prelude.{ℕ, ◌+◌, ◌*◌, List, length}
use Rattle.std.specs.List.{sum}
use Rattle.gl_wire.specs.Costs.{Cost}
use Rattle.gl_wire.specs.Counted.{AreNarrow}
use Rattle.gl_wire_registers.specs.Joins.{cost_of_back}
use Rattle.gl_windows.specs.Costs.{IsCounted, counted_for}

-- a front of so many copies over a source of these columns, and the line of the end, which comes so many cycles behind
-- a timer
abbrev pub cost_of_front : ℕ → ℕ → List ℕ → Cost
cost_of_front copies delay source = record {
  nodes = copies * 16 + length source * 5 + delay + 117;
  registers = copies * 3 + sum source * 2 + delay + 229;
  memories = 0;
}

-- both
abbrev pub cost_of_rotation : ℕ → ℕ → List ℕ → List ℕ → Cost
cost_of_rotation copies delay source own =
    let front = cost_of_front copies delay source in
    let back = cost_of_back copies own in
    record {
      nodes = front.nodes + back.nodes;
      registers = front.registers + back.registers;
      memories = front.memories + back.memories;
    }

-- the cost of a rotation is within what a plan counts for so many copies, where no column has more than 64 bits
abbrev pub SparesAreCounted : Type 0
SparesAreCounted =
    (copies delay : ℕ) (source own : List ℕ) → AreNarrow source → AreNarrow own
    → IsCounted (cost_of_rotation copies delay source own) (counted_for copies delay source own)
    (counted_for copies delay source own)
