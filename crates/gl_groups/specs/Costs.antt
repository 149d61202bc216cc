-- What groups cost: their front with the line of ends, and their back.
use Rattle.std.specs.Prelude.{ℕ, ◌+◌, ◌*◌, List, length, slice_index}
use Rattle.std.specs.List.{sum}
use Rattle.gl_algebra.specs.Weights.{weight_of_copies}
use Rattle.gl_wire.specs.Costs.{Cost}
use Rattle.gl_wire.specs.Counted.{AreNarrow}
use Rattle.gl_slots.specs.Costs.{IsCounted, cost_of_back}
use Rattle.gl_slots.specs.Picks.{bits_of_slots}

-- a front of so many slots over a source of these columns, with the key in one of them, and the line of ends behind a
-- timer
abbrev pub cost_of_front : ℕ → ℕ → List ℕ → Cost
cost_of_front slots key source = record {
  nodes = slots * 28 + length source * 2 + 62;
  registers = slots * (slice_index source key + 3) + sum source + bits_of_slots slots + 101;
  memories = 0;
}

-- both, with the back of so many copies
abbrev pub cost_of_grouping : ℕ → ℕ → List ℕ → List ℕ → Cost
cost_of_grouping slots key source own =
    let front = cost_of_front slots key source in
    let back = cost_of_back slots own in
    record {
      nodes = front.nodes + back.nodes;
      registers = front.registers + back.registers;
      memories = front.memories + back.memories;
    }

-- what a plan counts for what stands before and behind the copies of a body, bodies and spacer aside
abbrev pub counted_for : ℕ → List ℕ → List ℕ → ℕ
counted_for slots source own = weight_of_copies slots 0 (length source + 2) (length own + 2)

-- the cost of groups is within it, where no column has more than 64 bits
abbrev pub GroupingsAreCounted : Type 0
GroupingsAreCounted =
    (slots key : ℕ) (source own : List ℕ) → AreNarrow source → AreNarrow own
    → IsCounted (cost_of_grouping slots key source own) (counted_for slots source own)
