-- What windows of each key cost at most: their front with the line of ends, and their back.
use Rattle.std.specs.Prelude.{ℕ, ◌+◌, ◌*◌, ◌≤◌, List, length, slice_index}
use Rattle.std.specs.List.{sum}
use Rattle.gl_algebra.specs.Weights.{weight_of_copies}
use Rattle.gl_wire.specs.Costs.{Cost}
use Rattle.gl_wire.specs.Counted.{AreNarrow}
use Rattle.gl_slots.specs.Costs.{IsCounted, cost_of_back}
use Rattle.gl_slots.specs.Picks.{bits_of_slots}

-- a front of so many slots with so many copies each, over a source of these columns, with the key in one of them, and the
-- line of ends behind a timer
abbrev pub cost_of_front : ℕ → ℕ → ℕ → List ℕ → Cost
cost_of_front slots copies key source = record {
  nodes = slots * copies * 16 + slots * 67 + length source * 2 + 71;
  registers = slots * copies * 3 + slots * (slice_index source key + 129) + sum source + bits_of_slots slots + 133;
  memories = 0;
}

-- both; the back gives these columns, the key among them
abbrev pub cost_of_partitioning : ℕ → ℕ → ℕ → List ℕ → List ℕ → Cost
cost_of_partitioning slots copies key source own =
    let front = cost_of_front slots copies key source in
    let back = cost_of_back (slots * copies) own in
    record {
      nodes = front.nodes + back.nodes;
      registers = front.registers + back.registers;
      memories = front.memories + back.memories;
    }

-- what a plan counts for what stands before and behind the copies of a body, bodies and spacer aside
abbrev pub counted_for : ℕ → ℕ → List ℕ → List ℕ → ℕ
counted_for slots copies source own =
    weight_of_copies (slots * copies) 0 (length source + 2) (length own + 2) + 16 * slots

-- the cost is within it, where no column has more than 64 bits and the key is among those of the back
abbrev pub PartitioningsAreCounted : Type 0
PartitioningsAreCounted =
    (slots copies key : ℕ) (source own : List ℕ) → 1 ≤ copies → 1 ≤ length own → AreNarrow source → AreNarrow own
    → IsCounted (cost_of_partitioning slots copies key source own) (counted_for slots copies source own)
