-- What queues, and the blocks on them, cost.
use Rattle.std.specs.Prelude.{ℕ, ◌+◌, ◌*◌, List, ◌∷◌, length, if◌then◌else◌, nat_eq}
use Rattle.std.specs.List.{sum}
use Rattle.gl_algebra.specs.Cost.{least_exponent, ring}
use Rattle.gl_wire.specs.Costs.{Cost}

-- the bits of an address in the memories of a queue with so many places
unfoldable pub address_bits : ℕ → ℕ
address_bits depth = least_exponent depth 1 depth

-- a queue of one place for columns of these widths: a flag, and a register for each column
abbrev pub cost_of_place : List ℕ → Cost
cost_of_place columns = record {
  nodes = 4 + 2 * length columns;
  registers = 1 + sum columns;
  memories = 0;
}

-- a ring: two addresses and a flag, and one memory a column, whose words are a power of two
abbrev pub cost_of_ring : ℕ → List ℕ → Cost
cost_of_ring depth columns = record {
  nodes = 22 + 2 * length columns;
  registers = 2 * address_bits depth + 1;
  memories = ring depth * sum columns;
}

-- a queue with so many places: one place stands in registers, more are a ring
unfoldable pub cost_of_queue : ℕ → List ℕ → Cost
cost_of_queue depth columns = if nat_eq depth 1 then cost_of_place columns else cost_of_ring depth columns

-- two wires of these columns merged through queues of so many places
abbrev pub cost_of_merging : ℕ → ℕ → List ℕ → Cost
cost_of_merging depth_a depth_b columns =
    let a = cost_of_queue depth_a columns in
    let b = cost_of_queue depth_b columns in
    record {
      nodes = a.nodes + b.nodes + 12 + length columns;
      registers = a.registers + b.registers + 2;
      memories = a.memories + b.memories;
    }

-- a queue whose entries leave apart: a timer of 32 bits beside it
abbrev pub cost_of_pacing : ℕ → List ℕ → Cost
cost_of_pacing depth columns =
    let queue = cost_of_queue depth columns in
    record { nodes = queue.nodes + 10; registers = queue.registers + 32; memories = queue.memories }

-- all that a wire of these columns carries, some cycles apart: its two lines are columns of the queue
abbrev pub cost_of_spacing : ℕ → List ℕ → Cost
cost_of_spacing depth columns =
    let pacing = cost_of_pacing depth (1 ∷ 1 ∷ columns) in
    record { nodes = pacing.nodes + 3; registers = pacing.registers; memories = pacing.memories }

-- two wires of these columns joined at their ends
abbrev pub cost_of_joining : List ℕ → List ℕ → Cost
cost_of_joining left right = record {
  nodes = 9 + 3 * length left + 3 * length right;
  registers = 4 + 2 * sum left + 2 * sum right;
  memories = 0;
}
