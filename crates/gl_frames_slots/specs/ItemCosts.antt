-- What items over the rows of each slot cost at most, for slots of so many bits.
use Rattle.std.specs.Prelude.{ℕ, ◌+◌, ◌-◌, ◌*◌, ◌^◌, List, Option, Some, None, sum_by}
use Rattle.gl_algebra.specs.Columns.{kind_of_frame, kind_of_operand}
use Rattle.gl_algebra.specs.Frames.{delay_of_frame}
use Rattle.gl_algebra.specs.Rings.{digits}
use Rattle.gl_algebra.specs.declared.node.PlanFrame.{PlanFrame}
use Rattle.gl_algebra.specs.declared.node.PlanFrame.TheVariants.{Lag, Over, Own}
use Rattle.gl_algebra.specs.declared.node.PlanFrameAgg.{PlanFrameAgg}
use Rattle.gl_algebra.specs.declared.node.PlanFrameAgg.TheVariants.{Avg, Count, LastValue, Max, Min, Sum}
use Rattle.gl_values.specs.Kinds.{width_of}
use Rattle.gl_values.specs.declared.kind.Kind.{Kind}
use Rattle.gl_frames_stages.specs.DelayNets.{cost_of_late}
use Rattle.gl_frames_stages.specs.Framing.{cost_of_own}
use Rattle.gl_frames_wire.specs.Reaches.{place_bits}
use Rattle.gl_totals.specs.Costs.{cost_of_quotient}
use Rattle.gl_wire.specs.Costs.{Cost}
use Rattle.gl_frames_slots.specs.BestNets.{cost_of_slot_doublings}

-- an operand, a lag by slots of so many bits, and a choice of its word
abbrev pub cost_of_slot_lag : ℕ → ℕ → ℕ → Cost
cost_of_slot_lag slot width back = record {
  nodes = 14;
  registers = 1 + width;
  memories = 2 ^ (slot + place_bits back) * width;
}

-- an operand, its word where the row passes, and the sum of a frame
abbrev pub cost_of_slot_sum : ℕ → ℕ → ℕ → Cost
cost_of_slot_sum slot width back = record {
  nodes = 38;
  registers = 5 + 2 * slot + 5 * width;
  memories = 2 ^ (slot + place_bits (back + 1)) * width + 2 ^ slot * width;
}

-- an operand, its word where the row passes, and a sum of all
abbrev pub cost_of_slot_all : ℕ → ℕ → Cost
cost_of_slot_all slot width = record { nodes = 16; registers = 2 * width; memories = 2 ^ slot * width }

-- what is made of a count, at most so many rows
abbrev pub cost_of_slot_number : Cost
cost_of_slot_number = record { nodes = 9; registers = 32; memories = 0 }

-- the sum of the bits of a frame, in 32 bits
abbrev pub cost_of_slot_passing : ℕ → ℕ → Cost
cost_of_slot_passing slot back = record {
  nodes = 45;
  registers = 103 + 2 * slot;
  memories = 2 ^ (slot + place_bits (back + 1)) + 2 ^ slot * 32;
}

-- an operand, its word where the row passes, and the sum of its numbers, beside the number of rows and a cut of it
abbrev pub cost_of_slot_fraction : ℕ → ℕ → ℕ → Cost
cost_of_slot_fraction slot width back = record {
  nodes = 95;
  registers = 108 + 4 * slot + 2 * width + 3 * (width + digits (back + 1));
  memories = 2 ^ (slot + place_bits (back + 1)) * width + 2 ^ slot * (width + digits (back + 1))
      + (cost_of_slot_passing slot back).memories;
}

-- the fraction, its division, and a cut
abbrev pub cost_of_slot_average : ℕ → ℕ → ℕ → Cost
cost_of_slot_average slot width back =
    let division = cost_of_quotient (width + digits (back + 1)) (digits (back + 1)) in
    record {
      nodes = (cost_of_slot_fraction slot width back).nodes + division.nodes + 2;
      registers = (cost_of_slot_fraction slot width back).registers + division.registers;
      memories = (cost_of_slot_fraction slot width back).memories;
    }

-- an operand, its word where the row passes, the sum of its numbers, and a count of those that pass
abbrev pub cost_of_slot_whole_fraction : ℕ → ℕ → Cost
cost_of_slot_whole_fraction slot width = record {
  nodes = 37;
  registers = 2 * (width + 32) + 64;
  memories = 2 ^ slot * (width + 32) + 2 ^ slot * 32;
}

-- the fraction, its division, and a cut
abbrev pub cost_of_slot_whole_average : ℕ → ℕ → Cost
cost_of_slot_whole_average slot width =
    let division = cost_of_quotient (width + 32) 32 in
    record {
      nodes = 39 + division.nodes;
      registers = 2 * (width + 32) + 64 + division.registers;
      memories = 2 ^ slot * (width + 32) + 2 ^ slot * 32;
    }

-- two operands, a gate, the last value and a register
abbrev pub cost_of_slot_last : ℕ → ℕ → Cost
cost_of_slot_last slot width = record { nodes = 14; registers = 2 * width; memories = 2 ^ slot * width }

-- two operands, the last value, its age, and a register
abbrev pub cost_of_slot_recent : ℕ → ℕ → ℕ → Cost
cost_of_slot_recent slot width back = record {
  nodes = 36;
  registers = place_bits (back + 1) + 1 + 2 * width;
  memories = 2 ^ slot * width + 2 ^ slot * (place_bits (back + 1) + 1);
}

-- a count of the last rows, of all of them or of those that pass
abbrev pub cost_of_slot_count : ℕ → Option ℕ → ℕ → Cost
cost_of_slot_count slot None back = cost_of_slot_number
cost_of_slot_count slot (Some column) back = cost_of_slot_passing slot back

-- an operand, all levels of doubling by slots, and a register
abbrev pub cost_of_slot_extreme : ℕ → ℕ → ℕ → Cost
cost_of_slot_extreme slot width back =
    let levels = cost_of_slot_doublings slot 5 back 1 (back + 1) width in
    record { nodes = levels.nodes + 2; registers = levels.registers + width; memories = levels.memories }

-- words with a bit above the value, all levels of doubling of them, and a cut
abbrev pub cost_of_slot_filtered : ℕ → ℕ → ℕ → Cost
cost_of_slot_filtered slot width back =
    let levels = cost_of_slot_doublings slot 12 back 1 (back + 1) (width + 1) in
    record { nodes = levels.nodes + 9; registers = levels.registers + width + 1; memories = levels.memories }

-- an extreme of the last rows, of all of them or of those that pass
abbrev pub cost_of_slot_extreme_by : ℕ → Option ℕ → ℕ → ℕ → Cost
cost_of_slot_extreme_by slot None width back = cost_of_slot_extreme slot width back
cost_of_slot_extreme_by slot (Some column) width back = cost_of_slot_filtered slot width back

-- such words, the best so far, a cut and a register
abbrev pub cost_of_slot_best : ℕ → ℕ → Cost
cost_of_slot_best slot width = record { nodes = 32; registers = 2 * width + 1; memories = 2 ^ slot * (width + 1) }

-- an extreme of a frame
abbrev pub cost_of_slot_extreme_over : ℕ → Option ℕ → ℕ → Option ℕ → Cost
cost_of_slot_extreme_over slot by width None = cost_of_slot_best slot width
cost_of_slot_extreme_over slot by width (Some back) = cost_of_slot_extreme_by slot by width back

-- a sum, a number of rows in 32 bits, an average, an extreme, or a last value
abbrev pub cost_of_slot_over : ℕ → List Kind → PlanFrameAgg → Option ℕ → Option ℕ → Cost
cost_of_slot_over slot kinds (Sum operand) by (Some back) =
    cost_of_slot_sum slot (width_of (kind_of_operand kinds operand)) back
cost_of_slot_over slot kinds (Sum operand) by None = cost_of_slot_all slot (width_of (kind_of_operand kinds operand))
cost_of_slot_over slot kinds Count by (Some back) = cost_of_slot_count slot by back
cost_of_slot_over slot kinds Count by None = cost_of_slot_all slot 32
cost_of_slot_over slot kinds (Avg operand) by (Some back) =
    cost_of_slot_average slot (width_of (kind_of_operand kinds operand)) back
cost_of_slot_over slot kinds (Avg operand) by None =
    cost_of_slot_whole_average slot (width_of (kind_of_operand kinds operand))
cost_of_slot_over slot kinds (Min operand) by back =
    cost_of_slot_extreme_over slot by (width_of (kind_of_operand kinds operand)) back
cost_of_slot_over slot kinds (Max operand) by back =
    cost_of_slot_extreme_over slot by (width_of (kind_of_operand kinds operand)) back
cost_of_slot_over slot kinds (LastValue operand) None back = cost_of_own (width_of (kind_of_operand kinds operand))
cost_of_slot_over slot kinds (LastValue operand) (Some column) None =
    cost_of_slot_last slot (width_of (kind_of_operand kinds operand))
cost_of_slot_over slot kinds (LastValue operand) (Some column) (Some back) =
    cost_of_slot_recent slot (width_of (kind_of_operand kinds operand)) back

-- what an item costs at most, as late as it is
abbrev pub cost_of_slot_item : ℕ → List Kind → PlanFrame → Cost
cost_of_slot_item slot kinds (Own operand) = cost_of_own (width_of (kind_of_operand kinds operand))
cost_of_slot_item slot kinds (Lag operand back) = cost_of_slot_lag slot (width_of (kind_of_operand kinds operand)) back
cost_of_slot_item slot kinds (Over agg by back) = cost_of_slot_over slot kinds agg by back

-- so many cycles behind each row
abbrev pub cost_of_slot_item_late : ℕ → List Kind → ℕ → PlanFrame → Cost
cost_of_slot_item_late slot kinds cycles item =
    let late = cost_of_late (cycles - delay_of_frame kinds item) (width_of (kind_of_frame kinds item)) in
    record {
      nodes = (cost_of_slot_item slot kinds item).nodes + late.nodes;
      registers = (cost_of_slot_item slot kinds item).registers + late.registers;
      memories = (cost_of_slot_item slot kinds item).memories + late.memories;
    }

abbrev pub cost_of_slot_items : ℕ → List Kind → ℕ → List PlanFrame → Cost
cost_of_slot_items slot kinds cycles items = record {
  nodes = sum_by (λ item. (cost_of_slot_item_late slot kinds cycles item).nodes) items;
  registers = sum_by (λ item. (cost_of_slot_item_late slot kinds cycles item).registers) items;
  memories = sum_by (λ item. (cost_of_slot_item_late slot kinds cycles item).memories) items;
}
