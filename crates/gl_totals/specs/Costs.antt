-- What the totals cost at most.
use Rattle.std.specs.Prelude.{ℕ, ◌+◌, ◌-◌, ◌*◌, ◌^◌, List, length, sum_by}
use Rattle.gl_values.specs.Kinds.{width_of}
use Rattle.gl_values.specs.declared.kind.Kind.{Kind}
use Rattle.gl_algebra.specs.declared.node.PlanAgg.{PlanAgg}
use Rattle.gl_algebra.specs.declared.node.PlanAgg.TheVariants.{Count, Sum, Min, Max, Avg, Wsum}
use Rattle.gl_algebra.specs.Columns.{kind_of_agg, kind_of_operand}
use Rattle.gl_algebra.specs.FigureTable.{delay_of_aggs}
use Rattle.gl_algebra.specs.Weights.{weight_of_agg}
use Rattle.gl_divide.specs.Divider.{cost_of_stages}
use Rattle.gl_totals.specs.declared.rows.Keep.{Keep}
use Rattle.gl_totals.specs.declared.rows.Keep.TheVariants.{Register, Slots}
use Rattle.gl_wire.specs.Costs.{Cost}

-- how many cycles the lines are behind the columns
abbrev pub lag_of : Keep → ℕ
lag_of Register = 0
lag_of (Slots first begins slot next) = 1

-- the words of a memory that keeps a state for each slot
abbrev pub slot_words : Keep → ℕ
slot_words Register = 0
slot_words (Slots first begins slot next) = 2 ^ slot.width

-- a register of this width that folds the open stream by a step of so many nodes; that of each slot takes six nodes
-- more, and a word as wide
abbrev pub cost_of_fold : Keep → ℕ → ℕ → Cost
cost_of_fold keep step width =
    record { nodes = 4 + step + 6 * lag_of keep; registers = width; memories = slot_words keep * width }

-- a constant and a fold
abbrev pub cost_of_count : Keep → Cost
cost_of_count keep = record { nodes = 6 + 6 * lag_of keep; registers = 32; memories = slot_words keep * 32 }

-- a bit that tells whether there was a value, and a register of 14 nodes; in slots a fold of values by seven nodes
abbrev pub cost_of_extreme : Keep → ℕ → Cost
cost_of_extreme keep width =
    record { nodes = 19 + 9 * lag_of keep; registers = width + 1; memories = slot_words keep * (width + 1) }

-- a sum of values that five nodes extend, and a count
abbrev pub cost_of_fraction : Keep → ℕ → Cost
cost_of_fraction keep width =
    record { nodes = 16 + 12 * lag_of keep; registers = width + 64; memories = slot_words keep * (width + 64) }

-- six gates and the divider
abbrev pub cost_of_divided : ℕ → ℕ → Cost
cost_of_divided top bottom = record {
  nodes = 6 + (cost_of_stages top top bottom).nodes;
  registers = (cost_of_stages top top bottom).registers;
  memories = 0;
}

-- these, the top's sign and what it is without it, the sign as late as the quotient, and the quotient with its sign
abbrev pub cost_of_quotient : ℕ → ℕ → Cost
cost_of_quotient top bottom = record {
  nodes = 13 + (cost_of_stages top top bottom).nodes + (top + 1);
  registers = (cost_of_stages top top bottom).registers + (top + 1);
  memories = 0;
}

-- these, the sum's sign and what it is without it, six gates, the divider and the sign beside it, and the quotient with
-- its sign in the width
abbrev pub cost_of_average : Keep → ℕ → Cost
cost_of_average keep width =
    let wide = width + 32 in
    record {
      nodes = 35 + 12 * lag_of keep + 15 * wide + (width + 33);
      registers = wide + 32 + (cost_of_stages wide wide 32).registers + (width + 33);
      memories = slot_words keep * (width + 64);
    }

-- a fold of values, one of places, and eight nodes a weight: three pick it, and five multiply by it without a multiplier
abbrev pub cost_of_weighted : Keep → ℕ → ℕ → Cost
cost_of_weighted keep width weights = record {
  nodes = 16 + 12 * lag_of keep + 8 * weights;
  registers = width + weights;
  memories = slot_words keep * (width + weights);
}

-- the bits of what is kept of the open stream
abbrev pub kept_of_agg : List Kind → PlanAgg → ℕ
kept_of_agg kinds Count = 32
kept_of_agg kinds (Sum operand) = width_of (kind_of_operand kinds operand)
kept_of_agg kinds (Min operand) = width_of (kind_of_operand kinds operand) + 1
kept_of_agg kinds (Max operand) = width_of (kind_of_operand kinds operand) + 1
kept_of_agg kinds (Avg operand) = width_of (kind_of_operand kinds operand) + 64
kept_of_agg kinds (Wsum operand weights) = width_of (kind_of_operand kinds operand) + length weights

-- the bits in which an aggregate keeps the open stream, and those of the divider of an average; the sign beside it is
-- counted with the stages
abbrev pub state_of_agg : List Kind → PlanAgg → ℕ
state_of_agg kinds Count = 32
state_of_agg kinds (Sum operand) = width_of (kind_of_operand kinds operand)
state_of_agg kinds (Min operand) = width_of (kind_of_operand kinds operand) + 1
state_of_agg kinds (Max operand) = width_of (kind_of_operand kinds operand) + 1
state_of_agg kinds (Avg operand) =
    let wide = width_of (kind_of_operand kinds operand) + 32 in
    wide + 32 + (cost_of_stages wide wide 32).registers
state_of_agg kinds (Wsum operand weights) = width_of (kind_of_operand kinds operand) + length weights

-- the bits of its operand
abbrev pub operand_of_agg : List Kind → PlanAgg → ℕ
operand_of_agg kinds Count = 0
operand_of_agg kinds (Sum operand) = width_of (kind_of_operand kinds operand)
operand_of_agg kinds (Min operand) = width_of (kind_of_operand kinds operand)
operand_of_agg kinds (Max operand) = width_of (kind_of_operand kinds operand)
operand_of_agg kinds (Avg operand) = width_of (kind_of_operand kinds operand)
operand_of_agg kinds (Wsum operand weights) = width_of (kind_of_operand kinds operand)

-- one aggregate, so many cycles after the end: a stage for each of them beside its own part
abbrev pub cost_of_agg : Keep → List Kind → ℕ → PlanAgg → Cost
cost_of_agg keep kinds cycles agg = record {
  nodes = cycles + weight_of_agg kinds agg + 6 * lag_of keep;
  registers = state_of_agg kinds agg + width_of (kind_of_agg kinds agg) * cycles
      + lag_of keep * operand_of_agg kinds agg;
  memories = slot_words keep * kept_of_agg kinds agg;
}

-- some aggregates, so many cycles after the end, without the line that is beside them
abbrev pub cost_of_each : Keep → List Kind → ℕ → List PlanAgg → Cost
cost_of_each keep kinds cycles aggs = record {
  nodes = sum_by (λ agg. cycles + weight_of_agg kinds agg) aggs + 6 * (lag_of keep * length aggs);
  registers = sum_by (λ agg. state_of_agg kinds agg + width_of (kind_of_agg kinds agg) * cycles) aggs
      + lag_of keep * sum_by (operand_of_agg kinds) aggs;
  memories = slot_words keep * sum_by (kept_of_agg kinds) aggs;
}

-- all aggregates of a node
abbrev pub cost_of_aggs : List Kind → List PlanAgg → Cost
cost_of_aggs kinds aggs =
    let cycles = delay_of_aggs kinds aggs in
    record {
      nodes = 4 * (length aggs + 2) + sum_by (λ agg. 2 * cycles + weight_of_agg kinds agg) aggs;
      registers = cycles + (cost_of_each Register kinds cycles aggs).registers;
      memories = 0;
    }

-- a table of all aggregates for slots whose numbers have so many bits
abbrev pub cost_of_table : ℕ → List Kind → List PlanAgg → Cost
cost_of_table bits kinds aggs =
    let cycles = delay_of_aggs kinds aggs in
    record {
      nodes = 2 * (cycles + 1) + 6 * length aggs + sum_by (λ agg. cycles - 1 + weight_of_agg kinds agg) aggs;
      registers = 256 * (length aggs * cycles);
      memories = 2 ^ bits * sum_by (kept_of_agg kinds) aggs;
    }
