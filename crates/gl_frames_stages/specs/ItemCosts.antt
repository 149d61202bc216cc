-- What items cost at most.
use Rattle.std.specs.Prelude.{ℕ, ◌+◌, ◌-◌, Option, Some, None, List, sum_by}
use Rattle.gl_algebra.specs.Columns.{kind_of_frame, kind_of_operand}
use Rattle.gl_algebra.specs.Frames.{delay_of_frame}
use Rattle.gl_algebra.specs.declared.node.PlanFrame.{PlanFrame}
use Rattle.gl_algebra.specs.declared.node.PlanFrame.TheVariants.{Lag, Over, Own}
use Rattle.gl_algebra.specs.declared.node.PlanFrameAgg.{PlanFrameAgg}
use Rattle.gl_algebra.specs.declared.node.PlanFrameAgg.TheVariants.{Avg, Count, LastValue, Max, Min, Sum}
use Rattle.gl_values.specs.Kinds.{width_of}
use Rattle.gl_values.specs.declared.kind.Kind.{Kind}
use Rattle.gl_wire.specs.Costs.{Cost}
use Rattle.gl_frames_stages.specs.Average.{cost_of_frame_average}
use Rattle.gl_frames_stages.specs.DelayNets.{cost_of_late, cost_of_late_lines}
use Rattle.gl_frames_stages.specs.FilteredNets.{cost_of_filtered_extreme}
use Rattle.gl_frames_stages.specs.Framing.{cost_of_frame_extreme, cost_of_frame_sum, cost_of_lag, cost_of_last, cost_of_number, cost_of_own, cost_of_passing_count, cost_of_recent}
use Rattle.gl_frames_stages.specs.Wholes.{cost_of_all_average, cost_of_all_count, cost_of_all_extreme, cost_of_all_sum}

-- a function over all rows up to each
abbrev pub cost_of_all : List Kind → PlanFrameAgg → Cost
cost_of_all kinds Count = cost_of_all_count
cost_of_all kinds (Sum operand) = cost_of_all_sum (width_of (kind_of_operand kinds operand))
cost_of_all kinds (Min operand) = cost_of_all_extreme (width_of (kind_of_operand kinds operand))
cost_of_all kinds (Max operand) = cost_of_all_extreme (width_of (kind_of_operand kinds operand))
cost_of_all kinds (Avg operand) = cost_of_all_average (width_of (kind_of_operand kinds operand))
cost_of_all kinds (LastValue operand) = cost_of_last (width_of (kind_of_operand kinds operand))

-- a count of the last rows, of all of them or of those that pass
abbrev pub cost_of_count_by : Option ℕ → ℕ → Cost
cost_of_count_by None back = cost_of_number back
cost_of_count_by (Some column) back = cost_of_passing_count back

-- an extreme of the last rows, of all of them or of those that pass
abbrev pub cost_of_extreme_by : Option ℕ → ℕ → ℕ → Cost
cost_of_extreme_by None width back = cost_of_frame_extreme width back
cost_of_extreme_by (Some column) width back = cost_of_filtered_extreme width back

-- a function over the last rows up to each
abbrev pub cost_of_last_rows : List Kind → PlanFrameAgg → Option ℕ → ℕ → Cost
cost_of_last_rows kinds Count by back = cost_of_count_by by back
cost_of_last_rows kinds (Sum operand) by back = cost_of_frame_sum (width_of (kind_of_operand kinds operand)) back
cost_of_last_rows kinds (Min operand) by back = cost_of_extreme_by by (width_of (kind_of_operand kinds operand)) back
cost_of_last_rows kinds (Max operand) by back = cost_of_extreme_by by (width_of (kind_of_operand kinds operand)) back
cost_of_last_rows kinds (Avg operand) by back = cost_of_frame_average (width_of (kind_of_operand kinds operand)) back
cost_of_last_rows kinds (LastValue operand) by back = cost_of_recent (width_of (kind_of_operand kinds operand)) back

-- a function over a frame
abbrev pub cost_of_frame : List Kind → PlanFrameAgg → Option ℕ → Option ℕ → Cost
cost_of_frame kinds agg by None = cost_of_all kinds agg
cost_of_frame kinds agg by (Some back) = cost_of_last_rows kinds agg by back

-- an item, as late as it is
abbrev pub cost_of_item : List Kind → PlanFrame → Cost
cost_of_item kinds (Own operand) = cost_of_own (width_of (kind_of_operand kinds operand))
cost_of_item kinds (Lag operand back) = cost_of_lag (width_of (kind_of_operand kinds operand)) back
cost_of_item kinds (Over agg by back) = cost_of_frame kinds agg by back

-- an item so many cycles later
abbrev pub cost_of_item_late : List Kind → ℕ → PlanFrame → Cost
cost_of_item_late kinds cycles item =
    let late = cost_of_late (cycles - delay_of_frame kinds item) (width_of (kind_of_frame kinds item)) in
    record {
      nodes = (cost_of_item kinds item).nodes + late.nodes;
      registers = (cost_of_item kinds item).registers + late.registers;
      memories = (cost_of_item kinds item).memories + late.memories;
    }

-- all items so many cycles later
abbrev pub cost_of_items : List Kind → ℕ → List PlanFrame → Cost
cost_of_items kinds cycles items = record {
  nodes = sum_by (λ item. (cost_of_item_late kinds cycles item).nodes) items;
  registers = sum_by (λ item. (cost_of_item_late kinds cycles item).registers) items;
  memories = sum_by (λ item. (cost_of_item_late kinds cycles item).memories) items;
}

-- all items and the lines beside them
abbrev pub cost_of_frames : List Kind → ℕ → List PlanFrame → Cost
cost_of_frames kinds cycles items = record {
  nodes = (cost_of_items kinds cycles items).nodes + (cost_of_late_lines cycles).nodes;
  registers = (cost_of_items kinds cycles items).registers + (cost_of_late_lines cycles).registers;
  memories = (cost_of_items kinds cycles items).memories + (cost_of_late_lines cycles).memories;
}
