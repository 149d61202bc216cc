-- What the parts of a window of time cost is within what a plan counts for it.
use Rattle.std.proofs.Common.{◌≡◌, ℕ, ◌+◌, ◌*◌, ◌≤◌, List, length, arith}
use Rattle.std.specs.List.{All}
use Rattle.std.proofs.lemmas.List.{length-map}
use Rattle.gl_values.specs.Kinds.{IsKind, width_of}
use Rattle.gl_algebra.specs.declared.node.PlanNode.{PlanNode}
use Rattle.gl_algebra.specs.declared.node.PlanNode.TheVariants.{TimeWindow}
use Rattle.gl_algebra.specs.Cost.{keys_of, lean_of, lean_of_spacer, store_of}
use Rattle.gl_algebra.specs.FigureTable.{figures_of, window_gap}
use Rattle.gl_algebra.specs.Fits.{IsPlan}
use Rattle.gl_algebra.specs.Views.{copies_of_time}
use Rattle.gl_algebra.specs.Shapes.{kinds_of}
use Rattle.gl_algebra.specs.Weights.{weight_of, weight_of_copies}
use Rattle.gl_net.specs.Net.{Net}
use Rattle.gl_figures.specs.Reach.{keys_part, lean_part, store_part, weight_part}
use Rattle.gl_figures.proofs.PartLemmas.{HasParts, parts_at}
use Rattle.gl_windows.specs.Costs.{IsCounted, cost_of_time_front, cost_of_time_rotation, counted_for}
use Rattle.gl_wire_registers.specs.Joins.{cost_of_back}
use Rattle.gl_wire.specs.Costs.{Cost, CostsAtMost}
use Rattle.gl_wire.proofs.CountLemmas.{narrow_kinds}
use Rattle.gl_wiring.specs.declared.time_windows.TimeWindowOf.{TimeWindowOf}
use Rattle.gl_wiring.specs.Below.{LawsBelow}
use Rattle.gl_wiring.specs.Leaves.{widths_of}
use Rattle.gl_wiring.specs.Put.{plan_cost, own_cost}
use Rattle.gl_wiring.specs.TimeWindows.{IsTimeWindow, cost_to_time_front}
use Rattle.gl_wiring.specs.Copies.{cost_of_spaced, times}
use Rattle.gl_wiring.proofs.CostLemmas.{at_most, costs_then}
use Rattle.gl_wiring.proofs.WindowCosts.{bits_within, nodes_within}

-- a plan counts a spacer where one would stand, and none does
without : (spacer front bodies back most : ℕ) → spacer + front + bodies + back ≤ most → front + bodies + back ≤ most
without spacer front bodies back most h = omega (arith, h)

stored_within : (bodies spacer : ℕ) → 0 + bodies + 0 ≤ bodies + spacer
stored_within bodies spacer = omega arith

-- all parts
module _ (laws : LawsBelow) (nodes : List PlanNode) (w : TimeWindowOf) (plan : IsPlan nodes) (at : IsTimeWindow nodes w) (kinds_source : All IsKind (kinds_of nodes w.source))
    (kinds_body : All IsKind (kinds_of nodes w.body)) where
  abbrev count : ℕ
  count = copies_of_time w.size w.advance

  abbrev delay : ℕ
  delay = (figures_of nodes w.body).a

  abbrev source : List ℕ
  source = widths_of (kinds_of nodes w.source)

  abbrev own : List ℕ
  own = widths_of (kinds_of nodes w.body)

  abbrev spacer : Cost
  spacer = cost_of_spaced (window_gap (figures_of nodes w.body)) (figures_of nodes w.source) source

  abbrev lines : ℕ → ℕ
  lines body = weight_of_copies count body (length source + 2) (length own + 2)

  source_lines : length source ≡ length (kinds_of nodes w.source)
  source_lines = length-map (kinds_of nodes w.source) width_of

  own_lines : length own ≡ length (kinds_of nodes w.body)
  own_lines = length-map (kinds_of nodes w.body) width_of

  parts : HasParts nodes w.id (TimeWindow w.source w.body w.size w.advance)
  parts = parts_at nodes w.id (TimeWindow w.source w.body w.size w.advance) at

  rotation : IsCounted (cost_of_time_rotation count delay source own) (counted_for count delay source own) (counted_for count delay source own)
  rotation =
      laws.times_are_counted count delay source own
      (narrow_kinds (kinds_of nodes w.source) kinds_source) (narrow_kinds (kinds_of nodes w.body) kinds_body)

  weight : weight_part nodes w.id ≡ lines (weight_of nodes w.body) + 4 * delay + spacer.nodes
  weight = rw (source_lines, own_lines) parts.weight

  abbrev lean_spacer : ℕ
  lean_spacer = lean_of_spacer (window_gap (figures_of nodes w.body)) (figures_of nodes w.source) (length source + 2)

  lean : lean_part nodes w.id ≡ lines (lean_of nodes w.body) + 4 * delay + lean_spacer
  lean = rw (source_lines, own_lines) parts.lean

  keys : keys_part nodes w.id ≡ count * keys_of nodes w.body
  keys = parts.keys

  store : store_part nodes w.id ≡ count * store_of nodes w.body + spacer.memories
  store = rw source_lines parts.store

  pub time_window_cost : (old mid net new : Net) → CostsAtMost old mid (cost_to_time_front nodes w) → CostsAtMost mid net (times count (plan_cost nodes w.body))
      → CostsAtMost net new (cost_of_back count own) → CostsAtMost old new (own_cost nodes w.id)
  time_window_cost old mid net new front bodies back =
      let all = costs_then old net new _ _ (costs_then old mid net _ _ front bodies) back in
      record {
        nodes =
            let z = nodes_within (weight_of nodes w.body) spacer.nodes (cost_of_time_front count delay source).nodes
            (cost_of_back count own).nodes count (length source + 2) (length own + 2) (4 * delay) rotation.nodes in
            rw weight (at_most _ _ _ _ all.nodes
            (without spacer.nodes (cost_of_time_front count delay source).nodes (count * weight_of nodes w.body) (cost_of_back count own).nodes _ z));
        registers =
            let z = bits_within (lean_of nodes w.body) (keys_of nodes w.body) lean_spacer
            (cost_of_time_front count delay source).registers (cost_of_back count own).registers count (length source + 2) (length own + 2) (4 * delay)
            rotation.registers in
            rw (lean, keys) (at_most _ _ _ _ all.registers
            (without (64 * lean_spacer) (cost_of_time_front count delay source).registers
            (count * (64 * lean_of nodes w.body + keys_of nodes w.body)) (cost_of_back count own).registers _ z));
        memories = rw store (at_most _ _ _ _ all.memories (stored_within (count * store_of nodes w.body) spacer.memories));
      }
