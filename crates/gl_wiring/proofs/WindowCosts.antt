-- What a window's parts cost is within what a plan counts for it.
use Rattle.std.proofs.Common.{◌≡◌, ℕ, ◌+◌, ◌*◌, ◌≤◌, List, length, arith}
use Rattle.std.proofs.lemmas.List.{length-map}
use Rattle.gl_values.specs.Kinds.{IsKind, width_of}
use Rattle.std.specs.List.{All}
use Rattle.gl_algebra.specs.declared.node.PlanNode.{PlanNode}
use Rattle.gl_algebra.specs.declared.node.PlanNode.TheVariants.{Window}
use Rattle.gl_algebra.specs.Cost.{keys_of, lean_of, lean_of_spacer, store_of}
use Rattle.gl_algebra.specs.FigureTable.{figures_of, window_gap}
use Rattle.gl_algebra.specs.Fits.{IsPlan}
use Rattle.gl_algebra.specs.Views.{copies_of_window}
use Rattle.gl_algebra.specs.Laws.{FollowsTables}
use Rattle.gl_algebra.specs.Shapes.{kinds_of}
use Rattle.gl_algebra.specs.Weights.{weight_of, weight_of_copies}
use Rattle.gl_net.specs.Net.{Net}
use Rattle.gl_figures.specs.Reach.{keys_part, lean_part, store_part, weight_part}
use Rattle.gl_figures.proofs.PartLemmas.{HasParts, parts_at}
use Rattle.gl_windows.specs.Costs.{IsCounted, cost_of_front, cost_of_rotation, counted_for}
use Rattle.gl_wire_registers.specs.Joins.{cost_of_back}
use Rattle.gl_wire.specs.Costs.{Cost, CostsAtMost}
use Rattle.gl_wire.proofs.CountLemmas.{narrow_kinds}
use Rattle.gl_wiring.specs.declared.windows.WindowOf.{WindowOf}
use Rattle.gl_wiring.specs.Below.{LawsBelow}
use Rattle.gl_wiring.specs.Leaves.{widths_of}
use Rattle.gl_wiring.specs.Put.{plan_cost, own_cost}
use Rattle.gl_wiring.specs.Windows.{IsWindow, cost_to_front}
use Rattle.gl_wiring.specs.Copies.{cost_of_spaced, times}
use Rattle.gl_wiring.proofs.CostLemmas.{at_most, costs_then, stored_within}

-- nodes, bits of registers, and bits of memories
pub nodes_within : (body spacer front back c s o more : ℕ) → front + back ≤ weight_of_copies c 0 s o + more
    → spacer + front + c * body + back ≤ weight_of_copies c body s o + more + spacer
nodes_within body spacer front back c s o more h =
    let each : c * (body + 8 * (s + o + 4)) ≡ c * body + c * (0 + 8 * (s + o + 4)) = omega arith in
    omega (arith, h, each)

pub bits_within : (body own spacer front back c s o more : ℕ) → front + back ≤ 64 * (weight_of_copies c 0 s o + more)
    → 64 * spacer + front + c * (64 * body + own) + back ≤ 64 * (weight_of_copies c body s o + more + spacer) + c * own
bits_within body own spacer front back c s o more h =
    let each : c * (body + 8 * (s + o + 4)) ≡ c * body + c * (0 + 8 * (s + o + 4)) = omega arith in
    let bits : c * (64 * body + own) ≡ 64 * (c * body) + c * own = omega arith in
    omega (arith, h, each, bits)

-- all parts
module _ (laws : LawsBelow) (nodes : List PlanNode) (w : WindowOf) (plan : IsPlan nodes) (at : IsWindow nodes w) (kinds_source : All IsKind (kinds_of nodes w.source))
    (kinds_body : All IsKind (kinds_of nodes w.body)) where
  abbrev count : ℕ
  count = copies_of_window w.size w.advance

  abbrev delay : ℕ
  delay = (figures_of nodes w.body).a

  abbrev source : List ℕ
  source = widths_of (kinds_of nodes w.source)

  abbrev own : List ℕ
  own = widths_of (kinds_of nodes w.body)

  abbrev spacer : Cost
  spacer = cost_of_spaced (window_gap (figures_of nodes w.body)) (figures_of nodes w.source) source

  abbrev lines : ℕ → ℕ
  lines body = weight_of_copies count body (length source + 2) (length own + 2)

  pub source_lines : length source ≡ length (kinds_of nodes w.source)
  source_lines = length-map (kinds_of nodes w.source) width_of

  pub own_lines : length own ≡ length (kinds_of nodes w.body)
  own_lines = length-map (kinds_of nodes w.body) width_of

  follows : FollowsTables nodes w.id (Window w.source w.body w.size w.advance)
  follows = laws.nodes_follow_tables nodes w.id (Window w.source w.body w.size w.advance) plan at

  rotation : IsCounted (cost_of_rotation count delay source own) (counted_for count delay source own) (counted_for count delay source own)
  rotation =
      laws.rotations_are_counted count delay source own
      (narrow_kinds (kinds_of nodes w.source) kinds_source) (narrow_kinds (kinds_of nodes w.body) kinds_body)

  -- the whole of a window
  pub weight : weight_of nodes w.id ≡ weight_of nodes w.source + (lines (weight_of nodes w.body) + 4 * delay + spacer.nodes)
  weight = rw (source_lines, own_lines) follows.weight

  abbrev lean_spacer : ℕ
  lean_spacer = lean_of_spacer (window_gap (figures_of nodes w.body)) (figures_of nodes w.source) (length source + 2)

  pub lean : lean_of nodes w.id ≡ lean_of nodes w.source + (lines (lean_of nodes w.body) + 4 * delay + lean_spacer)
  lean = rw (source_lines, own_lines) follows.lean

  pub keys : keys_of nodes w.id ≡ keys_of nodes w.source + count * keys_of nodes w.body
  keys = follows.keys

  pub store : store_of nodes w.id ≡ store_of nodes w.source + (count * store_of nodes w.body + spacer.memories)
  store = rw source_lines follows.store

  -- its own part
  parts : HasParts nodes w.id (Window w.source w.body w.size w.advance)
  parts = parts_at nodes w.id (Window w.source w.body w.size w.advance) at

  own_weight : weight_part nodes w.id ≡ lines (weight_of nodes w.body) + 4 * delay + spacer.nodes
  own_weight = rw (source_lines, own_lines) parts.weight

  own_lean : lean_part nodes w.id ≡ lines (lean_of nodes w.body) + 4 * delay + lean_spacer
  own_lean = rw (source_lines, own_lines) parts.lean

  own_keys : keys_part nodes w.id ≡ count * keys_of nodes w.body
  own_keys = parts.keys

  own_store : store_part nodes w.id ≡ count * store_of nodes w.body + spacer.memories
  own_store = rw source_lines parts.store

  pub window_cost : (old mid net new : Net) → CostsAtMost old mid (cost_to_front nodes w) → CostsAtMost mid net (times count (plan_cost nodes w.body))
      → CostsAtMost net new (cost_of_back count own) → CostsAtMost old new (own_cost nodes w.id)
  window_cost old mid net new front bodies back =
      let all = costs_then old net new _ _ (costs_then old mid net _ _ front bodies) back in
      record {
        nodes = rw own_weight (at_most _ _ _ _ all.nodes
            (nodes_within (weight_of nodes w.body) spacer.nodes (cost_of_front count delay source).nodes (cost_of_back count own).nodes
            count (length source + 2) (length own + 2) (4 * delay) rotation.nodes));
        registers = rw (own_lean, own_keys) (at_most _ _ _ _ all.registers
            (bits_within (lean_of nodes w.body) (keys_of nodes w.body) lean_spacer (cost_of_front count delay source).registers
            (cost_of_back count own).registers count (length source + 2) (length own + 2) (4 * delay) rotation.registers));
        memories = rw own_store (at_most _ _ _ _ all.memories (stored_within (count * store_of nodes w.body) spacer.memories));
      }
