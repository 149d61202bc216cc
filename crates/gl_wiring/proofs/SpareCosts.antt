-- What the parts of windows with spare copies cost is within what a plan counts for its root.
use Rattle.std.proofs.Common.{◌≡◌, ℕ, ◌+◌, ◌-◌, ◌*◌, ◌≤◌, List, length, Some, ap, ◌∙◌, arith}
use Rattle.std.proofs.Math.Nat.{add-mul}
use Rattle.gl_values.specs.Kinds.{IsKind}
use Rattle.std.specs.List.{All}
use Rattle.gl_algebra.specs.declared.node.PlanNode.{PlanNode}
use Rattle.gl_algebra.specs.declared.node.PlanNode.TheVariants.{Window}
use Rattle.gl_algebra.specs.Cost.{keys_of, lean_of, lean_of_spacer, store_of}
use Rattle.gl_algebra.specs.FigureTable.{figures_of, window_gap}
use Rattle.gl_algebra.specs.Fits.{IsPlan}
use Rattle.gl_algebra.specs.Laws.{FollowsTables}
use Rattle.gl_algebra.specs.Roots.{of_further, part_of_copy}
use Rattle.gl_algebra.specs.Shapes.{Shape, kinds_of, shape_of}
use Rattle.gl_algebra.specs.Views.{copies_of_window, of_body}
use Rattle.gl_algebra.specs.Weights.{lines_of, weight_of, weight_of_copies}
use Rattle.gl_figures.proofs.PrintedLemmas.{enough}
use Rattle.gl_figures.proofs.RootLemmas.{further_there}
use Rattle.gl_net.specs.Net.{Net}
use Rattle.gl_windows.specs.Costs.{IsCounted, counted_for}
use Rattle.gl_spare.specs.Costs.{cost_of_front, cost_of_rotation}
use Rattle.gl_wire_registers.specs.Joins.{cost_of_back}
use Rattle.gl_wire.specs.Costs.{CostsAtMost}
use Rattle.gl_wire.proofs.CountLemmas.{narrow_kinds}
use Rattle.gl_wiring.specs.declared.spare_windows.SpareWindowOf.{SpareWindowOf}
use Rattle.gl_wiring.specs.Below.{LawsBelow}
use Rattle.gl_wiring.specs.Leaves.{widths_of}
use Rattle.gl_wiring.specs.Put.{plan_cost}
use Rattle.gl_wiring.specs.Roots.{root_cost}
use Rattle.gl_wiring.specs.SpareWindows.{IsSpareWindow, cost_to_front}
use Rattle.gl_wiring.specs.Copies.{cost_of_spaced, times}
use Rattle.gl_wiring.proofs.CostLemmas.{at_most, costs_then}
use Rattle.gl_wiring.proofs.WindowCosts.{keys, lean, own_lines, source_lines, store, weight}

-- `most` copies, those for windows that can be open at once and the further ones
split : (count most each : ℕ) → count ≤ most → most * each ≡ count * each + (most - count) * each
split count most each enough =
    let whole : most ≡ count + (most - count) = omega (arith, enough) in
    let parts : (count + (most - count)) * each ≡ count * each + (most - count) * each = add-mul count (most - count) each in
    ap (λ (n : ℕ). n * each) whole ∙ parts

-- nodes, bits of registers, and bits of memories
nodes_within : (source body spacer front back count most s o a : ℕ) → count ≤ most → front + back ≤ weight_of_copies most 0 s o + 4 * a
    → source + front + most * body + back
    ≤ source + (weight_of_copies count body s o + 4 * a + spacer) + (most - count) * (body + 8 * (s + o + 4))
nodes_within source body spacer front back count most s o a enough h =
    let each : count * (body + 8 * (s + o + 4)) ≡ count * body + count * (0 + 8 * (s + o + 4)) = omega arith in
    let more : (most - count) * (body + 8 * (s + o + 4)) ≡ (most - count) * body + (most - count) * (0 + 8 * (s + o + 4)) = omega arith in
    let bodies = split count most body enough in
    let parts = split count most (0 + 8 * (s + o + 4)) enough in
    omega (arith, h, each, more, bodies, parts)

bits_within : (source body spacer front back count most s o a keys body_keys : ℕ) → count ≤ most → front + back ≤ 64 * (weight_of_copies most 0 s o + 4 * a)
    → 64 * source + keys + front + most * (64 * body + body_keys) + back
    ≤ 64 * (source + (weight_of_copies count body s o + 4 * a + spacer) + (most - count) * (body + 8 * (s + o + 4)))
    + (keys + count * body_keys + (most - count) * body_keys)
bits_within source body spacer front back count most s o a keys body_keys enough h =
    let each : count * (body + 8 * (s + o + 4)) ≡ count * body + count * (0 + 8 * (s + o + 4)) = omega arith in
    let more : (most - count) * (body + 8 * (s + o + 4)) ≡ (most - count) * body + (most - count) * (0 + 8 * (s + o + 4)) = omega arith in
    let bodies = split count most body enough in
    let held = split count most body_keys enough in
    let parts = split count most (0 + 8 * (s + o + 4)) enough in
    let bits : most * (64 * body + body_keys) ≡ 64 * (most * body) + most * body_keys = omega arith in
    omega (arith, h, each, more, bodies, held, parts, bits)

stored_within : (source body spacer count most : ℕ) → count ≤ most
    → source + 0 + most * body + 0 ≤ source + (count * body + spacer) + (most - count) * body
stored_within source body spacer count most enough =
    let bodies = split count most body enough in
    omega (arith, bodies)

-- all parts
module _ (laws : LawsBelow) (nodes : List PlanNode) (w : SpareWindowOf) (plan : IsPlan nodes) (is : IsSpareWindow nodes w) (kinds_source : All IsKind (kinds_of nodes w.window.source))
    (kinds_body : All IsKind (kinds_of nodes w.window.body)) where
  abbrev node : PlanNode
  node = Window w.window.source w.window.body w.window.size w.window.advance

  abbrev count : ℕ
  count = copies_of_window w.window.size w.window.advance

  abbrev most : ℕ
  most = w.spare.copies

  abbrev delay : ℕ
  delay = (figures_of nodes w.window.body).a

  abbrev source : List ℕ
  source = widths_of (kinds_of nodes w.window.source)

  abbrev own : List ℕ
  own = widths_of (kinds_of nodes w.window.body)

  abbrev part : ℕ → ℕ
  part body = body + 8 * (length source + 2 + (length own + 2) + 4)

  follows : FollowsTables nodes w.window.id node
  follows = laws.nodes_follow_tables nodes w.window.id node plan is.window'

  all_there : count ≤ most
  all_there = enough nodes w.window.id w.spare plan is.window' is.spare'

  rotation : IsCounted (cost_of_rotation most delay source own) (counted_for most delay source own) (counted_for most delay source own)
  rotation =
      laws.spares_are_counted most delay source own
      (narrow_kinds (kinds_of nodes w.window.source) kinds_source) (narrow_kinds (kinds_of nodes w.window.body) kinds_body)

  more : (each : PlanNode → ℕ) → of_further each nodes w.window.id ≡ (most - count) * each node
  more each = further_there each nodes w.window.id node (Some w.spare) is.window' is.spare'

  -- what a copy adds, by the lines of the columns
  part_is : (values : ℕ → ℕ) → part_of_copy (shape_of nodes) values (lines_of (shape_of nodes w.window.id)) node ≡ part (values w.window.body)
  part_is values =
      rw (source_lines laws nodes w.window plan is.window' kinds_source kinds_body, own_lines laws nodes w.window plan is.window' kinds_source kinds_body)
      (ap (λ (s : Shape). part_of_copy (shape_of nodes) values (lines_of s) node) follows.shape)

  further_of : (values : ℕ → ℕ)
      → of_further (part_of_copy (shape_of nodes) values (lines_of (shape_of nodes w.window.id))) nodes w.window.id ≡ (most - count) * part (values w.window.body)
  further_of values =
      more (part_of_copy (shape_of nodes) values (lines_of (shape_of nodes w.window.id))) ∙ ap (λ (n : ℕ). (most - count) * n) (part_is values)

  pub spare_cost : (old mid net new : Net) → CostsAtMost old mid (cost_to_front nodes w) → CostsAtMost mid net (times most (plan_cost nodes w.window.body))
      → CostsAtMost net new (cost_of_back most own) → CostsAtMost old new (root_cost nodes w.window.id)
  spare_cost old mid net new front bodies back =
      let all = costs_then old net new _ _ (costs_then old mid net _ _ front bodies) back in
      let spacer = cost_of_spaced (window_gap (figures_of nodes w.window.body)) (figures_of nodes w.window.source) source in
      let lean_spacer : ℕ = lean_of_spacer (window_gap (figures_of nodes w.window.body)) (figures_of nodes w.window.source) (length source + 2) in
      let fore = cost_of_front most delay source in
      let rear = cost_of_back most own in
      let own_weight = weight laws nodes w.window plan is.window' kinds_source kinds_body in
      let own_lean = lean laws nodes w.window plan is.window' kinds_source kinds_body in
      let own_keys = keys laws nodes w.window plan is.window' kinds_source kinds_body in
      let own_store = store laws nodes w.window plan is.window' kinds_source kinds_body in
      record {
        nodes = rw (own_weight, further_of (weight_of nodes)) (at_most _ _ _ _ all.nodes
            (nodes_within (weight_of nodes w.window.source) (weight_of nodes w.window.body) spacer.nodes fore.nodes rear.nodes count most
            (length source + 2) (length own + 2) delay all_there rotation.nodes));
        registers = rw (own_lean, own_keys, further_of (lean_of nodes), more (of_body (keys_of nodes))) (at_most _ _ _ _ all.registers
            (bits_within (lean_of nodes w.window.source) (lean_of nodes w.window.body) lean_spacer fore.registers rear.registers count most
            (length source + 2) (length own + 2) delay (keys_of nodes w.window.source) (keys_of nodes w.window.body) all_there rotation.registers));
        memories = rw (own_store, more (of_body (store_of nodes))) (at_most _ _ _ _ all.memories
            (stored_within (store_of nodes w.window.source) (store_of nodes w.window.body) spacer.memories count most all_there));
      }
