-- What the parts of windows of each group cost is within what a plan counts for them.
use Rattle.std.proofs.Common.{◌≡◌, ℕ, ◌+◌, ◌*◌, ◌≤◌, List, ◌∷◌, length, arith}
use Rattle.std.specs.List.{All}
use Rattle.std.proofs.lemmas.List.{length-map}
use Rattle.gl_values.specs.Kinds.{IsKind, width_of}
use Rattle.gl_values.specs.declared.kind.Kind.{Kind}
use Rattle.gl_algebra.specs.Columns.{kind_of_column}
use Rattle.gl_algebra.specs.declared.node.PlanNode.{PlanNode}
use Rattle.gl_algebra.specs.declared.node.PlanNode.TheVariants.{Partition}
use Rattle.gl_algebra.specs.Cost.{keys_of, lean_of, lean_of_spacer, store_of}
use Rattle.gl_algebra.specs.FigureTable.{figures_of, window_gap}
use Rattle.gl_algebra.specs.Fits.{IsPlan}
use Rattle.gl_algebra.specs.Shapes.{kinds_of}
use Rattle.gl_algebra.specs.Views.{copies_of_partition, copies_of_window}
use Rattle.gl_algebra.specs.Weights.{weight_of, weight_of_copies}
use Rattle.gl_net.specs.Net.{Net}
use Rattle.gl_figures.specs.Reach.{keys_part, lean_part, store_part, weight_part}
use Rattle.gl_figures.proofs.PartLemmas.{HasParts, parts_at}
use Rattle.gl_slots.specs.Costs.{IsCounted, cost_of_back}
use Rattle.gl_partition.specs.Costs.{cost_of_front, cost_of_partitioning, counted_for}
use Rattle.gl_wire.specs.Costs.{Cost, CostsAtMost}
use Rattle.gl_wire.proofs.CountLemmas.{narrow_kinds}
use Rattle.gl_wiring.specs.declared.partitions.PartitionOf.{PartitionOf}
use Rattle.gl_wiring.specs.Below.{LawsBelow}
use Rattle.gl_wiring.specs.Copies.{cost_of_spaced, times}
use Rattle.gl_wiring.specs.Leaves.{widths_of}
use Rattle.gl_wiring.specs.Partitions.{IsPartitionNode, cost_to_partitions}
use Rattle.gl_wiring.specs.Put.{plan_cost, own_cost}
use Rattle.gl_wiring.proofs.CostLemmas.{at_most, costs_then, stored_within}
use Rattle.gl_wiring.proofs.WindowCosts.{bits_within, nodes_within}

module _ (laws : LawsBelow) (nodes : List PlanNode) (p : PartitionOf) (plan : IsPlan nodes) (at : IsPartitionNode nodes p) (some : 1 ≤ copies_of_window p.size p.advance)
    (kinds_source : All IsKind (kinds_of nodes p.source)) (kinds_own : All IsKind (kind_of_column (kinds_of nodes p.source) p.key ∷ kinds_of nodes p.body)) where
  abbrev copies : ℕ
  copies = copies_of_window p.size p.advance

  abbrev count : ℕ
  count = copies_of_partition p.groups p.size p.advance

  abbrev source : List ℕ
  source = widths_of (kinds_of nodes p.source)

  abbrev own_kinds : List Kind
  own_kinds = kind_of_column (kinds_of nodes p.source) p.key ∷ kinds_of nodes p.body

  abbrev own : List ℕ
  own = widths_of own_kinds

  abbrev spacer : Cost
  spacer = cost_of_spaced (window_gap (figures_of nodes p.body)) (figures_of nodes p.source) source

  abbrev lines : ℕ → ℕ
  lines body = weight_of_copies count body (length source + 2) (length own + 2)

  abbrev front : Cost
  front = cost_of_front p.groups copies p.key source

  abbrev back : Cost
  back = cost_of_back count own

  source_lines : length source ≡ length (kinds_of nodes p.source)
  source_lines = length-map (kinds_of nodes p.source) width_of

  own_lines : length own ≡ length own_kinds
  own_lines = length-map own_kinds width_of

  parts : HasParts nodes p.id (Partition p.source p.body p.key p.groups p.size p.advance)
  parts = parts_at nodes p.id (Partition p.source p.body p.key p.groups p.size p.advance) at

  partitioning : IsCounted (cost_of_partitioning p.groups copies p.key source own) (counted_for p.groups copies source own)
  partitioning =
      laws.partitionings_are_counted p.groups copies p.key source own some (omega arith)
      (narrow_kinds (kinds_of nodes p.source) kinds_source) (narrow_kinds own_kinds kinds_own)

  weight : weight_part nodes p.id ≡ lines (weight_of nodes p.body) + 16 * p.groups + spacer.nodes
  weight = rw (source_lines, own_lines) parts.weight

  abbrev lean_spacer : ℕ
  lean_spacer = lean_of_spacer (window_gap (figures_of nodes p.body)) (figures_of nodes p.source) (length source + 2)

  lean : lean_part nodes p.id ≡ lines (lean_of nodes p.body) + 16 * p.groups + lean_spacer
  lean = rw (source_lines, own_lines) parts.lean

  keys : keys_part nodes p.id ≡ count * keys_of nodes p.body
  keys = parts.keys

  store : store_part nodes p.id ≡ count * store_of nodes p.body + spacer.memories
  store = rw source_lines parts.store

  pub partition_cost : (old mid net new : Net) → CostsAtMost old mid (cost_to_partitions nodes p) → CostsAtMost mid net (times count (plan_cost nodes p.body))
      → CostsAtMost net new back → CostsAtMost old new (own_cost nodes p.id)
  partition_cost old mid net new to_front bodies rear =
      let all = costs_then old net new _ _ (costs_then old mid net _ _ to_front bodies) rear in
      record {
        nodes = rw weight (at_most _ _ _ _ all.nodes
            (nodes_within (weight_of nodes p.body) spacer.nodes front.nodes back.nodes count (length source + 2) (length own + 2) (16 * p.groups) partitioning.nodes));
        registers = rw (lean, keys) (at_most _ _ _ _ all.registers
            (bits_within (lean_of nodes p.body) (keys_of nodes p.body) lean_spacer front.registers back.registers
            count (length source + 2) (length own + 2) (16 * p.groups) partitioning.registers));
        memories = rw store (at_most _ _ _ _ all.memories (stored_within (count * store_of nodes p.body) spacer.memories));
      }
