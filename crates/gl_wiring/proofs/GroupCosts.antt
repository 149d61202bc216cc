-- What a group's parts cost is within what a plan counts for it.
use Rattle.std.proofs.Common.{◌≡◌, ℕ, zero, suc, ◌+◌, ◌*◌, ◌<◌, ◌≤◌, false, List, [], ◌∷◌, length, map, refl, ap, ◌∙◌, arith}
use Rattle.std.specs.Prelude.{slice_index}
use Rattle.std.specs.List.{All}
use Rattle.std.proofs.lemmas.List.{length-map}
use Rattle.gl_values.specs.Kinds.{IsKind, width_of}
use Rattle.gl_values.specs.declared.kind.Kind.{Kind}
use Rattle.gl_algebra.specs.Columns.{kind_of_column}
use Rattle.gl_algebra.specs.declared.node.PlanNode.{PlanNode}
use Rattle.gl_algebra.specs.declared.node.PlanNode.TheVariants.{Group}
use Rattle.gl_algebra.specs.Cost.{keys_of, keys_of_groups, lean_of, lean_of_groups, lean_of_spacer, store_of, store_of_groups, store_of_spacer}
use Rattle.gl_algebra.specs.Direct.{Form, copied, rowwise, totalling, form_of, is_direct}
use Rattle.gl_algebra.specs.FigureTable.{figures_of, group_gap}
use Rattle.gl_algebra.specs.Fits.{IsPlan}
use Rattle.gl_algebra.specs.Shapes.{kinds_of}
use Rattle.gl_algebra.specs.Weights.{weight_of, weight_of_copies}
use Rattle.gl_net.specs.Net.{Net}
use Rattle.gl_figures.specs.Reach.{keys_part, lean_part, store_part, weight_part}
use Rattle.gl_figures.proofs.PartLemmas.{HasParts, parts_at}
use Rattle.gl_slots.specs.Costs.{IsCounted, cost_of_back}
use Rattle.gl_groups.specs.Costs.{cost_of_front, cost_of_grouping, counted_for}
use Rattle.gl_wire.specs.Costs.{Cost, CostsAtMost}
use Rattle.gl_wire.proofs.CountLemmas.{narrow_kinds}
use Rattle.gl_wiring.specs.declared.groups.GroupOf.{GroupOf}
use Rattle.gl_wiring.specs.Below.{LawsBelow}
use Rattle.gl_wiring.specs.Copies.{cost_of_spaced, times}
use Rattle.gl_wiring.specs.Groups.{IsGroupNode, cost_to_slots}
use Rattle.gl_wiring.specs.Leaves.{widths_of}
use Rattle.gl_wiring.specs.Put.{plan_cost, own_cost}
use Rattle.gl_wiring.proofs.CostLemmas.{at_most, costs_then, stored_within}

-- nodes, bits of registers, and bits of memories
nodes_within : (body spacer front back c s o : ℕ) → front + back ≤ weight_of_copies c 0 s o
    → spacer + front + c * body + back ≤ weight_of_copies c body s o + spacer
nodes_within body spacer front back c s o h =
    let each : c * (body + 8 * (s + o + 4)) ≡ c * body + c * (0 + 8 * (s + o + 4)) = omega arith in
    omega (arith, h, each)

bits_within : (body own_keys spacer front back c s o : ℕ) → front + back ≤ 64 * weight_of_copies c 0 s o
    → 64 * spacer + front + c * (64 * body + own_keys) + back ≤ 64 * (weight_of_copies c body s o + spacer) + c * own_keys
bits_within body own_keys spacer front back c s o h =
    let each : c * (body + 8 * (s + o + 4)) ≡ c * body + c * (0 + 8 * (s + o + 4)) = omega arith in
    let bits : c * (64 * body + own_keys) ≡ 64 * (c * body) + c * own_keys = omega arith in
    omega (arith, h, each, bits)

-- a body that is not direct has copies
lean_copied : (form : Form) → is_direct form ≡ false → (groups body source own : ℕ) → lean_of_groups form groups body source own ≡ weight_of_copies groups body source own
lean_copied copied h groups body source own = refl
lean_copied rowwise h groups body source own = refl
lean_copied (totalling many delay) h groups body source own = absurd (cc)

keys_copied : (form : Form) → is_direct form ≡ false → (groups body width : ℕ) → keys_of_groups form groups body width ≡ groups * body
keys_copied copied h groups body width = refl
keys_copied rowwise h groups body width = refl
keys_copied (totalling many delay) h groups body width = absurd (cc)

store_copied : (form : Form) → is_direct form ≡ false → (groups body : ℕ) → store_of_groups form groups body ≡ groups * body
store_copied copied h groups body = refl
store_copied rowwise h groups body = refl
store_copied (totalling many delay) h groups body = absurd (cc)

-- the key has the width of its column
pub key_width_is : (kinds : List Kind) (k : ℕ) → k < length kinds → slice_index (map width_of kinds) k ≡ width_of (kind_of_column kinds k)
key_width_is [] k within = absurd (omega (arith, within))
key_width_is (kind ∷ kinds) zero within = refl
key_width_is (kind ∷ kinds) (suc k) within = key_width_is kinds k (omega (arith, within))

-- all parts
module _ (laws : LawsBelow) (nodes : List PlanNode) (g : GroupOf) (plan : IsPlan nodes) (at : IsGroupNode nodes g) (kinds_source : All IsKind (kinds_of nodes g.source))
    (kinds_own : All IsKind (kind_of_column (kinds_of nodes g.source) g.key ∷ kinds_of nodes g.body)) (copies : is_direct (form_of nodes g.body) ≡ false) where
  abbrev source : List ℕ
  source = widths_of (kinds_of nodes g.source)

  abbrev own_kinds : List Kind
  own_kinds = kind_of_column (kinds_of nodes g.source) g.key ∷ kinds_of nodes g.body

  abbrev own : List ℕ
  own = widths_of own_kinds

  abbrev spacer : Cost
  spacer = cost_of_spaced (group_gap (figures_of nodes g.body)) (figures_of nodes g.source) source

  abbrev lines : ℕ → ℕ
  lines body = weight_of_copies g.groups body (length source + 2) (length own + 2)

  source_lines : length source ≡ length (kinds_of nodes g.source)
  source_lines = length-map (kinds_of nodes g.source) width_of

  own_lines : length own ≡ length own_kinds
  own_lines = length-map own_kinds width_of

  parts : HasParts nodes g.id (Group g.source g.body g.key g.groups)
  parts = parts_at nodes g.id (Group g.source g.body g.key g.groups) at

  grouping : IsCounted (cost_of_grouping g.groups g.key source own) (counted_for g.groups source own)
  grouping = laws.groupings_are_counted g.groups g.key source own (narrow_kinds (kinds_of nodes g.source) kinds_source) (narrow_kinds own_kinds kinds_own)

  weight : weight_part nodes g.id ≡ lines (weight_of nodes g.body) + spacer.nodes
  weight = rw (source_lines, own_lines) parts.weight

  abbrev lean_spacer : ℕ
  lean_spacer = lean_of_spacer (group_gap (figures_of nodes g.body)) (figures_of nodes g.source) (length source + 2)

  abbrev lines_source : ℕ
  lines_source = length (kinds_of nodes g.source) + 2

  abbrev lean_spacer_of : ℕ
  lean_spacer_of = lean_of_spacer (group_gap (figures_of nodes g.body)) (figures_of nodes g.source) lines_source

  abbrev store_spacer_of : ℕ
  store_spacer_of = store_of_spacer (group_gap (figures_of nodes g.body)) (figures_of nodes g.source) lines_source

  lean : lean_part nodes g.id ≡ lines (lean_of nodes g.body) + lean_spacer
  lean = rw (source_lines, own_lines) (parts.lean ∙ ap (λ n. n + lean_spacer_of) (lean_copied (form_of nodes g.body) copies g.groups (lean_of nodes g.body) _ _))

  keys : keys_part nodes g.id ≡ g.groups * keys_of nodes g.body
  keys = parts.keys ∙ keys_copied (form_of nodes g.body) copies g.groups (keys_of nodes g.body) _

  store : store_part nodes g.id ≡ g.groups * store_of nodes g.body + spacer.memories
  store = rw source_lines (parts.store ∙ ap (λ n. n + store_spacer_of) (store_copied (form_of nodes g.body) copies g.groups (store_of nodes g.body)))

  pub group_cost : (old mid net new : Net) → CostsAtMost old mid (cost_to_slots nodes g) → CostsAtMost mid net (times g.groups (plan_cost nodes g.body))
      → CostsAtMost net new (cost_of_back g.groups own) → CostsAtMost old new (own_cost nodes g.id)
  group_cost old mid net new front bodies back =
      let all = costs_then old net new _ _ (costs_then old mid net _ _ front bodies) back in
      record {
        nodes = rw weight (at_most _ _ _ _ all.nodes
            (nodes_within (weight_of nodes g.body) spacer.nodes (cost_of_front g.groups g.key source).nodes (cost_of_back g.groups own).nodes
            g.groups (length source + 2) (length own + 2) grouping.nodes));
        registers = rw (lean, keys) (at_most _ _ _ _ all.registers
            (bits_within (lean_of nodes g.body) (keys_of nodes g.body) lean_spacer (cost_of_front g.groups g.key source).registers
            (cost_of_back g.groups own).registers g.groups (length source + 2) (length own + 2) grouping.registers));
        memories = rw store (at_most _ _ _ _ all.memories (stored_within (g.groups * store_of nodes g.body) spacer.memories));
      }
