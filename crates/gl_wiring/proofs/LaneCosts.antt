-- What a group over a direct body costs is within what a plan counts for it.
use Rattle.std.proofs.Common.{◌≡◌, ℕ, zero, suc, ◌+◌, ◌-◌, ◌*◌, ◌^◌, ◌<◌, ◌≤◌, List, [], ◌∷◌, length, map, Bool, true, false, refl, ap, ◌∙◌, subst, arith}
use Rattle.std.specs.Prelude.{slice_get, slice_index, Some, sum_by}
use Rattle.std.proofs.lemmas.Bool.{leb-true}
use Rattle.std.specs.List.{All, sum}
use Rattle.std.proofs.lemmas.List.{length-map}
use Rattle.std.proofs.lemmas.List.Elements.{All-head, All-tail}
use Rattle.std.proofs.lemmas.List.Sums.{sum_by-cons}
use Rattle.std.proofs.Math.Nat.{mul-le-mul_left}
use Rattle.gl_bits.proofs.Numbers.{le_times}
use Rattle.gl_values.specs.Kinds.{IsKind, width_of}
use Rattle.gl_values.specs.declared.kind.Kind.{Kind}
use Rattle.gl_algebra.specs.declared.node.PlanAgg.{PlanAgg}
use Rattle.gl_algebra.specs.declared.node.PlanNode.{PlanNode}
use Rattle.gl_algebra.specs.declared.node.PlanNode.TheVariants.{Aggregate, Group}
use Rattle.gl_algebra.specs.Columns.{AggFits, kind_of_agg, kind_of_column}
use Rattle.gl_algebra.specs.Cost.{lean_of, lean_of_spacer}
use Rattle.gl_algebra.specs.Rings.{ring}
use Rattle.gl_algebra.specs.Direct.{totalling, form_of}
use Rattle.gl_algebra.specs.FigureTable.{delay_of_aggs, figures_of, group_gap}
use Rattle.gl_algebra.specs.Fits.{IsPlan}
use Rattle.gl_algebra.specs.Laws.{FollowsTables}
use Rattle.gl_algebra.specs.Shapes.{kinds_of}
use Rattle.gl_algebra.specs.Weights.{weight_of, weight_of_agg, weight_of_copies}
use Rattle.gl_net.specs.Net.{Net}
use Rattle.gl_figures.specs.Reach.{keys_part, lean_part, store_part, weight_part}
use Rattle.gl_figures.proofs.PartLemmas.{HasParts, parts_at}
use Rattle.gl_groups.specs.declared.laning.Lane.{Lane}
use Rattle.gl_slots.specs.Joins.{width_of_keys}
use Rattle.gl_groups.specs.Laned.{words_of_keys}
use Rattle.gl_slots.specs.Picks.{bits_of_slots}
use Rattle.gl_totals.proofs.TableLemmas.{agg_kept, table_words}
use Rattle.gl_totals.specs.Costs.{kept_of_agg}
use Rattle.gl_wire.specs.Costs.{Cost, CostsAtMost, nodes_alone}
use Rattle.gl_wiring.specs.declared.groups.GroupOf.{GroupOf}
use Rattle.gl_wiring.specs.Below.{LawsBelow}
use Rattle.gl_wiring.specs.Copies.{cost_of_spaced}
use Rattle.gl_wiring.specs.Groups.{IsGroupNode}
use Rattle.gl_wiring.specs.LaneGroups.{cost_to_lane}
use Rattle.gl_wiring.specs.Lanes.{cost_of_body, has_room}
use Rattle.gl_wiring.specs.Leaves.{widths_of}
use Rattle.gl_wiring.specs.Put.{own_cost}
use Rattle.gl_wiring.proofs.CostLemmas.{bits_within}
use Rattle.gl_wiring.proofs.GroupCosts.{key_width_is}

-- the parts of aggregates in a table, where each has a stage less, and in a plan
parts_apart : (m : ℕ) (part : PlanAgg → ℕ) (aggs : List PlanAgg)
    → sum_by (λ agg. 2 * (m + 1) + part agg) aggs ≡ sum_by (λ agg. m + 1 - 1 + part agg) aggs + length aggs * (m + 2)
parts_apart m part [] = omega arith
parts_apart m part (agg ∷ aggs) =
    let one = sum_by-cons (λ a. 2 * (m + 1) + part a) agg aggs in
    let other = sum_by-cons (λ a. m + 1 - 1 + part a) agg aggs in
    let e : length (agg ∷ aggs) * (m + 2) ≡ m + 2 + length aggs * (m + 2) = omega arith in
    omega (arith, one, other, e, parts_apart m part aggs)

parts_are : (m : ℕ) (part : PlanAgg → ℕ) (aggs : List PlanAgg) → 1 ≤ m
    → sum_by (λ agg. 2 * m + part agg) aggs ≡ sum_by (λ agg. m - 1 + part agg) aggs + length aggs * (m + 1)
parts_are zero part aggs some = absurd (omega (arith, some))
parts_are (suc m) part aggs some =
    let e : m + 1 ≡ suc m = omega arith in
    subst (λ (n : ℕ). sum_by (λ agg. 2 * n + part agg) aggs ≡ sum_by (λ agg. n - 1 + part agg) aggs + length aggs * (n + 1)) e
    (parts_apart m part aggs ∙ ap (λ n. sum_by (λ agg. m + 1 - 1 + part agg) aggs + length aggs * n) (let z : m + 2 ≡ m + 1 + 1 = omega arith in z))

nodes_within : (body child spacer parts n a k m : ℕ) → 1 ≤ n → 1 ≤ k → m ≤ 98 → body ≡ child + (4 * (k + 2) + (parts + k * (m + 1)))
    → spacer + (n * 15 + a * 2 + 106) + (child + (2 * (m + 1) + 6 * k + parts)) + (n * 4 + k + 4) + 2 ≤ weight_of_copies n body (a + 2) (k + 1 + 2) + spacer
nodes_within body child spacer parts n a k m some aggs few is =
    let each : n * (body + 8 * (a + 2 + (k + 1 + 2) + 4)) ≡ n * body + 8 * (n * a) + 8 * (n * k) + 72 * n = omega arith in
    let product : k * (m + 1) ≡ k * m + k = omega arith in
    omega (arith, each, product, le_times n body some, le_times k m aggs, some, few, is)

bits_of : (body child spacer n a k m w bits front out : ℕ) → child ≤ body → front ≤ 64 * a → bits ≤ 8 → out ≤ 64 * (k + 1)
    → 64 * spacer + (n * (w + 2) + front + bits * 3 + 75) + (64 * child + 256 * (k * m)) + (out + 2)
    ≤ 64 * (body + 4 * (a + 2 + (k + 1 + 2) + 8) + 4 * (k * m) + spacer) + n * (w + 2)
bits_of body child spacer n a k m w bits front out less columns few own = omega (arith, less, columns, few, own)

-- what aggregates leave and what they keep is all of it
left_over : (kinds : List Kind) (all : All IsKind kinds) (aggs : List PlanAgg) → All (AggFits kinds) aggs → sum_by (λ a. 128 - kept_of_agg kinds a) aggs + sum_by (kept_of_agg kinds) aggs ≡ 128 * length aggs
left_over kinds all [] fit = omega arith
left_over kinds all (agg ∷ aggs) fit =
    let rest = left_over kinds all aggs (All-tail (AggFits kinds) agg aggs fit) in
    omega (arith, rest, agg_kept kinds all agg (All-head (AggFits kinds) agg aggs fit), sum_by-cons (kept_of_agg kinds) agg aggs, sum_by-cons (λ a. 128 - kept_of_agg kinds a) agg aggs)

-- words with keys beside the states
room_is : (kinds : List Kind) (all : All IsKind kinds) (aggs : List PlanAgg) (key : ℕ) → All (AggFits kinds) aggs → has_room kinds aggs key ≡ true → key + sum_by (kept_of_agg kinds) aggs ≤ 128 * length aggs
room_is kinds all aggs key fit h = omega (arith, left_over kinds all aggs fit, leb-true key (sum_by (λ a. 128 - kept_of_agg kinds a) aggs) h)

pub words_fit : (kinds : List Kind) → All IsKind kinds → (aggs : List PlanAgg) → All (AggFits kinds) aggs → (stored : Bool) (slots key : ℕ) (l : Lane) → width_of_keys l.keys ≡ key → (stored ≡ true → has_room kinds aggs key ≡ true)
    → 2 ^ bits_of_slots slots * sum_by (kept_of_agg kinds) aggs + words_of_keys stored slots l ≤ 128 * (length aggs * 2 ^ bits_of_slots slots)
words_fit kinds all aggs fit false slots key l is fits = let h = table_words kinds all aggs (2 ^ bits_of_slots slots) fit in omega (arith, h)
words_fit kinds all aggs fit true slots key l is fits =
    let words = 2 ^ bits_of_slots slots in
    let all_in = mul-le-mul_left words (room_is kinds all aggs key fit (fits refl)) in
    let own : words * width_of_keys l.keys ≡ words * key = ap (λ n. words * n) is in
    let parts : words * (key + sum_by (kept_of_agg kinds) aggs) ≡ words * key + words * sum_by (kept_of_agg kinds) aggs = omega arith in
    let most : words * (128 * length aggs) ≡ 128 * (length aggs * words) = omega arith in
    omega (arith, all_in, own, parts, most)

-- all parts
module _ (laws : LawsBelow) (nodes : List PlanNode) (g : GroupOf) (plan : IsPlan nodes) (at : IsGroupNode nodes g) (kinds_source : All IsKind (kinds_of nodes g.source))
    (kinds_own : All IsKind (kind_of_column (kinds_of nodes g.source) g.key ∷ kinds_of nodes g.body)) (child : ℕ) (aggs : List PlanAgg)
    (at_body : slice_get nodes g.body ≡ Some (Aggregate child aggs)) (some : 1 ≤ g.groups) (many : 1 ≤ length aggs)
    (within : g.key < length (kinds_of nodes g.source)) (few : bits_of_slots g.groups ≤ 8) (fast : delay_of_aggs (kinds_of nodes child) aggs ≤ 98)
    (slow : 1 ≤ delay_of_aggs (kinds_of nodes child) aggs)
    (form : form_of nodes g.body ≡ totalling (length aggs) (delay_of_aggs (kinds_of nodes child) aggs)) where
  abbrev source : List ℕ
  source = widths_of (kinds_of nodes g.source)

  abbrev own_kinds : List Kind
  own_kinds = kind_of_column (kinds_of nodes g.source) g.key ∷ kinds_of nodes g.body

  abbrev own : List ℕ
  own = widths_of own_kinds

  abbrev delay : ℕ
  delay = delay_of_aggs (kinds_of nodes child) aggs

  abbrev w : ℕ
  w = width_of (kind_of_column (kinds_of nodes g.source) g.key)

  abbrev spacer : Cost
  spacer = cost_of_spaced (group_gap (figures_of nodes g.body)) (figures_of nodes g.source) source

  abbrev lean_spacer : ℕ
  lean_spacer = lean_of_spacer (group_gap (figures_of nodes g.body)) (figures_of nodes g.source) (length source + 2)

  source_lines : length source ≡ length (kinds_of nodes g.source)
  source_lines = length-map (kinds_of nodes g.source) width_of

  own_parts : HasParts nodes g.id (Group g.source g.body g.key g.groups)
  own_parts = parts_at nodes g.id (Group g.source g.body g.key g.groups) at

  below : FollowsTables nodes g.body (Aggregate child aggs)
  below = laws.nodes_follow_tables nodes g.body (Aggregate child aggs) plan at_body

  totals : kinds_of nodes g.body ≡ map (kind_of_agg (kinds_of nodes child)) aggs
  totals = ap (λ x. x.kinds) below.shape

  many_kinds : length (kinds_of nodes g.body) ≡ length aggs
  many_kinds = ap length totals ∙ length-map aggs (kind_of_agg (kinds_of nodes child))

  abbrev parts : ℕ
  parts = sum_by (λ agg. delay - 1 + weight_of_agg (kinds_of nodes child) agg) aggs

  weight_body : weight_of nodes g.body ≡ weight_of nodes child + (4 * (length aggs + 2) + (parts + length aggs * (delay + 1)))
  weight_body =
      let lines : length (map (kind_of_agg (kinds_of nodes child)) aggs) ≡ length aggs = length-map aggs (kind_of_agg (kinds_of nodes child)) in
      let own_weight : weight_of nodes g.body ≡ weight_of nodes child
      + (4 * (length (map (kind_of_agg (kinds_of nodes child)) aggs) + 2) + sum_by (λ agg. 2 * delay + weight_of_agg (kinds_of nodes child) agg) aggs) = below.weight in
      omega (arith, own_weight, lines, parts_are delay (weight_of_agg (kinds_of nodes child)) aggs slow)

  lean_body : lean_of nodes child ≤ lean_of nodes g.body
  lean_body = omega (arith, below.lean)

  weight : weight_part nodes g.id ≡ weight_of_copies g.groups (weight_of nodes g.body) (length source + 2) (length aggs + 1 + 2) + spacer.nodes
  weight =
      let lines : suc (length (kinds_of nodes g.body)) ≡ length aggs + 1 = omega (arith, many_kinds) in
      rw source_lines (rw lines at own_parts.weight)

  lean : lean_part nodes g.id
      ≡ lean_of nodes g.body + 4 * (length source + 2 + (length aggs + 1 + 2) + 8) + 4 * (length aggs * delay) + lean_spacer
  lean =
      let lines : suc (length (kinds_of nodes g.body)) ≡ length aggs + 1 = omega (arith, many_kinds) in
      rw source_lines (rw (lines, form) at own_parts.lean)

  keys : keys_part nodes g.id ≡ g.groups * (w + 2)
  keys = rw form at own_parts.keys

  store : store_part nodes g.id ≡ 128 * (length aggs * 2 ^ bits_of_slots g.groups) + spacer.memories
  unfolding ring
  store = rw source_lines (rw form at own_parts.store)

  pub lane_cost : (old mid net last new : Net) → CostsAtMost old mid (cost_to_lane nodes g)
      → CostsAtMost mid net (cost_of_body nodes child aggs (bits_of_slots g.groups))
      → (words : ℕ) → 2 ^ bits_of_slots g.groups * sum_by (kept_of_agg (kinds_of nodes child)) aggs + words ≤ 128 * (length aggs * 2 ^ bits_of_slots g.groups)
      → CostsAtMost net last (record { nodes = g.groups * 4 + length aggs + 4; registers = sum own + 2; memories = words }) → CostsAtMost last new (nodes_alone 2) → CostsAtMost old new (own_cost nodes g.id)
  lane_cost old mid net last new front tables words room gathered lines =
      let key : slice_index source g.key ≡ w = key_width_is (kinds_of nodes g.source) g.key within in
      let n = nodes_within (weight_of nodes g.body) (weight_of nodes child) spacer.nodes parts g.groups (length source) (length aggs) delay
      some many fast weight_body in
      let columns : sum source ≤ 64 * length source = omega (arith, bits_within (kinds_of nodes g.source) kinds_source, source_lines) in
      let out : sum own ≤ 64 * (length aggs + 1) = omega (arith, bits_within own_kinds kinds_own, many_kinds) in
      let b = bits_of (lean_of nodes g.body) (lean_of nodes child) lean_spacer g.groups (length source) (length aggs) delay
      (slice_index source g.key) (bits_of_slots g.groups) (sum source) (sum own) lean_body columns few out in
      let bits : g.groups * (slice_index source g.key + 2) ≡ g.groups * (w + 2) = ap (λ x. g.groups * (x + 2)) key in
      record {
        nodes = omega (arith, front.nodes, tables.nodes, gathered.nodes, lines.nodes, weight, n);
        registers = omega (arith, front.registers, tables.registers, gathered.registers, lines.registers, lean, keys, b, bits);
        memories = omega (arith, front.memories, tables.memories, gathered.memories, lines.memories, store, room);
      }
