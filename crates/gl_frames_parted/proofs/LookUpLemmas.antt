-- Each circuit finds the slots of a node's key, for what the plan counts for its look-up.
use Rattle.std.proofs.Common.{◌≡◌, ℕ, zero, suc, ◌+◌, ◌-◌, ◌*◌, ◌^◌, ◌<◌, ◌≤◌, List, [], ◌∷◌, length, map, Some, Bool, true, false, refl, sym, ap, ◌∙◌, subst, arith, inl, inr}
use Rattle.std.specs.Prelude.{◌⊎◌, if◌then◌else◌, nat_le, slice_index}
use Rattle.std.specs.List.{sum}
use Rattle.std.proofs.Math.Nat.{mul-le-mul_left, mul-le-mul_right}
use Rattle.std.proofs.Math.Pow.{pow-lt}
use Rattle.std.proofs.lemmas.Bool.{cases_lt, leb-true}
use Rattle.std.proofs.lemmas.List.{length-map}
use Rattle.gl_algebra.proofs.ExponentLemmas.{exponent_covers}
use Rattle.gl_algebra.specs.Columns.{kind_of_column}
use Rattle.gl_algebra.specs.Fits.{KeyFits}
use Rattle.gl_algebra.specs.Keys.{cycles_of_look_up, levels_of, slot_bits, store_of_look_up, weight_of_look_up, width_of_key}
use Rattle.gl_algebra.specs.Rings.{digits, least_exponent, ring}
use Rattle.gl_algebra.specs.declared.node.PlanFrame.{PlanFrame}
use Rattle.gl_algebra.specs.declared.node.PlanKey.{PlanKey}
use Rattle.gl_net.specs.Net.{IsRun, Keeps, Net, Run}
use Rattle.gl_bits.proofs.Bools.{not_both}
use Rattle.gl_net.proofs.Determined.{keeps_then}
use Rattle.gl_values.specs.Kinds.{width_of}
use Rattle.gl_values.specs.declared.kind.Kind.{Kind}
use Rattle.gl_wire.specs.declared.wire.Wire.{Wire}
use Rattle.gl_wire.specs.Costs.{Cost, Costs, CostsAtMost}
use Rattle.gl_wire.specs.Wire.{widths}
use Rattle.gl_wire_registers.proofs.LineLemmas.{gates_some}
use Rattle.gl_frames_lanes.specs.LaneNets.{HasKeyLane, IsKeyLaneIn, IsLaneBehind, cost_of_key_lane}
use Rattle.gl_frames_lanes.specs.declared.lane.KeyLane.{KeyLane}
use Rattle.gl_frames_lanes.specs.declared.lane.Keys.{Keys}
use Rattle.gl_frames_map.specs.MapNets.{IsMapLaneIn, cost_of_map}
use Rattle.gl_frames_slots.specs.KeyNets.{AreKeyFrames, AreKeyFramesIn, cost_of_key_frames}
use Rattle.gl_frames_slots.specs.declared.keyed.KeyFrames.{KeyFrames}
use Rattle.gl_frames_slots.specs.declared.keyed.Partition.{Partition}
use Rattle.gl_frames_tree.specs.TreeNets.{IsTreeLaneIn, cost_of_tree}
use Rattle.gl_frames_parted.specs.Parted.{AreOverAllIn, IsLookUpIn, cost_of_look_up, cycles_to_slot, has_map, has_tree, keys_by, partition_by}
use Rattle.gl_frames_parted.proofs.PartedLemmas.{look_up_weighs, slot_few, slot_some, slot_soon, tree_counted, tree_few, tree_many}

-- ---- the key

width_there : (kinds : List Kind) (k : ℕ) → k < length kinds → slice_index (map width_of kinds) k ≡ width_of (kind_of_column kinds k)
width_there [] k lt = absurd (omega (arith, lt))
width_there (kind ∷ kinds) zero lt = refl
width_there (kind ∷ kinds) (suc k) lt = width_there kinds k (omega (arith, lt))

-- the bits of a key that a map finds
pub map_narrow : (kinds : List Kind) (by : PlanKey) (columns : List ℕ) → by.key < length kinds → columns ≡ map width_of kinds → has_map kinds by ≡ true → slice_index columns by.key ≤ 32
map_narrow kinds by columns there are is =
    let few = leb-true (width_of_key kinds by) 10 is in
    let same = ap (λ (ws : List ℕ). slice_index ws by.key) are ∙ width_there kinds by.key there in
    omega (arith, few, same)

-- ---- the circuits

module _ (kinds : List Kind) (by : PlanKey) (source : Wire) (are : widths source.columns ≡ map width_of kinds) (old new : Net) (r : KeyLane) where
  abbrev keys : Keys
  keys = keys_by by

  abbrev of_map : List ℕ → Cost
  of_map columns = cost_of_map keys (length columns) (sum columns) (slice_index columns by.key)

  abbrev of_tree : List ℕ → Cost
  of_tree columns = cost_of_tree keys (levels_of (slice_index columns by.key)) (length columns) (sum columns)

  abbrev of_slots : List ℕ → Cost
  of_slots columns = cost_of_key_lane keys (length columns) (sum columns) (slice_index columns by.key)

  abbrev levels : ℕ
  levels = levels_of (width_of_key kinds by)

  -- by what tells of a map and of a tree
  abbrev cost_by : Bool → Bool → Cost
  cost_by few many = if few then of_map (map width_of kinds) else (if many then of_tree (map width_of kinds) else of_slots (map width_of kinds))

  abbrev cycles_by : Bool → Bool → ℕ
  cycles_by few many = if few then 3 else (if many then levels else 2)

  found : (few many : Bool) → has_map kinds by ≡ few → has_tree kinds by ≡ many → Costs old new (cost_by few many) → ((run : Run) → IsRun new run → IsLaneBehind (cycles_by few many) run keys source r) → Keeps old new
      → HasKeyLane new source keys.width r → IsLookUpIn old new kinds by source r
  found few many p q cost law keeps has = record {
    keeps = keeps;
    cost = subst (λ (b : Bool). Costs old new (cost_by b (has_tree kinds by))) (sym p) (subst (λ (b : Bool). Costs old new (cost_by few b)) (sym q) cost);
    has = has;
    law = λ run z. subst (λ (b : Bool). IsLaneBehind (cycles_by b (has_tree kinds by)) run keys source r) (sym p)
        (subst (λ (b : Bool). IsLaneBehind (cycles_by few b) run keys source r) (sym q) (law run z));
  }

  pub by_map : has_map kinds by ≡ true → IsMapLaneIn old new keys source r → IsLookUpIn old new kinds by source r
  by_map is h = found true (has_tree kinds by) is refl (subst (λ (ws : List ℕ). Costs old new (of_map ws)) are h.cost) h.law h.keeps h.has

  pub by_tree : by.key < length kinds → has_map kinds by ≡ false → has_tree kinds by ≡ true → IsTreeLaneIn old new keys source r → IsLookUpIn old new kinds by source r
  by_tree there is many h =
      let same : levels_of (slice_index (widths source.columns) by.key) ≡ levels =
      ap (λ (ws : List ℕ). levels_of (slice_index ws by.key)) are ∙ ap levels_of (width_there kinds by.key there) in
      found false true is many (subst (λ (ws : List ℕ). Costs old new (of_tree ws)) are h.cost) (λ run z. subst (λ (n : ℕ). IsLaneBehind n run keys source r) same (h.law run z)) h.keeps h.has

  pub by_slots : has_map kinds by ≡ false → has_tree kinds by ≡ false → IsKeyLaneIn old new keys source r → IsLookUpIn old new kinds by source r
  by_slots is few h = found false false is few (subst (λ (ws : List ℕ). Costs old new (of_slots ws)) are h.cost) h.law h.keeps h.has

-- ---- frames behind any of them

rest_of : (a b : ℕ) → a ≤ b → a + (b - a) ≡ b
rest_of a b h = omega (arith, h)

-- rows wait until the node's cycles are over
pub over_all : (kinds : List Kind) (by : PlanKey) (items : List PlanFrame) (source : Wire) (lane : KeyLane) (r : KeyFrames) (old mid new : Net) → widths lane.wire.columns ≡ map width_of kinds
    → IsLookUpIn old mid kinds by source lane → AreKeyFramesIn mid new (partition_by kinds by items) kinds items lane r → AreOverAllIn old new kinds by items source r
over_all kinds by items source lane r old mid new same look frames =
    let parted : Partition = partition_by kinds by items in
    let most = subst (λ (ws : List ℕ). CostsAtMost mid new (cost_of_key_frames parted ws kinds items)) same frames.cost in
    let some = slot_some kinds by in
    let found = rest_of (cycles_to_slot kinds by) (cycles_of_look_up (width_of_key kinds by) by.groups) (slot_soon kinds by) in
    record {
      keeps = keeps_then old mid new look.keeps frames.keeps;
      cost = record {
        nodes = omega (arith, look.cost.nodes, most.nodes);
        registers = omega (arith, look.cost.registers, most.registers);
        memories = omega (arith, look.cost.memories, most.memories);
      };
      wire = frames.wire;
      same_widths = frames.same_widths;
      further = frames.further;
      law = λ run z.
          subst (λ (n : ℕ). AreKeyFrames n run (keys_by by) kinds items source r) found
          (frames.law run z (cycles_to_slot kinds by) source (omega (arith, some)) (look.law run (frames.keeps.runs run z)));
    }

-- ---- what they cost

-- over so many columns of so many bits in all
pub record IsLookUpWithin (cost : Cost) (count bits weight store : ℕ) : Type 0 where
  pub nodes : cost.nodes + 64 ≤ weight + 3 * count
  pub registers : cost.registers ≤ 64 * weight + 3 * bits
  pub memories : cost.memories ≤ store

slots_within : (keys : Keys) (count bits key weight store : ℕ) → 1 ≤ keys.groups → keys.width ≤ 12 → key ≤ 64 → 16 * keys.groups + 96 ≤ weight
    → IsLookUpWithin (cost_of_key_lane keys count bits key) count bits weight store
slots_within keys count bits key weight store some few narrow is =
    let gates = gates_some keys.groups some in
    let words = mul-le-mul_left keys.groups (let z : key + 2 ≤ 66 = omega (arith, narrow) in z) in
    record { nodes = omega (arith, gates, is); registers = omega (arith, words, is, few, narrow); memories = omega arith }

map_within : (keys : Keys) (count bits key weight store : ℕ) → keys.width ≤ 12 → key ≤ 64 → 160 ≤ weight → 2 ^ key * keys.width + 2 ^ keys.width * key ≤ store
    → IsLookUpWithin (cost_of_map keys count bits key) count bits weight store
map_within keys count bits key weight store few narrow is stored =
    record { nodes = omega (arith, is); registers = omega (arith, is, few, narrow); memories = stored }

-- a column more than eighteen takes no more on any level than what many slots leave over
tree_within : (keys : Keys) (levels count bits store : ℕ) → 64 < keys.groups → keys.width ≤ 12 → levels ≤ 32 → count ≤ 50 → bits ≤ count * 64 → levels * (2 ^ keys.width * (4 * (keys.width + 1))) ≤ store
    → IsLookUpWithin (cost_of_tree keys levels count bits) count bits (16 * keys.groups + 80 * levels) store
tree_within keys levels count bits store many few short thin narrow stored = record {
  nodes = nodes (cases_lt count 18);
  registers = (let words = mul-le-mul_left levels (let z : bits + keys.width * 6 + 9 ≤ 3281 = omega (arith, narrow, thin, few) in z) in omega (arith, words, many));
  memories = stored;
}
  where
    nodes : (count < 18) ⊎ (18 ≤ count) → levels * (count + 62) + 7 + 64 ≤ 16 * keys.groups + 80 * levels + 3 * count
    nodes (inl l) = let own = mul-le-mul_left levels (let z : count + 62 ≤ 80 = omega (arith, l) in z) in omega (arith, own, many)
    nodes (inr h) =
        let more : count + 62 ≡ 80 + (count - 18) = omega (arith, h) in
        let own = ap (λ (k : ℕ). levels * k) more in
        let rest : levels * (count - 18) ≤ 32 * (count - 18) = mul-le-mul_right (count - 18) short in
        omega (arith, own, rest, many, thin, h)

-- a slot's number has no more bits than the plan counts for it
bits_few : (e : ℕ) → e ≤ digits (2 ^ e - 1)
bits_few e =
    let d : ℕ = digits (2 ^ e - 1) in
    let covers : 2 ^ e - 1 + 1 ≤ 2 ^ d = exponent_covers (2 ^ e - 1 + 1) 0 (2 ^ e - 1 + 1) (omega arith) in
    elim (cases_lt d e) [
      | inl l ↦ (let less = pow-lt {i = d} {j = e} l in absurd (omega (arith, covers, less)))
      | inr h ↦ omega (arith, h)
    ]

-- nor have both memories of a map
map_stored : (key groups : ℕ) → (let w = least_exponent groups 1 groups in 2 ^ key * w + 2 ^ w * key ≤ 2 ^ key * slot_bits groups + ring groups * key)
unfolding ring
map_stored key groups =
    let w : ℕ = least_exponent groups 1 groups in
    let few : w ≤ digits (2 ^ w - 1) = bits_few w in
    let words = mul-le-mul_left (2 ^ key) few in
    omega (arith, words)

-- nor have the memories of a tree
tree_stored : (levels groups : ℕ) → (let w = least_exponent groups 1 groups in levels * (2 ^ w * (4 * (w + 1))) ≤ levels * ring groups * (4 * (slot_bits groups + 1)))
unfolding ring
tree_stored levels groups =
    let w : ℕ = least_exponent groups 1 groups in
    let few : w ≤ digits (2 ^ w - 1) = bits_few w in
    let words = mul-le-mul_left (levels * 2 ^ w) (let z : 4 * (w + 1) ≤ 4 * (digits (2 ^ w - 1) + 1) = omega (arith, few) in z) in
    omega (arith, words)

module _ (kinds : List Kind) (by : PlanKey) (key : KeyFits kinds (Some by)) (narrow : width_of_key kinds by ≤ 64) (wide : sum (map width_of kinds) ≤ length (map width_of kinds) * 64) where
  abbrev w : ℕ
  w = width_of_key kinds by

  abbrev n : ℕ
  n = by.groups

  abbrev columns : List ℕ
  columns = map width_of kinds

  abbrev key_bits : ℕ
  key_bits = slice_index columns by.key

  same : key_bits ≡ w
  same = width_there kinds by.key key.0

  few : (keys_by by).width ≤ 12
  few = slot_few by.groups key.1.most

  abbrev map_store : ℕ
  map_store = 2 ^ w * slot_bits n + ring n * w

  abbrev tree_store : ℕ
  tree_store = levels_of w * ring n * (4 * (slot_bits n + 1))

  as_many : length columns ≡ length kinds
  as_many = length-map kinds width_of

  -- by what tells of a map, of a tree, and of few groups
  by_one : (little many small : Bool) → has_tree kinds by ≡ many → nat_le n 64 ≡ small → 16 * n + 96 ≤ 16 * n + (if little then 160 else (if small then 96 else 80 * levels_of w))
      → IsLookUpWithin (if little then cost_of_map (keys_by by) (length columns) (sum columns) key_bits
      else (if many then cost_of_tree (keys_by by) (levels_of key_bits) (length columns) (sum columns) else cost_of_key_lane (keys_by by) (length columns) (sum columns) key_bits))
      (length columns) (sum columns) (16 * n + (if little then 160 else (if small then 96 else 80 * levels_of w))) (if little then map_store else (if small then 0 else tree_store))
  by_one true many small p q weighs =
      subst (λ (k : ℕ). IsLookUpWithin (cost_of_map (keys_by by) (length columns) (sum columns) k) (length columns) (sum columns) (16 * n + 160) map_store) (sym same)
      (map_within (keys_by by) (length columns) (sum columns) w (16 * n + 160) map_store few narrow (omega arith) (map_stored w n))
  by_one false true true p q weighs = absurd (not_both (nat_le n 64) q (tree_counted kinds by p))
  by_one false true false p q weighs =
      let thin = tree_few kinds by p in
      subst (λ (k : ℕ). IsLookUpWithin (cost_of_tree (keys_by by) (levels_of k) (length columns) (sum columns)) (length columns) (sum columns) (16 * n + 80 * levels_of w) tree_store) (sym same)
      (tree_within (keys_by by) (levels_of w) (length columns) (sum columns) tree_store (tree_many kinds by p) few (omega (arith, narrow)) (omega (arith, thin, as_many)) wide (tree_stored (levels_of w) n))
  by_one false false small p q weighs =
      slots_within (keys_by by) (length columns) (sum columns) key_bits (16 * n + (if small then 96 else 80 * levels_of w)) (if small then 0 else tree_store) key.1.least few (omega (arith, same, narrow)) weighs

  pub look_up_within : IsLookUpWithin (cost_of_look_up kinds by) (length columns) (sum columns) (weight_of_look_up w n) (store_of_look_up w n)
  look_up_within = by_one (has_map kinds by) (has_tree kinds by) (nat_le n 64) refl refl (look_up_weighs w n)
