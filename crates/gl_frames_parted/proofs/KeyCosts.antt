-- What frames by a key cost at most is within what a plan counts for their node.
use Rattle.std.proofs.Common.{◌≡◌, ℕ, suc, ◌+◌, ◌-◌, ◌*◌, ◌^◌, ◌<◌, ◌≤◌, min, List, [], ◌∷◌, length, map, Option, Some, None, refl, ap, ◌∙◌, arith}
use Rattle.std.specs.Prelude.{All, sum_by}
use Rattle.std.specs.List.{sum}
use Rattle.std.proofs.Math.Nat.{mul-le-mul_left, pow-le-pow_right}
use Rattle.std.proofs.lemmas.List.{length-map}
use Rattle.std.proofs.lemmas.List.Elements.{All-head, All-tail}
use Rattle.std.proofs.lemmas.List.Sums.{sum_by-cons}
use Rattle.std.proofs.lemmas.Nat.{pow-add}
use Rattle.gl_algebra.proofs.ExponentLemmas.{exponent_covers, few_exponents}
use Rattle.gl_algebra.specs.Columns.{BackFits, FrameAggFits, FrameFits, OperandFits, kind_of_frame, kind_of_operand}
use Rattle.gl_algebra.specs.Cost.{store_by_key}
use Rattle.gl_algebra.specs.Fits.{KeyFits}
use Rattle.gl_algebra.specs.Frames.{delay_of_frame, delay_of_frames, frames_in, words_of_doublings, words_of_frame}
use Rattle.gl_algebra.specs.Keys.{delay_by_key, store_of_look_up, weight_of_look_up, width_of_key}
use Rattle.gl_algebra.specs.Rings.{digits, least_exponent, ring}
use Rattle.gl_algebra.specs.Weights.{weight_by_key, weight_of_frame, weight_of_rings}
use Rattle.gl_algebra.specs.declared.node.Operand.{Operand}
use Rattle.gl_algebra.specs.declared.node.Operand.TheVariants.{Column}
use Rattle.gl_algebra.specs.declared.node.PlanFrame.{PlanFrame}
use Rattle.gl_algebra.specs.declared.node.PlanFrame.TheVariants.{Lag, Over, Own}
use Rattle.gl_algebra.specs.declared.node.PlanFrameAgg.{PlanFrameAgg}
use Rattle.gl_algebra.specs.declared.node.PlanFrameAgg.TheVariants.{Avg, Count, LastValue, Max, Min, Sum}
use Rattle.gl_algebra.specs.declared.node.PlanKey.{PlanKey}
use Rattle.gl_frames_wire.proofs.ReachLemmas.{from_exponent}
use Rattle.gl_frames_wire.specs.Reaches.{place_bits}
use Rattle.gl_totals.proofs.KindLemmas.{operand_width}
use Rattle.gl_values.specs.Kinds.{IsKind, width_of}
use Rattle.gl_values.specs.declared.kind.Kind.{Kind}
use Rattle.gl_wire.specs.Counted.{IsCounted}
use Rattle.gl_wire.specs.Costs.{Cost}
use Rattle.gl_wire.proofs.CountLemmas.{narrow_kinds, narrow_sum}
use Rattle.gl_frames_stages.specs.DelayNets.{cost_of_late_line}
use Rattle.gl_frames_stages.specs.DoublingNets.{DoublingsAreBits}
use Rattle.gl_frames_stages.proofs.CountLemmas.{divider_within, narrow_of, slowest, some_of}
use Rattle.gl_frames_stages.proofs.CycleLemmas.{few_digits, items_few}
use Rattle.gl_frames_stages.proofs.LevelCosts.{few_places, frame_words, late_memories, late_nodes, line_memories, line_nodes, place_words, ring_bits}
use Rattle.gl_frames_slots.specs.ItemCosts.{cost_of_slot_best, cost_of_slot_extreme_by, cost_of_slot_item, cost_of_slot_item_late}
use Rattle.gl_frames_slots.specs.KeyNets.{items_delay}
use Rattle.gl_frames_parted.specs.Parted.{cost_of_look_up, cost_over_all, cycles_to_slot, partition_by, places_of_frames}
use Rattle.gl_frames_parted.proofs.LevelCosts.{slot_extreme_within, waiting_line, waiting_registers}
use Rattle.gl_frames_parted.proofs.LookUpLemmas.{look_up_within}
use Rattle.gl_frames_parted.proofs.PartedLemmas.{cycles_some, places_fit, slot_few, slot_some, slot_soon, wait_few}

-- ---- rings

-- a ring that holds more has no fewer words
ring_grows : (x m : ℕ) → x ≤ m → ring x ≤ ring m
unfolding ring
ring_grows x m le =
    let covers = exponent_covers m 1 m (omega arith) in
    let most : ℕ = least_exponent m 1 m in
    pow-le-pow_right {n = 2} (omega arith) (few_exponents most x 1 x (from_exponent m 1 m) (omega (arith, le, covers)))

-- nor has that of a line as late
line_fits : (x m : ℕ) → x ≤ m → (cost_of_late_line x).memories ≤ ring m
line_fits x m le = let own = line_memories x in let more = ring_grows x m le in omega (arith, own, more)

-- the words of the slots of so many groups
slots_are : (groups : ℕ) → 2 ^ least_exponent groups 1 groups ≡ ring groups
unfolding ring
slots_are groups = refl

-- a ring of each slot, whose words are not wide
slot_rings : (slot place w words : ℕ) → w ≤ 65 → 2 ^ place ≡ words → 2 ^ (slot + place) * w ≤ 2 ^ slot * (65 * words)
slot_rings slot place w words narrow are =
    let apart : 2 ^ (slot + place) ≡ 2 ^ slot * words = pow-add 2 slot place ∙ ap (λ (k : ℕ). 2 ^ slot * k) are in
    let all : 2 ^ (slot + place) * w ≡ 2 ^ slot * words * w = ap (λ (k : ℕ). k * w) apart in
    let wide : 2 ^ slot * (words * w) ≤ 2 ^ slot * (65 * words) = mul-le-mul_left (2 ^ slot) (ring_bits words w narrow) in
    omega (arith, all, wide)

-- and a word of each slot
slot_words : (slot w : ℕ) → w ≤ 128 → 2 ^ slot * w ≤ 2 ^ slot * 128
slot_words slot w narrow = mul-le-mul_left (2 ^ slot) narrow

-- ---- items

record IsSlotWithin (cost : Cost) (slot weight frames words : ℕ) : Type 0 where
  nodes : cost.nodes ≤ weight + 3
  registers : cost.registers ≤ 64 * (weight + 16)
  memories : cost.memories ≤ 2 ^ slot * (128 * frames + 65 * words)

module _ (bits_are : DoublingsAreBits) (slot : ℕ) (few_slots : slot ≤ 12) (kinds : List Kind) (all : All IsKind kinds) where
  abbrev width : Operand → ℕ
  width x = width_of (kind_of_operand kinds x)

  abbrev Within : PlanFrame → Type 0
  Within item = IsSlotWithin (cost_of_slot_item slot kinds item) slot (weight_of_frame kinds item) (frames_in item) (words_of_frame item)

  -- an extreme of all rows, as a minimum or a maximum
  best_within : (x : Operand) → OperandFits kinds x
      → IsSlotWithin (cost_of_slot_best slot (width x)) slot (weight_of_rings 0 0) 1 0
  best_within x fits =
      let w = operand_width kinds x all fits in
      let state = slot_words slot (width x + 1) (omega (arith, w)) in
      record { nodes = omega arith; registers = omega (arith, w); memories = omega (arith, state) }

  -- and of the last rows
  extreme_by : (x : Operand) (by : Option ℕ) (back : ℕ) → OperandFits kinds x → back < 2 ^ 16
      → IsSlotWithin (cost_of_slot_extreme_by slot by (width x) back) slot (weight_of_rings (digits back) 0) 1 (words_of_doublings (digits back) 0 back)
  extreme_by x None back fits lt =
      let w = operand_width kinds x all fits in
      let most = slot_extreme_within bits_are slot 5 (width x) back 2 (width x) few_slots (omega arith) (omega (arith, w)) lt (omega arith) (omega (arith, w)) in
      record { nodes = (let n = most.nodes in omega (arith, n)); registers = most.registers; memories = (let m = most.memories in omega (arith, m)) }
  extreme_by x (Some column) back fits lt =
      let w = operand_width kinds x all fits in
      let most = slot_extreme_within bits_are slot 12 (width x + 1) back 9 (width x + 1) few_slots (omega arith) (omega (arith, w)) lt (omega arith) (omega (arith, w)) in
      record { nodes = (let n = most.nodes in omega (arith, n)); registers = (let m = most.registers in omega (arith, m)); memories = (let m = most.memories in omega (arith, m)) }

  over_within : (agg : PlanFrameAgg) (by back : Option ℕ) → FrameAggFits kinds agg → BackFits back → Within (Over agg by back)
  over_within Count by None fits rows =
      let state = slot_words slot 32 (omega arith) in
      record { nodes = omega arith; registers = omega arith; memories = omega (arith, state) }
  over_within (Sum x) by None fits rows =
      let w = operand_width kinds x all fits.0 in
      let state = slot_words slot (width x) (omega (arith, w)) in
      record { nodes = omega arith; registers = omega (arith, w); memories = omega (arith, state) }
  over_within (Min x) by None fits rows = best_within x fits
  over_within (Max x) by None fits rows = best_within x fits
  over_within (Avg x) by None fits rows =
      let w = operand_width kinds x all fits.0 in
      let m = divider_within kinds all (width x + 32) 32 (omega (arith, w)) (omega arith) in
      let states = slot_words slot (width x + 64) (omega (arith, w)) in
      record { nodes = omega arith; registers = omega (arith, w, m); memories = omega (arith, states) }
  over_within (LastValue x) None None fits rows =
      let w = operand_width kinds x all fits in
      record { nodes = omega arith; registers = omega (arith, w); memories = omega arith }
  over_within (LastValue x) (Some column) None fits rows =
      let w = operand_width kinds x all fits in
      let state = slot_words slot (width x) (omega (arith, w)) in
      record { nodes = omega arith; registers = omega (arith, w); memories = omega (arith, state) }
  over_within Count None (Some back) fits rows = record { nodes = omega arith; registers = omega arith; memories = omega arith }
  over_within Count (Some column) (Some back) fits rows =
      let stored = slot_rings slot (place_bits (back + 1)) 1 (ring (back + 2)) (omega arith) (frame_words back) in
      let state = slot_words slot 32 (omega arith) in
      record { nodes = omega arith; registers = omega (arith, few_slots); memories = omega (arith, stored, state) }
  over_within (Sum x) by (Some back) fits rows =
      let w = operand_width kinds x all fits.0 in
      let stored = slot_rings slot (place_bits (back + 1)) (width x) (ring (back + 2)) (omega (arith, w)) (frame_words back) in
      let state = slot_words slot (width x) (omega (arith, w)) in
      record { nodes = omega arith; registers = omega (arith, few_slots, w); memories = omega (arith, stored, state) }
  over_within (Min x) by (Some back) fits rows = extreme_by x by back fits (omega (arith, rows))
  over_within (Max x) by (Some back) fits rows = extreme_by x by back fits (omega (arith, rows))
  over_within (Avg x) by (Some back) fits rows =
      let w = operand_width kinds x all fits.0 in
      let few = few_digits back (omega (arith, rows)) in
      let m = divider_within kinds all (width x + digits (back + 1)) (digits (back + 1)) (omega (arith, w, few)) (omega (arith, few)) in
      let stored = slot_rings slot (place_bits (back + 1)) (width x + 1) (ring (back + 2)) (omega (arith, w)) (frame_words back) in
      let spread : 2 ^ (slot + place_bits (back + 1)) * (width x + 1) ≡ 2 ^ (slot + place_bits (back + 1)) * width x + 2 ^ (slot + place_bits (back + 1)) = omega arith in
      let states = slot_words slot (width x + digits (back + 1) + 32) (omega (arith, w, few)) in
      record { nodes = omega arith; registers = omega (arith, few_slots, w, m, few); memories = omega (arith, stored, spread, states) }
  over_within (LastValue x) None (Some back) fits rows =
      let w = operand_width kinds x all fits in
      record { nodes = omega arith; registers = omega (arith, w); memories = omega arith }
  over_within (LastValue x) (Some column) (Some back) fits rows =
      let w = operand_width kinds x all fits in
      let bits = few_places (back + 1) (omega (arith, rows)) in
      let states = slot_words slot (width x + place_bits (back + 1) + 1) (omega (arith, w, bits)) in
      record { nodes = omega arith; registers = omega (arith, w, bits); memories = omega (arith, states) }

  one_within : (item : PlanFrame) → FrameFits kinds item → Within item
  one_within (Own x) fits = let w = operand_width kinds x all fits in record { nodes = omega arith; registers = omega (arith, w); memories = omega arith }
  one_within (Lag x back) fits =
      let w = operand_width kinds x all fits.0 in
      let stored = slot_rings slot (place_bits back) (width x) (ring (back + 1)) (omega (arith, w)) (place_words back) in
      record { nodes = omega arith; registers = omega (arith, w); memories = omega (arith, stored) }
  one_within (Over agg by back) fits = over_within agg by back fits.0 fits.2

  -- an item so many cycles behind its row, where the node takes some more
  record IsLateWithin (m whole : ℕ) (item : PlanFrame) : Type 0 where
    nodes : (cost_of_slot_item_late slot kinds m item).nodes ≤ weight_of_frame kinds item + 24
    registers : (cost_of_slot_item_late slot kinds m item).registers ≤ 64 * (weight_of_frame kinds item + 20)
    memories : (cost_of_slot_item_late slot kinds m item).memories ≤ 2 ^ slot * (128 * frames_in item + 65 * words_of_frame item) + 64 * ring whole

  late_within : (m whole : ℕ) (item : PlanFrame) → m ≤ 130 → m ≤ whole → delay_of_frame kinds item ≤ m → FrameFits kinds item → IsLateWithin m whole item
  late_within m whole item few more le fits =
      let one = one_within item fits in
      let w : ℕ = width_of (kind_of_frame kinds item) in
      let narrow = narrow_of kinds all item fits in
      let some = some_of kinds all item in
      let c : ℕ = m - delay_of_frame kinds item in
      let lt : suc c ≤ whole = omega (arith, some, le, more) in
      let nodes' = late_nodes c w whole lt in
      let registers' = waiting_registers c w narrow (omega (arith, few)) in
      let memories' = late_memories c w whole narrow lt in
      record {
        nodes = (let a = one.nodes in omega (arith, a, nodes'));
        registers = (let a = one.registers in omega (arith, a, registers'));
        memories = (let a = one.memories in omega (arith, a, memories'));
      }

  -- ---- all items

  record AreWithin (m whole : ℕ) (items : List PlanFrame) : Type 0 where
    nodes : sum_by (λ i. (cost_of_slot_item_late slot kinds m i).nodes) items ≤ sum_by (weight_of_frame kinds) items + 24 * length items
    registers : sum_by (λ i. (cost_of_slot_item_late slot kinds m i).registers) items ≤ 64 * (sum_by (weight_of_frame kinds) items + 20 * length items)
    memories : sum_by (λ i. (cost_of_slot_item_late slot kinds m i).memories) items
        ≤ 2 ^ slot * sum_by (λ i. 128 * frames_in i + 65 * words_of_frame i) items + 64 * (ring whole * length items)

  all_within : (m whole : ℕ) (items : List PlanFrame) → m ≤ 130 → m ≤ whole → delay_of_frames kinds items ≤ m → All (FrameFits kinds) items → AreWithin m whole items
  all_within m whole [] few more le fit = record { nodes = omega arith; registers = omega arith; memories = omega arith }
  all_within m whole (item ∷ items) few more le fit =
      let one = late_within m whole item few more (omega (arith, le)) (All-head (FrameFits kinds) item items fit) in
      let rest = all_within m whole items few more (omega (arith, le)) (All-tail (FrameFits kinds) item items fit) in
      let a = one.nodes in
      let b = rest.nodes in
      let a' = one.registers in
      let b' = rest.registers in
      let a'' = one.memories in
      let b'' = rest.memories in
      let m_more : ring whole * length (item ∷ items) ≡ ring whole + ring whole * length items = omega arith in
      let weights = sum_by-cons (weight_of_frame kinds) item items in
      let stored = ap (λ (k : ℕ). 2 ^ slot * k) (sum_by-cons (λ i. 128 * frames_in i + 65 * words_of_frame i) item items) in
      let nodes' = sum_by-cons (λ i. (cost_of_slot_item_late slot kinds m i).nodes) item items in
      let registers' = sum_by-cons (λ i. (cost_of_slot_item_late slot kinds m i).registers) item items in
      let memories' = sum_by-cons (λ i. (cost_of_slot_item_late slot kinds m i).memories) item items in
      record {
        nodes = omega (arith, a, b, weights, nodes');
        registers = omega (arith, a', b', weights, registers');
        memories = omega (arith, a'', b'', m_more, stored, memories');
      }

-- ---- the look-up and the lines beside them

-- so many items, columns and cycles in all, behind a look-up of so many nodes
nodes_in_all : (i c whole up cost lines line weights look rest : ℕ) → 4 ≤ whole → up + 64 ≤ look + 3 * c → c ≤ 1 + 2 * i → cost ≤ weights + 24 * i → lines ≤ 23 → line ≤ 23
    → up + (c + 4 + (cost + 16 + 2 * lines) + line) + 1 ≤ 4 * (i + 2) * (min whole 4 + 4) + 32 + weights + look + rest
nodes_in_all i c whole up cost lines line weights look rest late is few h l w =
    let four : min whole 4 + 4 ≡ 8 = omega (arith, late) in
    let waiting = ap (λ (q : ℕ). 4 * (i + 2) * q) four in
    omega (arith, is, few, h, l, w, waiting)

registers_in_all : (i c whole up cost lines line weights look rest bits slot place : ℕ) → 4 ≤ whole → up ≤ 64 * look + 3 * bits → c ≤ 1 + 2 * i → cost ≤ 64 * (weights + 20 * i)
    → lines ≤ 23 → line ≤ 23 → bits ≤ c * 64 → slot ≤ 12 → place ≤ 17
    → up + (bits + slot + 3 + (cost + place + 1 + 2 * lines) + line) ≤ 64 * (4 * (i + 2) * (min whole 4 + 4) + 32 + weights + look + rest)
registers_in_all i c whole up cost lines line weights look rest bits slot place late is few h l w sums slots places =
    let four : min whole 4 + 4 ≡ 8 = omega (arith, late) in
    let waiting = ap (λ (q : ℕ). 4 * (i + 2) * q) four in
    omega (arith, is, few, h, l, w, waiting, sums, slots, places)

memories_in_all : (i frames s r m whole up cost lines line stored place look : ℕ) → s ≡ r → up ≤ look → cost ≤ s * stored + 64 * (whole * i) → lines ≤ whole → line ≤ whole → place ≤ 17
    → up + (cost + s * (place + 1) + 2 * lines + line) ≤ 64 * (i + 2 + 2 * frames) * whole + r * (32 + stored) + look
memories_in_all i frames s r m whole up cost lines line stored place look is found h l w places =
    let counts = mul-le-mul_left s (let z : place + 1 ≤ 32 = omega (arith, places) in z) in
    let same = ap (λ (k : ℕ). k * (32 + stored)) is in
    omega (arith, found, h, l, w, counts, same)

-- over columns that are few
module _ (bits_are : DoublingsAreBits) (kinds : List Kind) (by : PlanKey) (items : List PlanFrame) (all : All IsKind kinds) (fit : All (FrameFits kinds) items) (key : KeyFits kinds (Some by))
    (few : length kinds ≤ 1 + 2 * length items) where
  abbrev slot : ℕ
  slot = least_exponent by.groups 1 by.groups

  abbrev key_width : ℕ
  key_width = width_of_key kinds by

  abbrev wait : ℕ
  wait = (partition_by kinds by items).wait

  abbrev m : ℕ
  m = items_delay wait kinds items

  abbrev whole : ℕ
  whole = delay_by_key kinds (Some by) items

  abbrev stored : ℕ
  stored = sum_by (λ i. 128 * frames_in i + 65 * words_of_frame i) items

  few_slots : slot ≤ 12
  few_slots = slot_few by.groups key.1.most

  narrow : key_width ≤ 64
  narrow = operand_width kinds (Column by.key) all key.0

  waits : wait ≤ 30
  waits = let most = wait_few key_width by.groups narrow in let some = slot_some kinds by in omega (arith, most, some)

  later : whole ≡ 1 + cycles_to_slot kinds by + m
  later = let soon = slot_soon kinds by in omega (arith, soon)

  late : 4 ≤ whole
  late = let cycles = cycles_some key_width by.groups in let some = slowest kinds all items in omega (arith, cycles, some)

  few_cycles : m ≤ 130
  few_cycles = let own = items_few kinds items all fit in let w = waits in omega (arith, own, w)

  within : AreWithin bits_are slot few_slots kinds all m whole items
  within = let is = later in all_within bits_are slot few_slots kinds all m whole items few_cycles (omega (arith, is)) (omega arith) fit

  columns : length (map width_of kinds) ≡ length kinds
  columns = length-map kinds width_of

  pub over_all_counted : IsCounted (record { nodes = (cost_over_all kinds by items).nodes + 1; registers = (cost_over_all kinds by items).registers; memories = (cost_over_all kinds by items).memories })
      (weight_by_key kinds (length items + 2) (Some by) items) (weight_by_key kinds (length items + 2) (Some by) items) (store_by_key kinds (length items + 2) (Some by) items)
  over_all_counted =
      let are = narrow_kinds kinds all in
      let place = (places_fit kinds items fit).most in
      let look = look_up_within kinds by key narrow (narrow_sum (map width_of kinds) are) in
      let few_columns : length (map width_of kinds) ≤ 1 + 2 * length items = (let is = columns in omega (arith, is, few)) in
      let shorter : m ≤ whole = (let is = later in omega (arith, is)) in
      let sooner : wait ≤ whole = (let is = later in omega (arith, is)) in
      let few_wait = waits in
      let few_m = few_cycles in
      record {
        nodes = nodes_in_all (length items) (length (map width_of kinds)) whole (cost_of_look_up kinds by).nodes _ _ _ (sum_by (weight_of_frame kinds) items)
            (weight_of_look_up key_width by.groups) _ late look.nodes few_columns within.nodes (line_nodes m) (line_nodes wait);
        registers = registers_in_all (length items) (length (map width_of kinds)) whole (cost_of_look_up kinds by).registers _ _ _ (sum_by (weight_of_frame kinds) items)
            (weight_of_look_up key_width by.groups) _ (sum (map width_of kinds)) slot (places_of_frames items) late look.registers few_columns within.registers
            (waiting_line m (omega (arith, few_m))) (waiting_line wait (omega (arith, few_wait))) (narrow_sum (map width_of kinds) are) few_slots place;
        memories = memories_in_all (length items) (sum_by frames_in items) (2 ^ slot) (ring by.groups) m (ring whole) (cost_of_look_up kinds by).memories _ _ _ stored (places_of_frames items)
            (store_of_look_up key_width by.groups) (slots_are by.groups) look.memories within.memories (line_fits m whole shorter) (line_fits wait whole sooner) place;
      }
