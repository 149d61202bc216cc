-- What items cost at most is within what a plan counts for their node.
use Rattle.std.proofs.Common.{◌≡◌, ℕ, suc, ◌+◌, ◌-◌, ◌*◌, ◌/◌, ◌^◌, ◌<◌, ◌≤◌, min, List, [], ◌∷◌, length, Option, Some, None, refl, ap, arith, inl, inr}
use Rattle.std.specs.Prelude.{All, sum_by}
use Rattle.std.proofs.Math.Nat.{mul-le-mul_left, mul-le-mul_right}
use Rattle.std.proofs.lemmas.Bool.{cases_lt}
use Rattle.std.proofs.lemmas.List.Elements.{All-head, All-tail}
use Rattle.std.proofs.lemmas.List.Sums.{sum_by-cons}
use Rattle.gl_algebra.specs.Columns.{BackFits, FrameAggFits, FrameFits, OperandFits, kind_of_frame, kind_of_operand}
use Rattle.gl_algebra.specs.Cost.{store_of_frames}
use Rattle.gl_algebra.specs.Frames.{delay_of_frame, delay_of_frames, delay_of_sum, delay_over, frames_in, words_of_doublings, words_of_frame, words_over}
use Rattle.gl_algebra.specs.Rings.{digits, ring}
use Rattle.gl_algebra.specs.Weights.{weight_of_frame, weight_of_frames, weight_of_rings}
use Rattle.gl_algebra.specs.declared.node.Operand.{Operand}
use Rattle.gl_algebra.specs.declared.node.PlanFrame.{PlanFrame}
use Rattle.gl_algebra.specs.declared.node.PlanFrame.TheVariants.{Lag, Over, Own}
use Rattle.gl_algebra.specs.declared.node.PlanFrameAgg.{PlanFrameAgg}
use Rattle.gl_algebra.specs.declared.node.PlanFrameAgg.TheVariants.{Avg, Count, LastValue, Max, Min, Sum}
use Rattle.gl_frames_wire.proofs.ReachLemmas.{few_exponents}
use Rattle.gl_frames_wire.specs.Reaches.{place_bits}
use Rattle.gl_totals.proofs.KindLemmas.{operand_width}
use Rattle.gl_values.specs.Kinds.{IsKind, width_of}
use Rattle.gl_values.specs.declared.kind.Kind.{Kind}
use Rattle.gl_wire.specs.Counted.{IsCounted}
use Rattle.gl_wire.specs.Costs.{Cost}
use Rattle.gl_frames_stages.specs.Counted.{FramesAreCounted}
use Rattle.gl_frames_stages.specs.DoublingNets.{cost_of_doublings, doublings}
use Rattle.gl_frames_stages.specs.ItemCosts.{cost_of_extreme_by, cost_of_frames, cost_of_item, cost_of_item_late}
use Rattle.gl_frames_stages.proofs.CycleLemmas.{doublings_bits, few_digits, items_few}
use Rattle.gl_frames_stages.proofs.LevelCosts.{few_places, frame_words, place_words, ring_bits, late_nodes, late_registers, late_memories, line_nodes, line_registers, line_memories, level_nodes, level_registers, level_memories, words_many}

-- ---- items

pub record IsItemWithin (cost : Cost) (weight words : ℕ) : Type 0 where
  pub nodes : cost.nodes ≤ weight + words / 16 + 11
  pub registers : cost.registers ≤ 64 * (weight + 16)
  pub memories : cost.memories ≤ 65 * words

digits_few : (back : ℕ) → back < 2 ^ 16 → digits back ≤ 16
digits_few back lt = few_exponents 16 (back + 1) 0 (back + 1) (omega arith) (omega (arith, lt))

-- an extreme, with these gates in each level over words so wide, and so many nodes and registers beside
extreme_within : (gates w back nodes registers : ℕ) → gates ≤ 12 → w ≤ 65 → back < 2 ^ 16 → nodes ≤ 9 → registers ≤ 65
    → IsItemWithin (record {
      nodes = (cost_of_doublings gates back 1 (back + 1) w).nodes + nodes;
      registers = (cost_of_doublings gates back 1 (back + 1) w).registers + registers;
      memories = (cost_of_doublings gates back 1 (back + 1) w).memories;
    }) (weight_of_rings (digits back) 0) (words_of_doublings (digits back) 0 back)
extreme_within gates w back nodes registers small narrow lt few_nodes few_registers =
    let r : ℕ = digits back in
    let n : ℕ = doublings back 1 (back + 1) in
    let words : ℕ = words_of_doublings r 0 back in
    let are : n ≡ r = doublings_bits back in
    let few = digits_few back lt in
    let cost = level_nodes gates back 1 (back + 1) w in
    let gates_of = mul-le-mul_right n (let z : 28 + gates ≤ 40 = omega (arith, small) in z) in
    let bits = level_registers gates back 1 (back + 1) w (omega (arith, lt)) in
    let bits_of = mul-le-mul_right n (let z : 24 + 4 * w ≤ 284 = omega (arith, narrow) in z) in
    let stored : (cost_of_doublings gates back 1 (back + 1) w).memories ≡ w * words_of_doublings n 0 back = level_memories gates back 0 back w in
    let same = ap (λ k. w * words_of_doublings k 0 back) are in
    let wide = mul-le-mul_right words narrow in
    let enough : 8 * r ≤ 82 + words / 16 = elim (cases_lt r 11) [
      | inl low ↦ omega (arith, low)
      | inr many ↦ (let w' = words_many back many in omega (arith, w', few))
    ] in
    record {
      nodes = omega (arith, cost, gates_of, are, few_nodes, enough);
      registers = omega (arith, bits, bits_of, are, few_registers);
      memories = omega (arith, stored, same, wide);
    }

module _ (kinds : List Kind) (all : All IsKind kinds) where
  abbrev width : Operand → ℕ
  width x = width_of (kind_of_operand kinds x)

  extreme_by : (x : Operand) (by : Option ℕ) (back : ℕ) → OperandFits kinds x → back < 2 ^ 16
      → IsItemWithin (cost_of_extreme_by by (width x) back) (weight_of_rings (digits back) 0) (words_of_doublings (digits back) 0 back)
  extreme_by x None back fits lt = let w = operand_width kinds x all fits in
      extreme_within 5 (width x) back 2 (width x) (omega arith) (omega (arith, w)) lt (omega arith) (omega (arith, w))
  extreme_by x (Some column) back fits lt =
      let w = operand_width kinds x all fits in
      let most = extreme_within 12 (width x + 1) back 9 (width x + 1) (omega arith) (omega (arith, w)) lt (omega arith) (omega (arith, w)) in
      record { nodes = most.nodes; registers = (let m = most.registers in omega (arith, m)); memories = most.memories }

  -- a divider of so many digits by a number of so many bits
  pub divider_within : (n b : ℕ) → n ≤ 96 → b ≤ 32 → n * (n + 2 * b + 1) ≤ 161 * n
  divider_within n b few narrow = let m = mul-le-mul_left n (let z : n + 2 * b + 1 ≤ 161 = omega (arith, few, narrow) in z) in omega (arith, m)

  over_within : (agg : PlanFrameAgg) (by back : Option ℕ) → FrameAggFits kinds agg → BackFits back
      → IsItemWithin (cost_of_item kinds (Over agg by back)) (weight_of_frame kinds (Over agg by back)) (words_over agg by back)
  over_within Count by None fits rows = record { nodes = omega arith; registers = omega arith; memories = omega arith }
  over_within (Sum x) by None fits rows = let w = operand_width kinds x all fits.0 in record { nodes = omega arith; registers = omega (arith, w); memories = omega arith }
  over_within (Min x) by None fits rows = let w = operand_width kinds x all fits in record { nodes = omega arith; registers = omega (arith, w); memories = omega arith }
  over_within (Max x) by None fits rows = let w = operand_width kinds x all fits in record { nodes = omega arith; registers = omega (arith, w); memories = omega arith }
  over_within (Avg x) by None fits rows =
      let w = operand_width kinds x all fits.0 in
      let m = divider_within (width x + 32) 32 (omega (arith, w)) (omega arith) in
      record { nodes = omega arith; registers = omega (arith, w, m); memories = omega arith }
  over_within (LastValue x) by None fits rows = let w = operand_width kinds x all fits in record { nodes = omega arith; registers = omega (arith, w); memories = omega arith }
  over_within Count None (Some back) fits rows =
      let bits = few_places (back + 1) (omega (arith, rows)) in
      record { nodes = omega arith; registers = omega (arith, bits); memories = omega arith }
  over_within Count (Some column) (Some back) fits rows =
      let bits = few_places (back + 1) (omega (arith, rows)) in
      let words = frame_words back in
      record { nodes = omega arith; registers = omega (arith, bits); memories = omega (arith, words) }
  over_within (Sum x) by (Some back) fits rows =
      let w = operand_width kinds x all fits.0 in
      let bits = few_places (back + 1) (omega (arith, rows)) in
      let stored = ring_bits (2 ^ place_bits (back + 1)) (width x) (omega (arith, w)) in
      let words = frame_words back in
      record { nodes = omega arith; registers = omega (arith, bits, w); memories = omega (arith, stored, words) }
  over_within (Min x) by (Some back) fits rows = extreme_by x by back fits (omega (arith, rows))
  over_within (Max x) by (Some back) fits rows = extreme_by x by back fits (omega (arith, rows))
  over_within (Avg x) by (Some back) fits rows =
      let w = operand_width kinds x all fits.0 in
      let bits = few_places (back + 1) (omega (arith, rows)) in
      let few = few_digits back (omega (arith, rows)) in
      let m = divider_within (width x + digits (back + 1)) (digits (back + 1)) (omega (arith, w, few)) (omega (arith, few)) in
      let stored = ring_bits (2 ^ place_bits (back + 1)) (width x + 1) (omega (arith, w)) in
      let words = frame_words back in
      let spread : 2 ^ place_bits (back + 1) * (width x + 1) ≡ 2 ^ place_bits (back + 1) * width x + 2 ^ place_bits (back + 1) = omega arith in
      record { nodes = omega arith; registers = omega (arith, bits, w, m, few); memories = omega (arith, stored, words, spread) }
  over_within (LastValue x) by (Some back) fits rows =
      let w = operand_width kinds x all fits in
      let bits = few_places (back + 1) (omega (arith, rows)) in
      record { nodes = omega arith; registers = omega (arith, bits, w); memories = omega arith }

  one_within : (item : PlanFrame) → FrameFits kinds item → IsItemWithin (cost_of_item kinds item) (weight_of_frame kinds item) (words_of_frame item)
  one_within (Own x) fits = let w = operand_width kinds x all fits in record { nodes = omega arith; registers = omega (arith, w); memories = omega arith }
  one_within (Lag x back) fits =
      let w = operand_width kinds x all fits.0 in
      let lt = fits.2 in
      let bits = few_places back (omega (arith, lt)) in
      let stored = ring_bits (2 ^ place_bits back) (width x) (omega (arith, w)) in
      let words = place_words back in
      record { nodes = omega arith; registers = omega (arith, bits, w); memories = omega (arith, stored, words) }
  one_within (Over agg by back) fits = over_within agg by back fits.0 fits.2

  -- no column is wide, and no item is at once
  over_narrow : (agg : PlanFrameAgg) (by back : Option ℕ) → FrameAggFits kinds agg → width_of (kind_of_frame kinds (Over agg by back)) ≤ 64
  over_narrow Count by back fits = omega arith
  over_narrow (Sum x) by back fits = operand_width kinds x all fits.0
  over_narrow (Min x) by back fits = operand_width kinds x all fits
  over_narrow (Max x) by back fits = operand_width kinds x all fits
  over_narrow (Avg x) by back fits = operand_width kinds x all fits.0
  over_narrow (LastValue x) by back fits = operand_width kinds x all fits

  pub narrow_of : (item : PlanFrame) → FrameFits kinds item → width_of (kind_of_frame kinds item) ≤ 64
  narrow_of (Own x) fits = operand_width kinds x all fits
  narrow_of (Lag x back) fits = operand_width kinds x all fits.0
  narrow_of (Over agg by back) fits = over_narrow agg by back fits.0

  sum_some : (back : Option ℕ) → 1 ≤ delay_of_sum back
  sum_some None = omega arith
  sum_some (Some back) = omega arith

  over_some : (agg : PlanFrameAgg) (by back : Option ℕ) → 1 ≤ delay_over kinds agg by back
  over_some Count None back = omega arith
  over_some Count (Some column) back = sum_some back
  over_some (Sum x) by back = sum_some back
  over_some (Min x) by None = omega arith
  over_some (Min x) by (Some back) = omega arith
  over_some (Max x) by None = omega arith
  over_some (Max x) by (Some back) = omega arith
  over_some (Avg x) by back = omega arith
  over_some (LastValue x) by back = omega arith

  pub some_of : (item : PlanFrame) → 1 ≤ delay_of_frame kinds item
  some_of (Own x) = omega arith
  some_of (Lag x back) = omega arith
  some_of (Over agg by back) = over_some agg by back

  -- an item so many cycles later
  record IsLateWithin (m : ℕ) (item : PlanFrame) : Type 0 where
    nodes : (cost_of_item_late kinds m item).nodes ≤ 4 * (min m 4 + 4) + weight_of_frame kinds item + words_of_frame item / 16
    registers : (cost_of_item_late kinds m item).registers ≤ 64 * (weight_of_frame kinds item + 20)
    memories : (cost_of_item_late kinds m item).memories ≤ 65 * words_of_frame item + 64 * ring m

  late_within : (m : ℕ) (item : PlanFrame) → m ≤ 100 → delay_of_frame kinds item ≤ m → FrameFits kinds item → IsLateWithin m item
  late_within m item few le fits =
      let one = one_within item fits in
      let w : ℕ = width_of (kind_of_frame kinds item) in
      let narrow = narrow_of item fits in
      let some = some_of item in
      let c : ℕ = m - delay_of_frame kinds item in
      let lt : suc c ≤ m = omega (arith, some, le) in
      let nodes' = late_nodes c w m lt in
      let registers' = late_registers c w narrow (omega (arith, lt, few)) in
      let memories' = late_memories c w m narrow lt in
      record {
        nodes = (let a = one.nodes in omega (arith, a, nodes'));
        registers = (let a = one.registers in omega (arith, a, registers'));
        memories = (let a = one.memories in omega (arith, a, memories'));
      }

  -- ---- all items

  record AreWithin (m q : ℕ) (items : List PlanFrame) : Type 0 where
    nodes : sum_by (λ i. (cost_of_item_late kinds m i).nodes) items
        ≤ 4 * q * length items + sum_by (weight_of_frame kinds) items + sum_by (λ i. 2 * frames_in i + words_of_frame i) items / 16
    registers : sum_by (λ i. (cost_of_item_late kinds m i).registers) items ≤ 64 * (sum_by (weight_of_frame kinds) items + 20 * length items)
    memories : sum_by (λ i. (cost_of_item_late kinds m i).memories) items
        ≤ sum_by (λ i. 128 * frames_in i + 65 * words_of_frame i) items + 64 * (ring m * length items)

  all_within : (m q : ℕ) (items : List PlanFrame) → m ≤ 100 → min m 4 + 4 ≡ q → delay_of_frames kinds items ≤ m → All (FrameFits kinds) items → AreWithin m q items
  all_within m q [] few is le fit = record { nodes = omega arith; registers = omega arith; memories = omega arith }
  all_within m q (item ∷ items) few is le fit =
      let one = late_within m item few (omega (arith, le)) (All-head (FrameFits kinds) item items fit) in
      let rest = all_within m q items few is (omega (arith, le)) (All-tail (FrameFits kinds) item items fit) in
      let a = one.nodes in
      let b = rest.nodes in
      let a' = one.registers in
      let b' = rest.registers in
      let a'' = one.memories in
      let b'' = rest.memories in
      let q_more : 4 * q * length (item ∷ items) ≡ 4 * q + 4 * q * length items = omega arith in
      let m_more : ring m * length (item ∷ items) ≡ ring m + ring m * length items = omega arith in
      let weights = sum_by-cons (weight_of_frame kinds) item items in
      let words = sum_by-cons (λ i. 2 * frames_in i + words_of_frame i) item items in
      let stored = sum_by-cons (λ i. 128 * frames_in i + 65 * words_of_frame i) item items in
      let nodes' = sum_by-cons (λ i. (cost_of_item_late kinds m i).nodes) item items in
      let registers' = sum_by-cons (λ i. (cost_of_item_late kinds m i).registers) item items in
      let memories' = sum_by-cons (λ i. (cost_of_item_late kinds m i).memories) item items in
      record {
        nodes = omega (arith, a, b, is, q_more, weights, words, nodes');
        registers = omega (arith, a', b', weights, registers');
        memories = omega (arith, a'', b'', m_more, stored, memories');
      }

  -- lines beside them
  nodes_in_all : (q n cost lines weights words : ℕ) → 5 ≤ q → cost ≤ 4 * q * n + weights + words / 16 → lines ≤ 23
      → cost + 2 * lines ≤ 4 * (n + 2) * q + 32 + weights + (1 + words) / 16
  nodes_in_all q n cost lines weights words some h l = omega (arith, some, h, l)

  registers_in_all : (q n cost lines weights words : ℕ) → 5 ≤ q → cost ≤ 64 * (weights + 20 * n) → lines ≤ 23
      → cost + 2 * lines ≤ 64 * (4 * (n + 2) * q + 32 + weights + (1 + words) / 16)
  registers_in_all q n cost lines weights words some h l = let m = mul-le-mul_left (n + 2) some in omega (arith, m, h, l)

  memories_in_all : (r n frames cost lines stored : ℕ) → cost ≤ stored + 64 * (r * n) → lines ≤ r
      → cost + 2 * lines ≤ 64 * (n + 2 + 2 * frames) * r + 32 + stored
  memories_in_all r n frames cost lines stored h l = omega (arith, h, l)

  pub slowest : (items : List PlanFrame) → 1 ≤ delay_of_frames kinds items
  slowest [] = omega arith
  slowest (item ∷ items) = let rest = slowest items in omega (arith, rest)

  all_counted : (items : List PlanFrame) → All (FrameFits kinds) items
      → IsCounted (cost_of_frames kinds (delay_of_frames kinds items) items) (weight_of_frames kinds (length items + 2) items)
      (weight_of_frames kinds (length items + 2) items) (store_of_frames kinds (length items + 2) items)
  all_counted items fit =
      let m : ℕ = delay_of_frames kinds items in
      let q : ℕ = min m 4 + 4 in
      let few = items_few kinds items all fit in
      let within = all_within m q items few refl (omega arith) fit in
      let weights : ℕ = sum_by (weight_of_frame kinds) items in
      let words : ℕ = sum_by (λ i. 2 * frames_in i + words_of_frame i) items in
      let some : 1 ≤ m = slowest items in
      let enough : 5 ≤ q = omega (arith, some) in
      record {
        nodes = nodes_in_all q (length items) _ _ weights words enough within.nodes (line_nodes m);
        registers = registers_in_all q (length items) _ _ weights words enough within.registers (line_registers m few);
        memories = memories_in_all (ring m) (length items) (sum_by frames_in items) _ _ (sum_by (λ i. 128 * frames_in i + 65 * words_of_frame i) items) within.memories (line_memories m);
      }

pub frames_counted : FramesAreCounted
frames_counted kinds items all fit = all_counted kinds all items fit
