-- What waits, and what levels of doubling by slots and an extreme of the last rows of each slot cost at most.
use Rattle.std.proofs.Common.{◌≡◌, ℕ, zero, suc, ◌+◌, ◌-◌, ◌*◌, ◌^◌, ◌<◌, ◌≤◌, Bool, true, false, refl, ap, ◌∙◌, arith}
use Rattle.std.specs.Prelude.{if◌then◌else◌, nat_le}
use Rattle.std.proofs.Math.Nat.{mul-le-mul_left, mul-le-mul_right}
use Rattle.std.proofs.lemmas.Bool.{leb-true}
use Rattle.std.proofs.lemmas.Nat.{pow-add}
use Rattle.gl_algebra.proofs.ExponentLemmas.{few_exponents}
use Rattle.gl_algebra.specs.Frames.{words_of_doublings}
use Rattle.gl_algebra.specs.Rings.{digits}
use Rattle.gl_algebra.specs.Weights.{weight_of_rings}
use Rattle.gl_frames_wire.specs.Reaches.{place_bits}
use Rattle.gl_wire.specs.Costs.{Cost}
use Rattle.gl_frames_stages.specs.DelayNets.{cost_of_far, cost_of_far_line, cost_of_late, cost_of_late_line, near_cost}
use Rattle.gl_frames_stages.specs.DoublingNets.{DoublingsAreBits, cost_of_doublings, doublings, gap_of, with_level}
use Rattle.gl_frames_stages.proofs.LevelCosts.{few_places, level_memories}
use Rattle.gl_frames_slots.specs.BestNets.{cost_of_slot_doublings, with_slot_level}

-- ---- what waits

pub waiting_registers : (cycles w : ℕ) → w ≤ 64 → cycles ≤ 2 ^ 16 → (cost_of_late cycles w).registers ≤ 256
waiting_registers cycles w narrow few = by (nat_le cycles 4) refl
  where
    by : (b : Bool) → nat_le cycles 4 ≡ b → (if b then near_cost cycles w else cost_of_far cycles w).registers ≤ 256
    by true p = let le = leb-true cycles 4 p in let m = mul-le-mul_right cycles narrow in omega (arith, le, m)
    by false p = let bits = few_places (cycles - 1) (omega (arith, few)) in omega (arith, bits, narrow)

pub waiting_line : (cycles : ℕ) → cycles ≤ 2 ^ 16 → (cost_of_late_line cycles).registers ≤ 23
waiting_line cycles few = by (nat_le cycles 23) refl
  where
    by : (b : Bool) → nat_le cycles 23 ≡ b
        → (if b then record { nodes = cycles; registers = cycles; memories = 0 } else cost_of_far_line cycles).registers ≤ 23
    by true p = leb-true cycles 23 p
    by false p = let bits = few_places (cycles - 1) (omega (arith, few)) in omega (arith, bits)

-- ---- levels of doubling

slot_nodes : (slot gates more rows all w : ℕ) → (cost_of_slot_doublings slot gates more rows all w).nodes ≤ (24 + gates) * doublings more rows all
slot_nodes slot gates zero rows all w = omega arith
slot_nodes slot gates (suc more) rows all w =
    by (nat_le all rows) (cost_of_slot_doublings slot gates more (rows + gap_of rows all) all w) (doublings more (rows + gap_of rows all) all)
    (slot_nodes slot gates more (rows + gap_of rows all) all w)
  where
    by : (b : Bool) (rest : Cost) (n : ℕ) → rest.nodes ≤ (24 + gates) * n
        → (if b then record { nodes = 0; registers = 0; memories = 0 } else with_slot_level slot gates (gap_of rows all) w rest).nodes ≤ (24 + gates) * (if b then 0 else suc n)
    by true rest n h = omega arith
    by false rest n h = omega (arith, h)

slot_registers : (slot gates more rows all w : ℕ) → slot ≤ 12 → (cost_of_slot_doublings slot gates more rows all w).registers ≤ (66 + 4 * w) * doublings more rows all
slot_registers slot gates zero rows all w few = omega arith
slot_registers slot gates (suc more) rows all w few =
    by (nat_le all rows) (cost_of_slot_doublings slot gates more (rows + gap_of rows all) all w) (doublings more (rows + gap_of rows all) all)
    (slot_registers slot gates more (rows + gap_of rows all) all w few)
  where
    by : (b : Bool) (rest : Cost) (n : ℕ) → rest.registers ≤ (66 + 4 * w) * n
        → (if b then record { nodes = 0; registers = 0; memories = 0 } else with_slot_level slot gates (gap_of rows all) w rest).registers ≤ (66 + 4 * w) * (if b then 0 else suc n)
    by true rest n h = omega arith
    by false rest n h = omega (arith, h, few)

-- each slot has the rings of one extreme
slot_memories : (slot gates more rows all w : ℕ) → (cost_of_slot_doublings slot gates more rows all w).memories ≡ 2 ^ slot * (cost_of_doublings gates more rows all w).memories
slot_memories slot gates zero rows all w = omega arith
slot_memories slot gates (suc more) rows all w =
    by (nat_le all rows) (cost_of_slot_doublings slot gates more (rows + gap_of rows all) all w) (cost_of_doublings gates more (rows + gap_of rows all) all w)
    (slot_memories slot gates more (rows + gap_of rows all) all w)
  where
    by : (b : Bool) (rest one : Cost) → rest.memories ≡ 2 ^ slot * one.memories
        → (if b then record { nodes = 0; registers = 0; memories = 0 } else with_slot_level slot gates (gap_of rows all) w rest).memories
        ≡ 2 ^ slot * (if b then record { nodes = 0; registers = 0; memories = 0 } else with_level gates (gap_of rows all) w one).memories
    by true rest one h = omega arith
    by false rest one h =
        let apart : 2 ^ (slot + place_bits (gap_of rows all)) * w ≡ 2 ^ slot * 2 ^ place_bits (gap_of rows all) * w =
        ap (λ (k : ℕ). k * w) (pow-add 2 slot (place_bits (gap_of rows all))) in
        omega (arith, h, apart)

-- an extreme, with these gates in each level over words so wide, and so many nodes and registers beside
pub record IsExtremeWithin (cost : Cost) (slot back : ℕ) : Type 0 where
  pub nodes : cost.nodes ≤ weight_of_rings (digits back) 0
  pub registers : cost.registers ≤ 64 * (weight_of_rings (digits back) 0 + 16)
  pub memories : cost.memories ≤ 2 ^ slot * (65 * words_of_doublings (digits back) 0 back)

pub slot_extreme_within : DoublingsAreBits → (slot gates w back nodes registers : ℕ) → slot ≤ 12 → gates ≤ 12 → w ≤ 65 → back < 2 ^ 16 → nodes ≤ 9 → registers ≤ 65
    → IsExtremeWithin (record {
      nodes = (cost_of_slot_doublings slot gates back 1 (back + 1) w).nodes + nodes;
      registers = (cost_of_slot_doublings slot gates back 1 (back + 1) w).registers + registers;
      memories = (cost_of_slot_doublings slot gates back 1 (back + 1) w).memories;
    }) slot back
slot_extreme_within bits_are slot gates w back nodes registers few_slots small narrow lt few_nodes few_registers =
    let r : ℕ = digits back in
    let n : ℕ = doublings back 1 (back + 1) in
    let words : ℕ = words_of_doublings r 0 back in
    let are : n ≡ r = bits_are back in
    let few : digits back ≤ 16 = few_exponents 16 (back + 1) 0 (back + 1) (omega arith) (omega (arith, lt)) in
    let cost = slot_nodes slot gates back 1 (back + 1) w in
    let gates_of = mul-le-mul_right n (let z : 24 + gates ≤ 36 = omega (arith, small) in z) in
    let bits = slot_registers slot gates back 1 (back + 1) w few_slots in
    let bits_of = mul-le-mul_right n (let z : 66 + 4 * w ≤ 326 = omega (arith, narrow) in z) in
    let one : (cost_of_doublings gates back 1 (back + 1) w).memories ≡ w * words_of_doublings n 0 back = level_memories gates back 0 back w in
    let same = ap (λ (k : ℕ). w * words_of_doublings k 0 back) are in
    let stored : (cost_of_slot_doublings slot gates back 1 (back + 1) w).memories ≡ 2 ^ slot * (w * words) =
    slot_memories slot gates back 1 (back + 1) w ∙ ap (λ (k : ℕ). 2 ^ slot * k) (one ∙ same) in
    let wide : 2 ^ slot * (w * words) ≤ 2 ^ slot * (65 * words) = mul-le-mul_left (2 ^ slot) (mul-le-mul_right words narrow) in
    record {
      nodes = omega (arith, cost, gates_of, are, few_nodes, few);
      registers = omega (arith, bits, bits_of, are, few_registers);
      memories = omega (arith, stored, wide);
    }
