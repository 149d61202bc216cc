-- What rings, late items and levels of doubling cost at most, and the words of an extreme's rings.
use Rattle.std.proofs.Common.{◌≡◌, ℕ, zero, suc, ◌+◌, ◌-◌, ◌*◌, ◌^◌, ◌<◌, ◌≤◌, min, Bool, true, false, refl, ap, ◌∙◌, subst, arith, ◌⊎◌, inl, inr}
use Rattle.std.specs.Prelude.{if◌then◌else◌, nat_le}
use Rattle.std.proofs.Math.Nat.{mul-le-mul_left, mul-le-mul_right, pow-le-pow_right, pow-suc}
use Rattle.std.proofs.lemmas.Bool.{cases_lt, le-leb, leb-false, leb-true}
use Rattle.gl_algebra.proofs.ExponentLemmas.{exponent_covers}
use Rattle.gl_algebra.specs.Frames.{words_of_doublings}
use Rattle.gl_algebra.specs.Rings.{digits, least_exponent, ring}
use Rattle.gl_frames_wire.proofs.ReachLemmas.{few_exponents, from_exponent}
use Rattle.gl_frames_wire.specs.Reaches.{place_bits}
use Rattle.gl_wire.specs.Costs.{Cost}
use Rattle.gl_frames_stages.specs.DelayNets.{cost_of_far, cost_of_far_line, cost_of_late, cost_of_late_line, near_cost}
use Rattle.gl_frames_stages.specs.DoublingNets.{cost_of_doublings, doublings, gap_of, with_level}
use Rattle.gl_frames_stages.proofs.DoublingNet.{doublings_done}

-- ---- exponents and rings

pub few_places : (back : ℕ) → back ≤ 2 ^ 16 → place_bits back ≤ 17
few_places back le = few_exponents 17 (back + 1) 1 (back + 1) (omega arith) (omega (arith, le))

-- a ring has more words than the distance that it is read at
pub place_words : (back : ℕ) → 2 ^ place_bits back ≡ ring (back + 1)
unfolding ring
place_words back = refl

-- that of a sum is read at the row which leaves the frame
pub frame_words : (back : ℕ) → 2 ^ place_bits (back + 1) ≡ ring (back + 2)
frame_words back = let e : back + 1 + 1 ≡ back + 2 = omega arith in place_words (back + 1) ∙ ap ring e

ring_covers : (depth : ℕ) → depth ≤ ring depth
unfolding ring
ring_covers depth = exponent_covers depth 1 depth (omega arith)

-- a ring has no more words than one that holds more
words_grow : (x m : ℕ) → x + 1 ≤ m → 2 ^ place_bits x ≤ ring m
unfolding ring
words_grow x m le =
    let covers = exponent_covers m 1 m (omega arith) in
    let most : ℕ = least_exponent m 1 m in
    pow-le-pow_right {n = 2} (omega arith) (few_exponents most (x + 1) 1 (x + 1) (from_exponent m 1 m) (omega (arith, le, covers)))

-- the bits of words that are not wide
pub ring_bits : (words w : ℕ) → w ≤ 65 → words * w ≤ 65 * words
ring_bits words w le = let m = mul-le-mul_left words le in omega (arith, m)

-- the power of two below the least exponent is below the depth
exponent_least : (more e depth : ℕ) → e < least_exponent more e depth → 2 ^ (least_exponent more e depth - 1) < depth
exponent_least zero e depth lt = absurd (omega (arith, lt))
exponent_least (suc more) e depth lt = by (nat_le depth (2 ^ e)) (least_exponent more (suc e) depth) refl (from_exponent more (suc e) depth) (exponent_least more (suc e) depth) lt
  where
    deep : (n : ℕ) → 2 ^ e < depth → suc e ≤ n → (suc e < n → 2 ^ (n - 1) < depth) → 2 ^ (n - 1) < depth
    deep n over low rest = elim (cases_lt (suc e) n) [
      | inl more' ↦ rest more'
      | inr ge ↦ (let at : e ≡ n - 1 = omega (arith, ge, low) in subst (λ (k : ℕ). 2 ^ k < depth) at over)
    ]

    by : (b : Bool) (n : ℕ) → nat_le depth (2 ^ e) ≡ b → suc e ≤ n → (suc e < n → 2 ^ (n - 1) < depth) → e < (if b then e else n) → 2 ^ ((if b then e else n) - 1) < depth
    by true n p low rest l = absurd (omega (arith, l))
    by false n p low rest l = deep n (leb-false depth (2 ^ e) p) low rest

-- ---- as late as the slowest

pub late_nodes : (c w m : ℕ) → suc c ≤ m → (cost_of_late c w).nodes + 11 ≤ 4 * (min m 4 + 4)
late_nodes c w m lt = by (nat_le c 4) refl
  where
    by : (b : Bool) → nat_le c 4 ≡ b → (if b then near_cost c w else cost_of_far c w).nodes + 11 ≤ 4 * (min m 4 + 4)
    by true p = let le = leb-true c 4 p in omega (arith, lt, le)
    by false p = let gt = leb-false c 4 p in omega (arith, lt, gt)

pub late_registers : (c w : ℕ) → w ≤ 64 → c ≤ 100 → (cost_of_late c w).registers ≤ 256
late_registers c w narrow few = by (nat_le c 4) refl
  where
    by : (b : Bool) → nat_le c 4 ≡ b → (if b then near_cost c w else cost_of_far c w).registers ≤ 256
    by true p = let le = leb-true c 4 p in let m = mul-le-mul_right c narrow in omega (arith, le, m)
    by false p = let bits = few_places (c - 1) (omega (arith, few)) in omega (arith, bits, narrow)

pub late_memories : (c w m : ℕ) → w ≤ 64 → suc c ≤ m → (cost_of_late c w).memories ≤ 64 * ring m
late_memories c w m narrow lt = by (nat_le c 4)
  where
    by : (b : Bool) → (if b then near_cost c w else cost_of_far c w).memories ≤ 64 * ring m
    by true = omega arith
    by false =
        let more = mul-le-mul_right w (words_grow (c - 1) m (omega (arith, lt))) in
        let wide = mul-le-mul_left (ring m) narrow in
        omega (arith, more, wide)

pub line_nodes : (m : ℕ) → (cost_of_late_line m).nodes ≤ 23
line_nodes m = by (nat_le m 23) refl
  where
    by : (b : Bool) → nat_le m 23 ≡ b → (if b then record { nodes = m; registers = m; memories = 0 } else cost_of_far_line m).nodes ≤ 23
    by true p = leb-true m 23 p
    by false p = omega arith

pub line_registers : (m : ℕ) → m ≤ 100 → (cost_of_late_line m).registers ≤ 23
line_registers m few = by (nat_le m 23) refl
  where
    by : (b : Bool) → nat_le m 23 ≡ b → (if b then record { nodes = m; registers = m; memories = 0 } else cost_of_far_line m).registers ≤ 23
    by true p = leb-true m 23 p
    by false p = let bits = few_places (m - 1) (omega (arith, few)) in omega (arith, bits)

pub line_memories : (m : ℕ) → (cost_of_late_line m).memories ≤ ring m
line_memories m = by (nat_le m 23) refl
  where
    by : (b : Bool) → nat_le m 23 ≡ b → (if b then record { nodes = m; registers = m; memories = 0 } else cost_of_far_line m).memories ≤ ring m
    by true p = omega arith
    by false p = let gt = leb-false m 23 p in words_grow (m - 1) m (omega (arith, gt))

-- ---- levels of doubling

pub level_nodes : (gates more rows all w : ℕ) → (cost_of_doublings gates more rows all w).nodes ≡ (28 + gates) * doublings more rows all
level_nodes gates zero rows all w = omega arith
level_nodes gates (suc more) rows all w =
    by (nat_le all rows) (cost_of_doublings gates more (rows + gap_of rows all) all w) (doublings more (rows + gap_of rows all) all)
    (level_nodes gates more (rows + gap_of rows all) all w)
  where
    by : (b : Bool) (rest : Cost) (n : ℕ) → rest.nodes ≡ (28 + gates) * n
        → (if b then record { nodes = 0; registers = 0; memories = 0 } else with_level gates (gap_of rows all) w rest).nodes ≡ (28 + gates) * (if b then 0 else suc n)
    by true rest n h = omega arith
    by false rest n h = omega (arith, h)

pub level_registers : (gates more rows all w : ℕ) → all ≤ 2 ^ 16 → (cost_of_doublings gates more rows all w).registers ≤ (24 + 4 * w) * doublings more rows all
level_registers gates zero rows all w few = omega arith
level_registers gates (suc more) rows all w few =
    by (nat_le all rows) (cost_of_doublings gates more (rows + gap_of rows all) all w) (doublings more (rows + gap_of rows all) all)
    (level_registers gates more (rows + gap_of rows all) all w few)
  where
    by : (b : Bool) (rest : Cost) (n : ℕ) → rest.registers ≤ (24 + 4 * w) * n
        → (if b then record { nodes = 0; registers = 0; memories = 0 } else with_level gates (gap_of rows all) w rest).registers ≤ (24 + 4 * w) * (if b then 0 else suc n)
    by true rest n h = omega arith
    by false rest n h = let bits = few_places (gap_of rows all) (omega (arith, few)) in omega (arith, h, bits)

levels_done : (gates more rows all w : ℕ) → all ≤ rows → (cost_of_doublings gates more rows all w).memories ≡ 0
levels_done gates zero rows all w le = refl
levels_done gates (suc more) rows all w le = by (nat_le all rows) (le-leb all rows le)
  where
    by : (b : Bool) → b ≡ true
        → (if b then record { nodes = 0; registers = 0; memories = 0 } else with_level gates (gap_of rows all) w (cost_of_doublings gates more (rows + gap_of rows all) all w)).memories ≡ 0
    by true e = refl
    by false e = absurd cc

pub level_memories : (gates more e back w : ℕ)
    → (cost_of_doublings gates more (2 ^ e) (back + 1) w).memories ≡ w * words_of_doublings (doublings more (2 ^ e) (back + 1)) e back
level_memories gates zero e back w = omega arith
level_memories gates (suc more) e back w =
    by (nat_le (back + 1) (2 ^ e)) (cost_of_doublings gates more (2 ^ e + gap_of (2 ^ e) (back + 1)) (back + 1) w) (doublings more (2 ^ e + gap_of (2 ^ e) (back + 1)) (back + 1)) refl
    (λ over. further over (level_memories gates more (suc e) back w) (cases_lt (back + 1) (2 ^ suc e)))
  where
    double : 2 ^ suc e ≡ 2 ^ e + 2 ^ e
    double = let p = pow-suc 2 e in omega (arith, p)

    next : suc e ≡ e + 1
    next = omega arith

    further : 2 ^ e < back + 1
        → (cost_of_doublings gates more (2 ^ suc e) (back + 1) w).memories ≡ w * words_of_doublings (doublings more (2 ^ suc e) (back + 1)) (suc e) back
        → (back + 1 < 2 ^ suc e) ⊎ (2 ^ suc e ≤ back + 1)
        → (cost_of_doublings gates more (2 ^ e + gap_of (2 ^ e) (back + 1)) (back + 1) w).memories
        ≡ w * words_of_doublings (doublings more (2 ^ e + gap_of (2 ^ e) (back + 1)) (back + 1)) (e + 1) back
    further over rest (inl lt) =
        let gap : ℕ = gap_of (2 ^ e) (back + 1) in
        let whole : back + 1 ≤ 2 ^ e + gap = omega (arith, lt, double, over) in
        let words = ap (λ (k : ℕ). w * words_of_doublings k (e + 1) back) (doublings_done more (2 ^ e + gap) (back + 1) whole) in
        let cost = levels_done gates more (2 ^ e + gap) (back + 1) w whole in
        let zeros : w * 0 ≡ 0 = omega arith in
        omega (arith, words, cost, zeros)
    further over rest (inr ge) =
        let rows : 2 ^ suc e ≡ 2 ^ e + gap_of (2 ^ e) (back + 1) = omega (arith, ge, double) in
        subst (λ (r : ℕ). (cost_of_doublings gates more r (back + 1) w).memories ≡ w * words_of_doublings (doublings more r (back + 1)) (e + 1) back) rows
        (subst (λ (k : ℕ). (cost_of_doublings gates more (2 ^ suc e) (back + 1) w).memories ≡ w * words_of_doublings (doublings more (2 ^ suc e) (back + 1)) k back) next
        rest)

    by : (b : Bool) (rest : Cost) (n : ℕ) → nat_le (back + 1) (2 ^ e) ≡ b → (2 ^ e < back + 1 → rest.memories ≡ w * words_of_doublings n (e + 1) back)
        → (if b then record { nodes = 0; registers = 0; memories = 0 } else with_level gates (gap_of (2 ^ e) (back + 1)) w rest).memories
        ≡ w * words_of_doublings (if b then 0 else suc n) e back
    by true rest n p h = omega arith
    by false rest n p h =
        let stored = h (leb-false (back + 1) (2 ^ e) p) in
        let words = ap (λ (k : ℕ). k * w) (place_words (gap_of (2 ^ e) (back + 1))) in
        omega (arith, stored, words)

-- the rings of an extreme have no fewer words than there are rows before
words_least : (more e back : ℕ) → back + 1 ≤ 2 ^ (more + e) → back + 1 - 2 ^ e ≤ words_of_doublings more e back
words_least zero e back le =
    let place : 0 + e ≡ e = omega arith in
    let le' = subst (λ (n : ℕ). back + 1 ≤ 2 ^ n) place le in
    omega (arith, le')
words_least (suc more) e back le =
    let place : suc more + e ≡ more + (e + 1) = omega arith in
    let rest = words_least more (e + 1) back (subst (λ n. back + 1 ≤ 2 ^ n) place le) in
    let least = ring_covers (min (2 ^ e) (back + 1 - 2 ^ e) + 1) in
    let double : 2 ^ (e + 1) ≡ 2 ^ e + 2 ^ e = (let p = pow-suc 2 e in let q : 2 ^ (e + 1) ≡ 2 ^ suc e = ap (λ (k : ℕ). 2 ^ k) (let z : e + 1 ≡ suc e = omega arith in z) in omega (arith, p, q)) in
    omega (arith, rest, least, double)

-- many bits are many words
pub words_many : (back : ℕ) → 11 ≤ digits back → 1024 ≤ words_of_doublings (digits back) 0 back
words_many back many =
    let covers = exponent_covers (back + 1) 0 (back + 1) (omega arith) in
    let place : digits back ≡ digits back + 0 = omega arith in
    let words = words_least (digits back) 0 back (subst (λ n. back + 1 ≤ 2 ^ n) place covers) in
    let below = exponent_least (back + 1) 0 (back + 1) (omega (arith, many)) in
    let one : back + 1 - 1 ≤ words_of_doublings (digits back) 0 back = words in
    let ten : 2 ^ 10 ≤ 2 ^ (digits back - 1) = pow-le-pow_right {n = 2} (omega arith) {i = 10} {j = digits back - 1} (omega (arith, many)) in
    omega (arith, one, below, ten)
