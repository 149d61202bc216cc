-- The bits of a key, and the parts of a word.
use Rattle.std.proofs.Common.{◌≡◌, ℕ, zero, suc, ◌+◌, ◌-◌, ◌*◌, ◌/◌, ◌%◌, ◌^◌, ◌<◌, ◌≤◌, Bool, true, false, refl, sym, ap, ◌∙◌, arith}
use Rattle.std.specs.Prelude.{if◌then◌else◌, nat_eq}
use Rattle.std.proofs.lemmas.Nat.{div-add-mod', mod_below, mod_low, pow_pos, shr-shr, shr_high}
use Rattle.gl_bits.specs.Words.{cut_of, join_of}
use Rattle.gl_bits.proofs.Wrapping.{fits_wider}
use Rattle.gl_net.specs.declared.node.Bit.{Bit}
use Rattle.gl_net.specs.Net.{Run}
use Rattle.gl_wire.specs.Wire.{line_at}
use Rattle.gl_frames_tree.specs.declared.parts.Parts.{Parts}
use Rattle.gl_frames_tree.specs.LevelNets.{bit_of_key, child_in, digit_of, is_marked, part_at, part_of}
use Rattle.gl_frames_tree.specs.TreeNets.{name_before}

-- ---- bits of a key

one_is : (x : ℕ) → x < 2 → (if nat_eq x 1 then 1 else 0) ≡ x
one_is zero l = refl
one_is (suc zero) l = refl
one_is (suc (suc x)) l = absurd (omega (arith, l))

two_is : (x : ℕ) → x < 2 → (if nat_eq x 1 then 2 else 0) ≡ x * 2
two_is zero l = refl
two_is (suc zero) l = refl
two_is (suc (suc x)) l = absurd (omega (arith, l))

pub digit_few : (high low : Bool) → digit_of high low < 4
digit_few true true = omega arith
digit_few true false = omega arith
digit_few false true = omega arith
digit_few false false = omega arith

-- a number is that of its upper bits with the two lowest
two_bits : (x : ℕ) → x / 2 ^ 2 * 4 + digit_of (nat_eq (x / 2 ^ 1 % 2) 1) (nat_eq (x % 2) 1) ≡ x
two_bits x =
    let high = two_is (x / 2 ^ 1 % 2) (mod_below (x / 2 ^ 1) 2 (omega arith)) in
    let low = one_is (x % 2) (mod_below x 2 (omega arith)) in
    let upper : x / 2 ^ 1 / 2 * 2 + x / 2 ^ 1 % 2 ≡ x / 2 ^ 1 = div-add-mod' (x / 2 ^ 1) 2 in
    let lower : x / 2 * 2 + x % 2 ≡ x = div-add-mod' x 2 in
    let half : x / 2 ^ 1 ≡ x / 2 = refl in
    let quarter : x / 2 ^ 1 / 2 ^ 1 ≡ x / 2 ^ 2 = shr-shr x 1 1 in
    let again : x / 2 ^ 1 / 2 ^ 1 ≡ x / 2 ^ 1 / 2 = refl in
    omega (arith, high, low, upper, lower, half, quarter, again)

-- the name of a child is that of its node with two bits behind it
pub name_step : (rest key : ℕ) → name_before (suc rest) key * 4 + digit_of (bit_of_key (2 * rest + 1) key) (bit_of_key (2 * rest) key) ≡ name_before rest key
name_step rest key =
    let more : 2 * suc rest ≡ 2 * rest + 2 = omega arith in
    let upper : key / 2 ^ (2 * suc rest) ≡ key / 2 ^ (2 * rest) / 2 ^ 2 = ap (λ (k : ℕ). key / 2 ^ k) more ∙ sym (shr-shr key (2 * rest) 2) in
    let high : key / 2 ^ (2 * rest + 1) ≡ key / 2 ^ (2 * rest) / 2 ^ 1 = sym (shr-shr key (2 * rest) 1) in
    ap (λ (x : ℕ). x * 4 + digit_of (bit_of_key (2 * rest + 1) key) (bit_of_key (2 * rest) key)) upper
    ∙ ap (λ (x : ℕ). key / 2 ^ (2 * rest) / 2 ^ 2 * 4 + digit_of (nat_eq (x % 2) 1) (bit_of_key (2 * rest) key)) high
    ∙ two_bits (key / 2 ^ (2 * rest))

-- nothing stands above a number's width
pub none_above : (key width at : ℕ) → key < 2 ^ width → width ≤ at → key / 2 ^ at ≡ 0
none_above key width at fits le =
    let whole : 0 * 2 ^ at + key ≡ key = omega arith in
    ap (λ (x : ℕ). x / 2 ^ at) (sym whole) ∙ shr_high 0 at key (fits_wider key width at fits le)

pub no_bit_above : (key width at : ℕ) → key < 2 ^ width → width ≤ at → bit_of_key at key ≡ false
no_bit_above key width at fits le = ap (λ (x : ℕ). nat_eq (x % 2) 1) (none_above key width at fits le)

-- ---- parts of a word

module _ (w p3 p2 p1 p0 : ℕ) (l2 : p2 < 2 ^ w) (l1 : p1 < 2 ^ w) (l0 : p0 < 2 ^ w) where
  abbrev upper : ℕ
  upper = p3 * 2 ^ w + p2

  abbrev more : ℕ
  more = upper * 2 ^ w + p1

  abbrev whole : ℕ
  whole = more * 2 ^ w + p0

  by_one : whole / 2 ^ w ≡ more
  by_one = shr_high more w p0 l0

  by_two : whole / 2 ^ (w + w) ≡ upper
  by_two = sym (shr-shr whole w w) ∙ ap (λ (x : ℕ). x / 2 ^ w) by_one ∙ shr_high upper w p1 l1

  by_three : whole / 2 ^ (w + w + w) ≡ p3
  by_three = sym (shr-shr whole (w + w) w) ∙ ap (λ (x : ℕ). x / 2 ^ w) by_two ∙ shr_high p3 w p2 l2

  pub part_zero : part_of w 0 whole ≡ p0
  part_zero =
      let at : w * 0 ≡ 0 = omega arith in
      ap (λ (k : ℕ). whole / 2 ^ k % 2 ^ w) at ∙ ap (λ (x : ℕ). x % 2 ^ w) (whole_itself whole) ∙ mod_low more w p0 l0
    where
      whole_itself : (x : ℕ) → x / 2 ^ 0 ≡ x
      whole_itself x = let all : x * 2 ^ 0 + 0 ≡ x = omega arith in ap (λ (y : ℕ). y / 2 ^ 0) (sym all) ∙ shr_high x 0 0 (pow_pos 0)

  pub part_one : part_of w 1 whole ≡ p1
  part_one =
      let at : w * 1 ≡ w = omega arith in
      ap (λ (k : ℕ). whole / 2 ^ k % 2 ^ w) at ∙ ap (λ (x : ℕ). x % 2 ^ w) by_one ∙ mod_low upper w p1 l1

  pub part_two : part_of w 2 whole ≡ p2
  part_two =
      let at : w * 2 ≡ w + w = omega arith in
      ap (λ (k : ℕ). whole / 2 ^ k % 2 ^ w) at ∙ ap (λ (x : ℕ). x % 2 ^ w) by_two ∙ mod_low p3 w p2 l2

  pub part_three : p3 < 2 ^ w → part_of w 3 whole ≡ p3
  part_three l3 =
      let at : w * 3 ≡ w + w + w = omega arith in
      let alone : 0 * 2 ^ w + p3 ≡ p3 = omega arith in
      ap (λ (k : ℕ). whole / 2 ^ k % 2 ^ w) at ∙ ap (λ (x : ℕ). x % 2 ^ w) (by_three ∙ sym alone) ∙ mod_low 0 w p3 l3

-- ---- what a part tells

pub marked_is : (w x : ℕ) → x < 2 ^ w → is_marked w (2 ^ w + x) ≡ true
marked_is w x l =
    let one : 1 * 2 ^ w + x ≡ 2 ^ w + x = omega arith in
    ap (λ (y : ℕ). nat_eq (y / 2 ^ w % 2) 1) (sym one) ∙ ap (λ (y : ℕ). nat_eq (y % 2) 1) (shr_high 1 w x l)

pub child_is : (w x : ℕ) → x < 2 ^ w → child_in w (2 ^ w + x) ≡ x
child_is w x l =
    let one : 1 * 2 ^ w + x ≡ 2 ^ w + x = omega arith in
    ap (λ (y : ℕ). y % 2 ^ w) (sym one) ∙ mod_low 1 w x l

pub none_marked : (w : ℕ) → is_marked w 0 ≡ false
none_marked w =
    let none : 0 * 2 ^ w + 0 ≡ 0 = omega arith in
    ap (λ (y : ℕ). nat_eq (y / 2 ^ w % 2) 1) (sym none) ∙ ap (λ (y : ℕ). nat_eq (y % 2) 1) (shr_high 0 w 0 (pow_pos w))

-- a part is cut from its word
pub cut_part : (w i high low x : ℕ) → low ≡ w * i → high + 1 ≡ w * i + w → cut_of high low x ≡ part_of w i x
unfolding cut_of
cut_part w i high low x is_low is_high =
    let wide : high + 1 - low ≡ w = omega (arith, is_low, is_high) in
    ap (λ (k : ℕ). x / 2 ^ low % 2 ^ k) wide ∙ ap (λ (k : ℕ). x / 2 ^ k % 2 ^ w) is_low

-- a line that is a bit of a word
pub top_line : (run : Run) (b : Bit) (w x t : ℕ) → run.at (suc t) b.node ≡ cut_of w w x → line_at run b (suc t) ≡ bit_of_key w x
unfolding line_at cut_of
top_line run b w x t e =
    let one : w + 1 - w ≡ 1 = omega arith in
    ap (λ (y : ℕ). nat_eq y 1) e ∙ ap (λ (k : ℕ). nat_eq (x / 2 ^ w % 2 ^ k) 1) one

-- a number below a 1
pub join_one : (w one x : ℕ) → one ≡ 1 → join_of w one x ≡ 2 ^ w + x
unfolding join_of
join_one w one x e =
    let once : 1 * 2 ^ w + x ≡ 2 ^ w + x = omega arith in
    ap (λ (y : ℕ). y * 2 ^ w + x) e ∙ once

-- the parts of a word that is joined, by places
pub joined_parts : (run : Run) (p : Parts) (w out t i : ℕ) → i < 4 → run.at t p.three.node < 2 ^ w → run.at t p.two.node < 2 ^ w → run.at t p.one.node < 2 ^ w → run.at t p.zero.node < 2 ^ w
    → out ≡ ((run.at t p.three.node * 2 ^ w + run.at t p.two.node) * 2 ^ w + run.at t p.one.node) * 2 ^ w + run.at t p.zero.node → part_of w i out ≡ part_at run p i t
joined_parts run p w out t zero l l3 l2 l1 l0 e = ap (part_of w 0) e ∙ part_zero w (run.at t p.three.node) (run.at t p.two.node) (run.at t p.one.node) (run.at t p.zero.node) l2 l1 l0
joined_parts run p w out t (suc zero) l l3 l2 l1 l0 e = ap (part_of w 1) e ∙ part_one w (run.at t p.three.node) (run.at t p.two.node) (run.at t p.one.node) (run.at t p.zero.node) l2 l1 l0
joined_parts run p w out t (suc (suc zero)) l l3 l2 l1 l0 e = ap (part_of w 2) e ∙ part_two w (run.at t p.three.node) (run.at t p.two.node) (run.at t p.one.node) (run.at t p.zero.node) l2 l1 l0
joined_parts run p w out t (suc (suc (suc zero))) l l3 l2 l1 l0 e = ap (part_of w 3) e ∙ part_three w (run.at t p.three.node) (run.at t p.two.node) (run.at t p.one.node) (run.at t p.zero.node) l2 l1 l0 l3
joined_parts run p w out t (suc (suc (suc (suc i)))) l l3 l2 l1 l0 e = absurd (omega (arith, l))

-- three joins
pub three_joins : (w v u s p3 p2 p1 p0 a b c : ℕ) → v ≡ w → u ≡ w → s ≡ w → a ≡ join_of v p3 p2 → b ≡ join_of u a p1 → c ≡ join_of s b p0
    → c ≡ ((p3 * 2 ^ w + p2) * 2 ^ w + p1) * 2 ^ w + p0
unfolding join_of
three_joins w v u s p3 p2 p1 p0 a b c ev eu es ea eb ec =
    ec ∙ ap (λ (k : ℕ). b * 2 ^ k + p0) es ∙ ap (λ (y : ℕ). y * 2 ^ w + p0) (eb ∙ ap (λ (k : ℕ). a * 2 ^ k + p1) eu)
    ∙ ap (λ (y : ℕ). (y * 2 ^ w + p1) * 2 ^ w + p0) (ea ∙ ap (λ (k : ℕ). p3 * 2 ^ k + p2) ev)
