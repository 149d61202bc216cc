-- The weights of values in order, picked by a bit that moves up.
use Rattle.std.proofs.Common.{◌≡◌, ℕ, zero, suc, ◌+◌, ◌-◌, ◌*◌, ◌/◌, ◌%◌, ◌^◌, ◌<◌, ◌≤◌, inl, inr, List, [], ◌∷◌, length, drop, get_or, Bool, true, false, refl, sym, ap, ◌∙◌, arith}
use Rattle.std.specs.Prelude.{◌||◌, fold, if◌then◌else◌, nat_eq}
use Rattle.std.proofs.Math.Nat.{add-mod-mod, div-eq_of_eq-mul_left, mod-add-mod, mod-eq_of_lt, mul-mod_left, two-pow-succ, zero-div, zero-mod}
use Rattle.std.proofs.Math.Pow.{pow-lt}
use Rattle.std.proofs.lemmas.Bool.{cases_lt, eq-eqb, eqb-true}
use Rattle.std.proofs.lemmas.Nat.{mul-mod_first, pow-add}
use Rattle.gl_values.specs.Totals.{weighted, weighted_sum}
use Rattle.gl_bits.specs.Words.{Word, bit, bits_of, choose_of, eq_of, product_of, sum_of}
use Rattle.gl_divide.specs.Division.{with_bit}
use Rattle.gl_totals.specs.Weighing.{among, is_among, is_told, picked}

-- ---- the place

-- the word of k bits in which the bit at a place is 1, where it has such a bit
abbrev placed : ℕ → ℕ → ℕ
placed k p = 2 ^ p % 2 ^ k

mod_second : (a b m : ℕ) → (a * (b % m)) % m ≡ (a * b) % m
mod_second a b m =
    let turned : a * (b % m) ≡ b % m * a = omega arith in
    let back : b * a ≡ a * b = omega arith in
    ap (λ (n : ℕ). n % m) turned ∙ mul-mod_first b a m ∙ ap (λ (n : ℕ). n % m) back

placed_next : (k p : ℕ) → with_bit k (placed k p) false ≡ placed k (p + 1)
unfolding with_bit
placed_next k p =
    let one : p + 1 ≡ suc p = omega arith in
    let twice : 2 ^ p + 2 ^ p ≡ 2 * 2 ^ p = omega arith in
    let power : 2 ^ (p + 1) ≡ 2 * 2 ^ p = ap (λ (n : ℕ). 2 ^ n) one ∙ two-pow-succ p ∙ twice in
    let none : 2 * (2 ^ p % 2 ^ k) + 0 ≡ 2 * (2 ^ p % 2 ^ k) = omega arith in
    ap (λ (n : ℕ). n % 2 ^ k) none ∙ mod_second 2 (2 ^ p) (2 ^ k) ∙ ap (λ (n : ℕ). n % 2 ^ k) (sym power)

placed_there : (k p : ℕ) → p < k → placed k p ≡ 2 ^ p
placed_there k p lt = mod-eq_of_lt (pow-lt lt)

placed_past : (k p : ℕ) → k ≤ p → placed k p ≡ 0
placed_past k p le =
    let whole : p ≡ p - k + k = omega arith in
    ap (λ (n : ℕ). 2 ^ n % 2 ^ k) whole ∙ ap (λ (n : ℕ). n % 2 ^ k) (pow-add 2 (p - k) k) ∙ mul-mod_left (2 ^ (p - k)) (2 ^ k)

-- ---- what is picked there

picked_none : (ws : List ℕ) → picked ws 0 ≡ 0
picked_none [] = refl
picked_none (n ∷ ws) = ap (picked ws) (zero-div 2) ∙ picked_none ws

picked_there : (ws : List ℕ) (p : ℕ) → picked ws (2 ^ p) ≡ get_or ws p 0
picked_there [] p = refl
picked_there (n ∷ ws) zero = refl
picked_there (n ∷ ws) (suc p) =
    let twice : 2 ^ p + 2 ^ p ≡ 2 ^ p * 2 = omega arith in
    let power : 2 ^ suc p ≡ 2 ^ p * 2 = two-pow-succ p ∙ twice in
    let even : 2 ^ suc p % 2 ≡ 0 = ap (λ (n : ℕ). n % 2) power ∙ mul-mod_left (2 ^ p) 2 in
    let half : 2 ^ suc p / 2 ≡ 2 ^ p = div-eq_of_eq-mul_left (omega arith) power in
    rw even (ap (picked ws) half ∙ picked_there ws p)

picked_placed : (ws : List ℕ) (p : ℕ) → picked ws (placed (length ws) p) ≡ get_or ws p 0
picked_placed ws p = elim (cases_lt p (length ws)) [
  | inl lt ↦ ap (picked ws) (placed_there (length ws) p lt) ∙ picked_there ws p
  | inr le ↦ ap (picked ws) (placed_past (length ws) p le) ∙ picked_none ws ∙ sym (past ws p le)
]
  where
    past : (xs : List ℕ) (i : ℕ) → length xs ≤ i → get_or xs i 0 ≡ 0
    past [] i le = refl
    past (x ∷ xs) zero le = absurd (omega arith)
    past (x ∷ xs) (suc i) le = past xs i (omega arith)

-- ---- the sum

drop_none : (p : ℕ) → drop {A = ℕ} p [] ≡ []
drop_none zero = refl
drop_none (suc p) = refl

weighted_next : (ws : List ℕ) (p x : ℕ) (xs : List ℕ) → weighted (drop p ws) (x ∷ xs) ≡ get_or ws p 0 * x + weighted (drop (p + 1) ws) xs
weighted_next [] p x xs = omega (arith, ap (λ (l : List ℕ). weighted l (x ∷ xs)) (drop_none p), ap (λ (l : List ℕ). weighted l xs) (drop_none (p + 1)))
weighted_next (n ∷ ws) zero x xs = refl
weighted_next (n ∷ ws) (suc p) x xs =
    let e : suc (p + 1) ≡ suc p + 1 = omega arith in
    weighted_next ws p x xs ∙ ap (λ (j : ℕ). get_or ws p 0 * x + weighted (drop j (n ∷ ws)) xs) e

weighted_end : (ws : List ℕ) → weighted ws [] ≡ 0
weighted_end [] = refl
weighted_end (n ∷ ws) = refl

-- the place of the next weight, and the sum so far
abbrev pub weigh_step : ℕ → List ℕ → ℕ × ℕ → ℕ → ℕ × ℕ
weigh_step w ws state x = (with_bit (length ws) state.0 false, sum_of w state.1 (product_of w (picked ws state.0) x))

module _ (w : ℕ) (ws : List ℕ) where
  step_is : (p a x : ℕ) → weigh_step w ws (placed (length ws) p, a % 2 ^ w) x ≡ (placed (length ws) (p + 1), (a + get_or ws p 0 * x) % 2 ^ w)
  unfolding sum_of product_of
  step_is p a x =
      let part : (a % 2 ^ w + picked ws (placed (length ws) p) * x % 2 ^ w) % 2 ^ w ≡ (a + get_or ws p 0 * x) % 2 ^ w =
      mod-add-mod a (2 ^ w) (picked ws (placed (length ws) p) * x % 2 ^ w) ∙ add-mod-mod a (picked ws (placed (length ws) p) * x) (2 ^ w)
      ∙ ap (λ (n : ℕ). (a + n * x) % 2 ^ w) (picked_placed ws p) in
      ap (λ (n : ℕ). (n, (a % 2 ^ w + picked ws (placed (length ws) p) * x % 2 ^ w) % 2 ^ w)) (placed_next (length ws) p)
      ∙ ap (λ (n : ℕ). (placed (length ws) (p + 1), n)) part

  weigh_from : (p a : ℕ) (xs : List ℕ) → (fold (weigh_step w ws) (placed (length ws) p, a % 2 ^ w) xs).1 ≡ (a + weighted (drop p ws) xs) % 2 ^ w
  weigh_from p a [] = let e : a ≡ a + weighted (drop p ws) [] = omega (arith, weighted_end (drop p ws)) in ap (λ (n : ℕ). n % 2 ^ w) e
  weigh_from p a (x ∷ xs) =
      ap (λ (s : ℕ × ℕ). (fold (weigh_step w ws) s xs).1) (step_is p a x) ∙ weigh_from (p + 1) (a + get_or ws p 0 * x) xs
      ∙ ap (λ (n : ℕ). n % 2 ^ w) (let e : a + get_or ws p 0 * x + weighted (drop (p + 1) ws) xs ≡ a + weighted (drop p ws) (x ∷ xs) = omega (arith, weighted_next ws p x xs) in e)

  pub folds_weighted : 1 ≤ length ws → (xs : List ℕ) → (fold (weigh_step w ws) (1, 0) xs).1 ≡ weighted_sum w ws xs
  unfolding weighted_sum
  folds_weighted some xs =
      let first : 1 ≡ placed (length ws) 0 = sym (placed_there (length ws) 0 (omega arith)) in
      ap (λ (n : ℕ). (fold (weigh_step w ws) (n, 0) xs).1) first ∙ ap (λ (n : ℕ). (fold (weigh_step w ws) (placed (length ws) 0, n) xs).1) (sym (zero-mod (2 ^ w)))
      ∙ weigh_from 0 0 xs ∙ ap (λ (n : ℕ). n % 2 ^ w) (omega arith)

pub weighted_nothing : (w : ℕ) (ws xs : List ℕ) → length ws ≡ 0 → weighted_sum w ws xs ≡ 0
unfolding weighted_sum
weighted_nothing w [] xs e = zero-mod (2 ^ w)
weighted_nothing w (n ∷ ws) xs e = absurd (omega arith)

-- ---- a weight among the others

or_right : (a b : Bool) → (a || b) ≡ true → a ≡ false → b ≡ true
or_right true b both none = absurd cc
or_right false b both none = both

among_none : (ws : List ℕ) → among ws 0 ≡ 0
among_none [] = refl
among_none (n ∷ ws) = by (nat_eq 0 n) refl (among_none ws)
  where
    by : (b : Bool) → nat_eq 0 n ≡ b → among ws 0 ≡ 0 → (if b then n else among ws 0) ≡ 0
    by true e h = sym (eqb-true 0 n e)
    by false e h = h

among_there : (k : ℕ) (ws : List ℕ) → is_among k ws ≡ true → among ws k ≡ k
among_there k [] is = absurd cc
among_there k (n ∷ ws) is = by (nat_eq k n) refl (among_there k ws)
  where
    by : (b : Bool) → nat_eq k n ≡ b → (is_among k ws ≡ true → among ws k ≡ k) → (if b then n else among ws k) ≡ k
    by true e h = sym (eqb-true k n e)
    by false e h = h (or_right (nat_eq k n) (is_among k ws) is e)

told_there : (n : ℕ) (ws : List ℕ) → is_told n ws ≡ true → among ws n ≡ n
told_there n ws is = by (nat_eq n 0) refl
  where
    by : (b : Bool) → nat_eq n 0 ≡ b → among ws n ≡ n
    by true e = ap (among ws) (eqb-true n 0 e) ∙ among_none ws ∙ sym (eqb-true n 0 e)
    by false e = among_there n ws (or_right (nat_eq n 0) (is_among n ws) is e)

-- a weight of 0, or one that comes again, adds nothing
pub among_told : (n : ℕ) (ws : List ℕ) (k : ℕ) → is_told n ws ≡ true → among ws k ≡ among (n ∷ ws) k
among_told n ws k is = by (nat_eq k n) refl
  where
    by : (b : Bool) → nat_eq k n ≡ b → among ws k ≡ (if b then n else among ws k)
    by true e = ap (among ws) (eqb-true k n e) ∙ told_there n ws is
    by false e = refl

-- a weight that is picked is among them, or 0
pub picked_among : (ws : List ℕ) (p : ℕ) → among ws (picked ws p) ≡ picked ws p
picked_among [] p = refl
picked_among (n ∷ ws) p = by (nat_eq (p % 2) 1) (picked_among ws (p / 2))
  where
    other : (k : ℕ) (b : Bool) → nat_eq k n ≡ b → among ws k ≡ k → (if b then n else among ws k) ≡ k
    other k true e h = sym (eqb-true k n e)
    other k false e h = h

    by : (b : Bool) → among ws (picked ws (p / 2)) ≡ picked ws (p / 2)
        → among (n ∷ ws) (if b then n else picked ws (p / 2)) ≡ (if b then n else picked ws (p / 2))
    by true h = ap (λ (b : Bool). if b then n else among ws n) (eq-eqb n n refl)
    by false h = other (picked ws (p / 2)) (nat_eq (picked ws (p / 2)) n) refl h

-- the choice of one weight's product before the others
pub among_more : (w v n k : ℕ) (ws : List ℕ)
    → choose_of (eq_of k n) (product_of w v n) (product_of w v (among ws k)) ≡ product_of w v (among (n ∷ ws) k)
unfolding choose_of eq_of
among_more w v n k ws = by (nat_eq k n)
  where
    by : (b : Bool) → (if nat_eq (bit b) 1 then product_of w v n else product_of w v (among ws k)) ≡ product_of w v (if b then n else among ws k)
    by true = refl
    by false = refl

pub product_none : (w v : ℕ) → 0 ≡ product_of w v 0
unfolding product_of
product_none w v = let e : v * 0 ≡ 0 = omega arith in sym (ap (λ (n : ℕ). n % 2 ^ w) e ∙ zero-mod (2 ^ w))

pub among_empty : (words : List Word) (k : ℕ) → 0 ≡ length words → 0 ≡ among (bits_of words) k
among_empty [] k e = refl
among_empty (x ∷ words) k e = absurd (omega (arith, e))
