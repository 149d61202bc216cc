-- Binary digits that are read, as far as 128 bits hold their number.
use Rattle.std.proofs.Common.{◌≡◌, ℕ, zero, suc, ◌+◌, ◌-◌, ◌*◌, ◌^◌, ◌<◌, ◌≤◌, Bool, true, false, List, [], ◌∷◌, length, drop, get_or, Some, None, refl, sym, ap, ◌∙◌, arith}
use Rattle.std.specs.Prelude.{◌==◌, nat_lt, if◌then◌else◌}
use Rattle.std.specs.List.{fold, list_all}
use Rattle.std.proofs.lemmas.Bool.{and_parts, cond-false, cond-true, le-ltb, lt-ltb, ltb-false}
use Rattle.std.proofs.Math.Pow.{pow_mono}
use Rattle.std.proofs.lemmas.List.{at_drop_all, at_drop_more}
use Rattle.gl_vcd.specs.Reading.{are_bits, binary_in, is_bit}

-- the number that digits spell behind another
abbrev pub bits_from : ℕ → List ℕ → ℕ
bits_from n ds = fold (λ m b. 2 * m + (b - 48)) n ds

grows : (n : ℕ) (ds : List ℕ) → n ≤ bits_from n ds
grows n [] = omega arith
grows n (d ∷ ds) = let r = grows (2 * n + (d - 48)) ds in omega (arith, r)

pub bits_next : (n i : ℕ) (ds : List ℕ) → i < length ds → bits_from n (drop i ds) ≡ bits_from (2 * n + (get_or ds i 0 - 48)) (drop (i + 1) ds)
bits_next n i ds lt = at_drop_more (bits_from n) ds i 0 lt

-- past the half there is no room for one digit more
pub bits_past : (n i : ℕ) (ds : List ℕ) → i < length ds → 2 ^ 127 ≤ n → bits_from n (drop i ds) ≡ binary_in ds
    → None ≡ (if nat_lt (binary_in ds) (2 ^ 128) then Some (binary_in ds) else None)
bits_past n i ds lt half so_far =
    let more = grows (2 * n + (get_or ds i 0 - 48)) (drop (i + 1) ds) in
    let whole : bits_from (2 * n + (get_or ds i 0 - 48)) (drop (i + 1) ds) ≡ binary_in ds = sym (bits_next n i ds lt) ∙ so_far in
    sym (cond-false (nat_lt (binary_in ds) (2 ^ 128)) (Some (binary_in ds)) None (le-ltb (binary_in ds) (2 ^ 128) (omega (arith, more, whole, half))))

pub bits_all : (n i : ℕ) (ds : List ℕ) → length ds ≤ i → n < 2 ^ 128 → bits_from n (drop i ds) ≡ binary_in ds
    → Some n ≡ (if nat_lt (binary_in ds) (2 ^ 128) then Some (binary_in ds) else None)
bits_all n i ds le small so_far =
    let same : n ≡ binary_in ds = sym (at_drop_all (bits_from n) ds i le) ∙ so_far in
    ap Some same ∙ sym (cond-true (nat_lt (binary_in ds) (2 ^ 128)) (Some (binary_in ds)) None (lt-ltb (binary_in ds) (2 ^ 128) (omega (arith, same, small))))

-- a number that 128 bits do not hold has no room in fewer
pub past_width : (n w : ℕ) → w ≤ 128 → None ≡ (if nat_lt n (2 ^ 128) then Some n else None) → nat_lt n (2 ^ w) ≡ false
past_width n w le none = by (nat_lt n (2 ^ 128)) refl none
  where
    by : (b : Bool) → nat_lt n (2 ^ 128) ≡ b → None ≡ (if b then Some n else None) → nat_lt n (2 ^ w) ≡ false
    by true e h = absurd cc
    by false e h = le-ltb n (2 ^ w) (let high = ltb-false n (2 ^ 128) e in let low : 2 ^ w ≤ 2 ^ 128 = pow_mono le in omega (arith, high, low))

bit_at : (ds : List ℕ) (i : ℕ) → i < length ds → list_all is_bit ds ≡ true → is_bit (get_or ds i 0) ≡ true
bit_at [] i lt all = absurd (omega (arith, lt))
bit_at (d ∷ ds) zero lt all = (and_parts (is_bit d) (list_all is_bit ds) all).0
bit_at (d ∷ ds) (suc i) lt all = bit_at ds i (omega (arith, lt)) (and_parts (is_bit d) (list_all is_bit ds) all).1

pub bit_here : (ds : List ℕ) (i : ℕ) → i < length ds → are_bits ds ≡ true → is_bit (get_or ds i 0) ≡ true
bit_here [] i lt are = absurd cc
bit_here (d ∷ ds) i lt are = bit_at (d ∷ ds) i lt are

pub some_bits : (ds : List ℕ) → (length ds == 0) ≡ false → list_all is_bit ds ≡ are_bits ds
some_bits [] some' = absurd cc
some_bits (d ∷ ds) some' = refl
