-- Steps of writing a line.
use Rattle.std.proofs.Common.{◌≡◌, ℕ, zero, suc, ◌+◌, ◌-◌, ◌<◌, ◌≤◌, List, [], ◌∷◌, ◌++◌, length, take, drop, get_or, refl, sym, ap, ◌∙◌, append_assoc, arith, add-one, length-drop}
use Rattle.std.proofs.lemmas.List.{take_more, take_all}
use Rattle.std.specs.Int.{bytes_high_first}
use Rattle.std.proofs.lemmas.List.{length-map}
use Rattle.std.specs.Prelude.{map, slice_get, Some, None}
use Rattle.gl_values.specs.declared.kind.Kind.{Kind}
use Rattle.gl_values.specs.Kinds.{width_of}
use Rattle.gl_bits.specs.Words.{Word, bits_of, widths_of}
use Rattle.gl_schema.specs.Seen.{values_text, printed, unpadded, before}

-- a zero byte at the end is padding
pub unpadded-push : (bytes : List ℕ) → unpadded (bytes ++ 0 ∷ []) ≡ unpadded bytes
unpadded-push [] = refl
unpadded-push (b ∷ bs) = ap (before b) (unpadded-push bs)

before-cons : (a b : ℕ) (bs : List ℕ) → before a (b ∷ bs) ≡ a ∷ b ∷ bs
before-cons zero b bs = refl
before-cons (suc a) b bs = refl

before_push : (a : ℕ) (bs : List ℕ) (b : ℕ) → before a (bs ++ b ∷ []) ≡ a ∷ (bs ++ b ∷ [])
before_push a [] b = before-cons a b []
before_push a (c ∷ bs) b = before-cons a c (bs ++ b ∷ [])

-- what ends in another byte has no padding
pub unpadded_whole : (bytes : List ℕ) (b : ℕ) → 0 < b → unpadded (bytes ++ b ∷ []) ≡ bytes ++ b ∷ []
unpadded_whole [] zero lt = absurd (omega arith)
unpadded_whole [] (suc b) lt = refl
unpadded_whole (a ∷ bs) b lt = ap (before a) (unpadded_whole bs b lt) ∙ before_push a bs b

-- a front without its last byte, where that is a zero byte
pub unpadded_front : (xs : List ℕ) (n : ℕ) → 0 < n → n ≤ length xs → get_or xs (n - 1) 0 ≡ 0 → unpadded (take (n - 1) xs) ≡ unpadded (take n xs)
unpadded_front xs n lt le z =
    let m : n - 1 + 1 ≡ n = omega arith in
    sym (ap (λ (k : ℕ). unpadded (take k xs)) (sym m) ∙ ap unpadded (take_more xs (n - 1) 0 (omega arith) ∙ ap (λ (b : ℕ). take (n - 1) xs ++ b ∷ []) z) ∙ unpadded-push (take (n - 1) xs))

-- a front whose last byte is no zero byte
pub unpadded_end : (xs : List ℕ) (n : ℕ) → n ≤ length xs → (0 < n → get_or xs (n - 1) 0 ≡ 0 → ⊥) → take n xs ≡ unpadded (take n xs)
unpadded_end xs zero le z = refl
unpadded_end xs (suc n) le z =
    let e : take (suc n) xs ≡ take n xs ++ get_or xs n 0 ∷ [] = sym (ap (λ (k : ℕ). take k xs) (add-one n)) ∙ take_more xs n 0 (omega arith) in
    let p : suc n - 1 ≡ n = omega arith in
    e ∙ sym (unpadded_whole (take n xs) (get_or xs n 0) (positive (get_or xs n 0) (λ h. z (omega arith) (ap (λ (k : ℕ). get_or xs k 0) p ∙ h)))) ∙ ap unpadded (sym e)
  where
    positive : (b : ℕ) → (b ≡ 0 → ⊥) → 0 < b
    positive zero h = absurd (h refl)
    positive (suc b) h = omega arith

-- the low bytes of a number
pub low_bytes : (n v : ℕ) → n ≤ 8 → drop (8 - n) (bytes_high_first 8 v) ≡ bytes_high_first n v
low_bytes zero v h = refl
low_bytes (suc zero) v h = refl
low_bytes (suc (suc zero)) v h = refl
low_bytes (suc (suc (suc zero))) v h = refl
low_bytes (suc (suc (suc (suc zero)))) v h = refl
low_bytes (suc (suc (suc (suc (suc zero))))) v h = refl
low_bytes (suc (suc (suc (suc (suc (suc zero)))))) v h = refl
low_bytes (suc (suc (suc (suc (suc (suc (suc zero))))))) v h = refl
low_bytes (suc (suc (suc (suc (suc (suc (suc (suc zero)))))))) v h = refl
low_bytes (suc (suc (suc (suc (suc (suc (suc (suc (suc n))))))))) v h = absurd (omega arith)

-- the same, as the part of a slice up to its end
pub low_part : (n v : ℕ) → n ≤ 8 → take (8 - (8 - n)) (drop (8 - n) (bytes_high_first 8 v)) ≡ bytes_high_first n v
low_part n v h =
    let e = low_bytes n v h in
    ap (take (8 - (8 - n))) e ∙ take_all (8 - (8 - n)) (bytes_high_first n v) (let l = sym (ap length e) ∙ length-drop (8 - n) (bytes_high_first 8 v) in omega (arith, l))

-- the width of a word is that of its column's kind
pub width_at : (row : List Word) (kinds : List Kind) (i : ℕ) (w : Word) (k : Kind) → widths_of row ≡ map width_of kinds → slice_get row i ≡ Some w → i < length kinds → w.width ≡ width_of (get_or kinds i k)
width_at [] ks i w k e g lt = absurd cc
width_at (v ∷ vs) [] i w k e g lt = absurd (omega arith)
width_at (v ∷ vs) (j ∷ ks) zero w k e g lt = cc
width_at (v ∷ vs) (j ∷ ks) (suc i) w k e g lt = width_at vs ks i w k (cc) g (omega arith)

-- a row is as long as its kinds
pub row_long : (row : List Word) (kinds : List Kind) → widths_of row ≡ map width_of kinds → length row ≡ length kinds
row_long row kinds e = rw (← length-map row (λ w. w.width)) (ap length e ∙ length-map kinds width_of)

pub none_at : (row : List Word) (i : ℕ) → slice_get row i ≡ None → length row ≤ i
none_at [] i h = omega arith
none_at (w ∷ ws) zero h = absurd cc
none_at (w ∷ ws) (suc i) h = let p = none_at ws i h in omega arith

-- the next value of a line
values_next : (row : List Word) (kinds : List Kind) (i : ℕ) (w : Word) (k : Kind) → slice_get row i ≡ Some w → i < length kinds
    → values_text (drop i kinds) (drop i (bits_of row)) ≡ 44 ∷ (printed (get_or kinds i k) w.bits ++ values_text (drop (suc i) kinds) (drop (suc i) (bits_of row)))
values_next [] ks i w k g lt = absurd cc
values_next (v ∷ vs) [] i w k g lt = absurd (omega arith)
values_next (v ∷ vs) (j ∷ ks) zero w k g lt = ap (λ (x : Word). 44 ∷ (printed j x.bits ++ values_text ks (bits_of vs))) (some_same v w g)
  where
    some_same : (v w : Word) → Some v ≡ Some w → v ≡ w
    some_same v w h = cc
values_next (v ∷ vs) (j ∷ ks) (suc i) w k g lt = values_next vs ks i w k g (omega arith)

line_next : (row : List Word) (kinds : List Kind) (i : ℕ) (w : Word) (k : Kind) (line : List ℕ) → slice_get row i ≡ Some w → i < length kinds
    → line ++ values_text (drop i kinds) (drop i (bits_of row)) ≡ ((line ++ 44 ∷ []) ++ printed (get_or kinds i k) w.bits) ++ values_text (drop (i + 1) kinds) (drop (i + 1) (bits_of row))
line_next row kinds i w k line g lt = rw (values_next row kinds i w k g lt, add-one) (simp append_assoc)

-- a line with one value more, and with what is left
pub line_grows : (row : List Word) (kinds : List Kind) (i : ℕ) (w : Word) (k : Kind) (line longer whole : List ℕ) → slice_get row i ≡ Some w → i < length kinds
    → longer ≡ (line ++ 44 ∷ []) ++ printed (get_or kinds i k) w.bits → line ++ values_text (drop i kinds) (drop i (bits_of row)) ≡ whole
    → longer ++ values_text (drop (i + 1) kinds) (drop (i + 1) (bits_of row)) ≡ whole
line_grows row kinds i w k line longer whole g lt e so_far = rw e (sym (line_next row kinds i w k line g lt) ∙ so_far)

pub ruleset line_steps = (unpadded_front, unpadded_end)
