-- The number of a text's bytes, byte by byte.
use Rattle.std.proofs.Common.{◌≡◌, ℕ, zero, suc, ◌+◌, ◌-◌, ◌*◌, ◌<◌, ◌≤◌, ◌^◌, List, [], ◌∷◌, length, take, get_or, refl, sym, subst, ap, ◌∙◌, arith, inl, inr}
use Rattle.std.specs.Prelude.{fold, replicate}
use Rattle.std.specs.List.{AllByRecursion}
use Rattle.std.proofs.lemmas.Bool.{cases_lt}
use Rattle.std.proofs.lemmas.Nat.{pow-add}
use Rattle.std.proofs.lemmas.List.Sums.{fold_more}
use Rattle.std.proofs.lemmas.List.{length-append, length-replicate, get_or_append_left, get_or-append_right, get_or-replicate, get_or_past}
use Rattle.std.proofs.Math.Nat.{pow-le-pow_right}
use Rattle.gl_schema.specs.Schemas.{number_of, padded}

-- a byte more
pub byte_more : (bytes : List ℕ) (i n : ℕ) → i < length bytes → n ≡ number_of (take i bytes) → 256 * n + get_or bytes i 0 ≡ number_of (take (i + 1) bytes)
byte_more bytes i n lt e = ap (λ (x : ℕ). 256 * x + get_or bytes i 0) e ∙ sym (fold_more (λ n b. 256 * n + b) 0 bytes i 0 lt)

pow_byte : (i : ℕ) → 2 ^ (8 * (i + 1)) ≡ 256 * 2 ^ (8 * i)
pow_byte i = ap (λ (k : ℕ). 2 ^ k) (let e : 8 * (i + 1) ≡ 8 + 8 * i = omega arith in e) ∙ pow-add 2 8 (8 * i)

-- eight bits more
pub bits_more : (i n b : ℕ) → n < 2 ^ (8 * i) → b < 256 → 256 * n + b < 2 ^ (8 * (i + 1))
bits_more i n b lt small = below n b (2 ^ (8 * i)) (2 ^ (8 * (i + 1))) lt small (pow_byte i)
  where
    below : (n b q p : ℕ) → n < q → b < 256 → p ≡ 256 * q → 256 * n + b < p
    below n b q p lt small e = omega (arith, e)

-- eight bytes fit 64 bits
pub bits_fit : (i n b : ℕ) → i < 8 → n < 2 ^ (8 * i) → b < 256 → 256 * n + b < 2 ^ 64
bits_fit i n b at lt small = fits (256 * n + b) (2 ^ (8 * (i + 1))) (2 ^ 64) (bits_more i n b lt small) (pow-le-pow_right (let z : 0 < 2 = omega arith in z) (let z : 8 * (i + 1) ≤ 64 = omega arith in z))
  where
    fits : (x p q : ℕ) → x < p → p ≤ q → x < q
    fits x p q lt le = omega arith

pub length-padded : (n : ℕ) (text : List ℕ) → length text ≤ n → length (padded n text) ≡ n
length-padded n text le = length-append text (replicate (n - length text) 0) ∙ ap (λ (k : ℕ). length text + k) (length-replicate (n - length text) 0) ∙ (let e : length text + (n - length text) ≡ n = omega arith in e)

pub padded_at : (n : ℕ) (text : List ℕ) (i : ℕ) → length text ≤ n → i < n → get_or (padded n text) i 0 ≡ get_or text i 0
padded_at n text i le lt = elim (cases_lt i (length text)) [
  | inl here ↦ get_or_append_left text (replicate (n - length text) 0) 0 i here
  | inr past ↦ get_or-append_right text (replicate (n - length text) 0) (length text) i 0 refl past
      ∙ get_or-replicate (n - length text) (i - length text) 0 0 (omega arith) ∙ sym (get_or_past text i 0 past)
]

-- the next byte of a text in n bytes
pub text_more : (n : ℕ) (text : List ℕ) (i v b : ℕ) → length text ≤ n → i < n → v ≡ number_of (take i (padded n text)) → b ≡ get_or text i 0 → 256 * v + b ≡ number_of (take (i + 1) (padded n text))
text_more n text i v b le lt e byte = ap (λ (x : ℕ). 256 * v + x) (byte ∙ sym (padded_at n text i le lt)) ∙ byte_more (padded n text) i v (omega (arith, length-padded n text le)) e

-- bytes of a text make a number of as many bits
pub bytes_below : (bytes : List ℕ) (i a : ℕ) → AllByRecursion (λ b. b < 256) bytes → a < 2 ^ (8 * i) → fold (λ n b. 256 * n + b) a bytes < 2 ^ (8 * (i + length bytes))
bytes_below [] i a h lt = subst (λ (k : ℕ). a < 2 ^ (8 * k)) (let e : i ≡ i + 0 = omega arith in e) lt
bytes_below (b ∷ bs) i a h lt =
    subst (λ (k : ℕ). fold (λ n b. 256 * n + b) (256 * a + b) bs < 2 ^ (8 * k)) (let e : i + 1 + length bs ≡ i + suc (length bs) = omega arith in e)
    (bytes_below bs (i + 1) (256 * a + b) h.1 (bits_more i a b lt h.0))

pub zeros_small : (n : ℕ) → AllByRecursion (λ b. b < 256) (replicate n 0)
zeros_small zero = tt
zeros_small (suc n) = (omega arith, zeros_small n)
