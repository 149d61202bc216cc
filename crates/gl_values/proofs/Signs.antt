-- Words in two's complement, and integers as words.
use Rattle.std.proofs.Common.{◌≡◌, ℕ, zero, suc, ◌+◌, ◌-◌, ◌*◌, ◌%◌, ◌^◌, ◌<◌, ◌≤◌, Bool, true, false, refl, sym, ap, subst, ◌∙◌, arith, inl, inr}
use Rattle.std.specs.Prelude.{ℤ, pos, negsuc, neg_ℤ, ◌+ℤ◌, ◌-ℤ◌, ◌&&◌, not, if◌then◌else◌, bit_and, bit_xor, int_le, int_lt, nat_le, nat_lt, unsigned_abs}
use Rattle.std.specs.Int.{bit_at, int_rem_euclid}
use Rattle.std.proofs.Math.Pow.{mod-mod-pow}
use Rattle.std.proofs.Math.Nat.{add-mod_right, mod-add-mod, mod-eq_of_lt, mul-le-mul_left, pow-le-pow_right, suc-mul}
use Rattle.std.proofs.lemmas.Bool.{cases_lt, le-leb, le-ltb, lt-leb, lt-ltb, ltb-false, ltb-true}
use Rattle.std.proofs.lemmas.Int.{by_lt_z, ints, int_rem_euclid_is}
use Rattle.std.proofs.lemmas.Nat.Bits.{and_pow, bit_at_above, bit_at_cat_high, bit_at_lowest}
use Rattle.std.specs.Int.Bits.{xor_add_and}
use Rattle.std.proofs.lemmas.Nat.{pow-add, pow_pos, shl_whole}
use Rattle.gl_values.specs.Kinds.{IsKind, in_range, is_at_most, is_below, is_signed, negative_word, number_in, number_of, signed_number, width_of, word_of, wrapped}
use Rattle.gl_values.specs.declared.kind.Kind.{Kind}
use Rattle.gl_values.specs.declared.kind.Kind.TheVariants.{Unsigned, Signed, Text}

-- ---- orders

pub below_plain : (kind : Kind) (x y : ℕ) → is_signed kind ≡ false → nat_lt x y ≡ is_below kind x y
below_plain (Unsigned w) x y e = refl
below_plain (Signed w) x y e = absurd cc
below_plain (Text n) x y e = refl

pub below_signed : (kind : Kind) (x y : ℕ) → is_signed kind ≡ true → int_lt (signed_number (width_of kind) x) (signed_number (width_of kind) y) ≡ is_below kind x y
below_signed (Unsigned w) x y e = absurd cc
below_signed (Signed w) x y e = refl
below_signed (Text n) x y e = absurd cc

at_most_not : (a b : ℤ) → not (int_lt b a) ≡ int_le a b
at_most_not (pos a) (pos b) = elim (cases_lt b a) [
  | inl lt ↦ let past : nat_le a b ≡ false = grind arith in rw (lt-ltb b a lt) (sym past)
  | inr ge ↦ rw (le-ltb b a ge) (sym (le-leb a b ge))
]
at_most_not (pos a) (negsuc b) = refl
at_most_not (negsuc a) (pos b) = refl
at_most_not (negsuc a) (negsuc b) = elim (cases_lt a b) [
  | inl lt ↦ let past : nat_le b a ≡ false = grind arith in rw (lt-ltb a b lt) (sym past)
  | inr ge ↦ rw (le-ltb a b ge) (sym (le-leb b a ge))
]

pub at_most_is : (kind : Kind) (x y : ℕ) → not (is_below kind y x) ≡ is_at_most kind x y
at_most_is kind x y = at_most_not (number_of kind x) (number_of kind y)

pub low_number : (w x : ℕ) → nat_lt x (2 ^ (w - 1)) ≡ true → signed_number w x ≡ pos x
low_number w x e = ap (λ (b : Bool). if b then pos x else pos x -ℤ pos (2 ^ w)) e

pub high_number : (w x : ℕ) → nat_lt x (2 ^ (w - 1)) ≡ false → signed_number w x ≡ pos x -ℤ pos (2 ^ w)
high_number w x e = ap (λ (b : Bool). if b then pos x else pos x -ℤ pos (2 ^ w)) e

less_lt : (x y n : ℕ) → int_lt (pos x -ℤ pos n) (pos y -ℤ pos n) ≡ nat_lt x y
less_lt x y n = elim (cases_lt x y) [
  | inl lt ↦ let a : int_lt (pos x -ℤ pos n) (pos y -ℤ pos n) ≡ true = grind (arith, ints) in a ∙ sym (lt-ltb x y lt)
  | inr ge ↦ let a : int_lt (pos x -ℤ pos n) (pos y -ℤ pos n) ≡ false = grind (arith, ints) in a ∙ sym (le-ltb x y ge)
]

-- both in the same half
pub below_same : (w x y : ℕ) → nat_lt x (2 ^ (w - 1)) ≡ nat_lt y (2 ^ (w - 1)) → nat_lt x y ≡ int_lt (signed_number w x) (signed_number w y)
below_same w x y same = elim (cases_lt y (2 ^ (w - 1))) [
  | inl lt ↦
      let low : nat_lt y (2 ^ (w - 1)) ≡ true = lt-ltb y (2 ^ (w - 1)) lt in
      sym (ap (λ (z : ℤ). int_lt z (signed_number w y)) (low_number w x (same ∙ low)) ∙ ap (int_lt (pos x)) (low_number w y low))
  | inr ge ↦
      let high : nat_lt y (2 ^ (w - 1)) ≡ false = le-ltb y (2 ^ (w - 1)) ge in
      sym (ap (λ (z : ℤ). int_lt z (signed_number w y)) (high_number w x (same ∙ high)) ∙ ap (int_lt (pos x -ℤ pos (2 ^ w))) (high_number w y high)
      ∙ less_lt x y (2 ^ w))
]

-- one in each
pub below_mixed : (w x y : ℕ) → nat_lt x (2 ^ (w - 1)) ≡ true → nat_lt y (2 ^ (w - 1)) ≡ false
    → int_lt (pos x) (pos y -ℤ pos (2 ^ w)) ≡ int_lt (signed_number w x) (signed_number w y)
below_mixed w x y low high =
    sym (ap (λ (z : ℤ). int_lt z (signed_number w y)) (low_number w x low) ∙ ap (int_lt (pos x)) (high_number w y high))

pub mixed_below : (w x y : ℕ) → nat_lt x (2 ^ (w - 1)) ≡ false → nat_lt y (2 ^ (w - 1)) ≡ true
    → int_lt (pos x -ℤ pos (2 ^ w)) (pos y) ≡ int_lt (signed_number w x) (signed_number w y)
mixed_below w x y high low =
    sym (ap (λ (z : ℤ). int_lt z (signed_number w y)) (high_number w x high) ∙ ap (int_lt (pos x -ℤ pos (2 ^ w))) (low_number w y low))

rest : (x n : ℕ) → n ≤ x → pos x -ℤ pos n ≡ pos (x - n)
rest x n le = omega (arith, ints, le)

pub below_none : (w x y : ℕ) → nat_lt y (2 ^ w) ≡ true → false ≡ int_lt (pos x) (pos y -ℤ pos (2 ^ w))
below_none w x y e = let lt : y < 2 ^ w = ltb-true y (2 ^ w) e in grind (arith, ints)

pub below_rest : (w x y : ℕ) → nat_lt y (2 ^ w) ≡ false → nat_lt x (y - 2 ^ w) ≡ int_lt (pos x) (pos y -ℤ pos (2 ^ w))
below_rest w x y e = sym (ap (int_lt (pos x)) (rest y (2 ^ w) (ltb-false y (2 ^ w) e)))

pub none_below : (w x y : ℕ) → nat_lt x (2 ^ w) ≡ true → true ≡ int_lt (pos x -ℤ pos (2 ^ w)) (pos y)
none_below w x y e = let lt : x < 2 ^ w = ltb-true x (2 ^ w) e in grind (arith, ints)

pub rest_below : (w x y : ℕ) → nat_lt x (2 ^ w) ≡ false → nat_lt (x - 2 ^ w) y ≡ int_lt (pos x -ℤ pos (2 ^ w)) (pos y)
rest_below w x y e = sym (ap (λ (z : ℤ). int_lt z (pos y)) (rest x (2 ^ w) (ltb-false x (2 ^ w) e)))

-- ---- integers as words

-- so many times 2 ^ n above an integer there is a number
record Lifted (n : ℕ) (z : ℤ) : Type 0 where
  times : ℕ
  number : ℕ
  is : z +ℤ pos (times * 2 ^ n) ≡ pos number

lifted : (n : ℕ) (z : ℤ) → Lifted n z
lifted n (pos a) = record { times = 0; number = a; is = (let e : a + 0 * 2 ^ n ≡ a = omega arith in ap pos e) }
lifted n (negsuc a) =
    let some : 1 ≤ 2 ^ n = pow_pos n in
    let enough : suc a * 1 ≤ suc a * 2 ^ n = mul-le-mul_left (suc a) some in
    record { times = suc a; number = suc a * 2 ^ n - suc a; is = omega (arith, ints, enough) }

word_is : (n times number : ℕ) (z : ℤ) → z +ℤ pos (times * 2 ^ n) ≡ pos number → word_of n z ≡ number % 2 ^ n
word_is n times number z e = ap unsigned_abs (int_rem_euclid_is z (pos (2 ^ n)) (2 ^ n) times number (pow_pos n) refl e)

-- a word fits its width
pub word_fits : (n : ℕ) (z : ℤ) → word_of n z < 2 ^ n
word_fits n z =
    let up = lifted n z in
    let some : 1 ≤ 2 ^ n = pow_pos n in
    let fits : up.number % 2 ^ n < 2 ^ n = omega (arith, some) in
    rw (word_is n up.times up.number z up.is) fits

-- the word of a sum
pub word_sum : (n : ℕ) (a b : ℤ) → (word_of n a + word_of n b) % 2 ^ n ≡ word_of n (a +ℤ b)
word_sum n a b =
    let x = lifted n a in
    let y = lifted n b in
    let both : a +ℤ b +ℤ pos ((x.times + y.times) * 2 ^ n) ≡ pos (x.number + y.number) =
    (let parts : (x.times + y.times) * 2 ^ n ≡ x.times * 2 ^ n + y.times * 2 ^ n = omega arith in omega (arith, ints, x.is, y.is, parts)) in
    rw (word_is n x.times x.number a x.is, word_is n y.times y.number b y.is, word_is n (x.times + y.times) (x.number + y.number) (a +ℤ b) both)
    (residues (2 ^ n) x.number y.number)
  where
    residues : (m i j : ℕ) → (i % m + j % m) % m ≡ (i + j) % m
    residues m i j =
        let turn : i % m + j % m ≡ j % m + i % m = omega arith in
        let back : j + i % m ≡ i % m + j = omega arith in
        ap (λ (k : ℕ). k % m) turn ∙ mod-add-mod j m (i % m) ∙ ap (λ (k : ℕ). k % m) back ∙ mod-add-mod i m j

-- the word of what is below 0
pub word_negated : (n q : ℕ) → q ≤ 2 ^ n → word_of n (neg_ℤ (pos q)) ≡ (0 + (2 ^ n - q)) % 2 ^ n
word_negated n q le =
    let up : neg_ℤ (pos q) +ℤ pos (1 * 2 ^ n) ≡ pos (0 + (2 ^ n - q)) = omega (arith, ints, le) in
    word_is n 1 (0 + (2 ^ n - q)) (neg_ℤ (pos q)) up

-- the word of a smaller width
pub word_cut : (n w : ℕ) (z : ℤ) → w ≤ n → word_of n z % 2 ^ w ≡ word_of w z
word_cut n w z most =
    let up = lifted n z in
    let e : n - w + w ≡ n = omega arith in
    let whole : 2 ^ (n - w) * 2 ^ w ≡ 2 ^ n = sym (pow-add 2 (n - w) w) ∙ ap (λ (k : ℕ). 2 ^ k) e in
    let times : up.times * 2 ^ (n - w) * 2 ^ w ≡ up.times * 2 ^ n = times_whole up.times (2 ^ (n - w)) (2 ^ w) (2 ^ n) whole in
    let is : z +ℤ pos (up.times * 2 ^ (n - w) * 2 ^ w) ≡ pos up.number = ap (λ (k : ℕ). z +ℤ pos k) times ∙ up.is in
    let within : up.number % 2 ^ n % 2 ^ w ≡ up.number % 2 ^ w =
    subst (λ (k : ℕ). up.number % 2 ^ k % 2 ^ w ≡ up.number % 2 ^ w) e (mod-mod-pow up.number (n - w) w) in
    ap (λ (k : ℕ). k % 2 ^ w) (word_is n up.times up.number z up.is) ∙ within
    ∙ sym (word_is w (up.times * 2 ^ (n - w)) up.number z is)
  where
    times_whole : (t a b c : ℕ) → a * b ≡ c → t * a * b ≡ t * c
    times_whole t a b c e = let turn : t * a * b ≡ t * (a * b) = omega arith in turn ∙ ap (λ (k : ℕ). t * k) e

-- ---- a word in another width

-- a power of two in 128 bits
pub shifted : (w : ℕ) → w < 128 → 1 * 2 ^ w % 2 ^ 128 ≡ 2 ^ w
shifted w lt = shl_whole 1 1 w 128 (omega arith) (omega (arith, lt)) ∙ omega arith

pub resized_low : (w v x : ℕ) → nat_lt x (2 ^ (w - 1)) ≡ true → x % 2 ^ v ≡ word_of v (signed_number w x)
resized_low w v x e = sym (ap (word_of v) (low_number w x e))

pub resized_high : (w v x : ℕ) → nat_lt x (2 ^ (w - 1)) ≡ false → w ≤ 64 → v ≤ 128 → (x + (2 ^ 128 - 2 ^ w)) % 2 ^ 128 % 2 ^ v ≡ word_of v (signed_number w x)
resized_high w v x e few most =
    let wider : 2 ^ w ≤ 2 ^ 128 = pow-le-pow_right {n = 2} (omega arith) (let le : w ≤ 128 = omega (arith, few) in le) in
    let z = signed_number w x in
    let up : z +ℤ pos (1 * 2 ^ 128) ≡ pos (x + (2 ^ 128 - 2 ^ w)) =
    ap (λ (k : ℤ). k +ℤ pos (1 * 2 ^ 128)) (high_number w x e) ∙ raised x (2 ^ w) (2 ^ 128) wider in
    ap (λ (k : ℕ). k % 2 ^ v) (sym (word_is 128 1 (x + (2 ^ 128 - 2 ^ w)) z up)) ∙ word_cut 128 v z most
  where
    raised : (i n m : ℕ) → n ≤ m → pos i -ℤ pos n +ℤ pos (1 * m) ≡ pos (i + (m - n))
    raised i n m le = omega (arith, ints, le)

pub resized_plain : (kind : Kind) (v x : ℕ) → is_signed kind ≡ false → x % 2 ^ v ≡ word_of v (number_of kind x)
resized_plain (Unsigned w) v x e = refl
resized_plain (Signed w) v x e = absurd cc
resized_plain (Text n) v x e = refl

pub resized_signed : (kind : Kind) (v x : ℕ) → is_signed kind ≡ true → word_of v (signed_number (width_of kind) x) ≡ word_of v (number_of kind x)
resized_signed (Unsigned w) v x e = absurd cc
resized_signed (Signed w) v x e = refl
resized_signed (Text n) v x e = absurd cc

-- the number of fewer bits than a word of the kind has
pub down_plain : (kind : Kind) (v w x : ℕ) → is_signed kind ≡ false → x % 2 ^ v ≡ word_of v (number_in kind w x)
down_plain (Unsigned u) v w x e = refl
down_plain (Signed u) v w x e = absurd cc
down_plain (Text n) v w x e = refl

pub down_signed : (kind : Kind) (v w x : ℕ) → is_signed kind ≡ true → word_of v (signed_number w x) ≡ word_of v (number_in kind w x)
down_signed (Unsigned u) v w x e = absurd cc
down_signed (Signed u) v w x e = refl
down_signed (Text n) v w x e = absurd cc

-- ---- what is held in so many bits

pub half_of : (b : ℕ) → 1 ≤ b → 2 ^ (b - 1) + 2 ^ (b - 1) ≡ 2 ^ b
half_of b some =
    let e : b - 1 + 1 ≡ b = omega (arith, some) in
    let twice : 2 ^ (b - 1) * 2 ^ 1 ≡ 2 ^ (b - 1) + 2 ^ (b - 1) = omega arith in
    sym twice ∙ sym (pow-add 2 (b - 1) 1) ∙ ap (λ (k : ℕ). 2 ^ k) e

-- from the lowest number on, a multiple of 2 ^ bits away: the number of the word
module _ (b : ℕ) (z : ℤ) (some : 1 ≤ b) where
  up : Lifted b z
  up = lifted b z

  raised_is : int_rem_euclid (z -ℤ (pos 0 -ℤ pos (2 ^ (b - 1)))) (pos (2 ^ b)) ≡ pos ((word_of b z + 2 ^ (b - 1)) % 2 ^ b)
  raised_is =
      let above : z -ℤ (pos 0 -ℤ pos (2 ^ (b - 1))) +ℤ pos (up.times * 2 ^ b) ≡ pos (up.number + 2 ^ (b - 1)) = omega (arith, ints, up.is) in
      int_rem_euclid_is (z -ℤ (pos 0 -ℤ pos (2 ^ (b - 1)))) (pos (2 ^ b)) (2 ^ b) up.times (up.number + 2 ^ (b - 1)) (pow_pos b) refl above
      ∙ ap pos (sym (mod-add-mod up.number (2 ^ b) (2 ^ (b - 1))))
      ∙ ap (λ (k : ℕ). pos ((k + 2 ^ (b - 1)) % 2 ^ b)) (sym (word_is b up.times up.number z up.is))

  lowered : (r : ℕ) → r < 2 ^ b → pos 0 -ℤ pos (2 ^ (b - 1)) +ℤ pos ((r + 2 ^ (b - 1)) % 2 ^ b) ≡ signed_number b r
  lowered r fits = elim (cases_lt r (2 ^ (b - 1))) [
    | inl lt ↦
        let below : r + 2 ^ (b - 1) < 2 ^ b = omega (arith, half_of b some, lt) in
        let same : (r + 2 ^ (b - 1)) % 2 ^ b ≡ r + 2 ^ (b - 1) = mod-eq_of_lt below in
        let z : pos 0 -ℤ pos (2 ^ (b - 1)) +ℤ pos (r + 2 ^ (b - 1)) ≡ pos r = omega (arith, ints) in
        ap (λ (k : ℕ). pos 0 -ℤ pos (2 ^ (b - 1)) +ℤ pos k) same ∙ z ∙ sym (low_number b r (lt-ltb r (2 ^ (b - 1)) lt))
    | inr ge ↦
        let past : r + 2 ^ (b - 1) ≡ r - 2 ^ (b - 1) + 2 ^ b = omega (arith, half_of b some, ge) in
        let below : r - 2 ^ (b - 1) < 2 ^ b = omega (arith, fits) in
        let same : (r + 2 ^ (b - 1)) % 2 ^ b ≡ r - 2 ^ (b - 1) =
        ap (λ (k : ℕ). k % 2 ^ b) past ∙ add-mod_right (r - 2 ^ (b - 1)) (2 ^ b) ∙ mod-eq_of_lt below in
        let z : pos 0 -ℤ pos (2 ^ (b - 1)) +ℤ pos (r - 2 ^ (b - 1)) ≡ pos r -ℤ pos (2 ^ b) = omega (arith, ints, half_of b some, ge) in
        ap (λ (k : ℕ). pos 0 -ℤ pos (2 ^ (b - 1)) +ℤ pos k) same ∙ z ∙ sym (high_number b r (le-ltb r (2 ^ (b - 1)) ge))
  ]

  signed_wrapped : pos 0 -ℤ pos (2 ^ (b - 1)) +ℤ int_rem_euclid (z -ℤ (pos 0 -ℤ pos (2 ^ (b - 1)))) (pos (2 ^ b)) ≡ signed_number b (word_of b z)
  signed_wrapped = ap (λ (k : ℤ). pos 0 -ℤ pos (2 ^ (b - 1)) +ℤ k) raised_is ∙ lowered (word_of b z) (word_fits b z)

plain_wrapped : (b : ℕ) (z : ℤ) → pos 0 +ℤ int_rem_euclid (z -ℤ pos 0) (pos (2 ^ b)) ≡ pos (word_of b z)
plain_wrapped b z =
    let same : z -ℤ pos 0 ≡ z = omega (arith, ints) in
    ap (λ (k : ℤ). pos 0 +ℤ int_rem_euclid k (pos (2 ^ b))) same ∙ whole z
  where
    whole : (k : ℤ) → pos 0 +ℤ int_rem_euclid k (pos (2 ^ b)) ≡ pos (word_of b k)
    whole (pos a) = let e : 0 + a % 2 ^ b ≡ a % 2 ^ b = omega arith in ap pos e
    whole (negsuc a) = let e : 0 + (2 ^ b - 1 - a % 2 ^ b) ≡ 2 ^ b - 1 - a % 2 ^ b = omega arith in ap pos e

pub wrapped_is : (kind : Kind) (b : ℕ) (z : ℤ) → 1 ≤ b → wrapped kind b z ≡ number_in kind b (word_of b z)
wrapped_is (Unsigned w) b z some = plain_wrapped b z
wrapped_is (Signed w) b z some = signed_wrapped b z some
wrapped_is (Text n) b z some = plain_wrapped b z

-- ---- ranges

pub in_range_signed : (kind : Kind) (n bits : ℕ) → is_signed kind ≡ true → bits ≡ width_of kind → (nat_lt 0 bits && nat_lt n (2 ^ (bits - 1))) ≡ in_range kind (pos n)
in_range_signed (Unsigned w) n bits s e = absurd cc
in_range_signed (Signed w) n bits s e = ap (λ (b : ℕ). nat_lt 0 b && nat_lt n (2 ^ (b - 1))) e ∙ sym (ranged w n)
  where
    ranged : (v n : ℕ) → in_range (Signed v) (pos n) ≡ (nat_lt 0 v && nat_lt n (2 ^ (v - 1)))
    ranged zero n =
        let none : int_lt (pos n) (pos 0 -ℤ pos 1 +ℤ pos 1) ≡ false = grind (arith, ints) in
        let least : int_le (pos 0 -ℤ pos 1) (pos n) ≡ true = grind (arith, ints) in
        ap (λ (b : Bool). b && int_lt (pos n) (pos 0 -ℤ pos 1 +ℤ pos 1)) least ∙ none
    ranged (suc v) n =
        let least : int_le (pos 0 -ℤ pos (2 ^ (suc v - 1))) (pos n) ≡ true = grind (arith, ints) in
        let top : pos 0 -ℤ pos (2 ^ (suc v - 1)) +ℤ pos (2 ^ suc v) ≡ pos (2 ^ (suc v - 1)) = omega (arith, ints, half_of (suc v) (omega arith)) in
        ap (λ (b : Bool). b && int_lt (pos n) (pos 0 -ℤ pos (2 ^ (suc v - 1)) +ℤ pos (2 ^ suc v))) least ∙ ap (int_lt (pos n)) top
        ∙ sym (ap (λ (b : Bool). b && nat_lt n (2 ^ (suc v - 1))) (lt-ltb 0 (suc v) (omega arith)))
in_range_signed (Text m) n bits s e = absurd cc

-- ---- numbers behind a minus sign

at_most_half : (n h : ℕ) → nat_lt (n - 1) (2 ^ h) ≡ nat_le n (2 ^ h)
at_most_half n h = elim (cases_lt (n - 1) (2 ^ h)) [
  | inl lt ↦ let most : n ≤ 2 ^ h = omega (arith, lt) in lt-ltb (n - 1) (2 ^ h) lt ∙ sym (le-leb n (2 ^ h) most)
  | inr ge ↦
      let some : 1 ≤ 2 ^ h = pow_pos h in
      let past : 2 ^ h < n = omega (arith, ge, some) in
      le-ltb (n - 1) (2 ^ h) ge ∙ sym (lt-leb n (2 ^ h) past)
]

-- as `Kind::has_negative` tests it
pub has_negative_is : (kind : Kind) (n bits : ℕ) → bits ≡ width_of kind → nat_lt (n - 1) (2 ^ (bits - 1)) ≡ nat_le n (2 ^ (width_of kind - 1))
has_negative_is kind n bits e = ap (λ (w : ℕ). nat_lt (n - 1) (2 ^ (w - 1))) e ∙ at_most_half n (width_of kind - 1)

pub negated_word : (kind : Kind) (n : ℕ) → IsKind kind → n < 2 ^ 128 → (0 + (2 ^ 128 - n)) % 2 ^ 128 % 2 ^ width_of kind ≡ negative_word kind n
negated_word kind n is lt =
    ap (λ (k : ℕ). k % 2 ^ width_of kind) (sym (word_negated 128 n (omega (arith, lt))))
    ∙ word_cut 128 (width_of kind) (neg_ℤ (pos n)) (omega (arith, is.1))

-- ---- words whose highest bit is turned

high_and : (k x : ℕ) → x < 2 ^ k → bit_and x (2 ^ k) ≡ 0
high_and k x lt = and_pow x k ∙ ap (λ (b : ℕ). b * 2 ^ k) (bit_at_above x k k lt (let le : k ≤ k = omega arith in le)) ∙ omega arith

own_and : (k x : ℕ) → 2 ^ k ≤ x → x < 2 ^ k + 2 ^ k → bit_and x (2 ^ k) ≡ 2 ^ k
own_and k x ge lt =
    let parts : x ≡ 1 * 2 ^ k + (x - 2 ^ k) = omega (arith, ge) in
    let below : x - 2 ^ k < 2 ^ k = omega (arith, ge, lt) in
    let none : k - k ≡ 0 = omega arith in
    let one : bit_at x k ≡ 1 =
    ap (λ (n : ℕ). bit_at n k) parts ∙ bit_at_cat_high 1 k (x - 2 ^ k) k below (let le : k ≤ k = omega arith in le) ∙ ap (bit_at 1) none ∙ bit_at_lowest 1 in
    and_pow x k ∙ ap (λ (b : ℕ). b * 2 ^ k) one ∙ omega arith

-- such a word is half of all words above its number
pub turned_is : (w x : ℕ) → 1 ≤ w → x < 2 ^ w → pos (bit_xor x (2 ^ (w - 1))) ≡ signed_number w x +ℤ pos (2 ^ (w - 1))
turned_is w x some fits = elim (cases_lt x (2 ^ (w - 1))) [
  | inl lt ↦
      let sum : bit_xor x (2 ^ (w - 1)) + bit_and x (2 ^ (w - 1)) * 2 ≡ x + 2 ^ (w - 1) = xor_add_and x (2 ^ (w - 1)) in
      let is : bit_xor x (2 ^ (w - 1)) ≡ x + 2 ^ (w - 1) = omega (arith, sum, high_and (w - 1) x lt) in
      ap pos is ∙ sym (ap (λ (z : ℤ). z +ℤ pos (2 ^ (w - 1))) (low_number w x (lt-ltb x (2 ^ (w - 1)) lt)))
  | inr ge ↦
      let sum : bit_xor x (2 ^ (w - 1)) + bit_and x (2 ^ (w - 1)) * 2 ≡ x + 2 ^ (w - 1) = xor_add_and x (2 ^ (w - 1)) in
      let whole = half_of w some in
      let is : bit_xor x (2 ^ (w - 1)) ≡ x - 2 ^ (w - 1) = omega (arith, sum, own_and (w - 1) x ge (omega (arith, whole, fits)), ge) in
      let lower : pos (x - 2 ^ (w - 1)) ≡ pos x -ℤ pos (2 ^ w) +ℤ pos (2 ^ (w - 1)) = omega (arith, ints, whole, ge) in
      ap pos is ∙ lower ∙ sym (ap (λ (z : ℤ). z +ℤ pos (2 ^ (w - 1))) (high_number w x (le-ltb x (2 ^ (w - 1)) ge)))
]

plus_lt : (a b : ℤ) (n : ℕ) → int_lt (a +ℤ pos n) (b +ℤ pos n) ≡ int_lt a b
plus_lt a b n = by_lt_z a b
    (λ lt. let l : int_lt (a +ℤ pos n) (b +ℤ pos n) ≡ true = grind (arith, ints) in let r : int_lt a b ≡ true = grind (arith, ints) in l ∙ sym r)
    (λ ge. let l : int_lt (a +ℤ pos n) (b +ℤ pos n) ≡ false = grind (arith, ints) in let r : int_lt a b ≡ false = grind (arith, ints) in l ∙ sym r)

-- numbers with a sign compare as such words
pub turned_below : (w x y : ℕ) → 1 ≤ w → x < 2 ^ w → y < 2 ^ w
    → nat_lt (bit_xor x (2 ^ (w - 1))) (bit_xor y (2 ^ (w - 1))) ≡ int_lt (signed_number w x) (signed_number w y)
turned_below w x y some lt mt =
    ap (λ (z : ℤ). int_lt z (pos (bit_xor y (2 ^ (w - 1))))) (turned_is w x some lt)
    ∙ ap (int_lt (signed_number w x +ℤ pos (2 ^ (w - 1)))) (turned_is w y some mt)
    ∙ plus_lt (signed_number w x) (signed_number w y) (2 ^ (w - 1))

pub turned_most : (w x y : ℕ) → 1 ≤ w → x < 2 ^ w → y < 2 ^ w
    → nat_le (bit_xor x (2 ^ (w - 1))) (bit_xor y (2 ^ (w - 1))) ≡ int_le (signed_number w x) (signed_number w y)
turned_most w x y some lt mt =
    sym (at_most_not (pos (bit_xor x (2 ^ (w - 1)))) (pos (bit_xor y (2 ^ (w - 1))))) ∙ ap not (turned_below w y x some mt lt)
    ∙ at_most_not (signed_number w x) (signed_number w y)

-- ---- a word with a sign in another width

-- in no more bits it keeps its lowest
pub sign_cut : (w v x : ℕ) → v ≤ w → x % 2 ^ v ≡ word_of v (signed_number w x)
sign_cut w v x le = elim (cases_lt x (2 ^ (w - 1))) [
  | inl lt ↦ sym (ap (word_of v) (low_number w x (lt-ltb x (2 ^ (w - 1)) lt)))
  | inr ge ↦
      let e : w - v + v ≡ w = omega (arith, le) in
      let whole : 2 ^ (w - v) * 2 ^ v ≡ 2 ^ w = sym (pow-add 2 (w - v) v) ∙ ap (λ (k : ℕ). 2 ^ k) e in
      let up : pos x -ℤ pos (2 ^ w) +ℤ pos (2 ^ (w - v) * 2 ^ v) ≡ pos x = ap (λ (k : ℕ). pos x -ℤ pos (2 ^ w) +ℤ pos k) whole ∙ back x (2 ^ w) in
      sym (ap (word_of v) (high_number w x (le-ltb x (2 ^ (w - 1)) ge)) ∙ word_is v (2 ^ (w - v)) x (pos x -ℤ pos (2 ^ w)) up)
]
  where
    back : (i n : ℕ) → pos i -ℤ pos n +ℤ pos n ≡ pos i
    back i n = omega (arith, ints)

-- in more, ones stand above where it is below 0
pub sign_low : (w v x : ℕ) → nat_lt x (2 ^ (w - 1)) ≡ true → x < 2 ^ v → x ≡ word_of v (signed_number w x)
sign_low w v x low fits = sym (ap (word_of v) (low_number w x low) ∙ mod-eq_of_lt fits)

pub sign_high : (w v x : ℕ) → nat_lt x (2 ^ (w - 1)) ≡ false → x < 2 ^ w → w ≤ v → (2 ^ (v - w) - 1) * 2 ^ w + x ≡ word_of v (signed_number w x)
sign_high w v x high fits le =
    let e : v - w + w ≡ v = omega (arith, le) in
    let whole : 2 ^ (v - w) * 2 ^ w ≡ 2 ^ v = sym (pow-add 2 (v - w) w) ∙ ap (λ (k : ℕ). 2 ^ k) e in
    let wider : 2 ^ w ≤ 2 ^ v = pow-le-pow_right {n = 2} (omega arith) le in
    let ones : (2 ^ (v - w) - 1) * 2 ^ w ≡ 2 ^ (v - w) * 2 ^ w - 2 ^ w = ones_are (2 ^ (v - w)) (2 ^ w) in
    let is : (2 ^ (v - w) - 1) * 2 ^ w + x ≡ x + (2 ^ v - 2 ^ w) = omega (arith, ones, whole) in
    let below : x + (2 ^ v - 2 ^ w) < 2 ^ v = omega (arith, fits, wider) in
    let up : pos x -ℤ pos (2 ^ w) +ℤ pos (1 * 2 ^ v) ≡ pos (x + (2 ^ v - 2 ^ w)) = omega (arith, ints, wider) in
    is ∙ sym (ap (word_of v) (high_number w x high) ∙ word_is v 1 (x + (2 ^ v - 2 ^ w)) (pos x -ℤ pos (2 ^ w)) up ∙ mod-eq_of_lt below)
  where
    ones_are : (m n : ℕ) → (m - 1) * n ≡ m * n - n
    ones_are zero n = omega arith
    ones_are (suc m) n =
        let less : suc m - 1 ≡ m = omega arith in
        let back : m * n ≡ m * n + n - n = omega arith in
        ap (λ (k : ℕ). k * n) less ∙ back ∙ sym (ap (λ (k : ℕ). k - n) (suc-mul m n))
