-- The numbers below one that pass a test: how many there are, and where each stands.
use Rattle.std.proofs.Common.{◌≡◌, ℕ, zero, suc, ◌+◌, ◌<◌, ◌≤◌, Bool, true, false, cond, inl, inr, List, [], ◌∷◌, ◌++◌, length, refl, sym, ap, ◌∙◌, subst, arith, eq-eqb, ne_eqb, append-nil, length-append, Some}
use Rattle.std.specs.Prelude.{◌||◌, filter, nat_eq, slice_get}
use Rattle.std.specs.List.{AllByRecursion, list_any, range_with_len}
use Rattle.std.proofs.lemmas.Bool.{cases_lt}
use Rattle.std.proofs.lemmas.List.Elements.{filter-append}
use Rattle.std.proofs.lemmas.List.Folds.{list_any-append}
use Rattle.gl_bits.proofs.AllLists.{all_append, all_weaker, get_front, get_last}
use Rattle.gl_bits.proofs.Bools.{neither, or_none}

-- those below a number
abbrev pub below : (ℕ → Bool) → ℕ → List ℕ
below p n = filter p (range_with_len 0 n)

range_more : (a n : ℕ) → range_with_len a (suc n) ≡ range_with_len a n ++ (a + n) ∷ []
range_more a zero = let e : a ≡ a + 0 = omega arith in ap (λ (x : ℕ). x ∷ []) e
range_more a (suc n) =
    let e : a + 1 + n ≡ a + suc n = omega arith in
    ap (λ xs. a ∷ xs) (range_more (a + 1) n) ∙ ap (λ (x : ℕ). a ∷ (range_with_len (a + 1) n ++ x ∷ [])) e

-- one number more
pub below_more : (p : ℕ → Bool) (n : ℕ) → below p (suc n) ≡ below p n ++ cond (p n) (n ∷ []) []
below_more p n =
    let e : 0 + n ≡ n = omega arith in
    ap (filter p) (range_more 0 n) ∙ filter-append p (range_with_len 0 n) ((0 + n) ∷ [])
    ∙ ap (λ (x : ℕ). below p n ++ cond (p x) (x ∷ []) []) e

-- the same, as loops have it
pub below_next : (p : ℕ → Bool) (n : ℕ) → below p (n + 1) ≡ below p n ++ cond (p n) (n ∷ []) []
below_next p n = let e : n + 1 ≡ suc n = omega arith in ap (below p) e ∙ below_more p n

pub count_next : (p : ℕ → Bool) (n : ℕ) → length (below p (n + 1)) ≡ length (below p n) + cond (p n) 1 0
count_next p n = ap length (below_next p n) ∙ length-append (below p n) (cond (p n) (n ∷ []) []) ∙ ap (λ (m : ℕ). length (below p n) + m) (last (p n))
  where
    last : (b : Bool) → length (cond b (n ∷ []) []) ≡ cond b 1 0
    last true = refl
    last false = refl

-- a list that gets each number that passes
pub kept_next : (p : ℕ → Bool) (n : ℕ) (xs ys : List ℕ) → xs ≡ below p n → p n ≡ true → ys ≡ xs ++ n ∷ [] → ys ≡ below p (n + 1)
kept_next p n xs ys is passes more =
    more ∙ ap (λ l. l ++ n ∷ []) is ∙ ap (λ (b : Bool). below p n ++ cond b (n ∷ []) []) (sym passes) ∙ sym (below_next p n)

pub left_next : (p : ℕ → Bool) (n : ℕ) (xs : List ℕ) → xs ≡ below p n → p n ≡ false → xs ≡ below p (n + 1)
left_next p n xs is fails =
    is ∙ sym (append-nil (below p n)) ∙ ap (λ (b : Bool). below p n ++ cond b (n ∷ []) []) (sym fails) ∙ sym (below_next p n)

-- tests that agree below a number
pub below_same : (p q : ℕ → Bool) (n : ℕ) → ((x : ℕ) → x < n → p x ≡ q x) → below p n ≡ below q n
below_same p q zero agree = refl
below_same p q (suc n) agree =
    below_more p n
    ∙ ap (λ xs. xs ++ cond (p n) (n ∷ []) []) (below_same p q n (λ x lt. agree x (omega (arith, lt))))
    ∙ ap (λ (b : Bool). below q n ++ cond b (n ∷ []) []) (agree n (omega arith))
    ∙ sym (below_more q n)

-- each is below it
pub below_within : (p : ℕ → Bool) (n : ℕ) → AllByRecursion (λ x. x < n) (below p n)
below_within p zero = tt
below_within p (suc n) =
    rw (below_more p n)
    (all_append (λ x. x < suc n) (below p n) (cond (p n) (n ∷ []) [])
    (all_weaker (λ x. x < n) (λ x. x < suc n) (λ x lt. omega (arith, lt)) (below p n) (below_within p n)) (last (p n)))
  where
    last : (b : Bool) → AllByRecursion (λ x. x < suc n) (cond b (n ∷ []) [])
    last true = (omega arith, tt)
    last false = tt

-- one that passes stands behind all below it that pass
pub below_at : (p : ℕ → Bool) (n c : ℕ) → p c ≡ true → c < n → slice_get (below p n) (length (below p c)) ≡ Some c
below_at p zero c passes lt = absurd (omega (arith, lt))
below_at p (suc n) c passes lt = elim (cases_lt c n) [
  | inl less ↦ ap (λ xs. slice_get xs (length (below p c))) (below_more p n)
      ∙ get_front (below p n) (cond (p n) (n ∷ []) []) (length (below p c)) c (below_at p n c passes less)
  | inr more ↦ (let same : c ≡ n = omega (arith, lt, more) in
      subst (λ (m : ℕ). slice_get (below p (suc m)) (length (below p c)) ≡ Some c) same
      (ap (λ xs. slice_get xs (length (below p c))) (below_more p c ∙ ap (λ (b : Bool). below p c ++ cond b (c ∷ []) []) passes)
      ∙ get_last (below p c) c))
]

-- ---- which numbers are among them

among_last : (c n : ℕ) (b : Bool) → (c ≡ n → ⊥) → list_any (nat_eq c) (cond b (n ∷ []) []) ≡ false
among_last c n true other = ap (λ (t : Bool). t || false) (ne_eqb c n other)
among_last c n false other = refl

among_more : (p : ℕ → Bool) (n c : ℕ) → list_any (nat_eq c) (below p (suc n)) ≡ (list_any (nat_eq c) (below p n) || list_any (nat_eq c) (cond (p n) (n ∷ []) []))
among_more p n c = ap (list_any (nat_eq c)) (below_more p n) ∙ list_any-append (nat_eq c) (below p n) (cond (p n) (n ∷ []) [])

none_above : (p : ℕ → Bool) (n c : ℕ) → n ≤ c → list_any (nat_eq c) (below p n) ≡ false
none_above p zero c le = refl
none_above p (suc n) c le =
    among_more p n c
    ∙ neither (list_any (nat_eq c) (below p n)) (list_any (nat_eq c) (cond (p n) (n ∷ []) [])) (none_above p n c (omega (arith, le)))
    (among_last c n (p n) (λ e. omega (arith, le, e)))

-- a number is among them if it passes
pub among_below : (p : ℕ → Bool) (n c : ℕ) → c < n → list_any (nat_eq c) (below p n) ≡ p c
among_below p zero c lt = absurd (omega (arith, lt))
among_below p (suc n) c lt = among_more p n c ∙ elim (cases_lt c n) [
  | inl less ↦ ap (λ (b : Bool). list_any (nat_eq c) (below p n) || b) (among_last c n (p n) (λ e. omega (arith, less, e)))
      ∙ or_none (list_any (nat_eq c) (below p n)) ∙ among_below p n c less
  | inr more ↦ (let same : c ≡ n = omega (arith, lt, more) in
      ap (λ (b : Bool). b || list_any (nat_eq c) (cond (p n) (n ∷ []) [])) (none_above p n c more)
      ∙ own (p n) same ∙ ap p (sym same))
]
  where
    own : (b : Bool) → c ≡ n → list_any (nat_eq c) (cond b (n ∷ []) []) ≡ b
    own true same = ap (λ (t : Bool). t || false) (eq-eqb c n same)
    own false same = refl

-- ---- how many there are

-- of tests that are joined, at most as many as of both
pub length_either : (p q : ℕ → Bool) (xs : List ℕ) → length (filter (λ x. p x || q x) xs) ≤ length (filter p xs) + length (filter q xs)
length_either p q [] = omega arith
length_either p q (x ∷ xs) = by (p x) (q x) (length_either p q xs)
  where
    by : (a b : Bool) → length (filter (λ x. p x || q x) xs) ≤ length (filter p xs) + length (filter q xs)
        → length (cond (a || b) (x ∷ filter (λ x. p x || q x) xs) (filter (λ x. p x || q x) xs)) ≤ length (cond a (x ∷ filter p xs) (filter p xs)) + length (cond b (x ∷ filter q xs) (filter q xs))
    by true true le = omega (arith, le)
    by true false le = omega (arith, le)
    by false true le = omega (arith, le)
    by false false le = le

length_more : (p : ℕ → Bool) (n : ℕ) (b : Bool) → p n ≡ b → length (below p (suc n)) ≡ length (below p n) + length (cond b (n ∷ []) [])
length_more p n b is = ap length (below_more p n ∙ ap (λ (t : Bool). below p n ++ cond t (n ∷ []) []) is) ∙ length-append (below p n) (cond b (n ∷ []) [])

none_of : (k n : ℕ) → n ≤ k → length (below (λ x. nat_eq x k) n) ≡ 0
none_of k zero le = refl
none_of k (suc n) le =
    length_more (λ x. nat_eq x k) n false (ne_eqb n k (λ e. omega (arith, le, e)))
    ∙ ap (λ (m : ℕ). m + 0) (none_of k n (omega (arith, le)))

-- one number at most is a number
pub one_of : (k n : ℕ) → length (below (λ x. nat_eq x k) n) ≤ 1
one_of k zero = omega arith
one_of k (suc n) = elim (cases_lt n k) [
  | inl less ↦ (let none = none_of k (suc n) (omega (arith, less)) in omega (arith, none))
  | inr more ↦ elim (cases_lt k n) [
    | inl above ↦ (let next = length_more (λ x. nat_eq x k) n false (ne_eqb n k (λ e. omega (arith, above, e))) in
        let rest = one_of k n in omega (arith, next, rest))
    | inr same ↦ (let next = length_more (λ x. nat_eq x k) n true (eq-eqb n k (omega (arith, more, same))) in
        let rest = none_of k n same in omega (arith, next, rest))
  ]
]
