-- Plain facts about truth values, numbers and texts that are compared, and numbers of one bit.
use Rattle.std.proofs.Common.{◌≡◌, ◌≢◌, ℕ, ◌^◌, ◌<◌, ◌⊎◌, inl, inr, Bool, true, false, not, List, refl, sym, ap, subst, ◌∙◌, arith, eq-eqb, ne_eqb}
use Rattle.std.specs.Prelude.{◌&&◌, ◌||◌, bytes_eq, nat_eq, if◌then◌else◌}
use Rattle.std.proofs.lemmas.Bool.Decides.{eqb_tells}
use Rattle.std.proofs.lemmas.Slice.Eq.{bytes_eq-Decides}
use Rattle.gl_bits.specs.Words.{bit, choose_of}

-- ---- and

pub and_left : (a b : Bool) → (a && b) ≡ true → a ≡ true
and_left true b h = refl
and_left false b h = absurd cc

pub and_right : (a b : Bool) → (a && b) ≡ true → b ≡ true
and_right true b h = h
and_right false b h = absurd cc

pub and_both : (a b : Bool) → a ≡ true → b ≡ true → (a && b) ≡ true
and_both true b h k = k
and_both false b h k = absurd cc

pub and_parts : (a b : Bool) → (a && b) ≡ true → (a ≡ true) × (b ≡ true)
and_parts a b h = (and_left a b h, and_right a b h)

-- ---- or

pub or_left : (a b : Bool) → a ≡ true → (a || b) ≡ true
or_left true b h = refl
or_left false b h = absurd cc

pub or_right : (a b : Bool) → b ≡ true → (a || b) ≡ true
or_right true b h = refl
or_right false b h = h

pub or_cases : (a b : Bool) → (a || b) ≡ true → (a ≡ true) ⊎ (b ≡ true)
or_cases true b h = inl refl
or_cases false b h = inr h

pub neither : (a b : Bool) → a ≡ false → b ≡ false → (a || b) ≡ false
neither true b h k = absurd cc
neither false b h k = k

pub neither_left : (a b : Bool) → (a || b) ≡ false → a ≡ false
neither_left true b h = absurd cc
neither_left false b h = refl

pub neither_right : (a b : Bool) → (a || b) ≡ false → b ≡ false
neither_right true b h = absurd cc
neither_right false b h = h

pub neither_parts : (a b : Bool) → (a || b) ≡ false → (a ≡ false) × (b ≡ false)
neither_parts a b h = (neither_left a b h, neither_right a b h)

pub or_none : (a : Bool) → (a || false) ≡ a
or_none true = refl
or_none false = refl

pub or_join : (a b c : Bool) → ((a || b) || c) ≡ (a || (b || c))
or_join true b c = refl
or_join false b c = refl

-- ---- not

pub not_true : (a : Bool) → not a ≡ true → a ≡ false
not_true true h = absurd cc
not_true false h = refl

pub not_false : (a : Bool) → a ≡ false → not a ≡ true
not_false true h = absurd cc
not_false false h = refl

-- two of which the second is not false where the first is true
pub and_so : (a b : Bool) → (a && not b) ≡ false → a ≡ true → b ≡ true
and_so true true h e = refl
and_so true false h e = absurd cc
and_so false b h e = absurd cc

pub so_and : (a b : Bool) → (a ≡ true → b ≡ true) → (a && not b) ≡ false
so_and true b h = ap not (h refl)
so_and false b h = refl

pub and_no : (a b : Bool) → (a && b) ≡ false → a ≡ true → b ≡ false
and_no true b h e = h
and_no false b h e = absurd cc

pub no_and : (a b : Bool) → (a ≡ true → b ≡ false) → (a && b) ≡ false
no_and true b h = h refl
no_and false b h = refl

pub not_both : (a : Bool) → a ≡ true → a ≡ false → ⊥
not_both true h k = absurd cc
not_both false h k = absurd cc

-- what is not true is false
pub else_false : (a : Bool) → (a ≡ true → ⊥) → a ≡ false
else_false true h = absurd (h refl)
else_false false h = refl

-- ---- cases

pub true_or_false : (a : Bool) → (a ≡ true) ⊎ (a ≡ false)
true_or_false true = inl refl
true_or_false false = inr refl

pub by_cases : {X : Type 0} (a : Bool) → (a ≡ true → X) → (a ≡ false → X) → X
by_cases true p q = p refl
by_cases false p q = q refl

-- two that are true together are one
pub same_when : (a b : Bool) → (a ≡ true → b ≡ true) → (b ≡ true → a ≡ true) → a ≡ b
same_when true b f g = let e : b ≡ true = f refl in sym e
same_when false true f g = g refl
same_when false false f g = refl

-- ---- numbers that are compared

pub same_test : (a b c d : ℕ) → (a ≡ b → c ≡ d) → (c ≡ d → a ≡ b) → nat_eq a b ≡ nat_eq c d
same_test a b c d f g = elim (eqb_tells a b) [
  | inl h ↦ (let e = eq-eqb c d (f h.1) in h.0 ∙ sym e)
  | inr h ↦ (let e = ne_eqb c d (λ q. h.1 (g q)) in h.0 ∙ sym e)
]

pub eq_turned : (a b : ℕ) → nat_eq a b ≡ nat_eq b a
eq_turned a b = same_test a b b a (λ e. sym e) (λ e. sym e)

-- ---- texts

pub bytes_same : (xs ys : List ℕ) → bytes_eq xs ys ≡ true → xs ≡ ys
bytes_same xs ys h = (bytes_eq-Decides xs ys).0 h

pub bytes_own : (xs : List ℕ) → bytes_eq xs xs ≡ true
bytes_own xs = (bytes_eq-Decides xs xs).1 refl

pub bytes_other : (xs ys : List ℕ) → (xs ≡ ys → ⊥) → bytes_eq xs ys ≡ false
bytes_other xs ys h = else_false (bytes_eq xs ys) (λ e. h (bytes_same xs ys e))

pub bytes_differ : (xs ys : List ℕ) → bytes_eq xs ys ≡ false → xs ≡ ys → ⊥
bytes_differ xs ys h e = not_both (bytes_eq xs ys) (subst (λ (zs : List ℕ). bytes_eq xs zs ≡ true) e (bytes_own xs)) h

pub bytes_both_ways : (xs ys : List ℕ) → bytes_eq xs ys ≡ bytes_eq ys xs
bytes_both_ways xs ys = same_when (bytes_eq xs ys) (bytes_eq ys xs)
    (λ h. subst (λ (zs : List ℕ). bytes_eq zs xs ≡ true) (bytes_same xs ys h) (bytes_own xs))
    (λ h. subst (λ (zs : List ℕ). bytes_eq zs ys ≡ true) (bytes_same ys xs h) (bytes_own ys))

pub bytes_turned : (xs ys : List ℕ) → bytes_eq xs ys ≡ false → bytes_eq ys xs ≡ false
bytes_turned xs ys h = bytes_other ys xs (λ e. not_both (bytes_eq xs ys) ((bytes_eq-Decides xs ys).1 (sym e)) h)

-- ---- bits

pub bit_fits : (b : Bool) → bit b < 2 ^ 1
bit_fits true = omega arith
bit_fits false = omega arith

-- a bit is 1 where it stands for true
pub bit_is : (b : Bool) → nat_eq (bit b) 1 ≡ b
bit_is true = refl
bit_is false = refl

-- ---- choices

pub guard_true : (a b : Bool) → (if a then false else b) ≡ true → (a ≡ false) × (b ≡ true)
guard_true true b h = absurd cc
guard_true false b h = (refl, h)

pub choose_yes : (test x y : ℕ) → test ≡ 1 → choose_of test x y ≡ x
unfolding choose_of
choose_yes test x y e = let f = eq-eqb test 1 e in rw f refl

pub choose_no : (test x y : ℕ) → test ≢ 1 → choose_of test x y ≡ y
unfolding choose_of
choose_no test x y e = let f = ne_eqb test 1 e in rw f refl
