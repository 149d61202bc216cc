-- Assignments in an order have no loop: along a chain each net is driven earlier than the one before.
use Rattle.std.proofs.Common.{◌≡◌, ℕ, suc, ◌<◌, ◌≤◌, inl, inr, Bool, true, false, cond, List, [], ◌∷◌, length, eqb, refl, subst, arith}
use Rattle.std.specs.Prelude.{◌||◌, ◌&&◌}
use Rattle.std.proofs.lemmas.Bool.{eqb-true, eq-eqb}
use Rattle.gl_bits.proofs.Bools.{or_cases, and_left, and_right}
use Rattle.gl_verilog.specs.Module.{Assignment, Expr, Net, Literal, Invert, Binary, Choose, Join, Select, Read}
use Rattle.gl_verilog.specs.Order.{EachRead, IsUndriven, IsOrdered}
use Rattle.gl_verilog.specs.Valid.{mentions, depends, IsChain, HasNoLoop, drivers_of}
use Rattle.gl_verilog.proofs.Acyclic.{undriven-none}

-- what holds of each net that is read holds of one that is mentioned
mentioned : (P : ℕ → Type 0) (e : Expr) (n : ℕ) → EachRead P e → mentions e n ≡ true → P n
mentioned P (Net k) n h m = subst P (eqb-true k n m) h
mentioned P (Literal value width) n h m = absurd cc
mentioned P (Invert width arg) n h m = mentioned P arg n h m
mentioned P (Binary op width l r) n h m = elim (or_cases (mentions l n) (mentions r n) m) [ inl a ↦ mentioned P l n h.0 a | inr b ↦ mentioned P r n h.1 b ]
mentioned P (Choose c x y) n h m = elim (or_cases (mentions c n) (mentions x n || mentions y n) m) [
  | inl a ↦ mentioned P c n h.0 a
  | inr b ↦ elim (or_cases (mentions x n) (mentions y n) b) [ inl d ↦ mentioned P x n h.1 d | inr f ↦ mentioned P y n h.2 f ]
]
mentioned P (Join low_width x y) n h m = elim (or_cases (mentions x n) (mentions y n) m) [ inl a ↦ mentioned P x n h.0 a | inr b ↦ mentioned P y n h.1 b ]
mentioned P (Select high low k) n h m = subst P (eqb-true k n m) h
mentioned P (Read memory address) n h m = mentioned P address n h m

-- how many assignments stand from the one that drives a net on; none where none does
abbrev pub rank : List Assignment → ℕ → ℕ
rank [] t = 0
rank (a ∷ rest) t = cond (eqb a.target t) (suc (length rest)) (rank rest t)

rank-most : (as' : List Assignment) (t : ℕ) → rank as' t ≤ length as'
rank-most [] t = omega arith
rank-most (a ∷ rest) t = by (eqb a.target t) (rank-most rest t)
  where
    by : (b : Bool) → rank rest t ≤ length rest → cond b (suc (length rest)) (rank rest t) ≤ suc (length rest)
    by true h = omega arith
    by false h = omega arith

rank-none : (as' : List Assignment) (t : ℕ) → IsUndriven as' t → rank as' t ≡ 0
rank-none [] t u = refl
rank-none (a ∷ rest) t u = by (eqb a.target t) refl (rank-none rest t u.1)
  where
    by : (b : Bool) → eqb a.target t ≡ b → rank rest t ≡ 0 → cond b (suc (length rest)) (rank rest t) ≡ 0
    by true e h = absurd (u.0 (eqb-true a.target t e))
    by false e h = h

-- the rank of a net behind one assignment more
rank-here : (a : Assignment) (rest : List Assignment) (t : ℕ) → eqb a.target t ≡ true → rank (a ∷ rest) t ≡ suc (length rest)
rank-here a rest t e = rw e refl

rank-there : (a : Assignment) (rest : List Assignment) (t : ℕ) → eqb a.target t ≡ false → rank (a ∷ rest) t ≡ rank rest t
rank-there a rest t e = rw e refl

-- what depends on something is driven
driven : (as' : List Assignment) (t n : ℕ) → depends as' t n ≡ true → 0 < rank as' t
driven [] t n e = absurd cc
driven (a ∷ rest) t n e = elim (or_cases (eqb a.target t && mentions a.value n) (depends rest t n) e) [
  | inl f ↦ (let r = rank-here a rest t (and_left (eqb a.target t) (mentions a.value n) f) in omega (arith, r))
  | inr f ↦ by (eqb a.target t) refl (driven rest t n f)
]
  where
    by : (b : Bool) → eqb a.target t ≡ b → 0 < rank rest t → 0 < rank (a ∷ rest) t
    by true e h = (let r = rank-here a rest t e in omega (arith, r))
    by false e h = (let r = rank-there a rest t e in omega (arith, r, h))

falls : (as' : List Assignment) (t n : ℕ) → IsOrdered as' → depends as' t n ≡ true → 0 < rank as' n → rank as' t < rank as' n
falls [] t n o e d = absurd cc
falls (a ∷ rest) t n o e d = elim (or_cases (eqb a.target t && mentions a.value n) (depends rest t n) e) [
  | inl f ↦ (let u : IsUndriven (a ∷ rest) n = mentioned (IsUndriven (a ∷ rest)) a.value n o.0 (and_right (eqb a.target t) (mentions a.value n) f) in let z = rank-none (a ∷ rest) n u in absurd (omega (arith, d, z)))
  | inr f ↦ by (eqb a.target t) (eqb a.target n) refl refl (driven rest t n f) f (λ p. falls rest t n o.2 f p)
]
  where
    by : (b c : Bool) → eqb a.target t ≡ b → eqb a.target n ≡ c → 0 < rank rest t → depends rest t n ≡ true → (0 < rank rest n → rank rest t < rank rest n) → rank (a ∷ rest) t < rank (a ∷ rest) n
    by true c e g h f ih = (let z = rank-none rest t (subst (IsUndriven rest) (eqb-true a.target t e) o.1) in absurd (omega (arith, h, z)))
    by false true e g h f ih = (let r = rank-there a rest t e in let s = rank-here a rest n g in let most = rank-most rest t in omega (arith, r, s, most))
    by false false e g h f ih = (let r = rank-there a rest t e in let s = rank-there a rest n g in let lt = ih (omega (arith, s, d)) in omega (arith, r, s, lt))

-- the first net of a chain depends on something
begins : (as' : List Assignment) (x : ℕ) (us : List ℕ) (y : ℕ) → IsChain (depends as') x us y → 0 < rank as' x
begins as' x [] y c = driven as' x y c
begins as' x (u ∷ us) y c = driven as' x u c.0

along : (as' : List Assignment) (x : ℕ) (us : List ℕ) (y : ℕ) → IsOrdered as' → IsChain (depends as') x us y → 0 < rank as' y → rank as' x < rank as' y
along as' x [] y o c d = falls as' x y o c d
along as' x (u ∷ us) y o c d =
    let first = falls as' x u o c.0 (begins as' u us y c.1) in
    let rest = along as' u us y o c.1 d in
    omega (arith, first, rest)

pub no_loop : (as' : List Assignment) → IsOrdered as' → HasNoLoop as'
no_loop as' o n us c = let lt = along as' n us n o c (begins as' n us n c) in absurd (omega (arith, lt))

-- ---- drivers

-- a net that assignments in an order drive has one that does
pub driven_once : (as' : List Assignment) (n : ℕ) → IsOrdered as' → (IsUndriven as' n → ⊥) → drivers_of as' n ≡ 1
driven_once [] n o d = absurd (d tt)
driven_once (a ∷ rest) n o d = by (eqb a.target n) refl (λ h. driven_once rest n o.2 h)
  where
    by : (t : Bool) → eqb a.target n ≡ t → ((IsUndriven rest n → ⊥) → drivers_of rest n ≡ 1) → drivers_of (a ∷ rest) n ≡ 1
    by true e ih = (let z = undriven-none rest n (subst (IsUndriven rest) (eqb-true a.target n e) o.1) in rw e (omega (arith, z)))
    by false e ih = (let h = ih (λ u. d ((λ q. (let f : eqb a.target n ≡ true = eq-eqb a.target n q in absurd cc)), u)) in rw e (omega (arith, h)))
