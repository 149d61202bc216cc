-- One of several lines and wires, and the first cycle in which a line is 1.
use Rattle.std.proofs.Common.{◌≡◌, ℕ, zero, suc, ◌+◌, ◌*◌, ◌<◌, ◌≤◌, List, [], ◌∷◌, ◌++◌, length, Option, Some, None, Bool, true, false, refl, sym, ap, ◌∙◌, arith, inl, inr, ◌⊎◌, length-append}
use Rattle.std.specs.Prelude.{option_to_list}
use Rattle.std.proofs.lemmas.Bool.{cases_lt, or_cases, or_left, or_right, or_from}
use Rattle.gl_values.specs.Results.{Row}
use Rattle.gl_wire.specs.Wire.{Carried, rows}
use Rattle.gl_wire.specs.Lift.{first_of, tuple_of_any, Joined}
use Rattle.gl_wire.specs.Rotates.{any_of}

pub length-joined : (n : ℕ) (vs : List (ℕ × List Row)) (ys : List Row) → Joined (λ u xs zs. length zs ≤ n) vs ys → length ys ≤ length vs * n
length-joined n [] ys j = rw j (omega arith)
length-joined n (v ∷ vs) ys (zs, ws, one, rest, is) =
    let k = length-joined n vs ws rest in
    let e : length ys ≡ length zs + length ws = ap length is ∙ length-append zs ws in
    omega (arith, e, one, k)

pub some_or_none : (s : Carried) (n c : ℕ) → (length (rows s c n) ≡ 0) ⊎ ((i : ℕ) × (r : Row) × (c ≤ i) × (i < c + n) × (s.tuple i ≡ Some r))
some_or_none s zero c = inl refl
some_or_none s (suc n) c = by (s.tuple c) refl (some_or_none s n (suc c))
  where
    by : (o : Option Row) → s.tuple c ≡ o → (length (rows s (suc c) n) ≡ 0) ⊎ ((i : ℕ) × (r : Row) × (suc c ≤ i) × (i < suc c + n) × (s.tuple i ≡ Some r)) → (length (option_to_list o ++ rows s (suc c) n) ≡ 0) ⊎ ((i : ℕ) × (r : Row) × (c ≤ i) × (i < c + suc n) × (s.tuple i ≡ Some r))
    by (Some r) p ih = inr (c, r, omega arith, omega arith, p)
    by None p (inl e) = inl e
    by None p (inr (i, r, l, m, q)) = inr (i, r, omega (arith, l), omega (arith, m), q)

pub any_some : (outs : ℕ → Carried) (count c : ℕ) (r : Row) → tuple_of_any outs count c ≡ Some r → (k : ℕ) × (k < count) × ((outs k).tuple c ≡ Some r)
any_some outs zero c r h = absurd (cc)
any_some outs (suc n) c r h = by (tuple_of_any outs n c) refl h (λ e. any_some outs n c r e)
  where
    by : (o : Option Row) → tuple_of_any outs n c ≡ o → first_of o ((outs n).tuple c) ≡ Some r → (tuple_of_any outs n c ≡ Some r → (k : ℕ) × (k < n) × ((outs k).tuple c ≡ Some r)) → (k : ℕ) × (k < suc n) × ((outs k).tuple c ≡ Some r)
    by None p q ih = (n, omega arith, q)
    by (Some x) p q ih = let y = ih (p ∙ q) in (y.0, omega (arith, y.1), y.2)

pub any_false : (line : ℕ → Bool) (n : ℕ) → ((k : ℕ) → k < n → line k ≡ false) → any_of line n ≡ false
any_false line zero h = refl
any_false line (suc n) h = or_from (any_of line n) (line n) (any_false line n (λ k l. h k (omega (arith, l)))) (h n (omega arith))

pub any_true : (line : ℕ → Bool) (n k : ℕ) → k < n → line k ≡ true → any_of line n ≡ true
any_true line zero k l h = absurd (omega (arith, l))
any_true line (suc n) k l h = elim (cases_lt k n) [
  | inl m ↦ or_left (any_of line n) (line n) (any_true line n k m h)
  | inr m ↦ (let e : k ≡ n = omega (arith, l, m) in or_right (any_of line n) (line n) (ap line (sym e) ∙ h))
]

pub some_line : (line : ℕ → Bool) (n : ℕ) → any_of line n ≡ true → (k : ℕ) × (k < n) × (line k ≡ true)
some_line line zero h = absurd (cc)
some_line line (suc n) h = by (or_cases (any_of line n) (line n) h) (λ e. some_line line n e)
  where
    by : ((any_of line n ≡ true) ⊎ (line n ≡ true)) → (any_of line n ≡ true → (k : ℕ) × (k < n) × (line k ≡ true)) → (k : ℕ) × (k < suc n) × (line k ≡ true)
    by (inl e) ih = let x = ih e in (x.0, omega (arith, x.1), x.2)
    by (inr e) ih = (n, omega arith, e)

-- the first cycle in which a line is 1
pub first_true : (line : ℕ → Bool) (n c : ℕ) → ((i : ℕ) × (c ≤ i) × (i < c + n) × (line i ≡ true) × ((j : ℕ) → c ≤ j → j < i → line j ≡ false)) ⊎ ((i : ℕ) → c ≤ i → i < c + n → line i ≡ false)
first_true line zero c = inr (λ i l m. absurd (omega (arith, l, m)))
first_true line (suc n) c = by (line c) refl (first_true line n (suc c))
  where
    by : (x : Bool) → line c ≡ x → ((i : ℕ) × (suc c ≤ i) × (i < suc c + n) × (line i ≡ true) × ((j : ℕ) → suc c ≤ j → j < i → line j ≡ false)) ⊎ ((i : ℕ) → suc c ≤ i → i < suc c + n → line i ≡ false)
        → ((i : ℕ) × (c ≤ i) × (i < c + suc n) × (line i ≡ true) × ((j : ℕ) → c ≤ j → j < i → line j ≡ false)) ⊎ ((i : ℕ) → c ≤ i → i < c + suc n → line i ≡ false)
    by true p ih = inl (c, omega arith, omega arith, p, λ j l m. absurd (omega (arith, l, m)))
    by false p (inl (i, l, m, e, g)) = inl (i, omega (arith, l), omega (arith, m), e, λ j x y. elim (cases_lt c j) [ inl z ↦ g j z y | inr z ↦ (let q : j ≡ c = omega (arith, x, z) in ap line q ∙ p) ])
    by false p (inr g) = inr (λ i l m. elim (cases_lt c i) [ inl z ↦ g i z (omega (arith, m)) | inr z ↦ (let q : i ≡ c = omega (arith, l, z) in ap line q ∙ p) ])
