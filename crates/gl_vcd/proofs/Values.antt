-- The changes that are written of rows, and the values that they give.
use Rattle.std.proofs.Common.{◌≡◌, ℕ, zero, suc, ◌+◌, ◌<◌, ◌≤◌, inl, inr, Bool, true, false, not, ◌&&◌, List, [], ◌∷◌, ◌++◌, length, Option, Some, None, refl, sym, ap, ◌∙◌, arith, eq-eqb, ne_eqb, le-leb}
use Rattle.std.specs.Prelude.{is_some, nat_eq, nat_le, slice_get, ◌⊎◌, if◌then◌else◌}
use Rattle.std.proofs.lemmas.Bool.{and_from, and_left, and_right, cond-false, cond-true, lt-leb}
use Rattle.std.proofs.lemmas.Bool.Decides.{eqb_tells}
use Rattle.gl_bits.specs.Words.{Word}
use Rattle.gl_bits.proofs.AllLists.{get_there}
use Rattle.gl_bits.proofs.Options.{some_same}
use Rattle.gl_vcd.specs.Signals.{Change, all_given, given_from, value_at}
use Rattle.gl_vcd.specs.Written.{differs, is_new}

abbrev pub change_at : ℕ → ℕ → Word → Change
change_at time i w = record { time = time; signal = i; value = w.bits }

abbrev pub change_if : Bool → ℕ → ℕ → Word → List Change
change_if b time i w = if b then change_at time i w ∷ [] else []

-- the changes of what is left of a row from a number on, in this time
abbrev pub changes_in : ℕ → Option (List Word) → ℕ → List Word → List Change
changes_in time before i [] = []
changes_in time before i (w ∷ ws) = change_if (is_new before i w) time i w ++ changes_in time before (i + 1) ws

-- the changes of rows, from a time on
abbrev pub changes_of : ℕ → Option (List Word) → List (List Word) → List Change
changes_of at before [] = []
changes_of at before (row ∷ rows) = changes_in at before 0 row ++ changes_of (at + 1) (Some row) rows

-- ---- the value that is given last

pub given_append : (g : Option ℕ) (xs ys : List Change) (s n : ℕ) → given_from g (xs ++ ys) s n ≡ given_from (given_from g xs s n) ys s n
given_append g [] ys s n = refl
given_append g (c ∷ cs) ys s n = given_append (if nat_eq c.signal s && nat_le c.time n then Some c.value else g) cs ys s n

-- a change of another signal, or of a later time
given_other : (g : Option ℕ) (b : Bool) (time i s n : ℕ) (w : Word) → (nat_eq i s && nat_le time n) ≡ false → given_from g (change_if b time i w) s n ≡ g
given_other g true time i s n w h = cond-false (nat_eq i s && nat_le time n) (Some w.bits) g h
given_other g false time i s n w h = refl

given_here : (g : Option ℕ) (b : Bool) (time i s n : ℕ) (w : Word) → (nat_eq i s && nat_le time n) ≡ true → given_from g (change_if b time i w) s n ≡ (if b then Some w.bits else g)
given_here g true time i s n w h = cond-true (nat_eq i s && nat_le time n) (Some w.bits) g h
given_here g false time i s n w h = refl

-- a signal in front of these is not changed
pub given_past : (g : Option ℕ) (time : ℕ) (before : Option (List Word)) (i : ℕ) (ws : List Word) (s n : ℕ) → s < i → given_from g (changes_in time before i ws) s n ≡ g
given_past g time before i [] s n lt = refl
given_past g time before i (w ∷ ws) s n lt =
    given_append g (change_if (is_new before i w) time i w) (changes_in time before (i + 1) ws) s n
    ∙ ap (λ (o : Option ℕ). given_from o (changes_in time before (i + 1) ws) s n)
    (given_other g (is_new before i w) time i s n w (and_left (nat_eq i s) (nat_le time n) (ne_eqb i s (λ e. omega (arith, e, lt)))))
    ∙ given_past g time before (i + 1) ws s n (omega (arith, lt))

-- nor is any in a time before
pub given_early : (g : Option ℕ) (time : ℕ) (before : Option (List Word)) (i : ℕ) (ws : List Word) (s n : ℕ) → n < time → given_from g (changes_in time before i ws) s n ≡ g
given_early g time before i [] s n lt = refl
given_early g time before i (w ∷ ws) s n lt =
    given_append g (change_if (is_new before i w) time i w) (changes_in time before (i + 1) ws) s n
    ∙ ap (λ (o : Option ℕ). given_from o (changes_in time before (i + 1) ws) s n)
    (given_other g (is_new before i w) time i s n w (and_right (nat_eq i s) (nat_le time n) (lt-leb time n lt)))
    ∙ given_early g time before (i + 1) ws s n lt

-- a word that is new is given
pub given_row : (g : Option ℕ) (time : ℕ) (before : Option (List Word)) (i : ℕ) (ws : List Word) (s n k : ℕ) (w : Word) → slice_get ws k ≡ Some w → s ≡ i + k → time ≤ n
    → given_from g (changes_in time before i ws) s n ≡ (if is_new before s w then Some w.bits else g)
given_row g time before i [] s n k w at e le = absurd cc
given_row g time before i (v ∷ ws) s n zero w at e le =
    let same : v ≡ w = some_same v w at in
    let here : i ≡ s = omega (arith, e) in
    given_append g (change_if (is_new before i v) time i v) (changes_in time before (i + 1) ws) s n
    ∙ ap (λ (o : Option ℕ). given_from o (changes_in time before (i + 1) ws) s n)
    (given_here g (is_new before i v) time i s n v (and_from (nat_eq i s) (nat_le time n) (eq-eqb i s here) (le-leb time n le)))
    ∙ given_past (if is_new before i v then Some v.bits else g) time before (i + 1) ws s n (omega (arith, e))
    ∙ ap (λ (x : Word). if is_new before i x then Some x.bits else g) same
    ∙ ap (λ (m : ℕ). if is_new before m w then Some w.bits else g) here
given_row g time before i (v ∷ ws) s n (suc k) w at e le =
    given_append g (change_if (is_new before i v) time i v) (changes_in time before (i + 1) ws) s n
    ∙ ap (λ (o : Option ℕ). given_from o (changes_in time before (i + 1) ws) s n)
    (given_other g (is_new before i v) time i s n v (and_left (nat_eq i s) (nat_le time n) (ne_eqb i s (λ q. omega (arith, e, q)))))
    ∙ given_row g time before (i + 1) ws s n k w at (omega (arith, e)) le

-- ---- rows

-- what a signal has in the row before, if there is one
abbrev pub Had : Option (List Word) → ℕ → Option ℕ → Type 0
Had None s g = Unit {0}
Had (Some row) s g = (w : Word) × (slice_get row s ≡ Some w) × (g ≡ Some w.bits)

pub given_now : (before : Option (List Word)) (s : ℕ) (g : Option ℕ) (w : Word) → Had before s g → (if is_new before s w then Some w.bits else g) ≡ Some w.bits
given_now None s g w had = refl
given_now (Some row) s g w had =
    ap (λ (o : Option Word). if differs o w then Some w.bits else g) had.1 ∙ by (eqb_tells had.0.bits w.bits)
  where
    by : ((nat_eq had.0.bits w.bits ≡ true) × (had.0.bits ≡ w.bits)) ⊎ ((nat_eq had.0.bits w.bits ≡ false) × (had.0.bits ≡ w.bits → ⊥))
        → (if not (nat_eq had.0.bits w.bits) then Some w.bits else g) ≡ Some w.bits
    by (inl p) = cond-false (not (nat_eq had.0.bits w.bits)) (Some w.bits) g (ap not p.0) ∙ had.2 ∙ ap Some p.1
    by (inr p) = cond-true (not (nat_eq had.0.bits w.bits)) (Some w.bits) g (ap not p.0)

-- rows of a later time give nothing yet
pub given_later : (g : Option ℕ) (at : ℕ) (before : Option (List Word)) (rows : List (List Word)) (s n : ℕ) → n < at → given_from g (changes_of at before rows) s n ≡ g
given_later g at before [] s n lt = refl
given_later g at before (row ∷ rows) s n lt =
    given_append g (changes_in at before 0 row) (changes_of (at + 1) (Some row) rows) s n
    ∙ ap (λ (o : Option ℕ). given_from o (changes_of (at + 1) (Some row) rows) s n) (given_early g at before 0 row s n lt)
    ∙ given_later g (at + 1) (Some row) rows s n (omega (arith, lt))

-- each row has a word for each of so many ports
abbrev pub AreLong : ℕ → List (List Word) → Type 0
AreLong many [] = Unit {0}
AreLong many (row ∷ rows) = (length row ≡ many) × AreLong many rows

-- in the time of a row each signal has the word of that row
pub given_rows : (g : Option ℕ) (at : ℕ) (before : Option (List Word)) (rows : List (List Word)) (many s n k : ℕ) (row : List Word) (w : Word) → AreLong many rows → s < many
    → Had before s g → slice_get rows k ≡ Some row → n ≡ at + k → slice_get row s ≡ Some w → given_from g (changes_of at before rows) s n ≡ Some w.bits
given_rows g at before [] many s n k row w long lt had there e here = absurd cc
given_rows g at before (first ∷ rows) many s n zero row w long lt had there e here =
    let same : row ≡ first = (let z : first ≡ row = some_same first row there in sym z) in
    let word : slice_get first s ≡ Some w = ap (λ (r : List Word). slice_get r s) (sym same) ∙ here in
    given_append g (changes_in at before 0 first) (changes_of (at + 1) (Some first) rows) s n
    ∙ ap (λ (o : Option ℕ). given_from o (changes_of (at + 1) (Some first) rows) s n)
    (given_row g at before 0 first s n s w word (let z : s ≡ 0 + s = omega arith in z) (omega (arith, e)) ∙ given_now before s g w had)
    ∙ given_later (Some w.bits) (at + 1) (Some first) rows s n (omega (arith, e))
given_rows g at before (first ∷ rows) many s n (suc k) row w long lt had there e here =
    let found = get_there first s (let l = long.0 in omega (arith, l, lt)) in
    given_append g (changes_in at before 0 first) (changes_of (at + 1) (Some first) rows) s n
    ∙ ap (λ (o : Option ℕ). given_from o (changes_of (at + 1) (Some first) rows) s n)
    (given_row g at before 0 first s n s found.0 found.1 (let z : s ≡ 0 + s = omega arith in z) (omega (arith, e)) ∙ given_now before s g found.0 had)
    ∙ given_rows (Some found.0.bits) (at + 1) (Some first) rows many s n k row w long.1 lt (found.0, found.1, refl) there (omega (arith, e)) here

-- ---- every signal has a value in time 0

-- what was given stays given
given_stays : (x : ℕ) (cs : List Change) (s n : ℕ) → is_some (given_from (Some x) cs s n) ≡ true
given_stays x [] s n = refl
given_stays x (c ∷ cs) s n = by (nat_eq c.signal s && nat_le c.time n) (given_stays c.value cs s n) (given_stays x cs s n)
  where
    by : (b : Bool) → is_some (given_from (Some c.value) cs s n) ≡ true → is_some (given_from (Some x) cs s n) ≡ true → is_some (given_from (if b then Some c.value else Some x) cs s n) ≡ true
    by true p q = p
    by false p q = q

some_append : (o : Option ℕ) (cs : List Change) (s n : ℕ) → is_some o ≡ true → is_some (given_from o cs s n) ≡ true
some_append None cs s n h = absurd cc
some_append (Some x) cs s n h = given_stays x cs s n

-- the first so many signals all have one
pub record AreGiven (cs : List Change) (many : ℕ) : Type 0 where
  pub each : (s : ℕ) → s < many → is_some (given_from None cs s 0) ≡ true

pub given_more : (cs more : List Change) (many : ℕ) → AreGiven cs many → AreGiven (cs ++ more) many
given_more cs more many are = record {
  each = λ s lt. ap is_some (given_append None cs more s 0) ∙ some_append (given_from None cs s 0) more s 0 (are.each s lt);
}

pub given_all : (cs : List Change) (many : ℕ) → AreGiven cs many → all_given cs many ≡ true
unfolding value_at
given_all cs zero are = refl
given_all cs (suc n) are =
    and_from (is_some (given_from None cs n 0)) (all_given cs n) (are.each n (omega arith))
    (given_all cs n (record { each = λ s lt. are.each s (omega (arith, lt)) }))

pub given_first : (row : List Word) → AreGiven (changes_in 0 None 0 row) (length row)
given_first row = record {
  each = λ s lt.
      let found = get_there row s lt in
      ap is_some (given_row None 0 None 0 row s 0 s found.0 found.1 (let z : s ≡ 0 + s = omega arith in z) (omega arith));
}
