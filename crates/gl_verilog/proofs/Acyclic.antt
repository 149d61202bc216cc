-- Assignments without a loop can be put in an order, so a valid module can run.
use Rattle.std.proofs.Common.{◌≡◌, ◌≢◌, ℕ, ◌+◌, ◌*◌, ◌<◌, ◌≤◌, ◌⊎◌, inl, inr, Bool, true, false, cond, List, [], ◌∷◌, ◌++◌, Option, Some, None, max, eqb, leb, refl, sym, ap, ◌∙◌, arith}
use Rattle.std.specs.Prelude.{◌||◌, ◌&&◌, slice_get, IsSomeAnd}
use Rattle.std.specs.List.{AllByRecursion}
use Rattle.std.specs.List.Sorted.{IsPermutation}
use Rattle.std.proofs.lemmas.List.Sorted.{IsPermutation-refl, IsPermutation-cons, IsPermutation-trans, IsPermutation-middle}
use Rattle.std.proofs.lemmas.Bool.{eqb-true, eq-eqb, leb-true, leb-false}
use Rattle.gl_verilog.specs.Module.{Module, Declaration, Assignment, Kind, Input, OutputWire, OutputRegister, Wire, Register, Memory, Expr, Net, Literal, Invert, Binary, Choose, Join, Select, Read}
use Rattle.gl_verilog.specs.Widths.{IsDriven, KeepsWidth, width_of}
use Rattle.gl_verilog.specs.Order.{EachRead, IsUndriven, IsOrdered, CanBeOrdered}
use Rattle.gl_verilog.specs.Valid.{drivers_of, mentions, depends, IsChain, HasNoCycle, HasNoLoop, HasDriver, IsValid}
use Rattle.gl_verilog.specs.Runnable.{IsRunnable}
use Rattle.gl_bits.proofs.Bools.{or_left, or_right, or_cases, and_both, and_left, and_right}

-- ---- tests

-- ---- members

abbrev pub IsIn : ℕ → List ℕ → Type 0
IsIn x [] = ⊥
IsIn x (t ∷ ts) = (x ≡ t) ⊎ IsIn x ts

-- ---- ranks

-- the relation with one number taken out, and each way through it kept
abbrev pub without : ℕ → (ℕ → ℕ → Bool) → ℕ → ℕ → Bool
without t related x y = related x y || (related x t && related t y)

pub chain-join : (related : ℕ → ℕ → Bool) (x : ℕ) (us : List ℕ) (t : ℕ) (vs : List ℕ) (y : ℕ) → IsChain related x us t → IsChain related t vs y → IsChain related x (us ++ t ∷ vs) y
chain-join related x [] t vs y p q = (p, q)
chain-join related x (u ∷ us) t vs y p q = (p.0, chain-join related u us t vs y p.1 q)

one-step : (related : ℕ → ℕ → Bool) (t x y : ℕ) → without t related x y ≡ true → (us : List ℕ) × IsChain related x us y
one-step related t x y e = elim (or_cases (related x y) (related x t && related t y) e) [
  | inl p ↦ ([], p)
  | inr p ↦ (t ∷ [], (and_left (related x t) (related t y) p, and_right (related x t) (related t y) p))
]

expand : (related : ℕ → ℕ → Bool) (t x : ℕ) (us : List ℕ) (y : ℕ) → IsChain (without t related) x us y → (vs : List ℕ) × IsChain related x vs y
expand related t x [] y p = one-step related t x y p
expand related t x (u ∷ us) y p =
    let first = one-step related t x u p.0 in
    let rest = expand related t u us y p.1 in
    (first.0 ++ u ∷ rest.0, chain-join related x first.0 u rest.0 y first.1 rest.1)

without-cycle : (related : ℕ → ℕ → Bool) (t : ℕ) → HasNoCycle related → HasNoCycle (without t related)
without-cycle related t h n us p = let q = expand related t n us n p in h n q.0 q.1

-- above every number that t is related to
abbrev pub above_of : Bool → ℕ → ℕ
above_of true r = 2 * r + 2
above_of false r = 0

abbrev pub top_of : (ℕ → Bool) → (ℕ → ℕ) → List ℕ → ℕ
top_of p rank [] = 0
top_of p rank (y ∷ ys) = max (above_of (p y) (rank y)) (top_of p rank ys)

top-above : (p : ℕ → Bool) (rank : ℕ → ℕ) (ys : List ℕ) (y : ℕ) → IsIn y ys → p y ≡ true → 2 * rank y + 2 ≤ top_of p rank ys
top-above p rank [] y i e = absurd i
top-above p rank (z ∷ ys) y i e = elim i [
  | inl q ↦ (let f : above_of (p z) (rank z) ≡ 2 * rank y + 2 = rw (sym q, e) refl in omega (arith, f))
  | inr j ↦ (let h = top-above p rank ys y j e in omega (arith, h))
]

above-below : (b : Bool) (r most : ℕ) → (b ≡ true → 2 * r + 2 ≤ most) → above_of b r ≤ most
above-below true r most h = h refl
above-below false r most h = omega arith

top-below : (p : ℕ → Bool) (rank : ℕ → ℕ) (ys : List ℕ) (most : ℕ) → ((y : ℕ) → IsIn y ys → p y ≡ true → 2 * rank y + 2 ≤ most) → top_of p rank ys ≤ most
top-below p rank [] most h = omega arith
top-below p rank (z ∷ ys) most h =
    let first : above_of (p z) (rank z) ≤ most = above-below (p z) (rank z) most (λ e. h z (inl refl) e) in
    let rest : top_of p rank ys ≤ most = top-below p rank ys most (λ y i e. h y (inr i) e) in
    omega arith

-- numbers by which each is above what it is related to
pub record IsRanked (related : ℕ → ℕ → Bool) (ts : List ℕ) : Type 0 where
  pub rank : ℕ → ℕ
  pub falls : (x y : ℕ) → IsIn x ts → IsIn y ts → related x y ≡ true → rank y < rank x

-- one more number
abbrev pub with_rank : ℕ → ℕ → (ℕ → ℕ) → ℕ → ℕ
with_rank t m rank x = cond (eqb x t) m (2 * rank x + 1)

-- a number is t, or is one of the others
data Sides : ℕ → ℕ → List ℕ → Type 0 where
  is : (x t : ℕ) (ts : List ℕ) → x ≡ t → Sides x t ts
  other : (x t : ℕ) (ts : List ℕ) → eqb x t ≡ false → IsIn x ts → Sides x t ts

sides-by : (x t : ℕ) (ts : List ℕ) (b : Bool) → eqb x t ≡ b → IsIn x (t ∷ ts) → Sides x t ts
sides-by x t ts true e i = is x t ts (eqb-true x t e)
sides-by x t ts false e i = elim i [ inl q ↦ absurd (let f : eqb x t ≡ true = eq-eqb x t q in cc) | inr j ↦ other x t ts e j ]

rank-is : (x t m : ℕ) (rank : ℕ → ℕ) → x ≡ t → with_rank t m rank x ≡ m
rank-is x t m rank q = rw (eq-eqb x t q) refl

rank-other : (x t m : ℕ) (rank : ℕ → ℕ) → eqb x t ≡ false → with_rank t m rank x ≡ 2 * rank x + 1
rank-other x t m rank e = rw e refl

related-at : (related : ℕ → ℕ → Bool) (x t y u : ℕ) → x ≡ t → y ≡ u → related x y ≡ true → related t u ≡ true
related-at related x t y u p q e = ap (λ (z : ℕ). related z u) (sym p) ∙ ap (λ (z : ℕ). related x z) (sym q) ∙ e

-- the rank of t, among the others
abbrev pub rank_at : (ℕ → ℕ → Bool) → ℕ → List ℕ → (ℕ → ℕ) → ℕ
rank_at related t ts rank = top_of (related t) rank ts

falls-by : (related : ℕ → ℕ → Bool) (t : ℕ) (ts : List ℕ) → HasNoCycle related → (r : IsRanked (without t related) ts) (x y : ℕ) → Sides x t ts → Sides y t ts → related x y ≡ true
    → with_rank t (rank_at related t ts r.rank) r.rank y < with_rank t (rank_at related t ts r.rank) r.rank x
falls-by related t ts h r x y (is _ _ _ p) (is _ _ _ q) e = absurd (h t [] (related-at related x t y t p q e))
falls-by related t ts h r x y (is _ _ _ p) (other _ _ _ q j) e =
    let above = top-above (related t) r.rank ts y j (related-at related x t y y p refl e) in
    rw (rank-is x t (rank_at related t ts r.rank) r.rank p, rank-other y t (rank_at related t ts r.rank) r.rank q) (omega (arith, above))
falls-by related t ts h r x y (other _ _ _ p i) (is _ _ _ q) e =
    let most = top-below (related t) r.rank ts (2 * r.rank x) (λ z k f. let lt : r.rank z < r.rank x = r.falls x z i k (or_right (related x z) (related x t && related t z) (and_both (related x t) (related t z) (related-at related x x y t refl q e) f)) in omega arith) in
    rw (rank-is y t (rank_at related t ts r.rank) r.rank q, rank-other x t (rank_at related t ts r.rank) r.rank p) (omega (arith, most))
falls-by related t ts h r x y (other _ _ _ p i) (other _ _ _ q j) e =
    let lt : r.rank y < r.rank x = r.falls x y i j (or_left (related x y) (related x t && related t y) e) in
    rw (rank-other x t (rank_at related t ts r.rank) r.rank p, rank-other y t (rank_at related t ts r.rank) r.rank q) (omega arith)

pub ranked : (ts : List ℕ) (related : ℕ → ℕ → Bool) → HasNoCycle related → IsRanked related ts
ranked [] related h = record { rank = λ n. 0; falls = λ x y i j e. absurd i }
ranked (t ∷ ts) related h =
    let r = ranked ts (without t related) (without-cycle related t h) in
    record {
      rank = with_rank t (rank_at related t ts r.rank) r.rank;
      falls = λ x y i j e. falls-by related t ts h r x y (sides-by x t ts (eqb x t) refl i) (sides-by y t ts (eqb y t) refl j) e;
    }

-- ---- sorting by rank

-- behind the assignments of lower rank
abbrev pub place : (ℕ → ℕ) → Assignment → List Assignment → List Assignment
place rank a [] = a ∷ []
place rank a (b ∷ bs) = cond (leb (rank a.target) (rank b.target)) (a ∷ b ∷ bs) (b ∷ place rank a bs)

abbrev pub sorted : (ℕ → ℕ) → List Assignment → List Assignment
sorted rank [] = []
sorted rank (a ∷ as') = place rank a (sorted rank as')

-- what each of two lists has, a choice of them has
pub chosen : {A : Type 0} (P : A → Type 0) (b : Bool) (x y : A) → (b ≡ true → P x) → (b ≡ false → P y) → P (cond b x y)
chosen P true x y f g = f refl
chosen P false x y f g = g refl

place-moves : (rank : ℕ → ℕ) (a : Assignment) (bs : List Assignment) → IsPermutation (a ∷ bs) (place rank a bs)
place-moves rank a [] = IsPermutation-refl (a ∷ [])
place-moves rank a (b ∷ bs) = chosen (IsPermutation (a ∷ b ∷ bs)) (leb (rank a.target) (rank b.target)) (a ∷ b ∷ bs) (b ∷ place rank a bs)
    (λ e. IsPermutation-refl (a ∷ b ∷ bs))
    (λ e. IsPermutation-trans (a ∷ b ∷ bs) (b ∷ a ∷ bs) (b ∷ place rank a bs) (IsPermutation-middle (a ∷ []) b bs) (IsPermutation-cons b (a ∷ bs) (place rank a bs) (place-moves rank a bs)))

sorted-moves : (rank : ℕ → ℕ) (as' : List Assignment) → IsPermutation as' (sorted rank as')
sorted-moves rank [] = IsPermutation-refl []
sorted-moves rank (a ∷ as') = IsPermutation-trans (a ∷ as') (a ∷ sorted rank as') (place rank a (sorted rank as')) (IsPermutation-cons a as' (sorted rank as') (sorted-moves rank as')) (place-moves rank a (sorted rank as'))

place-all : (P : Assignment → Type 0) (rank : ℕ → ℕ) (a : Assignment) (bs : List Assignment) → P a → AllByRecursion P bs → AllByRecursion P (place rank a bs)
place-all P rank a [] h k = (h, k)
place-all P rank a (b ∷ bs) h k = chosen (AllByRecursion P) (leb (rank a.target) (rank b.target)) (a ∷ b ∷ bs) (b ∷ place rank a bs) (λ e. (h, k)) (λ e. (k.0, place-all P rank a bs h k.1))

sorted-all : (P : Assignment → Type 0) (rank : ℕ → ℕ) (as' : List Assignment) → AllByRecursion P as' → AllByRecursion P (sorted rank as')
sorted-all P rank [] h = h
sorted-all P rank (a ∷ as') h = place-all P rank a (sorted rank as') h.0 (sorted-all P rank as' h.1)

-- ranks do not fall
abbrev pub Rises : (ℕ → ℕ) → List Assignment → Type 0
Rises rank [] = Unit {0}
Rises rank (a ∷ as') = AllByRecursion (λ b. rank a.target ≤ rank b.target) as' × Rises rank as'

all-more : (rank : ℕ → ℕ) (low high : ℕ) (bs : List Assignment) → low ≤ high → AllByRecursion (λ b. high ≤ rank b.target) bs → AllByRecursion (λ b. low ≤ rank b.target) bs
all-more rank low high [] le h = h
all-more rank low high (b ∷ bs) le h = (omega (arith, h.0), all-more rank low high bs le h.1)

place-rises : (rank : ℕ → ℕ) (a : Assignment) (bs : List Assignment) → Rises rank bs → Rises rank (place rank a bs)
place-rises rank a [] h = (tt, tt)
place-rises rank a (b ∷ bs) h = chosen (Rises rank) (leb (rank a.target) (rank b.target)) (a ∷ b ∷ bs) (b ∷ place rank a bs)
    (λ e. let le = leb-true (rank a.target) (rank b.target) e in ((le, all-more rank (rank a.target) (rank b.target) bs le h.0), h))
    (λ e. let lt = leb-false (rank a.target) (rank b.target) e in (place-all (λ c. rank b.target ≤ rank c.target) rank a bs (omega (arith, lt)) h.0, place-rises rank a bs h.1))

sorted-rises : (rank : ℕ → ℕ) (as' : List Assignment) → Rises rank (sorted rank as')
sorted-rises rank [] = tt
sorted-rises rank (a ∷ as') = place-rises rank a (sorted rank as') (sorted-rises rank as')

pub one_if : (b : Bool) → b ≡ true → let n : ℕ = cond b 1 0 in n ≡ 1
one_if true e = refl
one_if false e = absurd cc

place-drivers : (rank : ℕ → ℕ) (a : Assignment) (bs : List Assignment) (n : ℕ) → drivers_of (place rank a bs) n ≡ drivers_of (a ∷ bs) n
place-drivers rank a [] n = refl
place-drivers rank a (b ∷ bs) n = chosen (λ (l : List Assignment). drivers_of l n ≡ drivers_of (a ∷ b ∷ bs) n) (leb (rank a.target) (rank b.target)) (a ∷ b ∷ bs) (b ∷ place rank a bs)
    (λ e. refl)
    (λ e. let h = place-drivers rank a bs n in omega (arith, h))

sorted-drivers : (rank : ℕ → ℕ) (as' : List Assignment) (n : ℕ) → drivers_of (sorted rank as') n ≡ drivers_of as' n
sorted-drivers rank [] n = refl
sorted-drivers rank (a ∷ as') n = place-drivers rank a (sorted rank as') n ∙ (let h = sorted-drivers rank as' n in omega (arith, h))

-- ---- in an order

pub undriven-zero : (bs : List Assignment) (n : ℕ) → drivers_of bs n ≡ 0 → IsUndriven bs n
undriven-zero [] n e = tt
undriven-zero (b ∷ bs) n e = ((λ q. (let g = one_if (eqb b.target n) (eq-eqb b.target n q) in absurd (omega (arith, e, g)))), undriven-zero bs n (omega (arith, e)))

-- what holds of each net that an expression mentions
pub each_read : (P : ℕ → Type 0) (e : Expr) → ((n : ℕ) → mentions e n ≡ true → P n) → EachRead P e
each_read P (Net k) h = h k (eq-eqb k k refl)
each_read P (Literal value width) h = tt
each_read P (Invert width arg) h = each_read P arg h
each_read P (Binary op width l r) h = (each_read P l (λ n e. h n (or_left (mentions l n) (mentions r n) e)), each_read P r (λ n e. h n (or_right (mentions l n) (mentions r n) e)))
each_read P (Choose c x y) h = (
  each_read P c (λ n e. h n (or_left (mentions c n) (mentions x n || mentions y n) e)),
  each_read P x (λ n e. h n (or_right (mentions c n) (mentions x n || mentions y n) (or_left (mentions x n) (mentions y n) e))),
  each_read P y (λ n e. h n (or_right (mentions c n) (mentions x n || mentions y n) (or_right (mentions x n) (mentions y n) e))),
)
each_read P (Join low_width x y) h = (each_read P x (λ n e. h n (or_left (mentions x n) (mentions y n) e)), each_read P y (λ n e. h n (or_right (mentions x n) (mentions y n) e)))
each_read P (Select high low k) h = h k (eq-eqb k k refl)
each_read P (Read memory address) h = each_read P address h

-- an assignment's net is above each driven net that it mentions
abbrev pub IsAbove : (ℕ → ℕ) → Assignment → Assignment → Type 0
IsAbove rank a b = mentions a.value b.target ≡ true → rank b.target < rank a.target

not-read : (rank : ℕ → ℕ) (a : Assignment) (bs : List Assignment) (n : ℕ) → mentions a.value n ≡ true → AllByRecursion (λ b. rank a.target ≤ rank b.target) bs → AllByRecursion (IsAbove rank a) bs → IsUndriven bs n
not-read rank a [] n e h k = tt
not-read rank a (b ∷ bs) n e h k = (
  (λ q. (let f : mentions a.value b.target ≡ true = ap (mentions a.value) q ∙ e in let lt : rank b.target < rank a.target = k.0 f in let le : rank a.target ≤ rank b.target = h.0 in absurd (omega arith))),
  not-read rank a bs n e h.1 k.1,
)

-- a sorted list of assignments, each of which drives its net alone, is in an order
in-order : (rank : ℕ → ℕ) (bs : List Assignment) → Rises rank bs → AllByRecursion (λ a. drivers_of bs a.target ≤ 1) bs → AllByRecursion (λ a. AllByRecursion (IsAbove rank a) bs) bs → IsOrdered bs
in-order rank [] rises once above = tt
in-order rank (a ∷ bs) rises once above =
    let le : rank a.target ≤ rank a.target = omega arith in
    let self : eqb a.target a.target ≡ true = eq-eqb a.target a.target refl in
    let one = one_if (eqb a.target a.target) self in
    let rest : drivers_of bs a.target ≡ 0 = omega (arith, once.0, one) in (
      each_read (IsUndriven (a ∷ bs)) a.value (λ n e. not-read rank a (a ∷ bs) n e (le, rises.0) above.0),
      undriven-zero bs a.target rest,
      in-order rank bs rises.1 (fewer bs once.1) (tails bs above.1),
    )
  where
    fewer : (cs : List Assignment) → AllByRecursion (λ c. drivers_of (a ∷ bs) c.target ≤ 1) cs → AllByRecursion (λ c. drivers_of bs c.target ≤ 1) cs
    fewer [] h = tt
    fewer (c ∷ cs) h = (omega (arith, h.0), fewer cs h.1)

    tails : (cs : List Assignment) → AllByRecursion (λ c. AllByRecursion (IsAbove rank c) (a ∷ bs)) cs → AllByRecursion (λ c. AllByRecursion (IsAbove rank c) bs) cs
    tails [] h = tt
    tails (c ∷ cs) h = (h.0.1, tails cs h.1)

-- ---- the assignments of a list

abbrev pub targets_of : List Assignment → List ℕ
targets_of [] = []
targets_of (a ∷ as') = a.target ∷ targets_of as'

-- what an assignment mentions its net depends on, and its net is a target
pub record IsOf (as' : List Assignment) (a : Assignment) : Type 0 where
  pub target : IsIn a.target (targets_of as')
  pub mentioned : (n : ℕ) → mentions a.value n ≡ true → depends as' a.target n ≡ true

of-more : (c : Assignment) (as' : List Assignment) (bs : List Assignment) → AllByRecursion (IsOf as') bs → AllByRecursion (IsOf (c ∷ as')) bs
of-more c as' [] h = tt
of-more c as' (b ∷ bs) h = (record { target = inr h.0.target; mentioned = λ n e. or_right (eqb c.target b.target && mentions c.value n) (depends as' b.target n) (h.0.mentioned n e) }, of-more c as' bs h.1)

each_of : (as' : List Assignment) → AllByRecursion (IsOf as') as'
each_of [] = tt
each_of (c ∷ as') = (record { target = inl refl; mentioned = λ n e. or_left (eqb c.target c.target && mentions c.value n) (depends as' c.target n) (and_both (eqb c.target c.target) (mentions c.value n) (eq-eqb c.target c.target refl) e) }, of-more c as' as' (each_of as'))

above-one : (as' : List Assignment) (r : IsRanked (depends as') (targets_of as')) (a : Assignment) (bs : List Assignment) → IsOf as' a → AllByRecursion (IsOf as') bs → AllByRecursion (IsAbove r.rank a) bs
above-one as' r a [] h k = tt
above-one as' r a (b ∷ bs) h k = ((λ e. r.falls a.target b.target h.target k.0.target (h.mentioned b.target e)), above-one as' r a bs h k.1)

above-all : (as' : List Assignment) (r : IsRanked (depends as') (targets_of as')) (bs cs : List Assignment) → AllByRecursion (IsOf as') bs → AllByRecursion (IsOf as') cs → AllByRecursion (λ a. AllByRecursion (IsAbove r.rank a) bs) cs
above-all as' r bs [] h k = tt
above-all as' r bs (c ∷ cs) h k = (above-one as' r c bs k.0 h, above-all as' r bs cs h k.1)

-- the same counts in another order
counts : (as' bs cs : List Assignment) → ((n : ℕ) → drivers_of bs n ≡ drivers_of as' n) → AllByRecursion (λ a. drivers_of as' a.target ≤ 1) cs → AllByRecursion (λ a. drivers_of bs a.target ≤ 1) cs
counts as' bs [] same h = tt
counts as' bs (c ∷ cs) same h = ((let e = same c.target in omega (arith, e, h.0)), counts as' bs cs same h.1)

pub can_be_ordered : (as' : List Assignment) → HasNoLoop as' → AllByRecursion (λ a. drivers_of as' a.target ≤ 1) as' → CanBeOrdered as'
can_be_ordered as' h once =
    let r = ranked (targets_of as') (depends as') h in
    let all = sorted-all (IsOf as') r.rank as' (each_of as') in
    record {
      order = sorted r.rank as';
      same = sorted-moves r.rank as';
      ordered = in-order r.rank (sorted r.rank as') (sorted-rises r.rank as') (counts as' (sorted r.rank as') (sorted r.rank as') (sorted-drivers r.rank as') (sorted-all (λ a. drivers_of as' a.target ≤ 1) r.rank as' once)) (above-all as' r (sorted r.rank as') (sorted r.rank as') all all);
    }

-- ---- valid modules

-- a net that an assignment may drive has one that does
driven-once : (m : Module) (n : ℕ) (d : Declaration) → IsDriven d.kind → HasDriver m n d.kind → drivers_of m.assignments n ≡ 1
driven-once m n d k h = by d.kind k h
  where
    by : (kind : Kind) → IsDriven kind → HasDriver m n kind → drivers_of m.assignments n ≡ 1
    by Input k h = absurd k
    by OutputWire k h = h
    by OutputRegister k h = absurd k
    by Wire k h = h
    by Register k h = absurd k
    by (Memory bits) k h = absurd k

undriven-step : (b : Assignment) (bs : List Assignment) (n : ℕ) (t : Bool) → eqb b.target n ≡ t → b.target ≢ n → drivers_of bs n ≡ 0 → drivers_of (b ∷ bs) n ≡ 0
undriven-step b bs n true e h k = absurd (h (eqb-true b.target n e))
undriven-step b bs n false e h k = rw e (omega (arith, k))

pub undriven-none : (bs : List Assignment) (n : ℕ) → IsUndriven bs n → drivers_of bs n ≡ 0
undriven-none [] n h = refl
undriven-none (b ∷ bs) n h = undriven-step b bs n (eqb b.target n) refl h.0 (undriven-none bs n h.1)

-- a target is a declared wire, which one assignment drives
wire-once : (m : Module) (a : Assignment) (o : Option Declaration) → slice_get m.declarations a.target ≡ o → IsSomeAnd o (λ d. IsDriven d.kind × (width_of m.declarations a.value ≡ d.width)) → ((n : ℕ) (d : Declaration) → slice_get m.declarations n ≡ Some d → HasDriver m n d.kind) → drivers_of m.assignments a.target ≤ 1
wire-once m a None e k h = absurd k
wire-once m a (Some d) e k h = let one = driven-once m a.target d k.0 (h a.target d e) in omega (arith, one)

each-once : (m : Module) (bs : List Assignment) → AllByRecursion (KeepsWidth m.declarations) bs → ((n : ℕ) (d : Declaration) → slice_get m.declarations n ≡ Some d → HasDriver m n d.kind) → AllByRecursion (λ a. drivers_of m.assignments a.target ≤ 1) bs
each-once m [] k h = tt
each-once m (b ∷ bs) k h = (wire-once m b (slice_get m.declarations b.target) refl k.0.0 h, each-once m bs k.1 h)

-- a valid module can run
pub runnable : (m : Module) → IsValid m → IsRunnable m
runnable m v = record {
  sizes = v.sizes;
  assignments = v.assignments;
  blocks = v.blocks;
  driven = λ n d e k u. (let one = driven-once m n d k (v.driven n d e) in let none = undriven-none m.assignments n u in absurd (omega (arith, one, none)));
  ordered = can_be_ordered m.assignments v.acyclic (each-once m m.assignments v.assignments v.driven);
}
