-- Ranks tell nets that do not depend on themselves: those that read only nets of lower ranks, where no net reads one of a higher rank.
use Rattle.std.proofs.Common.{◌≡◌, ℕ, ◌<◌, ◌≤◌, inl, inr, Bool, true, false, List, [], ◌∷◌, Option, Some, None, refl, sym, subst, arith}
use Rattle.std.specs.Prelude.{◌&&◌, ◌||◌, max, nat_eq, nat_lt, nat_le, if◌then◌else◌}
use Rattle.std.specs.List.{AllByRecursion}
use Rattle.std.proofs.Math.Nat.{le-max_left, le-max_right}
use Rattle.std.proofs.lemmas.Bool.{or_cases, and_parts, eqb-true, cases_lt, lt-ltb, le-leb}
use Rattle.gl_verilog.specs.Module.{Expr, Net, Literal, Invert, Binary, Choose, Join, Select, Read, Assignment}
use Rattle.gl_verilog.specs.Valid.{mentions, depends, IsChain}
use Rattle.gl_verilog_loops.specs.Looping.{is_found, with_net, rank_of, highest, levelled, AreSuspects}
use Rattle.gl_verilog_loops.proofs.Reaching.{kept_net, found_own}

one_rank : (ranks : List ℕ) (k n : ℕ) → nat_eq k n ≡ true → rank_of ranks n ≤ rank_of ranks k
one_rank ranks k n h = subst (λ (m : ℕ). rank_of ranks m ≤ rank_of ranks k) (eqb-true k n h) (omega arith)

two_ranks : (a b : Bool) (m x y : ℕ) → (a ≡ true → m ≤ x) → (b ≡ true → m ≤ y) → (a || b) ≡ true → m ≤ max x y
two_ranks a b m x y f g h = elim (or_cases a b h) [ inl p ↦ omega (arith, f p, le-max_left x y) | inr p ↦ omega (arith, g p, le-max_right x y) ]

below_highest : (ranks : List ℕ) (e : Expr) (n : ℕ) → mentions e n ≡ true → rank_of ranks n ≤ highest ranks e
below_highest ranks (Net k) n h = one_rank ranks k n h
below_highest ranks (Literal value width) n h = absurd cc
below_highest ranks (Invert width arg) n h = below_highest ranks arg n h
below_highest ranks (Binary op width left right) n h = two_ranks (mentions left n) (mentions right n) _ _ _ (below_highest ranks left n) (below_highest ranks right n) h
below_highest ranks (Choose test yes' no') n h =
    two_ranks (mentions test n) (mentions yes' n || mentions no' n) _ _ _ (below_highest ranks test n)
    (two_ranks (mentions yes' n) (mentions no' n) _ _ _ (below_highest ranks yes' n) (below_highest ranks no' n)) h
below_highest ranks (Join low_width high low) n h = two_ranks (mentions high n) (mentions low n) _ _ _ (below_highest ranks high n) (below_highest ranks low n) h
below_highest ranks (Select high low k) n h = one_rank ranks k n h
below_highest ranks (Read memory address) n h = below_highest ranks address n h

-- ---- what is told of all assignments

abbrev Rises : List ℕ → List Assignment → Type 0
Rises ranks as' = AllByRecursion (λ a. highest ranks a.value ≤ rank_of ranks a.target) as'

abbrev Level : List ℕ → List ℕ → List Assignment → Type 0
Level ranks found as' = AllByRecursion (λ a. rank_of ranks a.target ≤ highest ranks a.value → is_found found a.target ≡ true) as'

abbrev Tells : List ℕ → List ℕ → List ℕ → List Assignment → Type 0
Tells ranks old found as' = Rises ranks as' × Level ranks found as' × ((n : ℕ) → is_found old n ≡ true → is_found found n ≡ true)

tells_one : (ranks found : List ℕ) (a : Assignment) (rest : List Assignment) (all : List ℕ) (below level : Bool)
    → (below ≡ false → highest ranks a.value ≤ rank_of ranks a.target) → (level ≡ false → highest ranks a.value < rank_of ranks a.target)
    → ((more : List ℕ) → levelled ranks rest more ≡ Some all → Tells ranks more all rest)
    → (if below then None else levelled ranks rest (if level then with_net found a.target else found)) ≡ Some all → Tells ranks found all (a ∷ rest)
tells_one ranks found a rest all true level f g next h = absurd cc
tells_one ranks found a rest all false true f g next h =
    let t = next (with_net found a.target) h in
    ((f refl, t.0), (λ e. t.2 a.target (found_own found a.target), t.1), λ n e. t.2 n (kept_net found a.target n e))
tells_one ranks found a rest all false false f g next h =
    let t = next found h in
    let below : highest ranks a.value < rank_of ranks a.target = g refl in
    ((f refl, t.0), (λ e. absurd (omega (arith, e, below)), t.1), t.2)

not_below : (m n : ℕ) → nat_lt m n ≡ false → n ≤ m
not_below m n h = elim (cases_lt m n) [ inl l ↦ absurd (let e : nat_lt m n ≡ true = lt-ltb m n l in cc) | inr l ↦ l ]

not_level : (m n : ℕ) → nat_le m n ≡ false → n < m
not_level m n h = elim (cases_lt n m) [ inl l ↦ l | inr l ↦ absurd (let e : nat_le m n ≡ true = le-leb m n l in cc) ]

tells_all : (ranks : List ℕ) (as' : List Assignment) (found all : List ℕ) → levelled ranks as' found ≡ Some all → Tells ranks found all as'
tells_all ranks [] found all h = (tt, tt, λ n e. (let same : found ≡ all = cc in subst (λ (l : List ℕ). is_found l n ≡ true) same e))
tells_all ranks (a ∷ rest) found all h =
    tells_one ranks found a rest all (nat_lt (rank_of ranks a.target) (highest ranks a.value)) (nat_le (rank_of ranks a.target) (highest ranks a.value))
    (not_below (rank_of ranks a.target) (highest ranks a.value)) (not_level (rank_of ranks a.target) (highest ranks a.value))
    (λ more e. tells_all ranks rest more all e) h

-- ---- what that says of dependence

step_down : (ranks : List ℕ) (as' : List Assignment) (t n : ℕ) → Rises ranks as' → depends as' t n ≡ true → rank_of ranks n ≤ rank_of ranks t
step_down ranks [] t n r h = absurd cc
step_down ranks (a ∷ rest) t n r h = elim (or_cases (nat_eq a.target t && mentions a.value n) (depends rest t n) h) [
  | inl p ↦ (let q = and_parts (nat_eq a.target t) (mentions a.value n) p in
      let top : rank_of ranks a.target ≤ rank_of ranks t = subst (λ (m : ℕ). rank_of ranks a.target ≤ rank_of ranks m) (eqb-true a.target t q.0) (omega arith) in
      omega (arith, below_highest ranks a.value n q.1, r.0, top))
  | inr p ↦ step_down ranks rest t n r.1 p
]

step_below : (ranks found : List ℕ) (as' : List Assignment) (t n : ℕ) → Level ranks found as' → is_found found t ≡ false → depends as' t n ≡ true → rank_of ranks n < rank_of ranks t
step_below ranks found [] t n l e h = absurd cc
step_below ranks found (a ∷ rest) t n l e h = elim (or_cases (nat_eq a.target t && mentions a.value n) (depends rest t n) h) [
  | inl p ↦ (let q = and_parts (nat_eq a.target t) (mentions a.value n) p in
      let same : a.target ≡ t = eqb-true a.target t q.0 in
      elim (cases_lt (highest ranks a.value) (rank_of ranks a.target)) [
        | inl b ↦ (let top : rank_of ranks a.target ≤ rank_of ranks t = subst (λ (m : ℕ). rank_of ranks a.target ≤ rank_of ranks m) same (omega arith) in omega (arith, below_highest ranks a.value n q.1, b, top))
        | inr b ↦ absurd (let there : is_found found t ≡ true = subst (λ (m : ℕ). is_found found m ≡ true) same (l.0 b) in cc)
      ])
  | inr p ↦ step_below ranks found rest t n l.1 e p
]

chain_down : (ranks : List ℕ) (all : List Assignment) → Rises ranks all → (us : List ℕ) (x y : ℕ) → IsChain (depends all) x us y → rank_of ranks y ≤ rank_of ranks x
chain_down ranks all r [] x y c = step_down ranks all x y r c
chain_down ranks all r (u ∷ us) x y c = omega (arith, step_down ranks all x u r c.0, chain_down ranks all r us u y c.1)

no_way : (ranks found : List ℕ) (all : List Assignment) (t : ℕ) → Rises ranks all → Level ranks found all → is_found found t ≡ false → (us : List ℕ) → IsChain (depends all) t us t → ⊥
no_way ranks found all t r l e [] c = (let b = step_below ranks found all t t l e c in omega (arith, b))
no_way ranks found all t r l e (u ∷ us) c = omega (arith, step_below ranks found all t u l e c.0, chain_down ranks all r us u t c.1)

pub suspected : (ranks : List ℕ) (all : List Assignment) (found : Option (List ℕ)) → found ≡ levelled ranks all [] → AreSuspects all found
suspected ranks all None e = λ n f l. absurd cc
suspected ranks all (Some found) e = (let t = tells_all ranks all [] found (sym e) in λ n f l. no_way ranks found all n t.0 t.1 f l.0 l.1)
