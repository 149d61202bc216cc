-- Events among others, and what becomes active.
use Rattle.std.proofs.Common.{◌≡◌, ℕ, zero, suc, ◌+◌, ◌⊎◌, inl, inr, Bool, true, false, cond, List, [], ◌∷◌, ◌++◌, Some, refl, sym, ap, subst, arith}
use Rattle.std.specs.Prelude.{◌||◌, slice_get}
use Rattle.std.specs.List.{list_any}
use Rattle.std.proofs.lemmas.Bool.{eqb-true}
use Rattle.gl_verilog.specs.Module.{Assignment, Expr, Statement}
use Rattle.gl_verilog.specs.Events.{Event, Evaluates, Executes, Puts, Writes, evaluations, executions, is_evaluation, woken}
use Rattle.gl_verilog.proofs.Acyclic.{chosen}

abbrev pub IsAmong : Event → List Event → Type 0
IsAmong e [] = ⊥
IsAmong e (x ∷ xs) = (x ≡ e) ⊎ IsAmong e xs

pub among_left : (e : Event) (xs ys : List Event) → IsAmong e xs → IsAmong e (xs ++ ys)
among_left e [] ys h = absurd h
among_left e (x ∷ xs) ys h = elim h [ inl q ↦ inl q | inr k ↦ inr (among_left e xs ys k) ]

pub among_right : (e : Event) (xs ys : List Event) → IsAmong e ys → IsAmong e (xs ++ ys)
among_right e [] ys h = h
among_right e (x ∷ xs) ys h = inr (among_right e xs ys h)

pub among_cases : (e : Event) (xs ys : List Event) → IsAmong e (xs ++ ys) → IsAmong e xs ⊎ IsAmong e ys
among_cases e [] ys h = inr h
among_cases e (x ∷ xs) ys h = elim h [
  | inl q ↦ inl (inl q)
  | inr k ↦ elim (among_cases e xs ys k) [ inl l ↦ inl (inr l) | inr r ↦ inr r ]
]

pub among_here : (e : Event) (front back : List Event) → IsAmong e (front ++ e ∷ back)
among_here e [] back = inl refl
among_here e (x ∷ front) back = inr (among_here e front back)

-- one of a list, or of the rest
pub among_rest : (x e : Event) (front back : List Event) → IsAmong x (front ++ e ∷ back) → (e ≡ x) ⊎ IsAmong x (front ++ back)
among_rest x e [] back h = h
among_rest x e (y ∷ front) back h = elim h [
  | inl q ↦ inr (inl q)
  | inr k ↦ elim (among_rest x e front back k) [ inl l ↦ inl l | inr r ↦ inr (inr r) ]
]

pub among_more : (x e : Event) (front back : List Event) → IsAmong x (front ++ back) → IsAmong x (front ++ e ∷ back)
among_more x e [] back h = inr h
among_more x e (y ∷ front) back h = elim h [ inl q ↦ inl q | inr k ↦ inr (among_more x e front back k) ]

-- ---- what becomes active

same_evaluation : (j : ℕ) (y : Event) → is_evaluation (Evaluates j) y ≡ true → y ≡ Evaluates j
same_evaluation j (Evaluates k) e = ap Evaluates (sym (eqb-true j k e))
same_evaluation j (Executes k) e = absurd cc
same_evaluation j (Puts r x) e = absurd cc
same_evaluation j (Writes k at x) e = absurd cc

active_already : (j : ℕ) (active : List Event) → list_any (is_evaluation (Evaluates j)) active ≡ true → IsAmong (Evaluates j) active
active_already j [] e = absurd cc
active_already j (y ∷ ys) e = by (is_evaluation (Evaluates j) y) refl e (active_already j ys)
  where
    by : (b : Bool) → is_evaluation (Evaluates j) y ≡ b → (b || list_any (is_evaluation (Evaluates j)) ys) ≡ true → (list_any (is_evaluation (Evaluates j)) ys ≡ true → IsAmong (Evaluates j) ys) → IsAmong (Evaluates j) (y ∷ ys)
    by true is e f = inl (same_evaluation j y is)
    by false is e f = inr (f e)

pub woken_keeps : (x : Event) (active es : List Event) → IsAmong x active → IsAmong x (woken active es)
woken_keeps x active [] h = h
woken_keeps x active (e ∷ es) h = chosen (IsAmong x) (list_any (is_evaluation e) active) (woken active es) (woken (active ++ e ∷ []) es)
    (λ t. woken_keeps x active es h)
    (λ t. woken_keeps x (active ++ e ∷ []) es (among_left x active (e ∷ []) h))

pub woken_adds : (j : ℕ) (active es : List Event) → IsAmong (Evaluates j) es → IsAmong (Evaluates j) (woken active es)
woken_adds j active [] h = absurd h
woken_adds j active (e ∷ es) h = chosen (IsAmong (Evaluates j)) (list_any (is_evaluation e) active) (woken active es) (woken (active ++ e ∷ []) es)
    (λ is. elim h [
      | inl q ↦ woken_keeps (Evaluates j) active es (active_already j active (subst (λ x. list_any (is_evaluation x) active ≡ true) q is))
      | inr k ↦ woken_adds j active es k
    ])
    (λ is. elim h [
      | inl q ↦ woken_keeps (Evaluates j) (active ++ e ∷ []) es (among_right (Evaluates j) active (e ∷ []) (inl q))
      | inr k ↦ woken_adds j (active ++ e ∷ []) es k
    ])

pub woken_only : (x : Event) (active es : List Event) → IsAmong x (woken active es) → IsAmong x active ⊎ IsAmong x es
woken_only x active [] h = inl h
woken_only x active (e ∷ es) h = chosen (λ l. IsAmong x l → IsAmong x active ⊎ IsAmong x (e ∷ es)) (list_any (is_evaluation e) active) (woken active es) (woken (active ++ e ∷ []) es)
    (λ is h. elim (woken_only x active es h) [ inl l ↦ inl l | inr r ↦ inr (inr r) ])
    (λ is h. elim (woken_only x (active ++ e ∷ []) es h) [
      | inl l ↦ elim (among_cases x active (e ∷ []) l) [ inl a ↦ inl a | inr b ↦ elim b [ inl q ↦ inr (inl q) | inr n ↦ absurd n ] ]
      | inr r ↦ inr (inr r)
    ])
    h

-- an evaluation
pub record IsEvaluation (e : Event) : Type 0 where
  pub number : ℕ
  pub is : e ≡ Evaluates number

pub evaluations_has : (reads : Expr → Bool) (k : ℕ) (as' : List Assignment) (j : ℕ) (a : Assignment) → slice_get as' j ≡ Some a → reads a.value ≡ true → IsAmong (Evaluates (k + j)) (evaluations reads k as')
evaluations_has reads k [] j a e r = absurd cc
evaluations_has reads k (b ∷ as') zero a e r =
    let same : b ≡ a = cc in
    let yes' : reads b.value ≡ true = rw same r in
    rw yes' (inl (ap Evaluates (let z : k ≡ k + 0 = omega arith in z)))
evaluations_has reads k (b ∷ as') (suc j) a e r =
    let there = evaluations_has reads (k + 1) as' j a e r in
    by (reads b.value) (subst (λ n. IsAmong (Evaluates n) (evaluations reads (k + 1) as')) (let z : k + 1 + j ≡ k + suc j = omega arith in z) there)
  where
    by : (t : Bool) → IsAmong (Evaluates (k + suc j)) (evaluations reads (k + 1) as') → IsAmong (Evaluates (k + suc j)) (cond t (Evaluates k ∷ evaluations reads (k + 1) as') (evaluations reads (k + 1) as'))
    by true h = inr h
    by false h = h

pub evaluations_only : (reads : Expr → Bool) (k : ℕ) (as' : List Assignment) (x : Event) → IsAmong x (evaluations reads k as') → IsEvaluation x
evaluations_only reads k [] x h = absurd h
evaluations_only reads k (b ∷ as') x h = chosen (λ l. IsAmong x l → IsEvaluation x) (reads b.value) (Evaluates k ∷ evaluations reads (k + 1) as') (evaluations reads (k + 1) as')
    (λ t h. elim h [ inl q ↦ record { number = k; is = sym q } | inr r ↦ evaluations_only reads (k + 1) as' x r ])
    (λ t h. evaluations_only reads (k + 1) as' x h)
    h

pub record IsExecution (e : Event) : Type 0 where
  pub number : ℕ
  pub is : e ≡ Executes number

pub executions_has : (k : ℕ) (bs : List Statement) (j : ℕ) (b : Statement) → slice_get bs j ≡ Some b → IsAmong (Executes (k + j)) (executions k bs)
executions_has k [] j b e = absurd cc
executions_has k (c ∷ bs) zero b e = inl (ap Executes (let z : k ≡ k + 0 = omega arith in z))
executions_has k (c ∷ bs) (suc j) b e = inr (subst (λ n. IsAmong (Executes n) (executions (k + 1) bs)) (let z : k + 1 + j ≡ k + suc j = omega arith in z) (executions_has (k + 1) bs j b e))

pub executions_only : (k : ℕ) (bs : List Statement) (x : Event) → IsAmong x (executions k bs) → IsExecution x
executions_only k [] x h = absurd h
executions_only k (c ∷ bs) x h = elim h [ inl q ↦ record { number = k; is = sym q } | inr r ↦ executions_only (k + 1) bs x r ]
