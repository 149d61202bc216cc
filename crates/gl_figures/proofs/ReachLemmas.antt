-- What each node reaches, and that nodes that are put once count no more than nodes that are put for each use.
use Rattle.std.proofs.Common.{◌≡◌, ℕ, zero, suc, ◌+◌, ◌<◌, ◌≤◌, Bool, false, List, [], ◌∷◌, ◌++◌, length, Some, slice_get, get_or, All, refl, arith}
use Rattle.std.specs.Prelude.{◌||◌, nat_eq, option_to_list}
use Rattle.std.specs.List.{list_any, sum_by}
use Rattle.std.proofs.lemmas.List.Elements.{All-head, All-tail}
use Rattle.std.proofs.lemmas.List.Sums.{sum_by-cons}
use Rattle.gl_bits.proofs.AllLists.{get_there}
use Rattle.gl_algebra.specs.declared.node.PlanNode.{PlanNode}
use Rattle.gl_algebra.specs.Cost.{keys_of, lean_of, store_of}
use Rattle.gl_algebra.specs.Fits.{IsPlan}
use Rattle.gl_algebra.specs.Laws.{NodesFollowTables}
use Rattle.gl_algebra.specs.Nodewise.{named_by}
use Rattle.gl_algebra.specs.Views.{body_of, children_of}
use Rattle.gl_algebra.specs.Weights.{sum_over, sum_over_children, weight_of}
use Rattle.gl_algebra.proofs.ListLemmas.{all_left}
use Rattle.gl_algebra.proofs.NodewiseLemmas.{Agree, AreInOrder, nodewise-node}
use Rattle.gl_algebra.proofs.PlanLemmas.{in_order}
use Rattle.gl_figures.specs.Reach.{OnceIsLess, below_from, lies_below, reaches, reached, sum_where, weight_part, lean_part, keys_part, store_part}
use Rattle.gl_figures.proofs.SumLemmas.{sum-one, sum-either, sum-any, sum-same}

-- ---- the rows of the tables, by children

front_agrees : (v w : ℕ → Bool) (xs ys : List ℕ) → Agree v w (xs ++ ys) → Agree v w xs
front_agrees v w [] ys h = tt
front_agrees v w (x ∷ xs) ys h = (h.0, front_agrees v w xs ys h.1)

any_same : (id : ℕ) (v w : ℕ → Bool) (xs : List ℕ) → Agree v w xs
    → list_any (λ x. nat_eq x id || v x) xs ≡ list_any (λ x. nat_eq x id || w x) xs
any_same id v w [] h = refl
any_same id v w (x ∷ xs) h = rw (h.0, any_same id v w xs h.1)

below_local : (id : ℕ) (v w : ℕ → Bool) (node : PlanNode) → Agree v w (named_by node) → below_from id v node ≡ below_from id w node
below_local id v w node h =
    any_same id v w (children_of node) (front_agrees v w (children_of node) (option_to_list (body_of node)) h)

pub one_sum : (v : ℕ → ℕ) (x : ℕ) → v x ≡ sum_by v (x ∷ [])
one_sum v x = let e = sum_by-cons v x [] in omega (arith, e)

-- the sum over children is that over the list of them
sums : (v : ℕ → ℕ) (xs : List ℕ) → sum_over v xs ≡ sum_by v xs
sums v [] = refl
sums v (x ∷ []) = one_sum v x
sums v (x ∷ y ∷ xs) = let e = sum_by-cons v x (y ∷ xs) in omega (arith, e, sums v (y ∷ xs))

pub children_sum : (v : ℕ → ℕ) (node : PlanNode) → sum_over_children v node ≡ sum_by v (children_of node)
children_sum v node = sums v (children_of node)

-- children are named first
pub children_all : (P : ℕ → Type 0) (node : PlanNode) → All P (named_by node) → All P (children_of node)
children_all P node h = all_left P (children_of node) (option_to_list (body_of node)) h

-- ---- what a node reaches

module _ (nodes : List PlanNode) (limit : ℕ) (order : AreInOrder nodes limit) where
  pub below-node : (number : ℕ) (node : PlanNode) → number < limit → slice_get nodes number ≡ Some node → (id : ℕ)
      → lies_below nodes id number ≡ list_any (λ child. reaches nodes child id) (children_of node)
  unfolding lies_below
  below-node number node in_limit is id =
      nodewise-node (below_from id) false nodes limit order (λ number node below is v w h. below_local id v w node h) number node in_limit is

-- ---- each node once

-- sums of values that are at most others
pub sum_by-most : (f g : ℕ → ℕ) (xs : List ℕ) → All (λ x. f x ≤ g x) xs → sum_by f xs ≤ sum_by g xs
sum_by-most f g [] h = omega arith
sum_by-most f g (x ∷ xs) h =
    let a = sum_by-cons f x xs in let b = sum_by-cons g x xs in
    let first = All-head (λ y. f y ≤ g y) x xs h in
    omega (arith, a, b, first, sum_by-most f g xs (All-tail (λ y. f y ≤ g y) x xs h))

-- a total that counts a node's own part for each use
abbrev pub IsTotal : List PlanNode → (ℕ → ℕ) → (ℕ → ℕ) → Type 0
IsTotal nodes own total = (number : ℕ) (node : PlanNode) → slice_get nodes number ≡ Some node
    → total number ≡ sum_over_children total node + own number

module _ (nodes : List PlanNode) (order : AreInOrder nodes (length nodes)) (own total : ℕ → ℕ) (is_total : IsTotal nodes own total) (limit : ℕ) where
  once : (bound number : ℕ) → number < bound → number < length nodes → sum_where (reaches nodes number) own limit ≤ total number
  once zero number h within = absurd (omega (arith, h))
  once (suc bound) number h within =
      let there = get_there nodes number within in
      let before = children_all (λ child. child < number) there.0 (order number there.0 within there.1) in
      let split : sum_where (reaches nodes number) own limit ≤ sum_where (nat_eq number) own limit + sum_where (λ id. lies_below nodes id number) own limit =
      sum-either (nat_eq number) (λ id. lies_below nodes id number) own limit in
      let first = sum-one own number limit in
      let same : sum_where (λ id. lies_below nodes id number) own limit ≡ sum_where (λ id. list_any (λ child. reaches nodes child id) (children_of there.0)) own limit =
      sum-same own (λ id. lies_below nodes id number) (λ id. list_any (λ child. reaches nodes child id) (children_of there.0))
      (below-node nodes (length nodes) order number there.0 within there.1) limit in
      let rest = sum-any (reaches nodes) own limit (children_of there.0) in
      let each : sum_by (λ child. sum_where (reaches nodes child) own limit) (children_of there.0) ≤ sum_by total (children_of there.0) =
      sum_by-most (λ child. sum_where (reaches nodes child) own limit) total (children_of there.0)
      (λ k d below. once bound (get_or (children_of there.0) k d) (omega (arith, before k d below, h)) (omega (arith, before k d below, within))) in
      omega (arith, split, first, same, rest, each, children_sum total there.0, is_total number there.0 there.1)

  pub once_from_one : (root : ℕ) → root < length nodes → sum_where (reaches nodes root) own limit ≤ total root
  once_from_one root within = once (suc root) root (omega arith) within

  -- so do some roots together
  pub once_for_all : (roots : List ℕ) → All (λ root. root < length nodes) roots → sum_where (reached nodes roots) own limit ≤ sum_by total roots
  once_for_all roots h =
      let any = sum-any (reaches nodes) own limit roots in
      let each = sum_by-most (λ root. sum_where (reaches nodes root) own limit) total roots
      (λ k d below. once_from_one (get_or roots k d) (h k d below)) in
      omega (arith, any, each)

-- ---- weight, registers, keys and memories

module _ (follow : NodesFollowTables) (nodes : List PlanNode) (plan : IsPlan nodes) where
  pub weight_is_total : IsTotal nodes (weight_part nodes) (weight_of nodes)
  weight_is_total number node is = rw is ((follow nodes number node plan is).weight)

  pub lean_is_total : IsTotal nodes (lean_part nodes) (lean_of nodes)
  lean_is_total number node is = rw is ((follow nodes number node plan is).lean)

  pub keys_is_total : IsTotal nodes (keys_part nodes) (keys_of nodes)
  keys_is_total number node is = rw is ((follow nodes number node plan is).keys)

  pub store_is_total : IsTotal nodes (store_part nodes) (store_of nodes)
  store_is_total number node is = rw is ((follow nodes number node plan is).store)

-- what roots reach below any limit
pub record AreOnce (nodes : List PlanNode) (roots : List ℕ) (limit : ℕ) : Type 0 where
  pub weight : sum_where (reached nodes roots) (weight_part nodes) limit ≤ sum_by (weight_of nodes) roots
  pub lean : sum_where (reached nodes roots) (lean_part nodes) limit ≤ sum_by (lean_of nodes) roots
  pub keys : sum_where (reached nodes roots) (keys_part nodes) limit ≤ sum_by (keys_of nodes) roots
  pub store : sum_where (reached nodes roots) (store_part nodes) limit ≤ sum_by (store_of nodes) roots

pub once_below : NodesFollowTables → (nodes : List PlanNode) (roots : List ℕ) (limit : ℕ) → IsPlan nodes → All (λ root. root < length nodes) roots
    → AreOnce nodes roots limit
once_below follow nodes roots limit plan rooted =
    let order = in_order nodes plan (length nodes) in
    record {
      weight = once_for_all nodes order (weight_part nodes) (weight_of nodes) (weight_is_total follow nodes plan) limit roots rooted;
      lean = once_for_all nodes order (lean_part nodes) (lean_of nodes) (lean_is_total follow nodes plan) limit roots rooted;
      keys = once_for_all nodes order (keys_part nodes) (keys_of nodes) (keys_is_total follow nodes plan) limit roots rooted;
      store = once_for_all nodes order (store_part nodes) (store_of nodes) (store_is_total follow nodes plan) limit roots rooted;
    }

pub once_is_less : NodesFollowTables → OnceIsLess
once_is_less follow nodes roots plan rooted =
    let h = once_below follow nodes roots (length nodes) plan rooted in
    record { weight = h.weight; lean = h.lean; keys = h.keys; store = h.store }
