-- The value of a node is that of its step over the nodes that it names, and later nodes change none.
use Rattle.std.proofs.Common.{◌≡◌, ℕ, zero, suc, ◌<◌, List, [], ◌∷◌, Option, Some, None, slice_get, All, refl, sym, ap, ◌∙◌, arith}
use Rattle.std.proofs.lemmas.List.Elements.{All-head, All-tail}
use Rattle.gl_algebra.specs.declared.node.PlanNode.{PlanNode}
use Rattle.gl_algebra.specs.Nodewise.{named_by, value_at_node, value_to_depth, nodewise}

-- two functions have one value at each of some numbers
abbrev pub Agree {ℓ} : {A : Type ℓ} → (ℕ → A) → (ℕ → A) → List ℕ → Type ℓ
Agree v w [] = Unit
Agree v w (number ∷ numbers) = (v number ≡ w number) × Agree v w numbers

pub agree {ℓ} : {A : Type ℓ} (v w : ℕ → A) (limit : ℕ) → ((number : ℕ) → number < limit → v number ≡ w number)
    → (numbers : List ℕ) → All (λ number. number < limit) numbers → Agree v w numbers
agree v w limit same [] below = tt
agree v w limit same (number ∷ numbers) below =
    (same number (All-head (λ n. n < limit) number numbers below), agree v w limit same numbers (All-tail (λ n. n < limit) number numbers below))

pub agree_self {ℓ} : {A : Type ℓ} (v : ℕ → A) (numbers : List ℕ) → Agree v v numbers
agree_self v [] = tt
agree_self v (number ∷ numbers) = (refl, agree_self v numbers)

-- two steps give a node the same value where the nodes that it names have the same values
abbrev pub SameSteps {ℓ} : {A : Type ℓ} → ((ℕ → A) → PlanNode → A) → ((ℕ → A) → PlanNode → A) → List PlanNode → ℕ → Type ℓ
SameSteps {A} step step' nodes limit = (number : ℕ) (node : PlanNode) → number < limit → slice_get nodes number ≡ Some node
    → (v w : ℕ → A) → Agree v w (named_by node) → step v node ≡ step' w node

-- each node below a limit stands after those that it names
abbrev pub AreInOrder : List PlanNode → ℕ → Type 0
AreInOrder nodes limit = (number : ℕ) (node : PlanNode) → number < limit → slice_get nodes number ≡ Some node
    → All (λ child. child < number) (named_by node)

-- what a table has for a node is the node's row over what it has for all nodes
abbrev pub FollowsRow {ℓ} : {A : Type ℓ} → (List PlanNode → ℕ → A) → (List PlanNode → (ℕ → A) → PlanNode → A) → Type ℓ
FollowsRow table row = (nodes : List PlanNode) (limit : ℕ) → AreInOrder nodes limit → (number : ℕ) (node : PlanNode)
    → number < limit → slice_get nodes number ≡ Some node → table nodes number ≡ row nodes (table nodes) node

module _ {ℓ} {A : Type ℓ} (step step' : (ℕ → A) → PlanNode → A) (absent : A) (nodes nodes' : List PlanNode) (limit : ℕ)
    (order : AreInOrder nodes limit) (steps : SameSteps step step' nodes limit)
    (kept : (number : ℕ) → number < limit → slice_get nodes' number ≡ slice_get nodes number) where
  -- depths past a node's number all give the node's value
  at_depths : (depth depth' number : ℕ) → number < limit → number < depth → number < depth'
      → value_to_depth step absent nodes depth number ≡ value_to_depth step' absent nodes' depth' number
  unfolding value_to_depth
  at_depths zero depth' number in_limit in_depth in_depth' = absurd (omega arith)
  at_depths (suc depth) zero number in_limit in_depth in_depth' = absurd (omega arith)
  at_depths (suc depth) (suc depth') number in_limit in_depth in_depth' =
      let here : (found : Option PlanNode) → slice_get nodes number ≡ found
      → value_at_node (step (value_to_depth step absent nodes depth)) absent found
      ≡ value_at_node (step' (value_to_depth step' absent nodes' depth')) absent found =
      elim [
        | None ↦ λ is. refl
        | Some node ↦ λ is. steps number node in_limit is _ _
            (agree (value_to_depth step absent nodes depth) (value_to_depth step' absent nodes' depth') number
            (λ child below. at_depths depth depth' child (omega arith) (omega arith) (omega arith))
            (named_by node) (order number node in_limit is))
      ] in
      here (slice_get nodes number) refl
      ∙ ap (λ found. value_at_node (step' (value_to_depth step' absent nodes' depth')) absent found) (sym (kept number in_limit))

  -- lists that agree below a limit give the same values there
  pub nodewise-kept : (number : ℕ) → number < limit → nodewise step absent nodes number ≡ nodewise step' absent nodes' number
  unfolding nodewise
  nodewise-kept number in_limit = at_depths (suc number) (suc number) number in_limit (omega arith) (omega arith)

module _ {ℓ} {A : Type ℓ} (step : (ℕ → A) → PlanNode → A) (absent : A) (nodes : List PlanNode) (limit : ℕ)
    (order : AreInOrder nodes limit) (steps : SameSteps step step nodes limit) where
  -- a node's value is its step over the values of all nodes
  pub nodewise-node : (number : ℕ) (node : PlanNode) → number < limit → slice_get nodes number ≡ Some node
      → nodewise step absent nodes number ≡ step (nodewise step absent nodes) node
  unfolding nodewise value_to_depth
  nodewise-node number node in_limit is =
      ap (λ found. value_at_node (step (value_to_depth step absent nodes number)) absent found) is
      ∙ steps number node in_limit is _ _
      (agree (value_to_depth step absent nodes number) (λ child. value_to_depth step absent nodes (suc child) child) number
      (λ child below. at_depths step step absent nodes nodes limit order steps (λ _ _. refl)
      number (suc child) child (omega arith) below (omega arith))
      (named_by node) (order number node in_limit is))
