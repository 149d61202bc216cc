-- One more node that fits makes a plan of a plan, unless the plan has it already.
use Rattle.std.proofs.Common.{◌≡◌, ℕ, zero, suc, ◌<◌, ◌≤◌, true, false, List, [], ◌∷◌, ◌++◌, length, Some, slice_get, Contains, refl, sym, ap, ◌∙◌, arith}
use Rattle.std.specs.List.{list_any}
use Rattle.std.proofs.lemmas.Option.{slice_get-get_or}
use Rattle.indexmap.specs.IndexSet.{insert_key}
use Rattle.gl_algebra.specs.declared.node.PlanNode.{PlanNode}
use Rattle.gl_algebra.specs.Added.{same_node}
use Rattle.gl_algebra.specs.Fits.{Fits, IsPlan}
use Rattle.gl_algebra.proofs.ListLemmas.{get-append, earlier, last, place_in_append, any_at, IsInserted, inserted}
use Rattle.gl_algebra.proofs.NodeEquality.{same_node-is, same_node-self}
use Rattle.gl_bits.proofs.Bools.{by_cases}
use Rattle.gl_algebra.proofs.NodewiseLemmas.{AreInOrder}
use Rattle.gl_algebra.proofs.ShapeLemmas.{fits-kept}

-- the nodes of a plan stand in order
pub in_order : (nodes : List PlanNode) → IsPlan nodes → (limit : ℕ) → AreInOrder nodes limit
in_order nodes plan limit number node below is = (plan.fits number node is).before

-- a list that has a node has one that passes the test with it
pub any_from_get : (nodes : List PlanNode) (node : PlanNode) (i : ℕ) → slice_get nodes i ≡ Some node → list_any (same_node node) nodes ≡ true
any_from_get nodes node i is = any_at (same_node node) nodes i node is (same_node-self node)

pub any_from_contains : (nodes : List PlanNode) (node : PlanNode) → Contains nodes node → list_any (same_node node) nodes ≡ true
any_from_contains nodes node c =
    any_from_get nodes node c.0 (slice_get-get_or nodes c.0 node c.1 ∙ ap Some c.2)

-- what adding a node leaves
pub node_inserted : (nodes : List PlanNode) (node : PlanNode) → IsInserted same_node nodes node
node_inserted = inserted same_node same_node-is

-- the plan with a node that is not in it
pub plan-append : (nodes : List PlanNode) (node : PlanNode) → IsPlan nodes → Fits nodes (length nodes) node
    → list_any (same_node node) nodes ≡ false → IsPlan (nodes ++ node ∷ [])
plan-append nodes node plan fits fresh = record { fits = keeps; distinct = apart }
  where
    wider : (number : ℕ) (x : PlanNode) → number ≤ length nodes → Fits nodes number x → Fits (nodes ++ node ∷ []) number x
    wider = fits-kept nodes (nodes ++ node ∷ []) (length nodes) (in_order nodes plan (length nodes)) (get-append nodes (node ∷ []))

    keeps : (number : ℕ) (x : PlanNode) → slice_get (nodes ++ node ∷ []) number ≡ Some x → Fits (nodes ++ node ∷ []) number x
    keeps number x is =
        elim (place_in_append nodes node number x is) [
          | earlier below at ↦ wider number x (omega arith) (plan.fits number x at)
          | last at same ↦ rw (at, same) (wider (length nodes) node (omega arith) fits)
        ]

    absent : (i : ℕ) → slice_get nodes i ≡ Some node → ⊥
    absent i is = let e = any_from_get nodes node i is in cc

    apart : (i j : ℕ) (x : PlanNode) → slice_get (nodes ++ node ∷ []) i ≡ Some x → slice_get (nodes ++ node ∷ []) j ≡ Some x → i ≡ j
    apart i j x is js =
        elim (place_in_append nodes node i x is) [
          | earlier below at ↦ elim (place_in_append nodes node j x js) [
            | earlier below' at' ↦ plan.distinct i j x at at'
            | last at' same' ↦ absurd (absent i (at ∙ ap Some same'))
          ]
          | last at same ↦ elim (place_in_append nodes node j x js) [
            | earlier below' at' ↦ absurd (absent j (at' ∙ ap Some same))
            | last at' same' ↦ at ∙ sym at'
          ]
        ]

-- a plan stays one, whether it had the node or not
pub plan-insert : (nodes : List PlanNode) (node : PlanNode) → IsPlan nodes → Fits nodes (length nodes) node → IsPlan (insert_key same_node nodes node)
plan-insert nodes node plan fits =
    by_cases (list_any (same_node node) nodes) (λ e. rw e plan) (λ e. rw e (plan-append nodes node plan fits e))

-- a number below the length has a node
pub node_at : (nodes : List PlanNode) (number : ℕ) → number < length nodes → (node : PlanNode) × (slice_get nodes number ≡ Some node)
node_at [] number below = absurd (omega arith)
node_at (x ∷ xs) zero below = (x, refl)
node_at (x ∷ xs) (suc number) below = node_at xs number (omega arith)

-- what holds of a node where it holds of all before it holds of every node
module _ {ℓ} (nodes : List PlanNode) (plan : IsPlan nodes) (P : ℕ → Type ℓ)
    (next : (number : ℕ) (node : PlanNode) → slice_get nodes number ≡ Some node → Fits nodes number node
    → ((child : ℕ) → child < number → P child) → P number) where
  below_bound : (bound number : ℕ) → number < bound → number < length nodes → P number
  below_bound zero number below within = absurd (omega arith)
  below_bound (suc bound) number below within =
      let found = node_at nodes number within in
      next number found.0 found.1 (plan.fits number found.0 found.1) (λ child before. below_bound bound child (omega arith) (omega arith))

  pub by_nodes : (number : ℕ) → number < length nodes → P number
  by_nodes number within = below_bound (suc number) number (omega arith) within
