-- What putting marked nodes asks for follows from what putting the roots asks for.
use Rattle.std.proofs.Common.{◌≡◌, ℕ, zero, suc, ◌<◌, inl, inr, Bool, true, false, List, [], ◌∷◌, length, Option, Some, slice_get, refl, sym, ◌∙◌, subst, arith}
use Rattle.std.specs.Prelude.{nat_eq}
use Rattle.std.specs.List.{AllByRecursion, list_any}
use Rattle.std.proofs.lemmas.Bool.{eq-eqb, eqb-true}
use Rattle.std.proofs.lemmas.List.Elements.{All-from_recursion}
use Rattle.gl_bits.proofs.AllLists.{get_there}
use Rattle.gl_bits.proofs.Bools.{or_cases, or_left, or_right}
use Rattle.gl_algebra.specs.declared.figures.Figures.{Figures}
use Rattle.gl_algebra.specs.declared.node.PlanNode.{PlanNode}
use Rattle.gl_algebra.specs.declared.node.PlanNode.TheVariants.{Stream, Body, Compute, Select, Project, Frames, Aggregate, Union, Merge, Beside, Window, TimeWindow, Group, Partition}
use Rattle.gl_algebra.specs.Fits.{IsPlan}
use Rattle.gl_algebra.specs.Views.{children_of}
use Rattle.gl_algebra.proofs.PlanLemmas.{in_order}
use Rattle.gl_net.specs.declared.node.Bit.{Bit}
use Rattle.gl_net.specs.Net.{Net, Keeps}
use Rattle.gl_net.proofs.Growth.{same_keeps}
use Rattle.gl_figures.specs.Marks.{AreMarks}
use Rattle.gl_figures.specs.Reach.{lies_below, reaches}
use Rattle.gl_figures.proofs.MarkLemmas.{all_of, any_of, any_with, child-reached}
use Rattle.gl_figures.proofs.ReachLemmas.{below-node, children_all}
use Rattle.gl_wire.specs.declared.wire.Wire.{Wire}
use Rattle.gl_wire.proofs.FaultLemmas.{line_kept}
use Rattle.gl_wiring.specs.Below.{LawsBelow}
use Rattle.gl_wiring.specs.Put.{CanPut}
use Rattle.gl_wiring.specs.Tables.{CanPutMarked}
use Rattle.gl_wiring.proofs.CanLemmas.{can_child, can_left, can_right, leaves_kept}

-- what holds of each of some numbers
pub all_by : (P : ℕ → Type 0) (xs : List ℕ) → ((x : ℕ) → list_any (λ y. nat_eq y x) xs ≡ true → P x) → AllByRecursion P xs
all_by P [] h = tt
all_by P (x ∷ xs) h = (
  h x (or_left (nat_eq x x) (list_any (λ y. nat_eq y x) xs) (eq-eqb x x refl)),
  all_by P xs (λ y is. h y (or_right (nat_eq x y) (list_any (λ z. nat_eq z y) xs) is)),
)

-- what can be put can be put in every larger netlist
pub can_kept : (nodes : List PlanNode) (figures : List Figures) (id : ℕ) (old new : Net) (tick : Option Bit) (leaves : List Wire) → Keeps old new
    → CanPut nodes figures id old tick leaves → CanPut nodes figures id new tick leaves
can_kept nodes figures id old new tick leaves keeps can = record {
  within = can.within;
  figured = can.figured;
  leaved = leaves_kept old new leaves _ keeps can.leaved;
  ticked = line_kept old new tick keeps can.ticked;
  timed = can.timed;
}

pub marked_kept : (nodes : List PlanNode) (figures : List Figures) (marks : List Bool) (old new : Net) (tick : Option Bit) (leaves : List Wire) → Keeps old new
    → CanPutMarked nodes figures marks old tick leaves → CanPutMarked nodes figures marks new tick leaves
marked_kept nodes figures marks old new tick leaves keeps can = record {
  as_many = can.as_many;
  closed = can.closed;
  can = λ id marked. can_kept nodes figures id old new tick leaves keeps (can.can id marked);
}

module _ (laws : LawsBelow) (nodes : List PlanNode) (figures : List Figures) (net : Net) (tick : Option Bit) (leaves : List Wire) (plan : IsPlan nodes) where
  abbrev Can : ℕ → Type 0
  Can id = CanPut nodes figures id net tick leaves

  -- the children of what can be put
  can_children : (id : ℕ) (node : PlanNode) → slice_get nodes id ≡ Some node → Can id → AllByRecursion Can (children_of node)
  can_children id (Stream number kinds) at can = tt
  can_children id (Body kinds) at can = tt
  can_children id (Compute child ops) at can = ((can_child laws nodes figures id (Compute child ops) net tick leaves plan at can child [] refl refl).can, tt)
  can_children id (Select child column) at can = ((can_child laws nodes figures id (Select child column) net tick leaves plan at can child [] refl refl).can, tt)
  can_children id (Project child items) at can = ((can_child laws nodes figures id (Project child items) net tick leaves plan at can child [] refl refl).can, tt)
  can_children id (Frames child by items) at can = ((can_child laws nodes figures id (Frames child by items) net tick leaves plan at can child [] refl refl).can, tt)
  can_children id (Aggregate child aggs) at can = ((can_child laws nodes figures id (Aggregate child aggs) net tick leaves plan at can child [] refl refl).can, tt)
  can_children id (Union left right) at can = (
    (can_left laws nodes figures id (Union left right) net tick leaves plan at can left right refl refl).can,
    ((can_right laws nodes figures id (Union left right) net tick leaves plan at can net left right refl refl (same_keeps net)).can, tt),
  )
  can_children id (Merge left right) at can = (
    (can_left laws nodes figures id (Merge left right) net tick leaves plan at can left right refl refl).can,
    ((can_right laws nodes figures id (Merge left right) net tick leaves plan at can net left right refl refl (same_keeps net)).can, tt),
  )
  can_children id (Beside left right) at can = (
    (can_left laws nodes figures id (Beside left right) net tick leaves plan at can left right refl refl).can,
    ((can_right laws nodes figures id (Beside left right) net tick leaves plan at can net left right refl refl (same_keeps net)).can, tt),
  )
  can_children id (Window source body size advance) at can =
      ((can_child laws nodes figures id (Window source body size advance) net tick leaves plan at can source (body ∷ []) refl refl).can, tt)
  can_children id (TimeWindow source body size advance) at can =
      ((can_child laws nodes figures id (TimeWindow source body size advance) net tick leaves plan at can source (body ∷ []) refl refl).can, tt)
  can_children id (Group source body key groups) at can =
      ((can_child laws nodes figures id (Group source body key groups) net tick leaves plan at can source (body ∷ []) refl refl).can, tt)
  can_children id (Partition source body key groups size advance) at can =
      ((can_child laws nodes figures id (Partition source body key groups size advance) net tick leaves plan at can source (body ∷ []) refl refl).can, tt)

  -- and all that it reaches
  can_reached : (bound root : ℕ) → root < bound → Can root → (id : ℕ) → reaches nodes root id ≡ true → Can id
  can_reached zero root below can id reach = absurd (omega (arith, below))
  can_reached (suc bound) root below can id reach =
      elim (or_cases (nat_eq root id) (lies_below nodes id root) reach) [
        | inl e ↦ (let same : root ≡ id = eqb-true root id e in subst Can same can)
        | inr e ↦ (let there = get_there nodes root can.within in
            let order = in_order nodes plan (length nodes) in
            let found = any_of (λ child. reaches nodes child id) (children_of there.0)
            (sym (below-node nodes (length nodes) order root there.0 can.within there.1 id) ∙ e) in
            let before : found.0 < root = all_of (λ child. child < root) (children_of there.0) found.0
            (children_all (λ child. child < root) there.0 (order root there.0 can.within there.1)) found.1 in
            let can_it : Can found.0 = all_of Can (children_of there.0) found.0
            (All-from_recursion Can (children_of there.0) (can_children root there.0 there.1 can)) found.1 in
            can_reached bound found.0 (omega (arith, before, below)) can_it id found.2)
      ]

  -- so what roots reach can be put, and its children are reached too
  pub can_marked : (roots : List ℕ) (marks : List Bool) → AreMarks nodes roots marks
      → ((root : ℕ) → list_any (λ r. nat_eq r root) roots ≡ true → Can root) → CanPutMarked nodes figures marks net tick leaves
  can_marked roots marks are can = record {
    as_many = are.as_many;
    closed = λ id node at marked.
        let found = any_of (λ root. reaches nodes root id) roots (sym (are.each id) ∙ marked) in
        let order = in_order nodes plan (length nodes) in
        all_by _ (children_of node)
        (λ child is. are.each child
        ∙ any_with (λ root. reaches nodes root child) roots found.0 found.1
        (or_right (nat_eq found.0 child) (lies_below nodes child found.0)
        (child-reached nodes order (suc found.0) found.0 (omega arith) (can found.0 found.1).within id node at found.2 child is)));
    can = λ id marked.
        let found = any_of (λ root. reaches nodes root id) roots (sym (are.each id) ∙ marked) in
        can_reached (suc found.0) found.0 (omega arith) (can found.0 found.1) id found.2;
  }

  pub one_marked : (root : ℕ) (marks : List Bool) → AreMarks nodes (root ∷ []) marks → Can root → CanPutMarked nodes figures marks net tick leaves
  one_marked root marks are can =
      can_marked (root ∷ []) marks are
      (λ x is. elim (or_cases (nat_eq root x) false is) [
        | inl e ↦ (let same : root ≡ x = eqb-true root x e in subst Can same can)
        | inr e ↦ absurd (cc)
      ])
