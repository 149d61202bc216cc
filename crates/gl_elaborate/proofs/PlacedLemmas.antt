-- What adding nodes to a plan gives.
use Rattle.std.proofs.Common.{◌≡◌, ℕ, ◌<◌, ◌≤◌, List, Some, length, slice_get, sym, ◌∙◌, arith}
use Rattle.std.proofs.lemmas.Option.{slice_get_within}
use Rattle.gl_algebra.specs.declared.node.PlanNode.{PlanNode}
use Rattle.gl_algebra.specs.Fits.{Fits, IsPlan}
use Rattle.gl_algebra.specs.Nodewise.{named_by}
use Rattle.gl_algebra.specs.Shapes.{shape_from, shape_of}
use Rattle.gl_algebra.specs.Results.{arriving_from, meaning_from, IsPlanArrival, IsPlanResult}
use Rattle.gl_algebra.proofs.CallerLemmas.{get-grown, length-grown, shape-made, shape-grown}
use Rattle.gl_algebra.specs.FigureTable.{figures_from, figures_of}
use Rattle.gl_algebra.proofs.FigureLemmas.{figures_local, figures-node, figures-kept}
use Rattle.gl_algebra.proofs.NodewiseLemmas.{agree}
use Rattle.gl_algebra.proofs.PlanLemmas.{in_order, plan-insert, node_inserted}
use Rattle.gl_algebra.proofs.ResultLemmas.{arriving-node, arriving-kept, arriving_local, meaning-node, meaning-kept, meaning_local}
use Rattle.gl_algebra.specs.Added.{Placed, added}

-- a node of a plan that has the nodes of another, and perhaps more
pub record IsOver (old : List PlanNode) (at : Placed) : Type 0 where
  pub plan : IsPlan at.nodes
  pub within : at.root < length at.nodes
  pub longer : length old ≤ length at.nodes
  pub kept : (n : ℕ) → n < length old → slice_get at.nodes n ≡ slice_get old n

pub over-then : (old : List PlanNode) (at next : Placed) → IsOver old at → IsOver at.nodes next → IsOver old next
over-then old at next a b = record {
  plan = b.plan;
  within = b.within;
  longer = omega (arith, a.longer, b.longer);
  kept = λ n below. b.kept n (omega (arith, a.longer)) ∙ a.kept n below;
}

-- a node that was added: its shape and its meaning are its row's, over the nodes before
pub record IsAdded (nodes : List PlanNode) (node : PlanNode) : Type 1 where
  pub over : IsOver nodes (added nodes node)
  pub there : slice_get (added nodes node).nodes (added nodes node).root ≡ Some node
  pub shape : shape_of (added nodes node).nodes (added nodes node).root ≡ shape_from (shape_of nodes) node
  pub figures : figures_of (added nodes node).nodes (added nodes node).root ≡ figures_from (shape_of nodes) (figures_of nodes) node
  pub arrives : IsPlanArrival (added nodes node).nodes (added nodes node).root ≡ arriving_from (shape_of nodes) (IsPlanArrival nodes) node
  pub means : IsPlanResult (added nodes node).nodes (added nodes node).root ≡ meaning_from (shape_of nodes) (IsPlanArrival nodes) (IsPlanResult nodes) node

module _ (nodes : List PlanNode) (node : PlanNode) (plan : IsPlan nodes) (fits : Fits nodes (length nodes) node) where
  pub is_added : IsAdded nodes node
  unfolding added
  is_added =
      let inserted = node_inserted nodes node in
      let plan' = plan-insert nodes node plan fits in
      let at = inserted.number in
      let new = (added nodes node).nodes in
      let root = (added nodes node).root in
      let within : root < length new = slice_get_within new root node at in
      let kept : (n : ℕ) → n < length nodes → slice_get new n ≡ slice_get nodes n = get-grown nodes new node plan inserted.grows in
      let shapes : (n : ℕ) → n < length nodes → shape_of new n ≡ shape_of nodes n = shape-grown nodes new node plan inserted.grows in
      let meanings : (n : ℕ) → n < length nodes → IsPlanResult new n ≡ IsPlanResult nodes n =
      λ n below. sym (meaning-kept nodes new (length nodes) (in_order nodes plan (length nodes)) kept n below) in
      let arrivals : (n : ℕ) → n < length nodes → IsPlanArrival new n ≡ IsPlanArrival nodes n =
      λ n below. sym (arriving-kept nodes new (length nodes) (in_order nodes plan (length nodes)) kept n below) in
      let figured : (n : ℕ) → n < length nodes → figures_of new n ≡ figures_of nodes n =
      λ n below. sym (figures-kept nodes new (length nodes) (in_order nodes plan (length nodes)) kept n below) in
      record {
        figures = figures-node new (length new) (in_order new plan' (length new)) root node within at
            ∙ figures_local (shape_of new) (shape_of nodes) (figures_of new) (figures_of nodes) node
            (agree (shape_of new) (shape_of nodes) (length nodes) shapes (named_by node) fits.before)
            (agree (figures_of new) (figures_of nodes) (length nodes) figured (named_by node) fits.before);
        there = at;
        over = record { plan = plan'; within = within; longer = length-grown nodes new node plan inserted.grows; kept = kept };
        shape = (shape-made nodes new node plan inserted.grows root at plan' fits).is;
        arrives = arriving-node new (length new) (in_order new plan' (length new)) root node within at
            ∙ arriving_local (shape_of new) (shape_of nodes) (IsPlanArrival new) (IsPlanArrival nodes) node
            (agree (shape_of new) (shape_of nodes) (length nodes) shapes (named_by node) fits.before)
            (agree (IsPlanArrival new) (IsPlanArrival nodes) (length nodes) arrivals (named_by node) fits.before);
        means = meaning-node new (length new) (in_order new plan' (length new)) root node within at
            ∙ meaning_local (shape_of new) (shape_of nodes) (IsPlanArrival new) (IsPlanArrival nodes) (IsPlanResult new) (IsPlanResult nodes) node
            (agree (shape_of new) (shape_of nodes) (length nodes) shapes (named_by node) fits.before)
            (agree (IsPlanArrival new) (IsPlanArrival nodes) (length nodes) arrivals (named_by node) fits.before)
            (agree (IsPlanResult new) (IsPlanResult nodes) (length nodes) meanings (named_by node) fits.before);
      }
