-- One step of going through a plan's nodes with their copies or weights.
use Rattle.std.proofs.Common.{◌≡◌, ℕ, ◌+◌, ◌<◌, inl, inr, List, length, Some, slice_get, sym, ap, ◌∙◌, arith}
use Rattle.std.proofs.Math.ListN.{set}
use Rattle.std.proofs.lemmas.Bool.{cases_lt}
use Rattle.std.proofs.lemmas.List.{length-set}
use Rattle.gl_algebra.specs.declared.node.PlanNode.{PlanNode}
use Rattle.gl_algebra.specs.FigureTable.{figures_of}
use Rattle.gl_algebra.specs.Fits.{IsPlan}
use Rattle.gl_algebra.specs.Laws.{NodesFollowTables}
use Rattle.gl_algebra.specs.Shapes.{shape_of}
use Rattle.gl_algebra.specs.Weights.{copies_from, copies_of, weight_of, lines_of}
use Rattle.gl_figures.specs.Answered.{capped}
use Rattle.gl_figures.specs.Known.{capped_at, weight_by, HasValues}
use Rattle.gl_figures.proofs.CapLemmas.{copies-capped, weight-capped}
use Rattle.gl_figures.proofs.PlaceLemmas.{get-written, get-other}

valued_next : (value : ℕ → ℕ) (values : List ℕ) (number own : ℕ) → HasValues value values number → number < length values
    → own ≡ capped (value number) → HasValues value (set values number own) (number + 1)
valued_next value values number own before room is = record {
  room = let same = length-set values number own in omega arith;
  each = λ k below. elim (cases_lt k number) [
    | inl earlier ↦ get-other values number k own (omega arith) ∙ before.each k earlier
    | inr past ↦ (let at : k ≡ number = omega arith in rw at (get-written values number own room ∙ ap Some is))
  ];
}

module _ (follow : NodesFollowTables) (nodes : List PlanNode) (number : ℕ) (node : PlanNode) (plan : IsPlan nodes)
    (is : slice_get nodes number ≡ Some node) (values : List ℕ) (own : ℕ) (room : number < length values) where
  pub copied_next : HasValues (copies_of nodes) values number → own ≡ capped (copies_from (capped_at (copies_of nodes)) node)
      → HasValues (copies_of nodes) (set values number own) (number + 1)
  copied_next before made =
      valued_next (copies_of nodes) values number own before room
      (made ∙ copies-capped (shape_of nodes) node (copies_of nodes) (plan.fits number node is).suits
      ∙ ap capped (sym (follow nodes number node plan is).copies))

  pub weighed_next : (lines : ℕ) → lines ≡ lines_of (shape_of nodes number) → HasValues (weight_of nodes) values number
      → own ≡ capped (weight_by nodes lines node) → HasValues (weight_of nodes) (set values number own) (number + 1)
  weighed_next lines lined before made =
      let follows = follow nodes number node plan is in
      valued_next (weight_of nodes) values number own before room
      (made ∙ ap (λ n. capped (weight_by nodes n node)) (lined ∙ ap lines_of follows.shape)
      ∙ weight-capped (shape_of nodes) (figures_of nodes) _ node (weight_of nodes) (plan.fits number node is).suits
      ∙ ap capped (sym follows.weight))
