-- One step of going through a plan's nodes with their figures.
use Rattle.std.proofs.Common.{◌≡◌, ℕ, ◌+◌, ◌<◌, ◌≤◌, inl, inr, List, length, Some, None, slice_get, refl, sym, ap, ◌∙◌, arith}
use Rattle.std.proofs.Math.ListN.{set}
use Rattle.std.proofs.lemmas.Bool.{cases_lt}
use Rattle.std.proofs.lemmas.List.{length-set}
use Rattle.std.proofs.lemmas.List.Elements.{recursion_from_All}
use Rattle.std.proofs.lemmas.Option.{slice_get_within}
use Rattle.std.specs.List.{AllByRecursion}
use Rattle.gl_algebra.specs.declared.figures.Figures.{Figures}
use Rattle.gl_algebra.specs.declared.node.PlanNode.{PlanNode}
use Rattle.gl_algebra.specs.FigureTable.{input_figures, figures_from, figures_of}
use Rattle.gl_algebra.specs.Fits.{IsPlan}
use Rattle.gl_algebra.specs.Laws.{NodesFollowTables}
use Rattle.gl_algebra.specs.Nodewise.{named_by}
use Rattle.gl_algebra.specs.Shapes.{shape_of}
use Rattle.gl_algebra.specs.Small.{are_small, small_of}
use Rattle.gl_algebra.proofs.SmallLemmas.{small-is, small-not}
use Rattle.gl_figures.specs.Answered.{AreSmallBefore, IsLate}
use Rattle.gl_figures.specs.declared.Limit.TheVariants.{Latency}
use Rattle.gl_figures.specs.Known.{HasFigures}
use Rattle.gl_figures.proofs.PlaceLemmas.{get-written, get-other}

pub input-small : small_of input_figures ≡ Some input_figures
unfolding small_of are_small
input-small = refl

-- the figures of the nodes before one stand in their places, and are small
pub record IsFigured (nodes : List PlanNode) (old new : List Figures) (number : ℕ) : Type 0 where
  pub known : HasFigures nodes new number
  pub small : AreSmallBefore nodes number
  pub behind : (k : ℕ) → number ≤ k → slice_get new k ≡ slice_get old k

pub names_before : (nodes : List PlanNode) (number : ℕ) (node : PlanNode) → IsPlan nodes → slice_get nodes number ≡ Some node
    → AllByRecursion (λ child. child < number) (named_by node)
names_before nodes number node plan is = recursion_from_All (λ child. child < number) (named_by node) (plan.fits number node is).before

module _ (follow : NodesFollowTables) (nodes : List PlanNode) (number : ℕ) (node : PlanNode) (plan : IsPlan nodes)
    (is : slice_get nodes number ≡ Some node) where
  -- the node's own figures
  pub own_figures : figures_of nodes number ≡ figures_from (shape_of nodes) (figures_of nodes) node
  own_figures = (follow nodes number node plan is).figures

  pub figured_next : (old new : List Figures) (own : Figures) → IsFigured nodes old new number → number < length new
      → small_of (figures_from (shape_of nodes) (figures_of nodes) node) ≡ Some own → IsFigured nodes old (set new number own) (number + 1)
  figured_next old new own before room some =
      let found = small-is (figures_from (shape_of nodes) (figures_of nodes) node) own some in
      record {
        known = record {
          room = let same = length-set new number own in omega arith;
          each = λ k below. elim (cases_lt k number) [
            | inl earlier ↦ get-other new number k own (omega arith) ∙ before.known.each k earlier
            | inr past ↦ (let at : k ≡ number = omega arith in
                rw at (get-written new number own room ∙ ap Some (found.0 ∙ sym own_figures)))
          ];
        };
        small = λ k below. elim (cases_lt k number) [
          | inl earlier ↦ before.small k earlier
          | inr past ↦ (let at : k ≡ number = omega arith in rw (at, own_figures) found.1)
        ];
        behind = λ k past. get-other new number k own (omega arith) ∙ before.behind k (omega arith);
      }

  pub figured_late : (old new : List Figures) → IsFigured nodes old new number
      → small_of (figures_from (shape_of nodes) (figures_of nodes) node) ≡ None → IsLate nodes old new (Latency number)
  figured_late old new before none = record {
    node = number;
    is = refl;
    within = slice_get_within nodes number node is;
    large = λ small. small-not (figures_from (shape_of nodes) (figures_of nodes) node) none (rw own_figures at small);
    first = before.small;
    before = before.known.each;
    behind = before.behind;
  }
