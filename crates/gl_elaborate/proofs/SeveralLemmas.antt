-- The plan of several statements: those behind a statement leave its root as it is.
use Rattle.std.proofs.Common.{◌≡◌, ℕ, ◌<◌, ◌≤◌, List, [], ◌∷◌, slice_get, length, refl, sym, ◌∙◌, arith}
use Rattle.std.specs.List.{AllByRecursion, AllZip}
use Rattle.gl_schema.specs.declared.schema.Schema.{Schema}
use Rattle.gl_query.specs.declared.tree.Statement.{Statement}
use Rattle.gl_query.specs.Checked.{IsChecked}
use Rattle.gl_query.specs.Laws.{ResultsAreLong}
use Rattle.gl_algebra.specs.declared.node.PlanNode.{PlanNode}
use Rattle.gl_algebra.specs.Fits.{IsPlan}
use Rattle.gl_algebra.specs.Known.{AreKnown}
use Rattle.gl_algebra.specs.Results.{IsPlanResult}
use Rattle.gl_algebra.proofs.FigureLemmas.{figures-kept}
use Rattle.gl_algebra.proofs.PlanLemmas.{in_order}
use Rattle.gl_algebra.proofs.ResultLemmas.{meaning-kept, moved}
use Rattle.gl_algebra.proofs.ShapeLemmas.{shape-kept}
use Rattle.gl_root_gaps.proofs.GapLemmas.{ticks-kept}
use Rattle.gl_elaborate.specs.Laws.{IsRightAt, SeveralAreRight, leaf_inputs, parameter_widths}
use Rattle.gl_elaborate.specs.Plans.{Several, plan_behind, plans_of}
use Rattle.gl_elaborate.proofs.StatementLemmas.{empty, known-behind, right-behind}

-- a plan that has the nodes of another in front has what stood there
right-kept : (old new : List PlanNode) (schema : Schema) (statement : Statement) (root : ℕ) → IsPlan old
    → ((n : ℕ) → n < length old → slice_get new n ≡ slice_get old n) → length old ≤ length new
    → IsRightAt old schema statement root → IsRightAt new schema statement root
right-kept old new schema statement root plan kept longer at =
    let order = in_order old plan (length old) in
    let here = at.within in
    let meaning = meaning-kept old new (length old) order kept root here in
    record {
      within = omega (arith, here, longer);
      shape = sym (shape-kept old new (length old) order kept root here) ∙ at.shape;
      figures = sym (figures-kept old new (length old) order kept root here) ∙ at.figures;
      ticks = sym (ticks-kept old new (length old) order kept root here) ∙ at.ticks;
      results = λ inputs body out spill rows r.
          at.results inputs body out spill rows (moved (IsPlanResult new root) (IsPlanResult old root) (sym meaning) (leaf_inputs inputs body) out spill r);
    }

-- the nodes of several statements behind a plan's nodes, and what each root is there
record AreRightBehind (old : List PlanNode) (schema : Schema) (statements : List Statement) (all : Several) : Type 0 where
  plan : IsPlan all.nodes
  known : AreKnown (parameter_widths schema) old → AreKnown (parameter_widths schema) all.nodes
  longer : length old ≤ length all.nodes
  kept : (n : ℕ) → n < length old → slice_get all.nodes n ≡ slice_get old n
  each : AllZip (IsRightAt all.nodes schema) statements all.roots

all-right : ResultsAreLong → (statements : List Statement) (nodes : List PlanNode) (schema : Schema) → AllByRecursion (IsChecked schema) statements → IsPlan nodes
    → AreRightBehind nodes schema statements (plans_of nodes schema statements)
all-right lengths [] nodes schema checked plan = record { plan = plan; known = λ known. known; longer = omega arith; kept = λ n below. refl; each = tt }
all-right lengths (s ∷ statements) nodes schema checked plan =
    let first = right-behind lengths nodes schema s checked.0 plan in
    let at = plan_behind nodes schema s in
    let rest = all-right lengths statements at.nodes schema checked.1 first.over.plan in
    let over = first.over in
    record {
      plan = rest.plan;
      known = λ known. rest.known (known-behind nodes schema s checked.0 known);
      longer = omega (arith, over.longer, rest.longer);
      kept = λ n below. rest.kept n (omega (arith, below, over.longer)) ∙ over.kept n below;
      each = (right-kept at.nodes (plans_of at.nodes schema statements).nodes schema s at.root over.plan rest.kept rest.longer first.at, rest.each);
    }

pub several-right : ResultsAreLong → SeveralAreRight
several-right lengths schema statements checked =
    let all = all-right lengths statements [] schema checked empty in
    record { plan = all.plan; known = all.known (record { each = λ number node is. absurd (cc) }); each = all.each }
