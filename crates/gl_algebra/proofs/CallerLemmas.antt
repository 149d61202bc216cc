-- What callers of `add` need: the new node follows its rows, and the nodes before it are as they were.
use Rattle.std.proofs.Common.{◌≡◌, ℕ, ◌<◌, ◌≤◌, inl, inr, List, [], ◌∷◌, ◌++◌, length, Some, slice_get, refl, sym, ap, ◌∙◌, subst, arith, length-append}
use Rattle.std.proofs.lemmas.Bool.{cases_lt}
use Rattle.std.proofs.lemmas.Option.{slice_get_within}
use Rattle.gl_values.specs.declared.kind.Kind.{Kind}
use Rattle.gl_bits.proofs.AllLists.{get_last}
use Rattle.gl_bits.proofs.Bools.{by_cases}
use Rattle.gl_algebra.specs.declared.node.PlanNode.{PlanNode}
use Rattle.gl_algebra.specs.Added.{has_node, with_node, Grows, HasKinds}
use Rattle.gl_algebra.specs.Fits.{Fits, IsPlan, AreKinds, IsPlanWith}
use Rattle.gl_algebra.specs.Shapes.{Shape, shape_from, shape_of, kinds_of, kinds_over, HasShape, KeepsShapes}
use Rattle.gl_algebra.proofs.ListLemmas.{get-append}
use Rattle.gl_algebra.specs.Nodewise.{named_by}
use Rattle.gl_algebra.proofs.NodewiseLemmas.{agree}
use Rattle.gl_algebra.proofs.PlanLemmas.{in_order, plan-insert}
use Rattle.gl_algebra.proofs.ShapeLemmas.{shape-kept, shape-node, shape_local}

module _ (old new : List PlanNode) (node : PlanNode) (plan : IsPlan old) (grows : Grows old new node) where
  -- a node of the old plan is one of the new, and its shape is as it was
  pub get-grown : (number : ℕ) → number < length old → slice_get new number ≡ slice_get old number
  get-grown number below = elim grows [
    | inl same ↦ ap (λ (nodes : List PlanNode). slice_get nodes number) same
    | inr more ↦ ap (λ (nodes : List PlanNode). slice_get nodes number) more ∙ get-append old (node ∷ []) number below
  ]

  pub length-grown : length old ≤ length new
  length-grown = elim grows [
    | inl same ↦ rw same (omega arith)
    | inr more ↦ rw (more, length-append) (omega arith)
  ]

  pub shape-grown : (number : ℕ) → number < length old → shape_of new number ≡ shape_of old number
  shape-grown number below = sym (shape-kept old new (length old) (in_order old plan (length old)) get-grown number below)

  pub shapes-grown : KeepsShapes old new
  shapes-grown number shape known = record {
    within = omega (arith, known.within, length-grown);
    is = shape-grown number known.within ∙ known.is;
  }

  -- the new node has its row's shape
  pub shape-made : (id : ℕ) → slice_get new id ≡ Some node → IsPlan new → Fits old (length old) node
      → HasShape new id (shape_from (shape_of old) node)
  shape-made id at plan' fits =
      let within = slice_get_within new id node at in
      record {
        within = within;
        is = shape-node new (length new) (in_order new plan' (length new)) id node within at
            ∙ shape_local (shape_of new) (shape_of old) node
            (agree (shape_of new) (shape_of old) (length old) shape-grown (named_by node) fits.before);
      }

-- the kinds of the columns of a plan with a node, where those of the node stand last
pub kinds-insert : (nodes : List PlanNode) (node : PlanNode) (kinds : List (List Kind)) (own : List Kind) (more : List (List Kind))
    → IsPlan nodes → Fits nodes (length nodes) node → AreKinds nodes kinds → own ≡ kinds_over nodes node
    → HasKinds nodes node kinds own more → IsPlanWith (with_node nodes node) more
kinds-insert nodes node kinds own more plan fits are is has =
    let next = plan-insert nodes node plan fits in
    by_cases (has_node nodes node)
    (λ e. rw (e, has.known e) (record { plan = plan; columns = are }))
    (λ e.
    let wider : with_node nodes node ≡ nodes ++ node ∷ [] = rw e refl in
    let plan' = subst IsPlan wider next in
    let made = shape-made nodes (nodes ++ node ∷ []) node plan (inr refl) (length nodes) (get_last nodes node) plan' fits in
    let kept = shape-grown nodes (nodes ++ node ∷ []) node plan (inr refl) in
    let own_is : slice_get (kinds ++ own ∷ []) (length nodes) ≡ Some (kinds_of (nodes ++ node ∷ []) (length nodes)) =
    subst (λ n. slice_get (kinds ++ own ∷ []) n ≡ Some (kinds_of (nodes ++ node ∷ []) (length nodes))) are.as_many
    (get_last kinds own ∙ ap Some (is ∙ ap (λ (s : Shape). s.kinds) (sym made.is)))
    in
    rw (e, has.fresh e) (record {
      plan = plan';
      columns = record {
        as_many = let long = length-append kinds (own ∷ []) in let long' = length-append nodes (node ∷ []) in omega (arith, are.as_many);
        each = λ number below.
            let long = length-append nodes (node ∷ []) in
            elim (cases_lt number (length nodes)) [
              | inl before ↦
                  get-append kinds (own ∷ []) number (omega (arith, are.as_many)) ∙ are.each number before
                  ∙ ap (λ (s : Shape). Some s.kinds) (sym (kept number before))
              | inr past ↦ (let at : number ≡ length nodes = omega arith in rw at own_is)
            ];
      };
    }))
