-- A query of two sides, as code places it.
use Rattle.std.proofs.Common.{◌≡◌, ℕ, ◌≤◌, List, ◌++◌, length, sym, ap, ◌∙◌, arith, take}
use Rattle.std.proofs.lemmas.List.{length-take, take-take}
use Rattle.gl_schema.specs.declared.schema.Column.{Column}
use Rattle.gl_schema.specs.declared.schema.Stream.{Stream}
use Rattle.gl_query.specs.Shapes.{QueryShape, SlotsShape}
use Rattle.gl_query.specs.Shapes as shape
use Rattle.gl_query.specs.Columns.{but_key, columns_of}
use Rattle.gl_algebra.specs.declared.node.PlanNode.{PlanNode}
use Rattle.gl_algebra.specs.declared.node.PlanNode.TheVariants.{Beside}
use Rattle.gl_algebra.specs.Added.{added, placed_at}
use Rattle.gl_elaborate.specs.Joins.{as_of_over}
use Rattle.gl_elaborate.specs.Plans.{placed, Keeps}

-- what keeps what a plan had keeps what that one kept
pub keeps-then : (a b c : List PlanNode) → Keeps a b → Keeps b c → Keeps a c
keeps-then a b c h g =
    let same : length (take (length a) b) ≡ length a = ap length h.front in
    let least = length-take (length a) b in
    let longer : length a ≤ length b = omega arith in
    record { front = sym (take-take (length a) (length b) c longer) ∙ ap (take (length a)) g.front ∙ h.front }

-- both sides, the right one placed behind the left one, by queries and columns that code has
module _ (read : List ℕ → PlanNode) (sources : List Stream) (whole left left' right right' : QueryShape) (nodes n1 n2 : List PlanNode) (first second : ℕ)
    (lefts rights : List Column) (d : left' ≡ left) (e : right' ≡ right)
    (p : placed_at n1 first ≡ placed read sources left' nodes) (a : lefts ≡ columns_of sources left')
    (q : placed_at n2 second ≡ placed read sources right' n1) (b : rights ≡ columns_of sources right') where
  at_left : placed_at n1 first ≡ placed read sources left nodes
  at_left = p ∙ (λ i. placed read sources (d i) nodes)

  at_right : placed_at n2 second ≡ placed read sources right (placed read sources left nodes).nodes
  at_right = q ∙ (λ i. placed read sources (e i) (at_left i).nodes)

  of_left : lefts ≡ columns_of sources left
  of_left = a ∙ (λ i. columns_of sources (d i))

  of_right : rights ≡ columns_of sources right
  of_right = b ∙ (λ i. columns_of sources (e i))

  pub concat-root : (root : ℕ) (n3 : List PlanNode) → whole ≡ shape.Concat left right → placed_at n3 root ≡ added n2 (Beside first second)
      → placed_at n3 root ≡ placed read sources whole nodes
  concat-root root n3 w r =
      r ∙ (λ i. added (at_right i).nodes (Beside (at_left i).root (at_right i).root)) ∙ sym (λ i. placed read sources (w i) nodes)

  pub concat-columns : (out : List Column) → whole ≡ shape.Concat left right → out ≡ lefts ++ rights → out ≡ columns_of sources whole
  concat-columns out w o = o ∙ (λ i. of_left i ++ of_right i) ∙ sym (λ i. columns_of sources (w i))

  pub join-root : (slots : SlotsShape) (root : ℕ) (n3 : List PlanNode) → whole ≡ shape.AsOf left right slots
      → placed_at n3 root ≡ as_of_over lefts rights slots first (placed_at n2 second) → placed_at n3 root ≡ placed read sources whole nodes
  join-root slots root n3 w r =
      r ∙ (λ i. as_of_over (of_left i) (of_right i) slots (at_left i).root (at_right i)) ∙ sym (λ i. placed read sources (w i) nodes)

  pub join-columns : (slots : SlotsShape) (out others : List Column) → whole ≡ shape.AsOf left right slots → out ≡ lefts ++ others → others ≡ but_key slots.key rights
      → out ≡ columns_of sources whole
  join-columns slots out others w o k =
      o ∙ (λ i. of_left i ++ (k ∙ (λ j. but_key slots.key (of_right j))) i) ∙ sym (λ i. columns_of sources (w i))
