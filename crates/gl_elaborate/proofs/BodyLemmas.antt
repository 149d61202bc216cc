-- A query over parts, as code places it.
use Rattle.std.proofs.Common.{◌≡◌, ℕ, List, ◌∷◌, sym, subst, ◌∙◌}
use Rattle.gl_schema.specs.declared.schema.Column.{Column}
use Rattle.gl_schema.specs.declared.schema.Stream.{Stream}
use Rattle.gl_schema.specs.Schemas.{kinds_of}
use Rattle.gl_query.specs.declared.tree.Measure.{Measure}
use Rattle.gl_query.specs.Shapes.{QueryShape}
use Rattle.gl_query.specs.Shapes as shape
use Rattle.gl_query.specs.Values.{column_number}
use Rattle.gl_query.specs.Columns.{columns_of}
use Rattle.gl_query.specs.Columns as query
use Rattle.gl_algebra.specs.declared.node.PlanNode.{PlanNode}
use Rattle.gl_algebra.specs.declared.node.PlanNode.TheVariants.{Body, Group, Partition}
use Rattle.gl_algebra.specs.Added.{added, placed_at}
use Rattle.gl_elaborate.specs.Plans.{placed, window_node}
use Rattle.gl_elaborate.specs.Fitting.{FitsNext, PlacedFit}

-- the source and the body, each placed behind the other, by queries, names and columns that code has
module _ (read : List ℕ → PlanNode) (sources : List Stream) (whole source source' body body' : QueryShape) (nodes n1 n2 : List PlanNode) (from into : ℕ)
    (var name : List ℕ) (own held : List Column) (d : source' ≡ source) (e : body' ≡ body)
    (p : placed_at n1 from ≡ placed read sources source' nodes) (v : name ≡ var) (c : own ≡ columns_of sources source') (g : held ≡ query.parameters_in sources)
    (q : placed_at n2 into ≡ placed (λ n. Body (kinds_of own)) (query.parameter_stream held ∷ query.variable name own) body' n1) where
  first : placed_at n1 from ≡ placed read sources source nodes
  first = p ∙ (λ i. placed read sources (d i) nodes)

  columns : own ≡ columns_of sources source
  columns = c ∙ (λ i. columns_of sources (d i))

  inside : placed_at n2 into ≡ placed (λ n. Body (kinds_of (columns_of sources source))) (query.inside sources var (columns_of sources source)) body (placed read sources source nodes).nodes
  inside = q ∙ (λ i. placed (λ n. Body (kinds_of (columns i))) (query.parameter_stream (g i) ∷ query.variable (v i) (columns i)) (e i) (first i).nodes)

  pub each-root : (measure : Measure) (size advance root : ℕ) (n3 : List PlanNode) → whole ≡ shape.Each measure var source size advance body
      → placed_at n3 root ≡ added n2 (window_node measure from into size advance) → placed_at n3 root ≡ placed read sources whole nodes
  each-root measure size advance root n3 w r =
      r ∙ (λ i. added (inside i).nodes (window_node measure (first i).root (inside i).root size advance)) ∙ sym (λ i. placed read sources (w i) nodes)

  pub each-fits : (measure : Measure) (size advance : ℕ) → whole ≡ shape.Each measure var source size advance body → PlacedFit read sources whole nodes → FitsNext n2 (window_node measure from into size advance)
  each-fits measure size advance w fits =
      subst (λ (X : Type 0). X) (sym (λ i. FitsNext (inside i).nodes (window_node measure (first i).root (inside i).root size advance)))
      (subst (λ (x : QueryShape). PlacedFit read sources x nodes) w fits).2

  pub group-root : (key : List ℕ) (count number root : ℕ) (n3 : List PlanNode) → whole ≡ shape.PerGroup var source key count body → number ≡ column_number own key
      → placed_at n3 root ≡ added n2 (Group from into number count) → placed_at n3 root ≡ placed read sources whole nodes
  group-root key count number root n3 w k r =
      let k' : number ≡ column_number (columns_of sources source) key = k ∙ (λ i. column_number (columns i) key) in
      r ∙ (λ i. added (inside i).nodes (Group (first i).root (inside i).root (k' i) count)) ∙ sym (λ i. placed read sources (w i) nodes)

  pub group-fits : (key : List ℕ) (count number : ℕ) → whole ≡ shape.PerGroup var source key count body → number ≡ column_number own key
      → PlacedFit read sources whole nodes → FitsNext n2 (Group from into number count)
  group-fits key count number w k fits =
      let k' : number ≡ column_number (columns_of sources source) key = k ∙ (λ i. column_number (columns i) key) in
      subst (λ (X : Type 0). X) (sym (λ i. FitsNext (inside i).nodes (Group (first i).root (inside i).root (k' i) count)))
      (subst (λ (x : QueryShape). PlacedFit read sources x nodes) w fits).2

  pub partition-root : (key : List ℕ) (count size advance number root : ℕ) (n3 : List PlanNode) → whole ≡ shape.Partition var source key count size advance body → number ≡ column_number own key
      → placed_at n3 root ≡ added n2 (Partition from into number count size advance) → placed_at n3 root ≡ placed read sources whole nodes
  partition-root key count size advance number root n3 w k r =
      let k' : number ≡ column_number (columns_of sources source) key = k ∙ (λ i. column_number (columns i) key) in
      r ∙ (λ i. added (inside i).nodes (Partition (first i).root (inside i).root (k' i) count size advance)) ∙ sym (λ i. placed read sources (w i) nodes)

  pub partition-fits : (key : List ℕ) (count size advance number : ℕ) → whole ≡ shape.Partition var source key count size advance body → number ≡ column_number own key
      → PlacedFit read sources whole nodes → FitsNext n2 (Partition from into number count size advance)
  partition-fits key count size advance number w k fits =
      let k' : number ≡ column_number (columns_of sources source) key = k ∙ (λ i. column_number (columns i) key) in
      subst (λ (X : Type 0). X) (sym (λ i. FitsNext (inside i).nodes (Partition (first i).root (inside i).root (k' i) count size advance)))
      (subst (λ (x : QueryShape). PlacedFit read sources x nodes) w fits).2
