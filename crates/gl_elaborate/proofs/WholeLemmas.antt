-- The root of a statement's plan has the spare copies, the figures and the gaps of ticks of the statement.
use Rattle.std.proofs.Common.{◌≡◌, ℕ, ◌<◌, Bool, true, false, List, [], length, Option, Some, None, slice_get, refl, sym, ap, ◌∙◌}
use Rattle.std.specs.Prelude.{if◌then◌else◌}
use Rattle.gl_schema.specs.declared.schema.Schema.{Schema}
use Rattle.gl_schema.specs.Schemas.{IsSchema, kinds_of}
use Rattle.gl_query.specs.declared.tree.Measure.TheVariants.{Tuples, Time}
use Rattle.gl_query.specs.Accepted.{IsAcceptedOver, schema_scope}
use Rattle.gl_query.specs.Columns.{columns_of, sources_of}
use Rattle.gl_query.specs.Columns as query
use Rattle.gl_query.specs.Laws.{ResultsAreLong}
use Rattle.gl_query.specs.Shapes.{QueryShape, query_shape}
use Rattle.gl_query.specs.Shapes as shape
use Rattle.gl_algebra.specs.declared.figures.Figures.{Figures}
use Rattle.gl_algebra.specs.declared.figures.Spare.{Spare}
use Rattle.gl_algebra.specs.declared.node.PlanNode.{PlanNode}
use Rattle.gl_algebra.specs.declared.node.PlanNode.TheVariants as node
use Rattle.gl_algebra.specs.Added.{Placed, added}
use Rattle.gl_algebra.specs.FigureTable.{figures_of}
use Rattle.gl_algebra.specs.Fits.{IsPlan}
use Rattle.gl_algebra.specs.Nodewise.{value_at_node}
use Rattle.gl_algebra.specs.Roots as roots
use Rattle.gl_algebra.specs.Roots.{is_light, is_light_at, root_figures, spare_at, spare_in, where_light}
use Rattle.gl_algebra.specs.Spares.{spare_of, spare_over}
use Rattle.gl_algebra.specs.Views.{copies_of_window}
use Rattle.gl_algebra.proofs.FigureLemmas.{figures-kept}
use Rattle.gl_algebra.proofs.PlanLemmas.{in_order}
use Rattle.gl_elaborate.specs.Figures.{query_figures}
use Rattle.gl_elaborate.specs.Plans.{placed, stream_node}
use Rattle.gl_elaborate.specs.Whole.{RootsAreRight, figures_with, if_light, query_spare}
use Rattle.gl_elaborate.proofs.FigureLemmas.{figures-right}
use Rattle.gl_elaborate.proofs.PlacedLemmas.{IsOver, is_added, over-then}
use Rattle.gl_elaborate.proofs.QueryLemmas.{columns-are, right}
use Rattle.gl_elaborate.proofs.ReadLemmas.{body-reader}
use Rattle.gl_elaborate.proofs.TickLemmas.{there, ticks-right}
use Rattle.gl_elaborate.proofs.StatementLemmas.{empty, schema-reader}

-- ---- a root, by the node that is there

module _ (nodes : List PlanNode) (root : ℕ) (n : PlanNode) (at : slice_get nodes root ≡ Some n) where
  spare_by : (o : Option Spare) → spare_in (figures_of nodes) n ≡ o → spare_at nodes root ≡ where_light nodes root n o
  unfolding spare_at
  spare_by o e =
      ap (value_at_node (λ m. where_light nodes root m (spare_in (figures_of nodes) m)) None) at ∙ ap (where_light nodes root n) e

  figures_by : (o : Option Spare) → spare_at nodes root ≡ o → root_figures nodes root ≡ roots.figures_with nodes root o n
  unfolding root_figures
  figures_by o e =
      ap (value_at_node (roots.figures_with nodes root (spare_at nodes root)) (figures_of nodes root)) at
      ∙ ap (λ (s : Option Spare). roots.figures_with nodes root s n) e

  light_by : (o : Option Spare) → where_light nodes root n o ≡ if_light (record { nodes = nodes; root = root }) o
  unfolding is_light_at
  light_by None = refl
  light_by (Some it) =
      ap (λ (b : Bool). if b then Some it else None) (sym (ap (value_at_node (λ m. is_light nodes root m it) false) at))

-- what is said of the root of a query's plan
abbrev plan_at : Schema → QueryShape → Placed
plan_at schema q = placed (stream_node schema.streams) (sources_of schema) q []

record IsWhole (schema : Schema) (q : QueryShape) : Type 0 where
  spare : spare_at (plan_at schema q).nodes (plan_at schema q).root ≡ if_light (plan_at schema q) (query_spare (sources_of schema) q)
  figures : root_figures (plan_at schema q).nodes (plan_at schema q).root
      ≡ figures_with (sources_of schema) (if_light (plan_at schema q) (query_spare (sources_of schema) q)) q

-- a root that is no windows of tuples has no spare copies, and the figures of its node
record IsPlain (at : Placed) : Type 0 where
  none : spare_at at.nodes at.root ≡ None
  own : root_figures at.nodes at.root ≡ figures_of at.nodes at.root

plain : (nodes : List PlanNode) (n : PlanNode) → spare_in (figures_of (added nodes n).nodes) n ≡ None → IsPlain (added nodes n)
plain nodes n e =
    let new = added nodes n in
    let none = spare_by new.nodes new.root n (there nodes n) None e in
    record { none = none; own = figures_by new.nodes new.root n (there nodes n) None none }

-- the figures of a node stay where a plan grows
stay : (l r : Placed) → IsPlan l.nodes → IsOver l.nodes r → l.root < length l.nodes → figures_of r.nodes l.root ≡ figures_of l.nodes l.root
stay l r plan over within = sym (figures-kept l.nodes r.nodes (length l.nodes) (in_order l.nodes plan (length l.nodes)) over.kept l.root within)

-- windows of tuples over a source and a body with these figures; with spare copies or without, they have those of `own`
module _ (nodes : List PlanNode) (source body size advance : ℕ) (f s : Figures) (own : Option Spare → Figures) where
  abbrev windows : PlanNode
  windows = node.Window source body size advance

  abbrev new : Placed
  new = added nodes windows

  abbrev spare : Option Spare
  spare = spare_of size advance f s

  module _ (of_source : figures_of new.nodes source ≡ f) (of_body : figures_of new.nodes body ≡ s) (of_root : figures_of new.nodes new.root ≡ own None)
      (of_spare : (it : Spare) → spare_over (copies_of_window size advance) it.gap it.shift f s ≡ own (Some it)) where
    windows_spare : spare_at new.nodes new.root ≡ if_light new spare
    windows_spare =
        spare_by new.nodes new.root windows (there nodes windows) spare (λ i. spare_of size advance (of_source i) (of_body i))
        ∙ light_by new.nodes new.root windows (there nodes windows) spare

    by_spare : (o : Option Spare) → roots.figures_with new.nodes new.root o windows ≡ own o
    by_spare None = of_root
    by_spare (Some it) = (λ i. spare_over (copies_of_window size advance) it.gap it.shift (of_source i) (of_body i)) ∙ of_spare it

    windows_figures : root_figures new.nodes new.root ≡ own (if_light new spare)
    windows_figures =
        figures_by new.nodes new.root windows (there nodes windows) (if_light new spare) windows_spare ∙ by_spare (if_light new spare)

module _ (lengths : ResultsAreLong) (schema : Schema) (fine : IsSchema schema) where
  -- the figures at the root are the query's
  own_figures : (q : QueryShape) → IsAcceptedOver (schema_scope schema) q
      → figures_of (plan_at schema q).nodes (plan_at schema q).root ≡ query_figures (sources_of schema) q
  own_figures q a = (figures-right lengths q (stream_node schema.streams) (sources_of schema) true [] (schema-reader schema fine) a empty).is

  whole : (q : QueryShape) → IsAcceptedOver (schema_scope schema) q → IsWhole schema q
  whole (shape.Read name) a =
      let p = plain [] (stream_node schema.streams name) refl in
      record { spare = p.none; figures = p.own ∙ own_figures (shape.Read name) a }
  whole (shape.Rows pick filter source) a =
      let p = plain _ (node.Project _ _) refl in
      record { spare = p.none; figures = p.own ∙ own_figures (shape.Rows pick filter source) a }
  whole (shape.Total aggs source) a =
      let p = plain _ (node.Aggregate _ _) refl in
      record { spare = p.none; figures = p.own ∙ own_figures (shape.Total aggs source) a }
  whole (shape.Frames items filter slots source) a =
      let p = plain _ (node.Frames _ _ _) refl in
      record { spare = p.none; figures = p.own ∙ own_figures (shape.Frames items filter slots source) a }
  whole (shape.Each Time var source size advance body) a =
      let p = plain _ (node.TimeWindow _ _ size advance) refl in
      record { spare = p.none; figures = p.own ∙ own_figures (shape.Each Time var source size advance body) a }
  whole (shape.Each Tuples var source size advance body) a =
      let read = stream_node schema.streams in
      let sources = sources_of schema in
      let reader = schema-reader schema fine in
      let columns = columns_of sources source in
      let inner : List ℕ → PlanNode = λ name. node.Body (kinds_of columns) in
      let q = shape.Each Tuples var source size advance body in
      let done = right lengths q read sources true [] reader a empty in
      let below = right lengths source read sources true [] reader a.0 empty in
      let from = placed read sources source [] in
      let kinds = body-reader sources true reader.scope var columns (columns-are source read sources true reader a.0) in
      let inside = right lengths body inner (query.inside sources var columns) false from.nodes kinds a.2 below.1.over.plan in
      let into = placed inner (query.inside sources var columns) body from.nodes in
      let top = (is_added into.nodes (node.Window from.root into.root size advance) inside.1.over.plan done.0.2).over in
      let new = added into.nodes (node.Window from.root into.root size advance) in
      let f = query_figures sources source in
      let s = query_figures (query.inside sources var columns) body in
      let of_source = stay from new below.1.over.plan (over-then from.nodes into new inside.1.over top) below.1.over.within
      ∙ (figures-right lengths source read sources true [] reader a.0 empty).is in
      let of_body = stay into new inside.1.over.plan top inside.1.over.within
      ∙ (figures-right lengths body inner (query.inside sources var columns) false from.nodes kinds a.2 below.1.over.plan).is in
      let of_root = own_figures q a in
      let own : Option Spare → Figures = λ o. figures_with sources o q in
      record {
        spare = windows_spare into.nodes from.root into.root size advance f s own of_source of_body of_root (λ it. refl);
        figures = windows_figures into.nodes from.root into.root size advance f s own of_source of_body of_root (λ it. refl);
      }
  whole (shape.PerGroup var source key count body) a =
      let p = plain _ (node.Group _ _ _ count) refl in
      record { spare = p.none; figures = p.own ∙ own_figures (shape.PerGroup var source key count body) a }
  whole (shape.Partition var source key count size advance body) a =
      let p = plain _ (node.Partition _ _ _ count size advance) refl in
      record { spare = p.none; figures = p.own ∙ own_figures (shape.Partition var source key count size advance body) a }
  whole (shape.Union l r) a =
      let p = plain _ (node.Union _ _) refl in
      record { spare = p.none; figures = p.own ∙ own_figures (shape.Union l r) a }
  whole (shape.ByArrival l r) a =
      let p = plain _ (node.Merge _ _) refl in
      record { spare = p.none; figures = p.own ∙ own_figures (shape.ByArrival l r) a }
  whole (shape.AsOf l r slots) a =
      let p = plain _ (node.Project _ _) refl in
      record { spare = p.none; figures = p.own ∙ own_figures (shape.AsOf l r slots) a }
  whole (shape.Concat l r) a =
      let p = plain _ (node.Beside _ _) refl in
      record { spare = p.none; figures = p.own ∙ own_figures (shape.Concat l r) a }

pub roots-right : ResultsAreLong → RootsAreRight
roots-right lengths schema statement checked =
    let q = query_shape statement.query in
    let w = whole lengths schema checked.of_schema q checked.accepted in
    let gaps = ticks-right lengths schema.streams (sources_of schema) (schema-reader schema checked.of_schema) q [] checked.accepted empty in
    record { spare = w.spare; figures = w.figures; ticks = gaps.is }
