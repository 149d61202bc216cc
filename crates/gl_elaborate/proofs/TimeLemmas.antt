-- The nodes of a query's plan read the time exactly where the query does.
use Rattle.std.proofs.Common.{◌≡◌, ℕ, zero, suc, ◌+◌, Bool, true, false, List, [], ◌∷◌, length, Option, Some, None, inl, inr, refl, sym, ap, ◌∙◌, map, slice_get}
use Rattle.std.specs.Prelude.{◌||◌, option_map}
use Rattle.std.proofs.lemmas.List.Folds.{list_any-append}
use Rattle.gl_bits.proofs.Bools.{or_join, or_none}
use Rattle.gl_schema.specs.declared.schema.Column.{Column as NamedColumn}
use Rattle.gl_schema.specs.declared.schema.Stream.{Stream}
use Rattle.gl_schema.specs.Schemas.{kinds_of}
use Rattle.gl_query.specs.declared.tree.Measure.{Measure}
use Rattle.gl_query.specs.declared.tree.Measure.TheVariants.{Tuples, Time}
use Rattle.gl_query.specs.Shapes.{AggItemShape, ExprShape, FrameItemShape, PickShape, QueryShape, query_shape}
use Rattle.gl_query.specs.Shapes as shape
use Rattle.gl_query.specs.Columns.{columns_of, reach_of, sources_of}
use Rattle.gl_query.specs.Columns as query
use Rattle.gl_query.specs.Windows as windows
use Rattle.gl_query.specs.Windows.{has_time}
use Rattle.gl_query.specs.Values.{column_number}
use Rattle.gl_algebra.specs.declared.node.PlanKey.{PlanKey}
use Rattle.gl_algebra.specs.declared.node.PlanNode.{PlanNode}
use Rattle.gl_algebra.specs.declared.node.PlanNode.TheVariants as node
use Rattle.gl_algebra.specs.Added.{Placed, added, place_of}
use Rattle.gl_algebra.specs.Views.{is_time, reads_time}
use Rattle.gl_algebra.proofs.ListLemmas.{any_at}
use Rattle.gl_algebra.proofs.PlanLemmas.{node_inserted}
use Rattle.gl_elaborate.specs.Terms.{Term, depth_of_all}
use Rattle.gl_elaborate.specs.Levels.{level_of, operand_of, reduced}
use Rattle.gl_elaborate.specs.Plans.{aggs_of, arguments_of_all, column_under, filter_of, frames_of, frames_over, frames_terms, key_over, levelled, levels, picked_terms, placed, rows_over, selected, stream_node, totals_over, window_node, with_filter}
use Rattle.gl_elaborate.specs.Joins.{both_placed, columns_from, join_framed, join_frames, join_kept, join_key, joined_columns, left_items, left_side, right_items, right_side}
use Rattle.gl_elaborate.specs.Laws.{PlansTellTime}

-- ---- one node more

or_own : (a b : Bool) → (b ≡ true → a ≡ true) → a ≡ (a || b)
or_own true b h = refl
or_own false true h = h refl
or_own false false h = refl

reads-more : (nodes : List PlanNode) (n : PlanNode) → reads_time (added nodes n).nodes ≡ (reads_time nodes || is_time n)
unfolding added
reads-more nodes n =
    let new = node_inserted nodes n in
    elim new.grows [
      | inl same ↦ ap reads_time same ∙ or_own (reads_time nodes) (is_time n)
          (λ t. any_at is_time nodes (place_of nodes n) n (ap (λ (all : List PlanNode). slice_get all (place_of nodes n)) (sym same) ∙ new.number) t)
      | inr more ↦ ap reads_time more ∙ list_any-append is_time nodes (n ∷ []) ∙ ap (λ (b : Bool). reads_time nodes || b) (or_none (is_time n))
    ]

-- a node that does not read it
quiet : (nodes : List PlanNode) (n : PlanNode) → is_time n ≡ false → reads_time (added nodes n).nodes ≡ reads_time nodes
quiet nodes n h = reads-more nodes n ∙ ap (λ (b : Bool). reads_time nodes || b) h ∙ or_none (reads_time nodes)

-- ---- selects and totals

levels-quiet : (depth base : ℕ) (at : Placed) (items : List Term) (filter : Option Term)
    → reads_time (levels depth base at items filter).at.nodes ≡ reads_time at.nodes
levels-quiet zero base at items filter = refl
levels-quiet (suc depth) base at items filter =
    let level = level_of (with_filter items filter) in
    levels-quiet depth (base + length level) (added at.nodes (node.Compute at.root level)) (map (reduced base level) items) (option_map (reduced base level) filter)
    ∙ quiet at.nodes (node.Compute at.root level) refl

select-quiet : (at : Placed) (filter : Option Term) → reads_time (selected at filter).nodes ≡ reads_time at.nodes
select-quiet at None = refl
select-quiet at (Some t) = quiet at.nodes (node.Select at.root (column_under (operand_of t))) refl

module _ (columns reach : List NamedColumn) where
  rows-quiet : (pick : PickShape) (filter : Option ExprShape) (at : Placed)
      → reads_time (rows_over columns reach pick filter at).nodes ≡ reads_time at.nodes
  rows-quiet pick filter at =
      let items = picked_terms columns reach pick in
      let left = filter_of columns reach filter in
      let over = levelled (length columns) at items left in
      let chosen = selected over.at over.filter in
      quiet chosen.nodes (node.Project chosen.root (map operand_of over.items)) refl ∙ select-quiet over.at over.filter
      ∙ levels-quiet (depth_of_all (with_filter items left)) (length columns) at items left

  totals-quiet : (aggs : List AggItemShape) (at : Placed) → reads_time (totals_over columns reach aggs at).nodes ≡ reads_time at.nodes
  totals-quiet aggs at =
      let terms = arguments_of_all columns reach aggs in
      let over = levelled (length columns) at terms None in
      quiet over.at.nodes (node.Aggregate over.at.root (aggs_of reach aggs over.items)) refl
      ∙ levels-quiet (depth_of_all (with_filter terms None)) (length columns) at terms None

  frames-quiet : (items : List FrameItemShape) (filter : Option ExprShape) (by : Option PlanKey) (at : Placed)
      → reads_time (frames_over columns reach items filter by at).nodes ≡ reads_time at.nodes
  frames-quiet items filter by at =
      let terms = frames_terms columns reach items in
      let left = filter_of columns reach filter in
      let over = levelled (length columns) at terms left in
      let chosen = selected over.at over.filter in
      quiet chosen.nodes (node.Frames chosen.root by (frames_of items over.items)) refl ∙ select-quiet over.at over.filter
      ∙ levels-quiet (depth_of_all (with_filter terms left)) (length columns) at terms left

-- ---- queries

three : (a b c d : Bool) → (((a || b) || c) || d) ≡ (a || (d || b || c))
three true b c d = refl
three false true c true = refl
three false true c false = refl
three false false true true = refl
three false false true false = refl
three false false false true = refl
three false false false false = refl

window-time : (measure : Measure) (source body size advance : ℕ) → is_time (window_node measure source body size advance) ≡ windows.is_time measure
window-time Tuples source body size advance = refl
window-time Time source body size advance = refl

placed-time : (q : QueryShape) (read : List ℕ → PlanNode) (sources : List Stream) (nodes : List PlanNode) → ((name : List ℕ) → is_time (read name) ≡ false)
    → reads_time (placed read sources q nodes).nodes ≡ (reads_time nodes || has_time q)
placed-time (shape.Read name) read sources nodes h = quiet nodes (read name) (h name) ∙ sym (or_none (reads_time nodes))
placed-time (shape.Rows pick filter source) read sources nodes h =
    rows-quiet (columns_of sources source) (reach_of sources (columns_of sources source)) pick filter (placed read sources source nodes) ∙ placed-time source read sources nodes h
placed-time (shape.Total aggs source) read sources nodes h =
    totals-quiet (columns_of sources source) (reach_of sources (columns_of sources source)) aggs (placed read sources source nodes) ∙ placed-time source read sources nodes h
placed-time (shape.Frames items filter slots source) read sources nodes h =
    let columns = columns_of sources source in
    frames-quiet columns (reach_of sources columns) items filter (key_over columns slots) (placed read sources source nodes) ∙ placed-time source read sources nodes h
placed-time (shape.Each measure var source size advance body) read sources nodes h =
    let columns = columns_of sources source in
    let inner : List ℕ → PlanNode = λ name. node.Body (kinds_of columns) in
    let from = placed read sources source nodes in
    let inside = placed inner (query.inside sources var columns) body from.nodes in
    reads-more inside.nodes (window_node measure from.root inside.root size advance)
    ∙ ap (λ (b : Bool). reads_time inside.nodes || b) (window-time measure from.root inside.root size advance)
    ∙ ap (λ (b : Bool). b || windows.is_time measure) (placed-time body inner (query.inside sources var columns) from.nodes (λ name. refl))
    ∙ ap (λ (b : Bool). (b || has_time body) || windows.is_time measure) (placed-time source read sources nodes h)
    ∙ three (reads_time nodes) (has_time source) (has_time body) (windows.is_time measure)
placed-time (shape.PerGroup var source key count body) read sources nodes h =
    let columns = columns_of sources source in
    let inner : List ℕ → PlanNode = λ name. node.Body (kinds_of columns) in
    let from = placed read sources source nodes in
    let inside = placed inner (query.inside sources var columns) body from.nodes in
    quiet inside.nodes (node.Group from.root inside.root (column_number columns key) count) refl
    ∙ placed-time body inner (query.inside sources var columns) from.nodes (λ name. refl)
    ∙ ap (λ (b : Bool). b || has_time body) (placed-time source read sources nodes h)
    ∙ or_join (reads_time nodes) (has_time source) (has_time body)
placed-time (shape.Partition var source key count size advance body) read sources nodes h =
    let columns = columns_of sources source in
    let inner : List ℕ → PlanNode = λ name. node.Body (kinds_of columns) in
    let from = placed read sources source nodes in
    let inside = placed inner (query.inside sources var columns) body from.nodes in
    quiet inside.nodes (node.Partition from.root inside.root (column_number columns key) count size advance) refl
    ∙ placed-time body inner (query.inside sources var columns) from.nodes (λ name. refl)
    ∙ ap (λ (b : Bool). b || has_time body) (placed-time source read sources nodes h)
    ∙ or_join (reads_time nodes) (has_time source) (has_time body)
placed-time (shape.Union l r) read sources nodes h =
    let left = placed read sources l nodes in
    let right = placed read sources r left.nodes in
    quiet right.nodes (node.Union left.root right.root) refl ∙ placed-time r read sources left.nodes h
    ∙ ap (λ (b : Bool). b || has_time r) (placed-time l read sources nodes h) ∙ or_join (reads_time nodes) (has_time l) (has_time r)
placed-time (shape.ByArrival l r) read sources nodes h =
    let left = placed read sources l nodes in
    let right = placed read sources r left.nodes in
    quiet right.nodes (node.Merge left.root right.root) refl ∙ placed-time r read sources left.nodes h
    ∙ ap (λ (b : Bool). b || has_time r) (placed-time l read sources nodes h) ∙ or_join (reads_time nodes) (has_time l) (has_time r)
placed-time (shape.AsOf l r slots) read sources nodes h =
    let lefts = columns_of sources l in
    let rights = columns_of sources r in
    let left = placed read sources l nodes in
    let right = placed read sources r left.nodes in
    let both = both_placed lefts rights slots.key left.root right in
    let framed = join_framed lefts rights slots left.root right in
    let kept = join_kept lefts rights slots left.root right in
    let all = joined_columns lefts rights slots.key in
    let first = right_side lefts rights slots.key right in
    let second = left_side lefts rights slots.key left.root right in
    quiet kept.nodes (node.Project kept.root (columns_from 0 all)) refl ∙ quiet framed.nodes (node.Select framed.root all) refl
    ∙ quiet both.nodes (node.Frames both.root (Some (join_key lefts slots)) (join_frames lefts rights slots.key)) refl
    ∙ quiet second.nodes (node.Merge first.root second.root) refl ∙ quiet first.nodes (node.Project left.root (left_items lefts rights slots.key)) refl
    ∙ quiet right.nodes (node.Project right.root (right_items lefts rights slots.key)) refl ∙ placed-time r read sources left.nodes h
    ∙ ap (λ (b : Bool). b || has_time r) (placed-time l read sources nodes h) ∙ or_join (reads_time nodes) (has_time l) (has_time r)
placed-time (shape.Concat l r) read sources nodes h =
    let left = placed read sources l nodes in
    let right = placed read sources r left.nodes in
    quiet right.nodes (node.Beside left.root right.root) refl ∙ placed-time r read sources left.nodes h
    ∙ ap (λ (b : Bool). b || has_time r) (placed-time l read sources nodes h) ∙ or_join (reads_time nodes) (has_time l) (has_time r)

pub plans-time : PlansTellTime
plans-time schema statement = placed-time (query_shape statement.query) (stream_node schema.streams) (sources_of schema) [] (λ name. refl)
