-- The gaps of ticks at the root of a query's plan are read off the query. A select of rows keeps those of its source: each node that it adds
-- takes rows one by one. An as-of join has none: its rows come of frames.
use Rattle.std.proofs.Common.{◌≡◌, ℕ, zero, suc, ◌+◌, ◌<◌, true, false, List, length, slice_get, Option, Some, None, map, refl, sym, ap, ◌∙◌}
use Rattle.std.specs.Prelude.{option_map}
use Rattle.gl_schema.specs.declared.schema.Column.{Column as NamedColumn}
use Rattle.gl_schema.specs.declared.schema.Stream.{Stream}
use Rattle.gl_schema.specs.Schemas.{kinds_of}
use Rattle.gl_query.specs.declared.tree.Measure.TheVariants.{Tuples, Time}
use Rattle.gl_query.specs.Accepted.{IsAcceptedOver}
use Rattle.gl_query.specs.Columns.{columns_of, inside, reach_of}
use Rattle.gl_query.specs.Laws.{ResultsAreLong}
use Rattle.gl_query.specs.Shapes.{ExprShape, PickShape, QueryShape, SlotsShape}
use Rattle.gl_query.specs.Shapes as shape
use Rattle.gl_algebra.specs.declared.figures.Figures.{Figures}
use Rattle.gl_algebra.specs.declared.node.PlanNode.{PlanNode}
use Rattle.gl_algebra.specs.declared.node.PlanNode.TheVariants as node
use Rattle.gl_algebra.specs.Added.{Placed, added}
use Rattle.gl_algebra.specs.FigureTable.{figures_of}
use Rattle.gl_algebra.specs.Fits.{IsPlan}
use Rattle.gl_algebra.proofs.PlanLemmas.{in_order, node_inserted}
use Rattle.gl_root_gaps.specs.declared.TickGaps.{TickGaps}
use Rattle.gl_root_gaps.specs.Roots.{tick_gaps_at, tick_gaps_from}
use Rattle.gl_root_gaps.specs.TickGaps.{tick_gaps_of}
use Rattle.gl_root_gaps.proofs.GapLemmas.{ticks-kept, ticks_there}
use Rattle.gl_elaborate.specs.Fitting.{FitsNext, JoinFits, LevelsFit, RowsFit, SelectFits}
use Rattle.gl_elaborate.specs.Joins.{as_of_over, both_placed, columns_from, join_framed, join_frames, join_kept, join_key, joined_columns, left_items, left_side, right_items, right_side}
use Rattle.gl_elaborate.specs.Levels.{level_of, operand_of, reduced}
use Rattle.gl_elaborate.specs.Plans.{column_under, filter_of, levelled, levels, picked_terms, placed, rows_over, selected, stream_node, with_filter}
use Rattle.gl_elaborate.specs.Terms.{Term, depth_of_all}
use Rattle.gl_elaborate.specs.Whole.{query_ticks}
use Rattle.gl_elaborate.proofs.FigureLemmas.{figures-right}
use Rattle.gl_elaborate.proofs.PlacedLemmas.{IsOver, is_added}
use Rattle.gl_elaborate.proofs.QueryLemmas.{columns-are, right}
use Rattle.gl_elaborate.proofs.ReadLemmas.{IsReader, body-reader}
use Rattle.gl_algebra.proofs.FigureLemmas.{figures-kept}

-- a node of a plan with these gaps of ticks
pub record HasGaps (p : Placed) (o : Option TickGaps) : Type 0 where
  pub plan : IsPlan p.nodes
  pub within : p.root < length p.nodes
  pub is : tick_gaps_at p.nodes p.root ≡ o

-- a node that takes the rows of another one by one has its gaps
more : (p : Placed) (o : Option TickGaps) (n : PlanNode) → HasGaps p o → FitsNext p.nodes n
    → ((f : ℕ → Figures) (v : ℕ → Option TickGaps) → tick_gaps_from f v n ≡ v p.root) → HasGaps (added p.nodes n) o
more p o n h fits row =
    let new = is_added p.nodes n h.plan fits in
    let next = added p.nodes n in
    let own = ticks_there next.nodes next.root n new.over.plan new.there ∙ row (figures_of next.nodes) (tick_gaps_at next.nodes) in
    let still = ticks-kept p.nodes next.nodes (length p.nodes) (in_order p.nodes h.plan (length p.nodes)) new.over.kept p.root h.within in
    record { plan = new.over.plan; within = new.over.within; is = own ∙ sym still ∙ h.is }

levels-gaps : (depth base : ℕ) (p : Placed) (o : Option TickGaps) (items : List Term) (left : Option Term) → HasGaps p o → LevelsFit depth base p items left
    → HasGaps (levels depth base p items left).at o
levels-gaps zero base p o items left h fits = h
levels-gaps (suc depth) base p o items left h fits =
    let level = level_of (with_filter items left) in
    levels-gaps depth (base + length level) (added p.nodes (node.Compute p.root level)) o
    (map (reduced base level) items) (option_map (reduced base level) left)
    (more p o (node.Compute p.root level) h fits.0 (λ f v. refl)) fits.1

select-gaps : (p : Placed) (o : Option TickGaps) (left : Option Term) → HasGaps p o → SelectFits p left → HasGaps (selected p left) o
select-gaps p o None h fits = h
select-gaps p o (Some t) h fits = more p o (node.Select p.root (column_under (operand_of t))) h fits (λ f v. refl)

pub rows-gaps : (columns reach : List NamedColumn) (pick : PickShape) (condition : Option ExprShape) (p : Placed) (o : Option TickGaps) → HasGaps p o → RowsFit columns reach pick condition p
    → HasGaps (rows_over columns reach pick condition p) o
rows-gaps columns reach pick condition p o h fits =
    let items = picked_terms columns reach pick in
    let left = filter_of columns reach condition in
    let over = levelled (length columns) p items left in
    let first = levels-gaps (depth_of_all (with_filter items left)) (length columns) p o items left h fits.of_levels in
    let second = select-gaps over.at o over.filter first fits.of_select in
    more (selected over.at over.filter) o (node.Project (selected over.at over.filter).root (map operand_of over.items)) second fits.of_project (λ f v. refl)

-- a node that has none, whatever the nodes below have
alone : (nodes : List PlanNode) (n : PlanNode) → IsPlan nodes → FitsNext nodes n
    → ((f : ℕ → Figures) (v : ℕ → Option TickGaps) → tick_gaps_from f v n ≡ None) → HasGaps (added nodes n) None
alone nodes n plan fits row =
    let new = is_added nodes n plan fits in
    let next = added nodes n in
    let own = ticks_there next.nodes next.root n new.over.plan new.there ∙ row (figures_of next.nodes) (tick_gaps_at next.nodes) in
    record { plan = new.over.plan; within = new.over.within; is = own }

-- the frames of an as-of join have none, and so have the filter and the picked columns above them
pub join-gaps : (lefts rights : List NamedColumn) (slots : SlotsShape) (left : ℕ) (right : Placed) → IsPlan right.nodes → JoinFits lefts rights slots left right
    → HasGaps (as_of_over lefts rights slots left right) None
join-gaps lefts rights slots left right plan fits =
    let first = right_side lefts rights slots.key right in
    let second = left_side lefts rights slots.key left right in
    let both = both_placed lefts rights slots.key left right in
    let framed = join_framed lefts rights slots left right in
    let kept = join_kept lefts rights slots left right in
    let all = joined_columns lefts rights slots.key in
    let first_plan = (is_added right.nodes (node.Project right.root (right_items lefts rights slots.key)) plan fits.of_right).over.plan in
    let second_plan = (is_added first.nodes (node.Project left (left_items lefts rights slots.key)) first_plan fits.of_left).over.plan in
    let both_plan = (is_added second.nodes (node.Merge first.root second.root) second_plan fits.of_both).over.plan in
    let frames = node.Frames both.root (Some (join_key lefts slots)) (join_frames lefts rights slots.key) in
    let of_frames = alone both.nodes frames both_plan fits.of_frames (λ f v. refl) in
    let of_kept = more framed None (node.Select framed.root all) of_frames fits.of_select (λ f v. refl) in
    more kept None (node.Project kept.root (columns_from 0 all)) of_kept fits.of_project (λ f v. refl)

-- the node that was added is at the root
pub there : (nodes : List PlanNode) (n : PlanNode) → slice_get (added nodes n).nodes (added nodes n).root ≡ Some n
unfolding added
there nodes n = (node_inserted nodes n).number

-- so it has none where such a node has none
over-added : (nodes mid : List PlanNode) (n : PlanNode) → IsOver nodes (added mid n) → ((f : ℕ → Figures) (v : ℕ → Option TickGaps) → tick_gaps_from f v n ≡ None)
    → HasGaps (added mid n) None
over-added nodes mid n over row =
    let at = added mid n in
    record { plan = over.plan; within = over.within; is = ticks_there at.nodes at.root n over.plan (there mid n) ∙ row (figures_of at.nodes) (tick_gaps_at at.nodes) }

-- ---- queries over streams

module _ (lengths : ResultsAreLong) (streams sources : List Stream) (reader : IsReader (stream_node streams) sources true) where
  -- the plan of a query behind a plan's nodes
  abbrev plan_at : QueryShape → List PlanNode → Placed
  plan_at q nodes = placed (stream_node streams) sources q nodes

  -- windows of time have those of their body's figures
  windows-gaps : (var : List ℕ) (source : QueryShape) (size advance : ℕ) (body : QueryShape) (nodes : List PlanNode)
      → IsAcceptedOver (record { sources = sources; timed = true }) (shape.Each Time var source size advance body) → IsPlan nodes
      → HasGaps (plan_at (shape.Each Time var source size advance body) nodes) (query_ticks sources (shape.Each Time var source size advance body))
  windows-gaps var source size advance body nodes a plan =
      let columns = columns_of sources source in
      let inner : List ℕ → PlanNode = λ name. node.Body (kinds_of columns) in
      let done = right lengths (shape.Each Time var source size advance body) (stream_node streams) sources true nodes reader a plan in
      let below = right lengths source (stream_node streams) sources true nodes reader a.0 plan in
      let from = plan_at source nodes in
      let kinds = body-reader sources true reader.scope var columns (columns-are source (stream_node streams) sources true reader a.0) in
      let within = right lengths body inner (inside sources var columns) false from.nodes kinds a.2 below.1.over.plan in
      let into = placed inner (inside sources var columns) body from.nodes in
      let windows = node.TimeWindow from.root into.root size advance in
      let top = is_added into.nodes windows within.1.over.plan done.0.2 in
      let new = added into.nodes windows in
      let still = figures-kept into.nodes new.nodes (length into.nodes) (in_order into.nodes within.1.over.plan (length into.nodes)) top.over.kept into.root within.1.over.within in
      let of_body = (figures-right lengths body inner (inside sources var columns) false from.nodes kinds a.2 below.1.over.plan).is in
      record {
        plan = top.over.plan;
        within = top.over.within;
        is = ticks_there new.nodes new.root windows top.over.plan top.there ∙ ap (tick_gaps_of size advance) (sym still ∙ of_body);
      }

  pub ticks-right : (q : QueryShape) (nodes : List PlanNode) → IsAcceptedOver (record { sources = sources; timed = true }) q → IsPlan nodes → HasGaps (plan_at q nodes) (query_ticks sources q)
  ticks-right (shape.Read name) nodes a plan =
      let done = right lengths (shape.Read name) (stream_node streams) sources true nodes reader a plan in
      alone nodes (stream_node streams name) plan done.0 (λ f v. refl)
  ticks-right (shape.Rows pick filter source) nodes a plan =
      let done = right lengths (shape.Rows pick filter source) (stream_node streams) sources true nodes reader a plan in
      rows-gaps (columns_of sources source) (reach_of sources (columns_of sources source)) pick filter (plan_at source nodes) (query_ticks sources source) (ticks-right source nodes a.0 plan) done.0.1
  ticks-right (shape.Each Time var source size advance body) nodes a plan = windows-gaps var source size advance body nodes a plan
  ticks-right (shape.AsOf l r slots) nodes a plan =
      let done = right lengths (shape.AsOf l r slots) (stream_node streams) sources true nodes reader a plan in
      let first = right lengths l (stream_node streams) sources true nodes reader a.0 plan in
      let left = plan_at l nodes in
      let second = right lengths r (stream_node streams) sources true left.nodes reader a.1 first.1.over.plan in
      join-gaps (columns_of sources l) (columns_of sources r) slots left.root (plan_at r left.nodes) second.1.over.plan done.0.2
  ticks-right (shape.Total aggs source) nodes a plan = over-added nodes _ (node.Aggregate _ _) (right lengths (shape.Total aggs source) (stream_node streams) sources true nodes reader a plan).1.over (λ f v. refl)
  ticks-right (shape.Frames items filter slots source) nodes a plan = over-added nodes _ (node.Frames _ _ _) (right lengths (shape.Frames items filter slots source) (stream_node streams) sources true nodes reader a plan).1.over (λ f v. refl)
  ticks-right (shape.Each Tuples var source size advance body) nodes a plan = over-added nodes _ (node.Window _ _ size advance) (right lengths (shape.Each Tuples var source size advance body) (stream_node streams) sources true nodes reader a plan).1.over (λ f v. refl)
  ticks-right (shape.PerGroup var source key count body) nodes a plan = over-added nodes _ (node.Group _ _ _ count) (right lengths (shape.PerGroup var source key count body) (stream_node streams) sources true nodes reader a plan).1.over (λ f v. refl)
  ticks-right (shape.Partition var source key count size advance body) nodes a plan = over-added nodes _ (node.Partition _ _ _ count size advance) (right lengths (shape.Partition var source key count size advance body) (stream_node streams) sources true nodes reader a plan).1.over (λ f v. refl)
  ticks-right (shape.Union l r) nodes a plan = over-added nodes _ (node.Union _ _) (right lengths (shape.Union l r) (stream_node streams) sources true nodes reader a plan).1.over (λ f v. refl)
  ticks-right (shape.ByArrival l r) nodes a plan = over-added nodes _ (node.Merge _ _) (right lengths (shape.ByArrival l r) (stream_node streams) sources true nodes reader a plan).1.over (λ f v. refl)
  ticks-right (shape.Concat l r) nodes a plan = over-added nodes _ (node.Beside _ _) (right lengths (shape.Concat l r) (stream_node streams) sources true nodes reader a plan).1.over (λ f v. refl)
