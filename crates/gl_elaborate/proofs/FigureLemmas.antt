-- The figures of a query's plan are the query's.
use Rattle.std.proofs.Common.{◌≡◌, ℕ, zero, suc, ◌+◌, ◌<◌, Bool, false, List, [], ◌∷◌, ◌++◌, length, Option, Some, None, refl, sym, ap, subst, ◌∙◌, arith, map, max, nat_lt}
use Rattle.std.specs.Prelude.{if◌then◌else◌, is_some, option_map, option_to_list}
use Rattle.std.specs.List.{range_with_len}
use Rattle.gl_values.specs.declared.kind.Kind.{Kind}
use Rattle.gl_values.specs.declared.kind.Kind.TheVariants.{Unsigned}
use Rattle.gl_schema.specs.declared.schema.Column.{Column as NamedColumn}
use Rattle.gl_schema.specs.declared.schema.Stream.{Stream}
use Rattle.gl_schema.specs.Schemas.{kinds_of}
use Rattle.gl_query.specs.declared.tree.Measure.{Measure}
use Rattle.gl_query.specs.declared.tree.Measure.TheVariants.{Tuples, Time}
use Rattle.gl_query.specs.Shapes.{ExprShape, ItemShape, AggShape, AggItemShape, FrameAggShape, FrameShape, FrameItemShape, PickShape, QueryShape, SlotsShape}
use Rattle.gl_query.specs.Shapes as shape
use Rattle.gl_query.specs.Values.{column_number, kind_alone, operand_place}
use Rattle.gl_query.specs.Columns.{columns_of, reach_of}
use Rattle.gl_query.specs.Columns as query
use Rattle.gl_query.specs.Accepted.{IsAcceptedOver}
use Rattle.gl_query.specs.Laws.{ResultsAreLong}
use Rattle.gl_algebra.specs.declared.figures.Figures.{Figures}
use Rattle.gl_algebra.specs.declared.node.PlanNode.{PlanNode}
use Rattle.gl_algebra.specs.declared.node.PlanNode.TheVariants as node
use Rattle.gl_algebra.specs.FigureTable.{input_figures, settled, delayed, aggregate_figures, turn_figures, union_figures, beside_figures, window_figures, group_figures, partition_figures, figures_from, figures_of}
use Rattle.gl_algebra.specs.Fits.{IsPlan}
use Rattle.gl_query.specs.Windows.{copies_of}
use Rattle.gl_algebra.specs.Views.{copies_of_partition}
use Rattle.gl_algebra.specs.Shapes.{Shape, shape_of}
use Rattle.gl_algebra.proofs.FigureLemmas.{figures-kept}
use Rattle.gl_algebra.proofs.PlanLemmas.{in_order}
use Rattle.gl_elaborate.specs.Terms.{Term, Column, depth_of, depth_of_all, named, term_of, term_over}
use Rattle.gl_elaborate.specs.Levels.{level_of, reduced, operand_of}
use Rattle.gl_algebra.specs.Added.{Placed, added, placed_at}
use Rattle.gl_algebra.specs.Keys.{delay_by_key}
use Rattle.gl_elaborate.specs.Plans.{levels, levelled, placed, condition_of, filter_of, frame_arguments, frame_terms, frames_of, frames_over, frames_terms, key_over, picked_terms, aggs_of, arguments_of, arguments_of_all, selected, rows_over, totals_over, column_under, window_node, with_filter}
use Rattle.gl_elaborate.specs.Fitting.{FitsNext, FramesFit, JoinFits, LevelsFit, SelectFits, RowsFit, TotalsFit}
use Rattle.gl_elaborate.specs.Figures.{expr_depth, filter_depth, items_depth, pick_depth, condition_depth, agg_depth, aggs_depth, aggs_delay, frame_agg_depth, frame_depth, frames_depth, frames_delay, parted_delay, computed_figures, filtered_figures, join_figures, query_figures}
use Rattle.gl_elaborate.specs.Joins.{as_of_over, both_placed, columns_from, join_framed, join_frames, join_kept, join_key, joined_columns, left_items, left_side, right_items, right_side}
use Rattle.gl_elaborate.proofs.PlacedLemmas.{IsOver, is_added, over-then}
use Rattle.gl_bits.proofs.Bools.{by_cases}
use Rattle.gl_elaborate.proofs.ApartLemmas.{apart-depth}
use Rattle.gl_elaborate.proofs.DepthLemmas.{depth-both}
use Rattle.gl_elaborate.proofs.TotalsLemmas.{HasDelay}
use Rattle.gl_elaborate.proofs.FramesLemmas.{HasFrameDelay}
use Rattle.gl_elaborate.proofs.ReadLemmas.{IsLeafOf, IsReader, body-reader}
use Rattle.gl_elaborate.proofs.QueryLemmas.{right, columns-are}
use Rattle.gl_elaborate.proofs.DelayLemmas.{total-delay, frames-delay, join-right}

-- ---- depths

term-depth : (columns : List NamedColumn) (place : Kind) (e : ExprShape) → depth_of (term_of columns place e) ≡ expr_depth e
term-depth columns place (shape.Column name) = refl
term-depth columns place (shape.Number n) = refl
term-depth columns place (shape.Minus n) = refl
term-depth columns place (shape.Letters text) = refl
term-depth columns place (shape.Not e) = ap (λ (n : ℕ). 1 + n) (term-depth columns (Unsigned 1) e)
term-depth columns place (shape.Flip e) = ap (λ (n : ℕ). 1 + n) (term-depth columns place e)
term-depth columns place (shape.Cast kind e) = ap (λ (n : ℕ). 1 + n) (term-depth columns (kind_alone e) e)
term-depth columns place (shape.Binary o l r) = λ i.
    1 + max (term-depth columns (operand_place columns o place l r) l i) (term-depth columns (operand_place columns o place r l) r i)

module _ (columns reach : List NamedColumn) where
  over-depth : (place : Kind) (e : ExprShape) → depth_of (term_over columns reach place e) ≡ expr_depth e
  over-depth place e = apart-depth (length columns) reach (term_of reach place e) ∙ term-depth reach place e

  -- a column stays one, and a parameter is cast
  named-condition : (n : ℕ) → depth_of (condition_of (named (length columns) reach n)) ≡ (if nat_lt n (length columns) then 0 else 1)
  named-condition n = by_cases (nat_lt n (length columns)) (λ e. rw e refl) (λ e. rw e refl)

  condition-depth : (e : ExprShape) → depth_of (condition_of (term_over columns reach (Unsigned 1) e)) ≡ filter_depth columns reach e
  condition-depth (shape.Column name) = named-condition (column_number reach name)
  condition-depth (shape.Number n) = refl
  condition-depth (shape.Minus n) = refl
  condition-depth (shape.Letters text) = refl
  condition-depth (shape.Not e) = over-depth (Unsigned 1) (shape.Not e)
  condition-depth (shape.Flip e) = over-depth (Unsigned 1) (shape.Flip e)
  condition-depth (shape.Cast kind e) = over-depth (Unsigned 1) (shape.Cast kind e)
  condition-depth (shape.Binary o l r) = over-depth (Unsigned 1) (shape.Binary o l r)

columns-depth : (k n : ℕ) → depth_of_all (map Column (range_with_len k n)) ≡ 0
columns-depth k zero = refl
columns-depth k (suc n) = let rest = columns-depth (k + 1) n in omega arith

module _ (columns reach : List NamedColumn) where
  pick-depth : (pick : PickShape) → depth_of_all (picked_terms columns reach pick) ≡ pick_depth pick
  pick-depth shape.All = columns-depth 0 (length columns)
  pick-depth (shape.Items items) = each items
    where
      each : (items : List ItemShape) → depth_of_all (map (λ (i : ItemShape). term_over columns reach (kind_alone i.expr) i.expr) items) ≡ items_depth items
      each [] = refl
      each (i ∷ items) = λ k. max (over-depth columns reach (kind_alone i.expr) i.expr k) (each items k)

  filter-depth : (condition : Option ExprShape) → depth_of_all (option_to_list (filter_of columns reach condition)) ≡ condition_depth columns reach condition
  filter-depth None = refl
  filter-depth (Some e) = let one = condition-depth columns reach e in omega arith

  -- one expression alone
  alone-depth : (e : ExprShape) → depth_of_all (term_over columns reach (kind_alone e) e ∷ []) ≡ expr_depth e
  alone-depth e = let d = over-depth columns reach (kind_alone e) e in omega arith

  argument-depth : (a : AggShape) → depth_of_all (arguments_of columns reach a) ≡ agg_depth a
  argument-depth shape.Count = refl
  argument-depth (shape.Sum e) = alone-depth e
  argument-depth (shape.Min e) = alone-depth e
  argument-depth (shape.Max e) = alone-depth e
  argument-depth (shape.Avg e) = alone-depth e
  argument-depth (shape.Wsum e weights) = alone-depth e

  arguments-depth : (items : List AggItemShape) → depth_of_all (arguments_of_all columns reach items) ≡ aggs_depth items
  arguments-depth [] = refl
  arguments-depth (i ∷ items) =
      depth-both (arguments_of columns reach i.agg) (arguments_of_all columns reach items) ∙ (λ k. max (argument-depth i.agg k) (arguments-depth items k))

  function-depth : (a : FrameAggShape) → depth_of_all (frame_arguments columns reach a) ≡ frame_agg_depth a
  function-depth shape.CountOver = refl
  function-depth (shape.SumOver e) = alone-depth e
  function-depth (shape.MinOver e) = alone-depth e
  function-depth (shape.MaxOver e) = alone-depth e
  function-depth (shape.AvgOver e) = alone-depth e
  function-depth (shape.LastOver e) = alone-depth e

  frame-terms-depth : (f : FrameShape) → depth_of_all (frame_terms columns reach f) ≡ frame_depth columns reach f
  frame-terms-depth (shape.Own e) = alone-depth e
  frame-terms-depth (shape.Lag e back) = alone-depth e
  frame-terms-depth (shape.Over agg condition back) =
      depth-both (frame_arguments columns reach agg) (option_to_list (filter_of columns reach condition))
      ∙ (λ k. max (function-depth agg k) (filter-depth condition k))

  frames-depth : (items : List FrameItemShape) → depth_of_all (frames_terms columns reach items) ≡ frames_depth columns reach items
  frames-depth [] = refl
  frames-depth (i ∷ items) =
      depth-both (frame_terms columns reach i.frame) (frames_terms columns reach items) ∙ (λ k. max (frame-terms-depth i.frame k) (frames-depth items k))

-- ---- nodes

at : Placed → Figures
at p = figures_of p.nodes p.root

-- a node of a plan with these figures
pub record HasFigures (p : Placed) (f : Figures) : Type 0 where
  pub plan : IsPlan p.nodes
  pub is : figures_of p.nodes p.root ≡ f

more : (p : Placed) (f : Figures) (n : PlanNode) (g : Figures → Figures) → HasFigures p f → FitsNext p.nodes n
    → ((s : ℕ → Shape) (v : ℕ → Figures) → figures_from s v n ≡ g (v p.root)) → HasFigures (added p.nodes n) (g f)
more p f n g h fits row =
    let new = is_added p.nodes n h.plan fits in
    record { plan = new.over.plan; is = new.figures ∙ row (shape_of p.nodes) (figures_of p.nodes) ∙ ap g h.is }

levels-figures : (depth base : ℕ) (p : Placed) (f : Figures) (items : List Term) (left : Option Term) → HasFigures p f → LevelsFit depth base p items left
    → HasFigures (levels depth base p items left).at (computed_figures depth f)
levels-figures zero base p f items left h fits = h
levels-figures (suc depth) base p f items left h fits =
    let level = level_of (with_filter items left) in
    levels-figures depth (base + length level) (added p.nodes (node.Compute p.root level)) (settled (delayed 1 f))
    (map (reduced base level) items) (option_map (reduced base level) left)
    (more p f (node.Compute p.root level) (λ x. settled (delayed 1 x)) h fits.0 (λ s v. refl)) fits.1

-- there is a filter's term exactly where there is a filter
abbrev Same : Option ExprShape → Option Term → Type 0
Same condition left = is_some left ≡ is_some condition

same-map : (f : Term → Term) (left : Option Term) → is_some (option_map f left) ≡ is_some left
same-map f None = refl
same-map f (Some t) = refl

same-levels : (depth base : ℕ) (p : Placed) (items : List Term) (left : Option Term) (condition : Option ExprShape) → Same condition left
    → Same condition (levels depth base p items left).filter
same-levels zero base p items left condition h = h
same-levels (suc depth) base p items left condition h =
    let level = level_of (with_filter items left) in
    same-levels depth (base + length level) (added p.nodes (node.Compute p.root level)) (map (reduced base level) items) (option_map (reduced base level) left)
    condition (same-map (reduced base level) left ∙ h)

same-filter : (columns reach : List NamedColumn) (condition : Option ExprShape) → Same condition (filter_of columns reach condition)
same-filter columns reach None = refl
same-filter columns reach (Some e) = refl

select-figures : (p : Placed) (f : Figures) (condition : Option ExprShape) (left : Option Term) → HasFigures p f → Same condition left → SelectFits p left
    → HasFigures (selected p left) (filtered_figures condition f)
select-figures p f None None h same fits = h
select-figures p f None (Some t) h same fits = absurd (cc)
select-figures p f (Some e) None h same fits = absurd (cc)
select-figures p f (Some e) (Some t) h same fits =
    more p f (node.Select p.root (column_under (operand_of t))) (λ x. settled (delayed 1 x)) h fits (λ s v. refl)

module _ (columns reach : List NamedColumn) where
  rows-figures : (pick : PickShape) (condition : Option ExprShape) (p : Placed) (f : Figures) → HasFigures p f → RowsFit columns reach pick condition p
      → HasFigures (rows_over columns reach pick condition p)
      (settled (filtered_figures condition (computed_figures (max (pick_depth pick) (condition_depth columns reach condition)) f)))
  rows-figures pick condition p f h fits =
      let items = picked_terms columns reach pick in
      let left = filter_of columns reach condition in
      let over = levelled (length columns) p items left in
      let computed = computed_figures (max (pick_depth pick) (condition_depth columns reach condition)) f in
      let depth = depth-both items (option_to_list left) ∙ (λ i. max (pick-depth columns reach pick i) (filter-depth columns reach condition i)) in
      let first = subst (λ (d : ℕ). HasFigures over.at (computed_figures d f)) depth
      (levels-figures (depth_of_all (with_filter items left)) (length columns) p f items left h fits.of_levels) in
      let same = same-levels (depth_of_all (with_filter items left)) (length columns) p items left condition (same-filter columns reach condition) in
      let second = select-figures over.at computed condition over.filter first same fits.of_select in
      more (selected over.at over.filter) (filtered_figures condition computed)
      (node.Project (selected over.at over.filter).root (map operand_of over.items)) settled second fits.of_project (λ s v. refl)

  totals-figures : (items : List AggItemShape) (p : Placed) (f : Figures) → HasFigures p f → TotalsFit columns reach items p → HasDelay columns reach items p
      → HasFigures (totals_over columns reach items p) (aggregate_figures (aggs_delay reach items) (computed_figures (aggs_depth items) f))
  totals-figures items p f h fits delay =
      let terms = arguments_of_all columns reach items in
      let over = levelled (length columns) p terms None in
      let depth : depth_of_all (terms ++ []) ≡ aggs_depth items = (let d = depth-both terms [] in let e = arguments-depth columns reach items in omega arith) in
      let first = subst (λ (d : ℕ). HasFigures over.at (computed_figures d f)) depth
      (levels-figures (depth_of_all (terms ++ [])) (length columns) p f terms None h fits.of_levels) in
      let aggs = node.Aggregate over.at.root (aggs_of reach items over.items) in
      let new = is_added over.at.nodes aggs first.plan fits.of_aggregate in
      record {
        plan = new.over.plan;
        is = new.figures ∙ (λ i. aggregate_figures (delay i) (first.is i));
      }

frames-figures : (columns reach : List NamedColumn) (items : List FrameItemShape) (condition : Option ExprShape) (slots : Option SlotsShape) (p : Placed) (f : Figures)
    → HasFigures p f → FramesFit columns reach items condition (key_over columns slots) p
    → (let over = levelled (length columns) p (frames_terms columns reach items) (filter_of columns reach condition) in HasFrameDelay columns reach items slots (selected over.at over.filter) over.items)
    → HasFigures (frames_over columns reach items condition (key_over columns slots) p)
    (settled (delayed (parted_delay columns slots (frames_delay reach items))
    (filtered_figures condition (computed_figures (max (frames_depth columns reach items) (condition_depth columns reach condition)) f))))
frames-figures columns reach items condition slots p f h fits delay =
    let terms = frames_terms columns reach items in
    let left = filter_of columns reach condition in
    let over = levelled (length columns) p terms left in
    let kept = selected over.at over.filter in
    let computed = computed_figures (max (frames_depth columns reach items) (condition_depth columns reach condition)) f in
    let depth = depth-both terms (option_to_list left) ∙ (λ i. max (frames-depth columns reach items i) (filter-depth columns reach condition i)) in
    let first = subst (λ (d : ℕ). HasFigures over.at (computed_figures d f)) depth
    (levels-figures (depth_of_all (with_filter terms left)) (length columns) p f terms left h fits.of_levels) in
    let same = same-levels (depth_of_all (with_filter terms left)) (length columns) p terms left condition (same-filter columns reach condition) in
    let second = select-figures over.at computed condition over.filter first same fits.of_select in
    let new = is_added kept.nodes (node.Frames kept.root (key_over columns slots) (frames_of items over.items)) second.plan fits.of_frames in
    record {
      plan = new.over.plan;
      is = new.figures ∙ (λ i. settled (delayed (delay i) (second.is i)));
    }

-- two nodes, of which the second was placed behind the first
both-figures : (l r : Placed) (f g : Figures) (n : PlanNode) (row : Figures → Figures → Figures) → HasFigures l f → HasFigures r g → l.root < length l.nodes → IsOver l.nodes r
    → FitsNext r.nodes n → ((s : ℕ → Shape) (v : ℕ → Figures) → figures_from s v n ≡ row (v l.root) (v r.root)) → HasFigures (added r.nodes n) (row f g)
both-figures l r f g n row h k within over fits local =
    let new = is_added r.nodes n k.plan fits in
    let still : figures_of r.nodes l.root ≡ f =
    sym (figures-kept l.nodes r.nodes (length l.nodes) (in_order l.nodes h.plan (length l.nodes)) over.kept l.root within) ∙ h.is in
    record {
      plan = new.over.plan;
      is = new.figures ∙ local (shape_of r.nodes) (figures_of r.nodes) ∙ (λ i. row (still i) (k.is i));
    }

-- the nodes of an as-of join
join-figures : (lefts rights : List NamedColumn) (slots : SlotsShape) (l r : Placed) (f g : Figures) → HasFigures l f → HasFigures r g → l.root < length l.nodes → IsOver l.nodes r
    → JoinFits lefts rights slots l.root r
    → (let both = both_placed lefts rights slots.key l.root r in
    delay_by_key (shape_of both.nodes both.root).kinds (Some (join_key lefts slots)) (join_frames lefts rights slots.key) ≡ parted_delay lefts (Some slots) 1)
    → HasFigures (as_of_over lefts rights slots l.root r) (join_figures lefts slots f g)
join-figures lefts rights slots l r f g h k within over fits delay =
    let c = right_side lefts rights slots.key r in
    let d = left_side lefts rights slots.key l.root r in
    let e = both_placed lefts rights slots.key l.root r in
    let items = join_frames lefts rights slots.key in
    let new_c = is_added r.nodes (node.Project r.root (right_items lefts rights slots.key)) k.plan fits.of_right in
    let on_c = more r g (node.Project r.root (right_items lefts rights slots.key)) settled k fits.of_right (λ s v. refl) in
    let wider = over-then l.nodes r c over new_c.over in
    let still : HasFigures (placed_at c.nodes l.root) f =
    record {
      plan = on_c.plan;
      is = sym (figures-kept l.nodes c.nodes (length l.nodes) (in_order l.nodes h.plan (length l.nodes)) wider.kept l.root within) ∙ h.is;
    } in
    let new_d = is_added c.nodes (node.Project l.root (left_items lefts rights slots.key)) on_c.plan fits.of_left in
    let on_d = more (placed_at c.nodes l.root) f (node.Project l.root (left_items lefts rights slots.key)) settled still fits.of_left (λ s v. refl) in
    let on_e = both-figures c d (settled g) (settled f) (node.Merge c.root d.root) turn_figures on_c on_d new_c.over.within new_d.over fits.of_both (λ s v. refl) in
    let new_f = is_added e.nodes (node.Frames e.root (Some (join_key lefts slots)) items) on_e.plan fits.of_frames in
    let turned = turn_figures (settled g) (settled f) in
    let framed = settled (delayed (parted_delay lefts (Some slots) 1) turned) in
    let on_f : HasFigures (join_framed lefts rights slots l.root r) framed =
    record { plan = new_f.over.plan; is = new_f.figures ∙ (λ i. settled (delayed (delay i) (on_e.is i))) } in
    let all = joined_columns lefts rights slots.key in
    let select = node.Select (join_framed lefts rights slots l.root r).root all in
    let on_g = more (join_framed lefts rights slots l.root r) framed select (λ x. settled (delayed 1 x)) on_f fits.of_select (λ s v. refl) in
    let project = node.Project (join_kept lefts rights slots l.root r).root (columns_from 0 all) in
    more (join_kept lefts rights slots l.root r) (settled (delayed 1 framed)) project settled on_g fits.of_project (λ s v. refl)

read-figures : (n : PlanNode) (kinds : List Kind) (s : ℕ → Shape) (v : ℕ → Figures) → IsLeafOf n kinds → figures_from s v n ≡ input_figures
read-figures (node.Stream k own) kinds s v h = refl
read-figures (node.Body own) kinds s v h = refl
read-figures (node.Compute child ops) kinds s v h = absurd h
read-figures (node.Select child column) kinds s v h = absurd h
read-figures (node.Project child items) kinds s v h = absurd h
read-figures (node.Frames child by items) kinds s v h = absurd h
read-figures (node.Aggregate child aggs) kinds s v h = absurd h
read-figures (node.Union left right) kinds s v h = absurd h
read-figures (node.Merge left right) kinds s v h = absurd h
read-figures (node.Beside left right) kinds s v h = absurd h
read-figures (node.Window source body size advance) kinds s v h = absurd h
read-figures (node.TimeWindow source body size advance) kinds s v h = absurd h
read-figures (node.Group source body key groups) kinds s v h = absurd h
read-figures (node.Partition source body key groups size advance) kinds s v h = absurd h

window-figured : (measure : Measure) (source body size advance : ℕ) (s : ℕ → Shape) (v : ℕ → Figures)
    → figures_from s v (window_node measure source body size advance) ≡ window_figures (copies_of measure size advance) (v source) (v body)
window-figured Tuples source body size advance s v = refl
window-figured Time source body size advance s v = refl

pub figures-right : ResultsAreLong → (q : QueryShape) (read : List ℕ → PlanNode) (sources : List Stream) (timed : Bool) (nodes : List PlanNode) → IsReader read sources timed → IsAcceptedOver (record { sources = sources; timed = timed }) q
    → IsPlan nodes → HasFigures (placed read sources q nodes) (query_figures sources q)
figures-right lengths (shape.Read name) read sources timed nodes reader a plan =
    let done = right lengths (shape.Read name) read sources timed nodes reader a plan in
    let new = is_added nodes (read name) plan done.0 in
    record {
      plan = new.over.plan;
      is = new.figures ∙ read-figures (read name) _ (shape_of nodes) (figures_of nodes) (reader.leaf name a);
    }
figures-right lengths (shape.Rows pick condition source) read sources timed nodes reader a plan =
    let done = right lengths (shape.Rows pick condition source) read sources timed nodes reader a plan in
    rows-figures (columns_of sources source) (reach_of sources (columns_of sources source)) pick condition (placed read sources source nodes) (query_figures sources source)
    (figures-right lengths source read sources timed nodes reader a.0 plan) done.0.1
figures-right lengths (shape.Total aggs source) read sources timed nodes reader a plan =
    let done = right lengths (shape.Total aggs source) read sources timed nodes reader a plan in
    totals-figures (columns_of sources source) (reach_of sources (columns_of sources source)) aggs (placed read sources source nodes) (query_figures sources source)
    (figures-right lengths source read sources timed nodes reader a.0 plan) done.0.1 (total-delay lengths aggs source read sources timed nodes reader a plan)
figures-right lengths (shape.Frames items condition slots source) read sources timed nodes reader a plan =
    let done = right lengths (shape.Frames items condition slots source) read sources timed nodes reader a plan in
    frames-figures (columns_of sources source) (reach_of sources (columns_of sources source)) items condition slots (placed read sources source nodes) (query_figures sources source)
    (figures-right lengths source read sources timed nodes reader a.0 plan) done.0.1
    (frames-delay lengths items condition slots source read sources timed nodes reader a plan)
figures-right lengths (shape.Each measure var source size advance body) read sources timed nodes reader a plan =
    let columns = columns_of sources source in
    let inner : List ℕ → PlanNode = λ name. node.Body (kinds_of columns) in
    let done = right lengths (shape.Each measure var source size advance body) read sources timed nodes reader a plan in
    let below = right lengths source read sources timed nodes reader a.0 plan in
    let from = placed read sources source nodes in
    let kinds = body-reader sources timed reader.scope var columns (columns-are source read sources timed reader a.0) in
    let inside = right lengths body inner (query.inside sources var columns) false from.nodes kinds a.2 below.1.over.plan in
    let into = placed inner (query.inside sources var columns) body from.nodes in
    both-figures from into (query_figures sources source) (query_figures (query.inside sources var columns) body)
    (window_node measure from.root into.root size advance) (window_figures (copies_of measure size advance))
    (figures-right lengths source read sources timed nodes reader a.0 plan) (figures-right lengths body inner (query.inside sources var columns) false from.nodes kinds a.2 below.1.over.plan)
    below.1.over.within inside.1.over done.0.2 (window-figured measure from.root into.root size advance)
figures-right lengths (shape.PerGroup var source key count body) read sources timed nodes reader a plan =
    let columns = columns_of sources source in
    let inner : List ℕ → PlanNode = λ name. node.Body (kinds_of columns) in
    let done = right lengths (shape.PerGroup var source key count body) read sources timed nodes reader a plan in
    let below = right lengths source read sources timed nodes reader a.0 plan in
    let from = placed read sources source nodes in
    let kinds = body-reader sources timed reader.scope var columns (columns-are source read sources timed reader a.0) in
    let inside = right lengths body inner (query.inside sources var columns) false from.nodes kinds a.2 below.1.over.plan in
    let into = placed inner (query.inside sources var columns) body from.nodes in
    both-figures from into (query_figures sources source) (query_figures (query.inside sources var columns) body)
    (node.Group from.root into.root (column_number columns key) count) (group_figures count)
    (figures-right lengths source read sources timed nodes reader a.0 plan) (figures-right lengths body inner (query.inside sources var columns) false from.nodes kinds a.2 below.1.over.plan)
    below.1.over.within inside.1.over done.0.2 (λ s v. refl)
figures-right lengths (shape.Partition var source key count size advance body) read sources timed nodes reader a plan =
    let columns = columns_of sources source in
    let inner : List ℕ → PlanNode = λ name. node.Body (kinds_of columns) in
    let done = right lengths (shape.Partition var source key count size advance body) read sources timed nodes reader a plan in
    let below = right lengths source read sources timed nodes reader a.0 plan in
    let from = placed read sources source nodes in
    let kinds = body-reader sources timed reader.scope var columns (columns-are source read sources timed reader a.0) in
    let inside = right lengths body inner (query.inside sources var columns) false from.nodes kinds a.2 below.1.over.plan in
    let into = placed inner (query.inside sources var columns) body from.nodes in
    both-figures from into (query_figures sources source) (query_figures (query.inside sources var columns) body)
    (node.Partition from.root into.root (column_number columns key) count size advance) (partition_figures (copies_of_partition count size advance))
    (figures-right lengths source read sources timed nodes reader a.0 plan) (figures-right lengths body inner (query.inside sources var columns) false from.nodes kinds a.2 below.1.over.plan)
    below.1.over.within inside.1.over done.0.2 (λ s v. refl)
figures-right lengths (shape.Union l r) read sources timed nodes reader a plan =
    let done = right lengths (shape.Union l r) read sources timed nodes reader a plan in
    let first = right lengths l read sources timed nodes reader a.0 plan in
    let left = placed read sources l nodes in
    let second = right lengths r read sources timed left.nodes reader a.1 first.1.over.plan in
    let both = placed read sources r left.nodes in
    both-figures left both (query_figures sources l) (query_figures sources r) (node.Union left.root both.root) union_figures
    (figures-right lengths l read sources timed nodes reader a.0 plan) (figures-right lengths r read sources timed left.nodes reader a.1 first.1.over.plan)
    first.1.over.within second.1.over done.0.2 (λ s v. refl)
figures-right lengths (shape.ByArrival l r) read sources timed nodes reader a plan =
    let done = right lengths (shape.ByArrival l r) read sources timed nodes reader a plan in
    let first = right lengths l read sources timed nodes reader a.0 plan in
    let left = placed read sources l nodes in
    let second = right lengths r read sources timed left.nodes reader a.1 first.1.over.plan in
    let both = placed read sources r left.nodes in
    both-figures left both (query_figures sources l) (query_figures sources r) (node.Merge left.root both.root) turn_figures
    (figures-right lengths l read sources timed nodes reader a.0 plan) (figures-right lengths r read sources timed left.nodes reader a.1 first.1.over.plan)
    first.1.over.within second.1.over done.0.2 (λ s v. refl)
figures-right lengths (shape.AsOf l r slots) read sources timed nodes reader a plan =
    let done = join-right lengths l r slots read sources timed nodes reader a plan in
    let first = right lengths l read sources timed nodes reader a.0 plan in
    let left = placed read sources l nodes in
    let second = right lengths r read sources timed left.nodes reader a.1 first.1.over.plan in
    join-figures (columns_of sources l) (columns_of sources r) slots left (placed read sources r left.nodes) (query_figures sources l) (query_figures sources r)
    (figures-right lengths l read sources timed nodes reader a.0 plan) (figures-right lengths r read sources timed left.nodes reader a.1 first.1.over.plan)
    first.1.over.within second.1.over done.fit done.delay
figures-right lengths (shape.Concat l r) read sources timed nodes reader a plan =
    let done = right lengths (shape.Concat l r) read sources timed nodes reader a plan in
    let first = right lengths l read sources timed nodes reader a.0 plan in
    let left = placed read sources l nodes in
    let second = right lengths r read sources timed left.nodes reader a.1 first.1.over.plan in
    let both = placed read sources r left.nodes in
    both-figures left both (query_figures sources l) (query_figures sources r) (node.Beside left.root both.root) beside_figures
    (figures-right lengths l read sources timed nodes reader a.0 plan) (figures-right lengths r read sources timed left.nodes reader a.1 first.1.over.plan)
    first.1.over.within second.1.over done.0.2 (λ s v. refl)
