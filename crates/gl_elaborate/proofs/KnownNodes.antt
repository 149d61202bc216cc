-- The parameters that the nodes of a query's plan name are those of its schema.
use Rattle.std.proofs.Common.{◌≡◌, ℕ, zero, suc, ◌+◌, Bool, false, List, [], ◌∷◌, ◌++◌, length, map, Option, Some, None}
use Rattle.std.specs.Prelude.{option_map, option_to_list, remove, slice_set}
use Rattle.std.specs.List.{AllByRecursion, range_with_len}
use Rattle.std.proofs.lemmas.List.Elements.{All-from_recursion}
use Rattle.gl_bits.proofs.AllLists.{all_append, all_at, all_by_place, all_mapped, all_weaker}
use Rattle.gl_bits.proofs.Bools.{by_cases}
use Rattle.gl_values.specs.declared.kind.Kind.{Kind}
use Rattle.gl_schema.specs.declared.schema.Column.{Column as NamedColumn}
use Rattle.gl_schema.specs.declared.schema.Stream.{Stream}
use Rattle.gl_schema.specs.Schemas.{kinds_of}
use Rattle.gl_query.specs.declared.tree.Measure.{Measure}
use Rattle.gl_query.specs.declared.tree.Measure.TheVariants.{Tuples, Time}
use Rattle.gl_query.specs.Shapes.{ExprShape, AggShape, AggItemShape, FrameAggShape, FrameShape, FrameItemShape, PickShape, QueryShape, SlotsShape}
use Rattle.gl_query.specs.Shapes as shape
use Rattle.gl_query.specs.Values.{column_number}
use Rattle.gl_query.specs.Columns.{but_key, columns_of, inside, source_columns}
use Rattle.gl_query.specs.Accepted.{IsAcceptedOver, IsAgg, IsFilter, IsFrame, IsRows}
use Rattle.gl_query.specs.Laws.{AreKinds}
use Rattle.gl_query.proofs.Real.{reach_kinds}
use Rattle.gl_algebra.specs.declared.node.ColOp.{ColOp}
use Rattle.gl_algebra.specs.declared.node.Operand.{Operand}
use Rattle.gl_algebra.specs.declared.node.Operand.TheVariants as operand
use Rattle.gl_algebra.specs.declared.node.PlanFrame.TheVariants as frame
use Rattle.gl_algebra.specs.declared.node.PlanKey.{PlanKey}
use Rattle.gl_algebra.specs.declared.node.PlanNode.{PlanNode}
use Rattle.gl_algebra.specs.declared.node.PlanNode.TheVariants as node
use Rattle.gl_algebra.specs.Added.{Placed, added, has_node, with_node}
use Rattle.gl_algebra.specs.Known.{AggKnown, AreKnown, FrameAggKnown, FrameKnown, NodeKnown, OpKnown, OperandKnown}
use Rattle.gl_elaborate.specs.Terms.{Term, depth_of_all}
use Rattle.gl_elaborate.specs.Levels.{level_of, operand_of, reduced}
use Rattle.gl_elaborate.specs.Plans.{Levelled, agg_over, aggs_of, arguments_of_all, behind, behind_argument, behind_condition, behind_frame, column_under, filter_of, first_of, frame_agg_over, frame_over, frames_of, frames_over, frames_terms, key_over, levels, picked_terms, placed, rest_of, rows_over, selected, totals_over, window_node, with_filter}
use Rattle.gl_elaborate.specs.Joins.{as_of_over, both_placed, columns_from, join_framed, join_frames, join_kept, join_key, joined_columns, last_marked, left_items, left_side, mark, right_items, right_side, zero_of, zeros_for}
use Rattle.gl_elaborate.proofs.KnownLemmas.{IsKnown, all-of, arguments-known, filter-known, frames-known, level-known, operand-known, picks-known, reduced-known, widths_of}
use Rattle.gl_elaborate.proofs.QueryLemmas.{columns-are}
use Rattle.gl_elaborate.proofs.ReadLemmas.{IsLeafOf, IsReader, body-reader}
use Rattle.gl_elaborate.proofs.RightLemmas.{behind_columns}

module _ (words : List ℕ) where
  -- ---- one node more

  with-known : (nodes : List PlanNode) (n : PlanNode) → AllByRecursion (NodeKnown words) nodes → NodeKnown words n → AllByRecursion (NodeKnown words) (with_node nodes n)
  with-known nodes n all here =
      by_cases (has_node nodes n) (λ e. rw e all) (λ e. rw e (all_append (NodeKnown words) nodes (n ∷ []) all (here, tt)))

  added-known : (nodes : List PlanNode) (n : PlanNode) → AreKnown words nodes → NodeKnown words n → AreKnown words (added nodes n).nodes
  unfolding added
  added-known nodes n known here = record {
    each = λ k x at. all_at (NodeKnown words) (with_node nodes n) k x at (with-known nodes n (all_by_place (NodeKnown words) nodes known.each) here);
  }

  leaf-known : (n : PlanNode) (kinds : List Kind) → IsLeafOf n kinds → NodeKnown words n
  leaf-known (node.Stream k own) kinds h = tt
  leaf-known (node.Body own) kinds h = tt
  leaf-known (node.Compute child ops) kinds h = absurd h
  leaf-known (node.Select child column) kinds h = absurd h
  leaf-known (node.Project child items) kinds h = absurd h
  leaf-known (node.Frames child by items) kinds h = absurd h
  leaf-known (node.Aggregate child aggs) kinds h = absurd h
  leaf-known (node.Union left right) kinds h = absurd h
  leaf-known (node.Merge left right) kinds h = absurd h
  leaf-known (node.Beside left right) kinds h = absurd h
  leaf-known (node.Window source body size advance) kinds h = absurd h
  leaf-known (node.TimeWindow source body size advance) kinds h = absurd h
  leaf-known (node.Group source body key groups) kinds h = absurd h
  leaf-known (node.Partition source body key groups size advance) kinds h = absurd h

  -- ---- levels

  -- what levels give names no other parameter
  record AreLevelled (over : Levelled) : Type 0 where
    nodes : AreKnown words over.at.nodes
    items : AllByRecursion (IsKnown words) over.items
    filter : AllByRecursion (IsKnown words) (option_to_list over.filter)

  all-reduced : (base : ℕ) (level : List ColOp) (ts : List Term) → AllByRecursion (IsKnown words) ts → AllByRecursion (IsKnown words) (map (reduced base level) ts)
  all-reduced base level ts h =
      all_mapped (IsKnown words) (reduced base level) ts (all_weaker (IsKnown words) (λ (t : Term). IsKnown words (reduced base level t)) (reduced-known words base level) ts h)

  filter-reduced : (base : ℕ) (level : List ColOp) (o : Option Term) → AllByRecursion (IsKnown words) (option_to_list o)
      → AllByRecursion (IsKnown words) (option_to_list (option_map (reduced base level) o))
  filter-reduced base level None h = tt
  filter-reduced base level (Some t) h = (reduced-known words base level t h.0, tt)

  levels-known : (depth base : ℕ) (at : Placed) (items : List Term) (o : Option Term) → AreKnown words at.nodes → AllByRecursion (IsKnown words) items
      → AllByRecursion (IsKnown words) (option_to_list o) → AreLevelled (levels depth base at items o)
  levels-known zero base at items o known h k = record { nodes = known; items = h; filter = k }
  levels-known (suc depth) base at items o known h k =
      let terms = with_filter items o in
      let level = level_of terms in
      let all = level-known words terms (all_append (IsKnown words) items (option_to_list o) h k) in
      levels-known depth (base + length level) (added at.nodes (node.Compute at.root level)) (map (reduced base level) items) (option_map (reduced base level) o)
      (added-known at.nodes (node.Compute at.root level) known (All-from_recursion (OpKnown words) level all))
      (all-reduced base level items h) (filter-reduced base level o k)

  selected-known : (at : Placed) (o : Option Term) → AreKnown words at.nodes → AreKnown words (selected at o).nodes
  selected-known at None known = known
  selected-known at (Some t) known = added-known at.nodes (node.Select at.root (column_under (operand_of t))) known tt

  -- ---- the items of nodes

  operands-known : (ts : List Term) → AllByRecursion (IsKnown words) ts → AllByRecursion (OperandKnown words) (map operand_of ts)
  operands-known ts h =
      all_mapped (OperandKnown words) operand_of ts (all_weaker (IsKnown words) (λ (t : Term). OperandKnown words (operand_of t)) (operand-known words) ts h)

  first-known : (ts : List Term) → AllByRecursion (IsKnown words) ts → OperandKnown words (first_of ts)
  first-known [] h = tt
  first-known (t ∷ ts) h = operand-known words t h.0

  rest-known : (ts : List Term) → AllByRecursion (IsKnown words) ts → AllByRecursion (IsKnown words) (rest_of ts)
  rest-known [] h = tt
  rest-known (t ∷ ts) h = h.1

  agg-known : (reach : List NamedColumn) (a : AggShape) (ts : List Term) → AllByRecursion (IsKnown words) ts
      → AggKnown words (agg_over reach a ts) × AllByRecursion (IsKnown words) (behind a ts)
  agg-known reach shape.Count ts h = (tt, h)
  agg-known reach (shape.Sum e) ts h = (first-known ts h, rest-known ts h)
  agg-known reach (shape.Min e) ts h = (first-known ts h, rest-known ts h)
  agg-known reach (shape.Max e) ts h = (first-known ts h, rest-known ts h)
  agg-known reach (shape.Avg e) ts h = (first-known ts h, rest-known ts h)
  agg-known reach (shape.Wsum e weights) ts h = (first-known ts h, rest-known ts h)

  aggs-known : (reach : List NamedColumn) (items : List AggItemShape) (ts : List Term) → AllByRecursion (IsKnown words) ts
      → AllByRecursion (AggKnown words) (aggs_of reach items ts)
  aggs-known reach [] ts h = tt
  aggs-known reach (i ∷ items) ts h =
      let here = agg-known reach i.agg ts h in
      (here.0, aggs-known reach items (behind i.agg ts) here.1)

  over-known : (a : FrameAggShape) (ts : List Term) → AllByRecursion (IsKnown words) ts
      → FrameAggKnown words (frame_agg_over a ts) × AllByRecursion (IsKnown words) (behind_argument a ts)
  over-known shape.CountOver ts h = (tt, h)
  over-known (shape.SumOver e) ts h = (first-known ts h, rest-known ts h)
  over-known (shape.MinOver e) ts h = (first-known ts h, rest-known ts h)
  over-known (shape.MaxOver e) ts h = (first-known ts h, rest-known ts h)
  over-known (shape.AvgOver e) ts h = (first-known ts h, rest-known ts h)
  over-known (shape.LastOver e) ts h = (first-known ts h, rest-known ts h)

  condition-behind : (o : Option ExprShape) (ts : List Term) → AllByRecursion (IsKnown words) ts → AllByRecursion (IsKnown words) (behind_condition o ts)
  condition-behind None ts h = h
  condition-behind (Some e) ts h = rest-known ts h

  frame-known : (f : FrameShape) (ts : List Term) → AllByRecursion (IsKnown words) ts
      → FrameKnown words (frame_over f ts) × AllByRecursion (IsKnown words) (behind_frame f ts)
  frame-known (shape.Own e) ts h = (first-known ts h, rest-known ts h)
  frame-known (shape.Lag e back) ts h = (first-known ts h, rest-known ts h)
  frame-known (shape.Over a o back) ts h =
      let here = over-known a ts h in
      (here.0, condition-behind o (behind_argument a ts) here.1)

  made-known : (items : List FrameItemShape) (ts : List Term) → AllByRecursion (IsKnown words) ts → AllByRecursion (FrameKnown words) (frames_of items ts)
  made-known [] ts h = tt
  made-known (i ∷ items) ts h =
      let here = frame-known i.frame ts h in
      (here.0, made-known items (behind_frame i.frame ts) here.1)

  -- ---- an as-of join names no parameter

  all-but : (xs : List Operand) (k : ℕ) → AllByRecursion (OperandKnown words) xs → AllByRecursion (OperandKnown words) (remove xs k)
  all-but [] zero h = tt
  all-but [] (suc k) h = tt
  all-but (x ∷ xs) zero h = h.1
  all-but (x ∷ xs) (suc k) h = (h.0, all-but xs k h.1)

  set-known : (xs : List Operand) (place column : ℕ) → AllByRecursion (OperandKnown words) xs
      → AllByRecursion (OperandKnown words) (slice_set xs place (operand.Column column))
  set-known [] zero column h = tt
  set-known [] (suc place) column h = tt
  set-known (x ∷ xs) zero column h = (tt, h.1)
  set-known (x ∷ xs) (suc place) column h = (h.0, set-known xs place column h.1)

  zeros-known : (columns : List NamedColumn) → AllByRecursion (OperandKnown words) (zeros_for columns)
  zeros-known columns =
      all_mapped (OperandKnown words) (λ (c : NamedColumn). zero_of c.kind) columns
      (all-of (λ (c : NamedColumn). OperandKnown words (zero_of c.kind)) (λ c. tt) columns)

  columns-known : (first count : ℕ) → AllByRecursion (OperandKnown words) (columns_from first count)
  columns-known first count =
      let numbers = range_with_len first count in
      all_mapped (OperandKnown words) operand.Column numbers (all-of (λ (c : ℕ). OperandKnown words (operand.Column c)) (λ c. tt) numbers)

  rights-known : (lefts rights : List NamedColumn) (key : List ℕ) → AllByRecursion (OperandKnown words) (right_items lefts rights key)
  rights-known lefts rights key =
      let place = column_number rights key in
      all_append (OperandKnown words) (slice_set (zeros_for lefts) (column_number lefts key) (operand.Column place)) _
      (set-known (zeros_for lefts) (column_number lefts key) place (zeros-known lefts))
      (all_append (OperandKnown words) (remove (columns_from 0 (length rights)) place) (mark 1 ∷ mark 0 ∷ [])
      (all-but (columns_from 0 (length rights)) place (columns-known 0 (length rights))) (tt, (tt, tt)))

  lefts-known : (lefts rights : List NamedColumn) (key : List ℕ) → AllByRecursion (OperandKnown words) (left_items lefts rights key)
  lefts-known lefts rights key =
      all_append (OperandKnown words) (columns_from 0 (length lefts)) _ (columns-known 0 (length lefts))
      (all_append (OperandKnown words) (zeros_for (but_key key rights)) (mark 0 ∷ mark 1 ∷ []) (zeros-known (but_key key rights)) (tt, (tt, tt)))

  joined-frames : (lefts rights : List NamedColumn) (key : List ℕ) → AllByRecursion (FrameKnown words) (join_frames lefts rights key)
  joined-frames lefts rights key =
      let all = joined_columns lefts rights key in
      let own = range_with_len 0 (length lefts) in
      let other = range_with_len (length lefts) (length (but_key key rights)) in
      all_append (FrameKnown words) (map (λ (c : ℕ). frame.Own (operand.Column c)) own) _
      (all_mapped (FrameKnown words) (λ (c : ℕ). frame.Own (operand.Column c)) own (all-of (λ (c : ℕ). FrameKnown words (frame.Own (operand.Column c))) (λ c. tt) own))
      (all_append (FrameKnown words) (map (last_marked all) other) (frame.Own (operand.Column (all + 1)) ∷ [])
      (all_mapped (FrameKnown words) (last_marked all) other (all-of (λ (c : ℕ). FrameKnown words (last_marked all c)) (λ c. tt) other)) (tt, tt))

  joined-known : (lefts rights : List NamedColumn) (slots : SlotsShape) (left : ℕ) (right : Placed) → AreKnown words right.nodes
      → AreKnown words (as_of_over lefts rights slots left right).nodes
  joined-known lefts rights slots left right known =
      let key = slots.key in
      let rights_at = right_side lefts rights key right in
      let lefts_at = left_side lefts rights key left right in
      let both = both_placed lefts rights key left right in
      let framed = join_framed lefts rights slots left right in
      let kept = join_kept lefts rights slots left right in
      let all = joined_columns lefts rights key in
      let a = added-known right.nodes (node.Project right.root (right_items lefts rights key)) known
      (All-from_recursion (OperandKnown words) (right_items lefts rights key) (rights-known lefts rights key)) in
      let b = added-known rights_at.nodes (node.Project left (left_items lefts rights key)) a
      (All-from_recursion (OperandKnown words) (left_items lefts rights key) (lefts-known lefts rights key)) in
      let c = added-known lefts_at.nodes (node.Merge rights_at.root lefts_at.root) b tt in
      let d = added-known both.nodes (node.Frames both.root (Some (join_key lefts slots)) (join_frames lefts rights key)) c
      (All-from_recursion (FrameKnown words) (join_frames lefts rights key) (joined-frames lefts rights key)) in
      let e = added-known framed.nodes (node.Select framed.root all) d tt in
      added-known kept.nodes (node.Project kept.root (columns_from 0 all)) e
      (All-from_recursion (OperandKnown words) (columns_from 0 all) (columns-known 0 all))

  window-known : (measure : Measure) (source body size advance : ℕ) → NodeKnown words (window_node measure source body size advance)
  window-known Tuples source body size advance = tt
  window-known Time source body size advance = tt

  -- ---- selects

  module _ (columns parameters : List NamedColumn) (same : widths_of parameters ≡ words) (are : AreKinds (columns ++ parameters)) where
    rows-known : (pick : PickShape) (o : Option ExprShape) (at : Placed) → IsRows (columns ++ parameters) pick o → AreKnown words at.nodes
        → AreKnown words (rows_over columns (columns ++ parameters) pick o at).nodes
    rows-known pick o at h known =
        let items = picked_terms columns (columns ++ parameters) pick in
        let left = filter_of columns (columns ++ parameters) o in
        let depth = depth_of_all (with_filter items left) in
        let over = levels depth (length columns) at items left in
        let all = levels-known depth (length columns) at items left known
        (picks-known words columns parameters same are pick h.picks) (filter-known words columns parameters same are o h.filters) in
        let from = selected over.at over.filter in
        added-known from.nodes (node.Project from.root (map operand_of over.items)) (selected-known over.at over.filter all.nodes)
        (All-from_recursion (OperandKnown words) (map operand_of over.items) (operands-known over.items all.items))

    totals-known : (aggs : List AggItemShape) (at : Placed) → AllByRecursion (λ (i : AggItemShape). IsAgg (columns ++ parameters) i.agg) aggs → AreKnown words at.nodes
        → AreKnown words (totals_over columns (columns ++ parameters) aggs at).nodes
    totals-known aggs at h known =
        let items = arguments_of_all columns (columns ++ parameters) aggs in
        let left : Option Term = None in
        let depth = depth_of_all (with_filter items left) in
        let over = levels depth (length columns) at items left in
        let all = levels-known depth (length columns) at items left known (arguments-known words columns parameters same are aggs h) tt in
        let made = aggs_of (columns ++ parameters) aggs over.items in
        added-known over.at.nodes (node.Aggregate over.at.root made) all.nodes
        (All-from_recursion (AggKnown words) made (aggs-known (columns ++ parameters) aggs over.items all.items))

    framed-known : (frames : List FrameItemShape) (o : Option ExprShape) (by : Option PlanKey) (at : Placed)
        → AllByRecursion (λ (i : FrameItemShape). IsFrame (columns ++ parameters) i.frame) frames → IsFilter (columns ++ parameters) o → AreKnown words at.nodes
        → AreKnown words (frames_over columns (columns ++ parameters) frames o by at).nodes
    framed-known frames o by at h picks known =
        let items = frames_terms columns (columns ++ parameters) frames in
        let left = filter_of columns (columns ++ parameters) o in
        let depth = depth_of_all (with_filter items left) in
        let over = levels depth (length columns) at items left in
        let all = levels-known depth (length columns) at items left known
        (frames-known words columns parameters same are frames h) (filter-known words columns parameters same are o picks) in
        let from = selected over.at over.filter in
        let made = frames_of frames over.items in
        added-known from.nodes (node.Frames from.root by made) (selected-known over.at over.filter all.nodes)
        (All-from_recursion (FrameKnown words) made (made-known frames over.items all.items))

  -- ---- queries

  pub placed-known : (q : QueryShape) (read : List ℕ → PlanNode) (sources : List Stream) (timed : Bool) (nodes : List PlanNode) → IsReader read sources timed
      → widths_of (behind_columns sources) ≡ words → IsAcceptedOver (record { sources = sources; timed = timed }) q → AreKnown words nodes
      → AreKnown words (placed read sources q nodes).nodes
  placed-known (shape.Read name) read sources timed nodes reader same a known =
      added-known nodes (read name) known (leaf-known (read name) (kinds_of (source_columns sources name)) (reader.leaf name a))
  placed-known (shape.Rows pick o source) read sources timed nodes reader same a known =
      let columns = columns_of sources source in
      let all = reach_kinds (record { sources = sources; timed = timed }) reader.scope columns (columns-are source read sources timed reader a.0).kinds in
      rows-known columns (behind_columns sources) same all pick o (placed read sources source nodes) a.1
      (placed-known source read sources timed nodes reader same a.0 known)
  placed-known (shape.Total aggs source) read sources timed nodes reader same a known =
      let columns = columns_of sources source in
      let all = reach_kinds (record { sources = sources; timed = timed }) reader.scope columns (columns-are source read sources timed reader a.0).kinds in
      totals-known columns (behind_columns sources) same all aggs (placed read sources source nodes) a.1.typed
      (placed-known source read sources timed nodes reader same a.0 known)
  placed-known (shape.Frames items o slots source) read sources timed nodes reader same a known =
      let columns = columns_of sources source in
      let all = reach_kinds (record { sources = sources; timed = timed }) reader.scope columns (columns-are source read sources timed reader a.0).kinds in
      framed-known columns (behind_columns sources) same all items o (key_over columns slots) (placed read sources source nodes) a.1.typed a.1.filters
      (placed-known source read sources timed nodes reader same a.0 known)
  placed-known (shape.Each measure var source size advance body) read sources timed nodes reader same a known =
      let from = placed read sources source nodes in
      let below = placed-known source read sources timed nodes reader same a.0 known in
      let columns = columns_of sources source in
      let inner : List ℕ → PlanNode = λ name. node.Body (kinds_of columns) in
      let into = placed inner (inside sources var columns) body from.nodes in
      added-known into.nodes (window_node measure from.root into.root size advance)
      (placed-known body inner (inside sources var columns) false from.nodes (body-reader sources timed reader.scope var columns (columns-are source read sources timed reader a.0)) same a.2 below)
      (window-known measure from.root into.root size advance)
  placed-known (shape.PerGroup var source key groups body) read sources timed nodes reader same a known =
      let from = placed read sources source nodes in
      let below = placed-known source read sources timed nodes reader same a.0 known in
      let columns = columns_of sources source in
      let inner : List ℕ → PlanNode = λ name. node.Body (kinds_of columns) in
      let into = placed inner (inside sources var columns) body from.nodes in
      added-known into.nodes (node.Group from.root into.root (column_number columns key) groups)
      (placed-known body inner (inside sources var columns) false from.nodes (body-reader sources timed reader.scope var columns (columns-are source read sources timed reader a.0)) same a.2 below)
      tt
  placed-known (shape.Partition var source key groups size advance body) read sources timed nodes reader same a known =
      let from = placed read sources source nodes in
      let below = placed-known source read sources timed nodes reader same a.0 known in
      let columns = columns_of sources source in
      let inner : List ℕ → PlanNode = λ name. node.Body (kinds_of columns) in
      let into = placed inner (inside sources var columns) body from.nodes in
      added-known into.nodes (node.Partition from.root into.root (column_number columns key) groups size advance)
      (placed-known body inner (inside sources var columns) false from.nodes (body-reader sources timed reader.scope var columns (columns-are source read sources timed reader a.0)) same a.2 below)
      tt
  placed-known (shape.Union l r) read sources timed nodes reader same a known =
      let left = placed read sources l nodes in
      let right = placed read sources r left.nodes in
      added-known right.nodes (node.Union left.root right.root)
      (placed-known r read sources timed left.nodes reader same a.1 (placed-known l read sources timed nodes reader same a.0 known)) tt
  placed-known (shape.ByArrival l r) read sources timed nodes reader same a known =
      let left = placed read sources l nodes in
      let right = placed read sources r left.nodes in
      added-known right.nodes (node.Merge left.root right.root)
      (placed-known r read sources timed left.nodes reader same a.1 (placed-known l read sources timed nodes reader same a.0 known)) tt
  placed-known (shape.AsOf l r slots) read sources timed nodes reader same a known =
      let left = placed read sources l nodes in
      joined-known (columns_of sources l) (columns_of sources r) slots left.root (placed read sources r left.nodes)
      (placed-known r read sources timed left.nodes reader same a.1 (placed-known l read sources timed nodes reader same a.0 known))
  placed-known (shape.Concat l r) read sources timed nodes reader same a known =
      let left = placed read sources l nodes in
      let right = placed read sources r left.nodes in
      added-known right.nodes (node.Beside left.root right.root)
      (placed-known r read sources timed left.nodes reader same a.1 (placed-known l read sources timed nodes reader same a.0 known)) tt
