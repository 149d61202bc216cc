-- The nodes that a plan of a query is made of fit, each where it is added.
-- A middle layer, proved equal to `Plans`: no promise rests on it.
use Rattle.std.specs.Prelude.{◌≡◌, ℕ, zero, suc, ◌+◌, ◌<◌, ◌≤◌, false, List, map, length, Option, Some, None, bytes_eq, option_map}
use Rattle.gl_values.specs.declared.kind.Kind.TheVariants.{Unsigned}
use Rattle.gl_schema.specs.declared.schema.Column.{Column as NamedColumn}
use Rattle.gl_query.specs.Shapes.{ExprShape, PickShape, AggItemShape, FrameShape, FrameItemShape, QueryShape, SlotsShape}
use Rattle.gl_query.specs.Shapes as shape
use Rattle.gl_query.specs.Values.{column_number, kind_alone}
use Rattle.gl_query.specs.Columns.{agg_kind, colon, columns_of, inside, reach_of}
use Rattle.gl_query.specs.Accepted.{IsAgg, IsFilter, IsFrame, IsRows}
use Rattle.gl_values.specs.Kinds.{IsKind}
use Rattle.std.specs.List.{AllByRecursion}
use Rattle.gl_schema.specs.declared.schema.Stream.{Stream}
use Rattle.gl_schema.specs.Schemas.{kinds_of}
use Rattle.gl_algebra.specs.declared.node.PlanKey.{PlanKey}
use Rattle.gl_algebra.specs.declared.node.PlanNode.{PlanNode}
use Rattle.gl_algebra.specs.declared.node.PlanNode.TheVariants as node
use Rattle.gl_algebra.specs.Fits.{Fits}
use Rattle.gl_algebra.specs.Added.{Placed, added}
use Rattle.gl_elaborate.specs.Terms.{Term, depth_of_all, ops_in_all, term_over, IsTerm}
use Rattle.gl_elaborate.specs.Levels.{level_of, reduced, operand_of}
use Rattle.gl_query.specs.Laws.{AreKinds}
use Rattle.gl_elaborate.specs.Joins.{both_placed, columns_from, join_framed, join_frames, join_kept, join_key, joined_columns, left_items, left_side, right_items, right_side}
use Rattle.gl_elaborate.specs.Plans.{levelled, selected, column_under, picked_terms, filter_of, with_filter, arguments_of_all, aggs_of, frame_arguments, frames_of, frames_terms, key_over, placed, window_node}

-- a node fits behind these
abbrev pub FitsNext : List PlanNode → PlanNode → Type 0
FitsNext nodes n = Fits nodes (length nodes) n

-- each node that a number of levels adds fits the plan at which it is added
abbrev pub LevelsFit : ℕ → ℕ → Placed → List Term → Option Term → Type 0
LevelsFit zero base at items filter = Unit {0}
LevelsFit (suc depth) base at items filter =
    let level = level_of (with_filter items filter) in
    FitsNext at.nodes (node.Compute at.root level)
    × LevelsFit depth (base + length level) (added at.nodes (node.Compute at.root level))
    (map (reduced base level) items) (option_map (reduced base level) filter)

-- the levels that take apart the items and the filter fit
abbrev pub LevelledFit : ℕ → Placed → List Term → Option Term → Type 0
LevelledFit base at items filter = LevelsFit (depth_of_all (with_filter items filter)) base at items filter

-- the node of the filter fits, where there is a filter
abbrev pub SelectFits : Placed → Option Term → Type 0
SelectFits at None = Unit {0}
SelectFits at (Some t) = FitsNext at.nodes (node.Select at.root (column_under (operand_of t)))

-- the node that picks the items fits
abbrev pub ProjectFits : Placed → List Term → Type 0
ProjectFits at items = FitsNext at.nodes (node.Project at.root (map operand_of items))

-- the nodes of a select
pub record RowsFit (columns reach : List NamedColumn) (pick : PickShape) (filter : Option ExprShape) (at : Placed)
    : Type 0 where
  pub of_levels : LevelledFit (length columns) at (picked_terms columns reach pick) (filter_of columns reach filter)
  pub of_select :
      let over = levelled (length columns) at (picked_terms columns reach pick) (filter_of columns reach filter)
      in SelectFits over.at over.filter
  pub of_project :
      let over = levelled (length columns) at (picked_terms columns reach pick) (filter_of columns reach filter) in
      ProjectFits (selected over.at over.filter) over.items

-- one level done: the same levels come of what is left, whose nodes fit and whose columns have room
pub record IsStep (base : ℕ) (at : Placed) (items : List Term) (filter : Option Term) (base' : ℕ) (at' : Placed)
    (items' : List Term) (filter' : Option Term) : Type 0 where
  pub same : levelled base' at' items' filter' ≡ levelled base at items filter
  pub fit : LevelledFit base' at' items' filter'
  pub room : base' + ops_in_all (with_filter items' filter') < 65536
  pub less : depth_of_all (with_filter items' filter') < depth_of_all (with_filter items filter)

-- the nodes of a total
pub record TotalsFit (columns reach : List NamedColumn) (items : List AggItemShape) (at : Placed) : Type 0 where
  pub of_levels : LevelledFit (length columns) at (arguments_of_all columns reach items) None
  pub of_aggregate :
      let over = levelled (length columns) at (arguments_of_all columns reach items) None in
      FitsNext over.at.nodes (node.Aggregate over.at.root (aggs_of reach items over.items))

-- the node of frames fits
abbrev pub FramedFits : Placed → Option PlanKey → List FrameItemShape → List Term → Type 0
FramedFits at by items terms = FitsNext at.nodes (node.Frames at.root by (frames_of items terms))

-- the nodes of a select of frames
pub record FramesFit (columns reach : List NamedColumn) (items : List FrameItemShape) (filter : Option ExprShape)
    (by : Option PlanKey) (at : Placed) : Type 0 where
  pub of_levels : LevelledFit (length columns) at (frames_terms columns reach items) (filter_of columns reach filter)
  pub of_select :
      let over = levelled (length columns) at (frames_terms columns reach items) (filter_of columns reach filter)
      in SelectFits over.at over.filter
  pub of_frames :
      let over = levelled (length columns) at (frames_terms columns reach items) (filter_of columns reach filter) in
      FramedFits (selected over.at over.filter) by items over.items

-- the nodes of an as-of join
pub record JoinFits (lefts rights : List NamedColumn) (slots : SlotsShape) (left : ℕ) (right : Placed) : Type 0 where
  pub of_right : FitsNext right.nodes (node.Project right.root (right_items lefts rights slots.key))
  pub of_left :
      FitsNext (right_side lefts rights slots.key right).nodes
      (node.Project left (left_items lefts rights slots.key))
  pub of_both :
      let before = left_side lefts rights slots.key left right in
      FitsNext before.nodes (node.Merge (right_side lefts rights slots.key right).root before.root)
  pub of_frames :
      let both = both_placed lefts rights slots.key left right in
      FitsNext both.nodes (node.Frames both.root (Some (join_key lefts slots)) (join_frames lefts rights slots.key))
  pub of_select :
      let framed = join_framed lefts rights slots left right in
      FitsNext framed.nodes (node.Select framed.root (joined_columns lefts rights slots.key))
  pub of_project :
      let kept = join_kept lefts rights slots left right in
      FitsNext kept.nodes (node.Project kept.root (columns_from 0 (joined_columns lefts rights slots.key)))

-- the nodes of a query
abbrev pub PlacedFit : (List ℕ → PlanNode) → List Stream → QueryShape → List PlanNode → Type 0
PlacedFit read sources (shape.Read name) nodes = FitsNext nodes (read name)
PlacedFit read sources (shape.Rows pick filter source) nodes =
    let columns = columns_of sources source in
    PlacedFit read sources source nodes × RowsFit columns (reach_of sources columns) pick filter
    (placed read sources source nodes)
PlacedFit read sources (shape.Total aggs source) nodes =
    let columns = columns_of sources source in
    PlacedFit read sources source nodes × TotalsFit columns (reach_of sources columns) aggs
    (placed read sources source nodes)
PlacedFit read sources (shape.Frames items filter slots source) nodes =
    let columns = columns_of sources source in
    PlacedFit read sources source nodes
    × FramesFit columns (reach_of sources columns) items filter (key_over columns slots)
    (placed read sources source nodes)
PlacedFit read sources (shape.Each measure var source size advance body) nodes =
    let columns = columns_of sources source in
    let from = placed read sources source nodes in
    let into = placed (λ name. node.Body (kinds_of columns)) (inside sources var columns) body from.nodes in
    PlacedFit read sources source nodes × PlacedFit (λ name. node.Body (kinds_of columns)) (inside sources var columns)
    body from.nodes
    × FitsNext into.nodes (window_node measure from.root into.root size advance)
PlacedFit read sources (shape.PerGroup var source key groups body) nodes =
    let columns = columns_of sources source in
    let from = placed read sources source nodes in
    let into = placed (λ name. node.Body (kinds_of columns)) (inside sources var columns) body from.nodes in
    PlacedFit read sources source nodes × PlacedFit (λ name. node.Body (kinds_of columns)) (inside sources var columns)
    body from.nodes
    × FitsNext into.nodes (node.Group from.root into.root (column_number columns key) groups)
PlacedFit read sources (shape.Partition var source key groups size advance body) nodes =
    let columns = columns_of sources source in
    let from = placed read sources source nodes in
    let into = placed (λ name. node.Body (kinds_of columns)) (inside sources var columns) body from.nodes in
    PlacedFit read sources source nodes × PlacedFit (λ name. node.Body (kinds_of columns)) (inside sources var columns)
    body from.nodes
    × FitsNext into.nodes
    (node.Partition from.root into.root (column_number columns key) groups size advance)
PlacedFit read sources (shape.Union l r) nodes =
    let left = placed read sources l nodes in
    let right = placed read sources r left.nodes in
    PlacedFit read sources l nodes × PlacedFit read sources r left.nodes
    × FitsNext right.nodes (node.Union left.root right.root)
PlacedFit read sources (shape.ByArrival l r) nodes =
    let left = placed read sources l nodes in
    let right = placed read sources r left.nodes in
    PlacedFit read sources l nodes × PlacedFit read sources r left.nodes
    × FitsNext right.nodes (node.Merge left.root right.root)
PlacedFit read sources (shape.AsOf l r slots) nodes =
    let left = placed read sources l nodes in
    PlacedFit read sources l nodes × PlacedFit read sources r left.nodes
    × JoinFits (columns_of sources l) (columns_of sources r) slots left.root (placed read sources r left.nodes)
PlacedFit read sources (shape.Concat l r) nodes =
    let left = placed read sources l nodes in
    let right = placed read sources r left.nodes in
    PlacedFit read sources l nodes × PlacedFit read sources r left.nodes
    × FitsNext right.nodes (node.Beside left.root right.root)

-- a filter's term is one
abbrev pub FilterTerm : (columns reach : List NamedColumn) → Option ExprShape → Type 0
FilterTerm columns reach None = Unit {0}
FilterTerm columns reach (Some e) = IsTerm (kinds_of columns) (term_over columns reach (Unsigned 1) e)

-- what stands behind the columns in a reach are parameters, at most 32
abbrev pub HasReach : (columns reach : List NamedColumn) → Type 0
HasReach columns reach = length reach ≤ length columns + 32

-- what code that places a select needs: its expressions are terms, and its columns have numbers of 16 bits
pub record CanPlaceRows (columns reach : List NamedColumn) (pick : PickShape) (filter : Option ExprShape) : Type 0 where
  pub rows : IsRows reach pick filter
  pub terms : AllByRecursion (IsTerm (kinds_of columns)) (picked_terms columns reach pick)
  pub filter_term : FilterTerm columns reach filter
  pub room : length columns
      + ops_in_all (with_filter (picked_terms columns reach pick) (filter_of columns reach filter)) < 65536
  pub near : HasReach columns reach

-- aggregates can become nodes: they are accepted, their kinds and terms are sound, and columns stay below 65,536
pub record CanPlaceTotal (columns reach : List NamedColumn) (items : List AggItemShape) : Type 0 where
  pub typed : AllByRecursion (λ (i : AggItemShape). IsAgg reach i.agg) items
  pub kinds : AllByRecursion (λ (i : AggItemShape). IsKind (agg_kind reach i.agg)) items
  pub terms : AllByRecursion (IsTerm (kinds_of columns)) (arguments_of_all columns reach items)
  pub room : length columns + ops_in_all (arguments_of_all columns reach items) < 65536
  pub near : HasReach columns reach

-- the expressions of a frame are terms
abbrev pub FrameTerms : (columns reach : List NamedColumn) → FrameShape → Type 0
FrameTerms columns reach (shape.Own e) = IsTerm (kinds_of columns) (term_over columns reach (kind_alone e) e)
FrameTerms columns reach (shape.Lag e back) = IsTerm (kinds_of columns) (term_over columns reach (kind_alone e) e)
FrameTerms columns reach (shape.Over agg filter back) =
    AllByRecursion (IsTerm (kinds_of columns)) (frame_arguments columns reach agg) × FilterTerm columns reach filter

-- frames can become nodes: they and the filter are accepted, their expressions are terms, and columns stay below 65,536
pub record CanPlaceFrames (columns reach : List NamedColumn) (items : List FrameItemShape) (filter : Option ExprShape)
    : Type 0 where
  pub typed : AllByRecursion (λ (i : FrameItemShape). IsFrame reach i.frame) items
  pub filters : IsFilter reach filter
  pub terms : AllByRecursion (λ (i : FrameItemShape). FrameTerms columns reach i.frame) items
  pub filter_term : FilterTerm columns reach filter
  pub room : length columns
      + ops_in_all (with_filter (frames_terms columns reach items) (filter_of columns reach filter)) < 65536
  pub near : HasReach columns reach

-- the column of PARTITION has a number of 8 bits, and its groups one of 16
abbrev pub CanPlaceSlots : List NamedColumn → Option SlotsShape → Type 0
CanPlaceSlots columns None = Unit {0}
CanPlaceSlots columns (Some s) = (column_number columns s.key ≤ 255) × (s.groups ≤ 4096)

-- both sides of an as-of join have at most 32 columns, of kinds that are kinds, and the key among them
pub record CanJoin (lefts rights : List NamedColumn) (slots : SlotsShape) : Type 0 where
  pub left_kinds : AreKinds lefts
  pub right_kinds : AreKinds rights
  pub few_lefts : length lefts ≤ 32
  pub few_rights : length rights ≤ 32
  pub left_key : column_number lefts slots.key < length lefts
  pub right_key : column_number rights slots.key < length rights
  pub groups : slots.groups ≤ 4096

-- what code that places a query needs
abbrev pub CanPlace : List Stream → QueryShape → Type 0
CanPlace sources (shape.Read name) = (length sources ≤ 9) × (bytes_eq name colon ≡ false)
CanPlace sources (shape.Rows pick filter source) =
    let columns = columns_of sources source in
    CanPlace sources source × CanPlaceRows columns (reach_of sources columns) pick filter
CanPlace sources (shape.Total aggs source) =
    let columns = columns_of sources source in
    CanPlace sources source × CanPlaceTotal columns (reach_of sources columns) aggs
CanPlace sources (shape.Frames items filter slots source) =
    let columns = columns_of sources source in
    CanPlace sources source × CanPlaceFrames columns (reach_of sources columns) items filter
    × CanPlaceSlots columns slots
CanPlace sources (shape.Each measure var source size advance body) =
    CanPlace sources source × CanPlace (inside sources var (columns_of sources source)) body × (size ≤ 65536)
    × (advance ≤ 65536)
CanPlace sources (shape.PerGroup var source key groups body) =
    CanPlace sources source × CanPlace (inside sources var (columns_of sources source)) body
    × (column_number (columns_of sources source) key ≤ 255) × (groups ≤ 256)
CanPlace sources (shape.Partition var source key groups size advance body) =
    CanPlace sources source × CanPlace (inside sources var (columns_of sources source)) body
    × (column_number (columns_of sources source) key ≤ 255) × (groups ≤ 256) × (size ≤ 65536)
    × (advance ≤ 65536)
CanPlace sources (shape.Union l r) = CanPlace sources l × CanPlace sources r
CanPlace sources (shape.ByArrival l r) = CanPlace sources l × CanPlace sources r
CanPlace sources (shape.AsOf l r slots) =
    CanPlace sources l × CanPlace sources r × CanJoin (columns_of sources l) (columns_of sources r) slots
CanPlace sources (shape.Concat l r) = CanPlace sources l × CanPlace sources r
