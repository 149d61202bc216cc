-- The plan of a query: its source first, then its body, then its own nodes, each added to a plan.
use Rattle.std.specs.Prelude.{◌≡◌, ℕ, zero, suc, ◌+◌, List, [], ◌∷◌, ◌++◌, map, length, take, Option, Some, None, option_map, option_to_list, bytes_eq}
use Rattle.std.specs.List.{position_or_len, range_with_len}
use Rattle.gl_bits.specs.Words.{Word}
use Rattle.gl_values.specs.Kinds.{width_of}
use Rattle.gl_values.specs.declared.kind.Kind.{Kind}
use Rattle.gl_values.specs.declared.kind.Kind.TheVariants.{Unsigned}
use Rattle.gl_schema.specs.declared.schema.Column.{Column as NamedColumn}
use Rattle.gl_schema.specs.declared.schema.Stream.{Stream}
use Rattle.gl_schema.specs.declared.schema.Schema.{Schema}
use Rattle.gl_schema.specs.Schemas.{kinds_of}
use Rattle.gl_query.specs.declared.tree.Measure.{Measure}
use Rattle.gl_query.specs.declared.tree.Measure.TheVariants.{Tuples, Time}
use Rattle.gl_query.specs.declared.tree.Statement.{Statement}
use Rattle.gl_query.specs.Shapes.{ExprShape, AggShape, ItemShape, AggItemShape, FrameAggShape, FrameShape, FrameItemShape, PickShape, QueryShape, SlotsShape, query_shape}
use Rattle.gl_query.specs.Shapes as shape
use Rattle.gl_query.specs.Values.{column_number, kind_alone, kind_of}
use Rattle.gl_query.specs.Columns.{columns_of, inside, reach_of, source_columns, sources_of}
use Rattle.gl_algebra.specs.declared.node.Operand.{Operand}
use Rattle.gl_algebra.specs.declared.node.Operand.TheVariants as operand
use Rattle.gl_algebra.specs.declared.node.PlanAgg.{PlanAgg}
use Rattle.gl_algebra.specs.declared.node.PlanAgg.TheVariants as agg
use Rattle.gl_algebra.specs.declared.node.PlanFrame.{PlanFrame}
use Rattle.gl_algebra.specs.declared.node.PlanFrame.TheVariants as frame
use Rattle.gl_algebra.specs.declared.node.PlanFrameAgg.{PlanFrameAgg}
use Rattle.gl_algebra.specs.declared.node.PlanFrameAgg.TheVariants as frame_agg
use Rattle.gl_algebra.specs.declared.node.PlanKey.{PlanKey}
use Rattle.gl_algebra.specs.declared.node.PlanNode.{PlanNode}
use Rattle.gl_algebra.specs.declared.node.PlanNode.TheVariants as node
use Rattle.gl_algebra.specs.Added.{Placed, added, placed_at}
use Rattle.gl_elaborate.specs.Terms.{Term, Column, Literal, Parameter, Not, Flip, Cast, Binary, term_over, depth_of_all}
use Rattle.gl_elaborate.specs.Levels.{level_of, reduced, operand_of}
use Rattle.gl_elaborate.specs.Joins.{as_of_over}

-- what the levels give over a node: the last of their nodes, and terms that are left of the items and of the filter, if
-- there is one
pub record Levelled : Type 0 where
  pub at : Placed
  pub items : List Term
  pub filter : Option Term

-- the items, and the filter behind them
abbrev pub with_filter : List Term → Option Term → List Term
with_filter items filter = items ++ option_to_list filter

-- so many levels over a node with `base` columns
abbrev pub levels : ℕ → ℕ → Placed → List Term → Option Term → Levelled
levels zero base at items filter = record { at = at; items = items; filter = filter }
levels (suc depth) base at items filter =
    let level = level_of (with_filter items filter) in
    levels depth (base + length level) (added at.nodes (node.Compute at.root level))
    (map (reduced base level) items) (option_map (reduced base level) filter)

-- as many levels as the terms are deep, over a node with `base` columns
abbrev pub levelled : ℕ → Placed → List Term → Option Term → Levelled
levelled base at items filter = levels (depth_of_all (with_filter items filter)) base at items filter

-- ---- selects

-- a condition that is a literal or a parameter is cast to one bit, so that it becomes a column
abbrev pub condition_of : Term → Term
condition_of (Column number) = Column number
condition_of (Literal word kind) = Cast (Literal word kind) (Unsigned 1)
condition_of (Parameter number kind) = Cast (Parameter number kind) (Unsigned 1)
condition_of (Not t) = Not t
condition_of (Flip t) = Flip t
condition_of (Cast t kind) = Cast t kind
condition_of (Binary op l r) = Binary op l r

-- a filter as a term of one bit, if there is a filter
abbrev pub filter_of : (columns reach : List NamedColumn) → Option ExprShape → Option Term
filter_of columns reach filter = option_map (λ e. condition_of (term_over columns reach (Unsigned 1) e)) filter

-- every column, or the items
abbrev pub picked_terms : (columns reach : List NamedColumn) → PickShape → List Term
picked_terms columns reach shape.All = map Column (range_with_len 0 (length columns))
picked_terms columns reach (shape.Items items) =
    map (λ (i : ItemShape). term_over columns reach (kind_alone i.expr) i.expr) items

-- the column that an operand names; a literal or parameter names none and counts as column 0
abbrev pub column_under : Operand → ℕ
column_under (operand.Column column) = column
column_under (operand.Literal word kind) = 0
column_under (operand.Parameter number kind) = 0

-- the rows for which the filter, if there is one, is 1
abbrev pub selected : Placed → Option Term → Placed
selected at None = at
selected at (Some t) = added at.nodes (node.Select at.root (column_under (operand_of t)))

-- a node that picks these terms, each a column, a literal or a parameter by now, behind a plan
abbrev pub projected : Placed → List Term → Placed
projected at items = added at.nodes (node.Project at.root (map operand_of items))

-- a select of rows: what its items and its filter compute, then the filter, then the items
abbrev pub rows_over : (columns reach : List NamedColumn) → PickShape → Option ExprShape → Placed → Placed
rows_over columns reach pick filter at =
    let over = levelled (length columns) at (picked_terms columns reach pick) (filter_of columns reach filter) in
    projected (selected over.at over.filter) over.items

-- ---- totals

-- the terms of an aggregate's argument, at most one
abbrev pub arguments_of : (columns reach : List NamedColumn) → AggShape → List Term
arguments_of columns reach shape.Count = []
arguments_of columns reach (shape.Sum e) = term_over columns reach (kind_alone e) e ∷ []
arguments_of columns reach (shape.Min e) = term_over columns reach (kind_alone e) e ∷ []
arguments_of columns reach (shape.Max e) = term_over columns reach (kind_alone e) e ∷ []
arguments_of columns reach (shape.Avg e) = term_over columns reach (kind_alone e) e ∷ []
arguments_of columns reach (shape.Wsum e weights) = term_over columns reach (kind_alone e) e ∷ []

-- the terms of all arguments in the order of their aggregates; counts have none
abbrev pub arguments_of_all : (columns reach : List NamedColumn) → List AggItemShape → List Term
arguments_of_all columns reach [] = []
arguments_of_all columns reach (i ∷ items) = arguments_of columns reach i.agg ++ arguments_of_all columns reach items

-- the first of them as an operand
abbrev pub first_of : List Term → Operand
first_of [] = operand.Column 0
first_of (t ∷ ts) = operand_of t

-- all terms but the first
abbrev pub rest_of : List Term → List Term
rest_of [] = []
rest_of (t ∷ ts) = ts

-- weights as words of the argument's width
abbrev pub weights_of : Kind → List ℕ → List Word
weights_of kind weights = map (λ n. record { bits = n; width = width_of kind }) weights

-- an aggregate over the first of the terms that are left of the arguments
abbrev pub agg_over : (reach : List NamedColumn) → AggShape → List Term → PlanAgg
agg_over reach shape.Count terms = agg.Count
agg_over reach (shape.Sum e) terms = agg.Sum (first_of terms)
agg_over reach (shape.Min e) terms = agg.Min (first_of terms)
agg_over reach (shape.Max e) terms = agg.Max (first_of terms)
agg_over reach (shape.Avg e) terms = agg.Avg (first_of terms)
agg_over reach (shape.Wsum e weights) terms =
    agg.Wsum (first_of terms) (weights_of (kind_of reach (kind_alone e) e) weights)

-- the terms of the arguments behind it
abbrev pub behind : AggShape → List Term → List Term
behind shape.Count terms = terms
behind (shape.Sum e) terms = rest_of terms
behind (shape.Min e) terms = rest_of terms
behind (shape.Max e) terms = rest_of terms
behind (shape.Avg e) terms = rest_of terms
behind (shape.Wsum e weights) terms = rest_of terms

-- the aggregates of a plan's node, each over the operand that its argument became
abbrev pub aggs_of : (reach : List NamedColumn) → List AggItemShape → List Term → List PlanAgg
aggs_of reach [] terms = []
aggs_of reach (i ∷ items) terms = agg_over reach i.agg terms ∷ aggs_of reach items (behind i.agg terms)

-- a select of aggregates: what their arguments compute, then the aggregates over it
abbrev pub totals_over : (columns reach : List NamedColumn) → List AggItemShape → Placed → Placed
totals_over columns reach aggs at =
    let over = levelled (length columns) at (arguments_of_all columns reach aggs) None in
    added over.at.nodes (node.Aggregate over.at.root (aggs_of reach aggs over.items))

-- ---- frames

-- the terms of the argument of a function over the rows of a frame, at most one
abbrev pub frame_arguments : (columns reach : List NamedColumn) → FrameAggShape → List Term
frame_arguments columns reach shape.CountOver = []
frame_arguments columns reach (shape.SumOver e) = term_over columns reach (kind_alone e) e ∷ []
frame_arguments columns reach (shape.MinOver e) = term_over columns reach (kind_alone e) e ∷ []
frame_arguments columns reach (shape.MaxOver e) = term_over columns reach (kind_alone e) e ∷ []
frame_arguments columns reach (shape.AvgOver e) = term_over columns reach (kind_alone e) e ∷ []
frame_arguments columns reach (shape.LastOver e) = term_over columns reach (kind_alone e) e ∷ []

-- the terms of a frame: its argument, then its condition
abbrev pub frame_terms : (columns reach : List NamedColumn) → FrameShape → List Term
frame_terms columns reach (shape.Own e) = term_over columns reach (kind_alone e) e ∷ []
frame_terms columns reach (shape.Lag e back) = term_over columns reach (kind_alone e) e ∷ []
frame_terms columns reach (shape.Over agg filter back) =
    frame_arguments columns reach agg ++ option_to_list (filter_of columns reach filter)

-- the terms of all frames in their order
abbrev pub frames_terms : (columns reach : List NamedColumn) → List FrameItemShape → List Term
frames_terms columns reach [] = []
frames_terms columns reach (i ∷ items) = frame_terms columns reach i.frame ++ frames_terms columns reach items

-- a function over the first of the terms that are left
abbrev pub frame_agg_over : FrameAggShape → List Term → PlanFrameAgg
frame_agg_over shape.CountOver terms = frame_agg.Count
frame_agg_over (shape.SumOver e) terms = frame_agg.Sum (first_of terms)
frame_agg_over (shape.MinOver e) terms = frame_agg.Min (first_of terms)
frame_agg_over (shape.MaxOver e) terms = frame_agg.Max (first_of terms)
frame_agg_over (shape.AvgOver e) terms = frame_agg.Avg (first_of terms)
frame_agg_over (shape.LastOver e) terms = frame_agg.LastValue (first_of terms)

-- the terms behind its argument
abbrev pub behind_argument : FrameAggShape → List Term → List Term
behind_argument shape.CountOver terms = terms
behind_argument (shape.SumOver e) terms = rest_of terms
behind_argument (shape.MinOver e) terms = rest_of terms
behind_argument (shape.MaxOver e) terms = rest_of terms
behind_argument (shape.AvgOver e) terms = rest_of terms
behind_argument (shape.LastOver e) terms = rest_of terms

-- the column of a condition, which the first of the terms that are left became
abbrev pub condition_over : Option ExprShape → List Term → Option ℕ
condition_over None terms = None
condition_over (Some e) terms = Some (column_under (first_of terms))

-- the terms behind a condition
abbrev pub behind_condition : Option ExprShape → List Term → List Term
behind_condition None terms = terms
behind_condition (Some e) terms = rest_of terms

-- an item of a node of frames over the first of the terms that are left
abbrev pub frame_over : FrameShape → List Term → PlanFrame
frame_over (shape.Own e) terms = frame.Own (first_of terms)
frame_over (shape.Lag e back) terms = frame.Lag (first_of terms) back
frame_over (shape.Over agg filter back) terms =
    frame.Over (frame_agg_over agg terms) (condition_over filter (behind_argument agg terms)) back

-- the terms behind those of a frame
abbrev pub behind_frame : FrameShape → List Term → List Term
behind_frame (shape.Own e) terms = rest_of terms
behind_frame (shape.Lag e back) terms = rest_of terms
behind_frame (shape.Over agg filter back) terms = behind_condition filter (behind_argument agg terms)

-- the items of a plan's node, each over the operands that its terms became
abbrev pub frames_of : List FrameItemShape → List Term → List PlanFrame
frames_of [] terms = []
frames_of (i ∷ items) terms = frame_over i.frame terms ∷ frames_of items (behind_frame i.frame terms)

-- the key of PARTITION: the number of its column, and how many groups are kept
abbrev pub key_over : List NamedColumn → Option SlotsShape → Option PlanKey
key_over columns None = None
key_over columns (Some s) = Some (record { key = column_number columns s.key; groups = s.groups })

-- a node of these frames, whose terms are columns, literals or parameters by now, behind a plan
abbrev pub framed_over : Placed → Option PlanKey → List FrameItemShape → List Term → Placed
framed_over at by items terms = added at.nodes (node.Frames at.root by (frames_of items terms))

-- a select of frames: what its frames and its filter compute, then the filter, then the frames over what is kept, by a
-- key if there is one
abbrev pub frames_over : (columns reach : List NamedColumn) → List FrameItemShape → Option ExprShape → Option PlanKey
    → Placed → Placed
frames_over columns reach items filter by at =
    let over = levelled (length columns) at (frames_terms columns reach items) (filter_of columns reach filter) in
    framed_over (selected over.at over.filter) by items over.items

-- ---- queries

-- the windows of a source, over tuples or over time
abbrev pub window_node : Measure → ℕ → ℕ → ℕ → ℕ → PlanNode
window_node Tuples source body size advance = node.Window source body size advance
window_node Time source body size advance = node.TimeWindow source body size advance

-- the plan of a query behind a plan's nodes. `read` is the node of a source by its name
abbrev pub placed : (List ℕ → PlanNode) → List Stream → QueryShape → List PlanNode → Placed
placed read sources (shape.Read name) nodes = added nodes (read name)
placed read sources (shape.Rows pick filter source) nodes =
    let columns = columns_of sources source in
    rows_over columns (reach_of sources columns) pick filter (placed read sources source nodes)
placed read sources (shape.Total aggs source) nodes =
    let columns = columns_of sources source in
    totals_over columns (reach_of sources columns) aggs (placed read sources source nodes)
placed read sources (shape.Frames items filter slots source) nodes =
    let columns = columns_of sources source in
    frames_over columns (reach_of sources columns) items filter (key_over columns slots)
    (placed read sources source nodes)
placed read sources (shape.Each measure var source size advance body) nodes =
    let columns = columns_of sources source in
    let from = placed read sources source nodes in
    let into = placed (λ name. node.Body (kinds_of columns)) (inside sources var columns) body from.nodes in
    added into.nodes (window_node measure from.root into.root size advance)
placed read sources (shape.PerGroup var source key groups body) nodes =
    let columns = columns_of sources source in
    let from = placed read sources source nodes in
    let into = placed (λ name. node.Body (kinds_of columns)) (inside sources var columns) body from.nodes in
    added into.nodes (node.Group from.root into.root (column_number columns key) groups)
placed read sources (shape.Partition var source key groups size advance body) nodes =
    let columns = columns_of sources source in
    let from = placed read sources source nodes in
    let into = placed (λ name. node.Body (kinds_of columns)) (inside sources var columns) body from.nodes in
    added into.nodes (node.Partition from.root into.root (column_number columns key) groups size advance)
placed read sources (shape.Union l r) nodes =
    let left = placed read sources l nodes in
    let right = placed read sources r left.nodes in
    added right.nodes (node.Union left.root right.root)
placed read sources (shape.ByArrival l r) nodes =
    let left = placed read sources l nodes in
    let right = placed read sources r left.nodes in
    added right.nodes (node.Merge left.root right.root)
placed read sources (shape.AsOf l r slots) nodes =
    let left = placed read sources l nodes in
    as_of_over (columns_of sources l) (columns_of sources r) slots left.root (placed read sources r left.nodes)
placed read sources (shape.Concat l r) nodes =
    let left = placed read sources l nodes in
    let right = placed read sources r left.nodes in
    added right.nodes (node.Beside left.root right.root)

-- the stream of a schema by its name
abbrev pub stream_number : List Stream → List ℕ → ℕ
stream_number streams name = position_or_len (λ s. bytes_eq name s.name) streams

-- the node that reads a stream of the schema, by its number and the kinds of its columns
abbrev pub stream_node : List Stream → List ℕ → PlanNode
stream_node streams name = node.Stream (stream_number streams name) (kinds_of (source_columns streams name))

-- the plan of a statement behind a plan's nodes
abbrev pub plan_behind : List PlanNode → Schema → Statement → Placed
plan_behind nodes schema statement =
    placed (stream_node schema.streams) (sources_of schema) (query_shape statement.query) nodes

-- the plan of a statement
abbrev pub plan_of : Schema → Statement → Placed
plan_of schema statement = plan_behind [] schema statement

-- the nodes that a plan had are still there, and others may stand behind them
pub record Keeps (old new : List PlanNode) : Type 0 where
  pub front : take (length old) new ≡ old

-- the nodes of several statements, and the root of each
pub record Several : Type 0 where
  pub nodes : List PlanNode
  pub roots : List ℕ

-- each statement's plan stands behind those before it, so that nodes that are equal are one
abbrev pub plans_of : List PlanNode → Schema → List Statement → Several
plans_of nodes schema [] = record { nodes = nodes; roots = [] }
plans_of nodes schema (s ∷ statements) =
    let at = plan_behind nodes schema s in
    let rest = plans_of at.nodes schema statements in
    record { nodes = rest.nodes; roots = at.root ∷ rest.roots }

-- the parts of what the levels give, as code has them
abbrev pub levelled_at : List PlanNode → ℕ → List Term → Option Term → Levelled
levelled_at nodes root items filter = record { at = placed_at nodes root; items = items; filter = filter }
