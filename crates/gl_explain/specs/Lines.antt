-- A plan as text: a line for each node, with its words and its figures, and lines for the root.
use Rattle.std.specs.Prelude.{ℕ, ◌≡◌, ◌+◌, List, [], ◌∷◌, ◌++◌, codes, decimal, length, slice_get, Option, Some, None}
use Rattle.gl_schema.specs.declared.schema.Stream.{Stream}
use Rattle.gl_schema.specs.declared.schema.Schema.{Schema}
use Rattle.gl_query.specs.declared.tree.Statement.{Statement}
use Rattle.gl_query.specs.Shapes.{statement_shape}
use Rattle.gl_query_printer.specs.Printing.{canonical_text}
use Rattle.gl_algebra.specs.declared.figures.Figures.{Figures}
use Rattle.gl_algebra.specs.declared.node.Operand.{Operand}
use Rattle.gl_algebra.specs.declared.node.Operand.TheVariants.{Column, Literal, Parameter}
use Rattle.gl_algebra.specs.declared.node.PlanAgg.{PlanAgg}
use Rattle.gl_algebra.specs.declared.node.PlanAgg.TheVariants as agg
use Rattle.gl_algebra.specs.declared.node.PlanFrame.{PlanFrame}
use Rattle.gl_algebra.specs.declared.node.PlanFrame.TheVariants.{Own, Lag, Over}
use Rattle.gl_algebra.specs.declared.node.PlanFrameAgg.{PlanFrameAgg}
use Rattle.gl_algebra.specs.declared.node.PlanFrameAgg.TheVariants as over
use Rattle.gl_algebra.specs.declared.node.PlanKey.{PlanKey}
use Rattle.gl_algebra.specs.declared.node.PlanNode.{PlanNode}
use Rattle.gl_algebra.specs.declared.node.PlanNode.TheVariants as node
use Rattle.gl_algebra.specs.Added.{Placed}
use Rattle.gl_algebra.specs.FigureTable.{figures_of}
use Rattle.gl_algebra.specs.Roots.{spare_at}
use Rattle.gl_root_gaps.specs.Roots.{tick_gaps_at}
use Rattle.gl_algebra.specs.declared.figures.Spare.{Spare}
use Rattle.gl_root_gaps.specs.declared.TickGaps.{TickGaps}

-- a number behind a word or a sign
unfoldable pub numbered : List ℕ → ℕ → List ℕ
numbered front number = front ++ decimal number

-- a node is written as `p` and its number
abbrev pub node_text : ℕ → List ℕ
node_text number = numbered (codes " p") number

-- a column of a plan is written as `c` and its number
abbrev pub column_text : ℕ → List ℕ
column_text number = numbered (codes " c") number

-- an operand is a column, `#` and the number of a literal, or `$` and the number of a parameter
abbrev pub operand_text : Operand → List ℕ
operand_text (Column number) = column_text number
operand_text (Literal word kind) = numbered (codes " #") word.bits
operand_text (Parameter number kind) = numbered (codes " $") number

-- operands one behind the other, each with its space
abbrev pub operands_text : List Operand → List ℕ
operands_text [] = []
operands_text (x ∷ xs) = operand_text x ++ operands_text xs

-- an aggregate is its name
unfoldable pub agg_text : PlanAgg → List ℕ
agg_text agg.Count = codes " count"
agg_text (agg.Sum x) = codes " sum"
agg_text (agg.Min x) = codes " min"
agg_text (agg.Max x) = codes " max"
agg_text (agg.Avg x) = codes " avg"
agg_text (agg.Wsum x weights) = codes " wsum"

-- aggregates one behind the other
abbrev pub aggs_text : List PlanAgg → List ℕ
aggs_text [] = []
aggs_text (a ∷ as') = agg_text a ++ aggs_text as'

-- a function over the rows of a frame is its name
unfoldable pub frame_agg_text : PlanFrameAgg → List ℕ
frame_agg_text over.Count = codes " count"
frame_agg_text (over.Sum x) = codes " sum"
frame_agg_text (over.Min x) = codes " min"
frame_agg_text (over.Max x) = codes " max"
frame_agg_text (over.Avg x) = codes " avg"
frame_agg_text (over.LastValue x) = codes " last_value"

-- how many rows before its own a frame has; nothing where it has all
abbrev pub back_text : Option ℕ → List ℕ
back_text None = []
back_text (Some back) = numbered (codes " ") back

-- an item of a node of frames is an operand, or a name and its number of rows
unfoldable pub frame_text : PlanFrame → List ℕ
frame_text (Own x) = operand_text x
frame_text (Lag x back) = codes " lag" ++ numbered (codes " ") back
frame_text (Over a filter back) = frame_agg_text a ++ back_text back

-- items one behind the other
abbrev pub frames_text : List PlanFrame → List ℕ
frames_text [] = []
frames_text (f ∷ fs) = frame_text f ++ frames_text fs

-- the key of a node of frames, where it has one: `by`, its column, and how many groups are kept
unfoldable pub key_text : Option PlanKey → List ℕ
key_text None = []
key_text (Some by) = codes " by" ++ column_text by.key ++ numbered (codes " ") by.groups

-- the name of a stream by its number
abbrev pub name_of : Option Stream → List ℕ
name_of None = []
name_of (Some s) = s.name

-- a stream's node is told as `input` and the name of the stream
unfoldable pub stream_text : Schema → ℕ → List ℕ
stream_text schema number = codes "input " ++ name_of (slice_get schema.streams number)

-- the words of a node
unfoldable pub words_of : Schema → PlanNode → List ℕ
words_of schema (node.Stream number kinds) = stream_text schema number
words_of schema (node.Body kinds) = codes "input body"
words_of schema (node.Compute child ops) = codes "compute" ++ node_text child ++ numbered (codes " ") (length ops)
words_of schema (node.Select child column) = codes "select" ++ node_text child ++ column_text column
words_of schema (node.Project child items) = codes "project" ++ node_text child ++ operands_text items
words_of schema (node.Frames child by items) = codes "frames" ++ node_text child ++ key_text by ++ frames_text items
words_of schema (node.Aggregate child aggs) = codes "aggregate" ++ node_text child ++ aggs_text aggs
words_of schema (node.Union left right) = codes "union" ++ node_text left ++ node_text right
words_of schema (node.Merge left right) = codes "merge" ++ node_text left ++ node_text right
words_of schema (node.Beside left right) = codes "beside" ++ node_text left ++ node_text right
words_of schema (node.Window source body size advance) =
    codes "window" ++ node_text source ++ node_text body ++ numbered (codes " ") size ++ numbered (codes " ") advance
words_of schema (node.TimeWindow source body size advance) =
    codes "times" ++ node_text source ++ node_text body ++ numbered (codes " ") size ++ numbered (codes " ") advance
words_of schema (node.Group source body key groups) =
    codes "group" ++ node_text source ++ node_text body ++ column_text key ++ numbered (codes " ") groups
words_of schema (node.Partition source body key groups size advance) =
    codes "partition" ++ node_text source ++ node_text body ++ column_text key ++ numbered (codes " ") groups
    ++ numbered (codes " ") size ++ numbered (codes " ") advance

-- the seven figures
unfoldable pub figures_text : Figures → List ℕ
figures_text f =
    numbered (codes " ") f.a ++ numbered (codes " ") f.lt ++ numbered (codes " ") f.le ++ numbered (codes " ") f.nt
    ++ numbered (codes " ") f.ne ++ numbered (codes " ") f.gt ++ numbered (codes " ") f.ge

-- the line of a node: its number, its words and its figures
unfoldable pub line_of : Schema → ℕ → PlanNode → Figures → List ℕ
line_of schema number n f =
    numbered (codes "p") number ++ codes " " ++ words_of schema n ++ codes " :" ++ figures_text f ++ codes "\n"

-- the line of the node of a number of a plan stands behind what stood
pub record HasLine (schema : Schema) (nodes : List PlanNode) (number : ℕ) (old new : List ℕ) : Type 0 where
  pub node : PlanNode
  pub at : slice_get nodes number ≡ Some node
  pub is : new ≡ old ++ line_of schema number node (figures_of nodes number)

-- the lines of nodes from a number on, with the figures that a plan has at these numbers
abbrev pub lines_from : Schema → List PlanNode → ℕ → List PlanNode → List ℕ
lines_from schema plan number [] = []
lines_from schema plan number (n ∷ nodes) =
    line_of schema number n (figures_of plan number) ++ lines_from schema plan (number + 1) nodes

-- the lines of a plan's nodes
abbrev pub lines_of : Schema → List PlanNode → List ℕ
lines_of schema nodes = lines_from schema nodes 0 nodes

-- the root
unfoldable pub root_text : ℕ → List ℕ
root_text root = codes "root" ++ node_text root ++ codes "\n"

-- the line of a root's spare copies, where it has some: their number, the gap, and how late the end comes
unfoldable pub spare_text : Option Spare → List ℕ
spare_text None = []
spare_text (Some it) =
    codes "spare" ++ numbered (codes " ") it.copies ++ numbered (codes " ") it.gap ++ numbered (codes " ") it.shift
    ++ codes "\n"

-- the line of a root's ticks, where they are farther apart than tuples: their gap, and that of beats
unfoldable pub ticks_text : Option TickGaps → List ℕ
ticks_text None = []
ticks_text (Some it) =
    codes "ticks" ++ numbered (codes " ") it.ticks ++ numbered (codes " ") it.gap ++ codes "\n"

-- a statement and its plan: the canonical text, the lines of the nodes, the root, its spare copies and the gaps of its
-- ticks
abbrev pub plan_text : Schema → Statement → Placed → List ℕ
plan_text schema statement at =
    canonical_text (statement_shape statement) ++ codes "\n" ++ lines_of schema at.nodes ++ root_text at.root
    ++ spare_text (spare_at at.nodes at.root) ++ ticks_text (tick_gaps_at at.nodes at.root)
