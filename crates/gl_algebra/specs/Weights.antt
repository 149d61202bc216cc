-- The weight of a node, which bounds its hardware, and the copies of bodies that it has.
use Rattle.std.specs.Prelude.{ℕ, ◌+◌, ◌*◌, ◌/◌, min, max, sum_by, List, [], ◌∷◌, length, Option, Some, None, if◌then◌else◌}
use Rattle.gl_values.specs.Kinds.{width_of}
use Rattle.gl_values.specs.declared.kind.Kind.{Kind}
use Rattle.gl_algebra.specs.declared.figures.Figures.{Figures}
use Rattle.gl_algebra.specs.declared.node.PlanFrame.{PlanFrame}
use Rattle.gl_algebra.specs.declared.node.PlanFrame.TheVariants.{Own, Lag, Over}
use Rattle.gl_algebra.specs.declared.node.PlanKey.{PlanKey}
use Rattle.gl_algebra.specs.declared.node.PlanNode.{PlanNode}
use Rattle.gl_algebra.specs.declared.node.PlanNode.TheVariants.{Stream, Body, Compute, Select, Project, Frames, Aggregate, Union, Merge, Beside, Window, TimeWindow, Group, Partition}
use Rattle.gl_algebra.specs.declared.node.PlanAgg.{PlanAgg}
use Rattle.gl_algebra.specs.declared.node.PlanAgg.TheVariants.{Count, Sum, Min, Max, Avg, Wsum}
use Rattle.gl_algebra.specs.Columns.{kind_of_operand}
use Rattle.gl_algebra.specs.FigureTable.{figures_of, delay_of_aggs, gap_in, wait_of, waits, needs_spacer}
use Rattle.gl_algebra.specs.Frames.{delay_of_frames, digits_of_frame, frames_in, rings_of_frame, words_of_frame}
use Rattle.gl_algebra.specs.Keys.{delay_by_key, weight_of_look_up, width_of_key, words_of_look_up}
use Rattle.gl_algebra.specs.Nodewise.{nodewise}
use Rattle.gl_algebra.specs.Rings.{ring}
use Rattle.gl_algebra.specs.Shapes.{Shape, shape_of, shape_from}
use Rattle.gl_algebra.specs.Views.{children_of, copies_in, copies_of_partition, copies_of_time, copies_of_window, of_body}

-- the lines of a wire: its columns, valid and end
abbrev pub lines_of : Shape → ℕ
lines_of shape = length shape.kinds + 2

-- the part of an aggregate, its delay aside
abbrev pub weight_of_agg : List Kind → PlanAgg → ℕ
weight_of_agg kinds Count = 24
weight_of_agg kinds (Sum operand) = 24
weight_of_agg kinds (Min operand) = 24
weight_of_agg kinds (Max operand) = 24
weight_of_agg kinds (Avg operand) = 16 * (width_of (kind_of_operand kinds operand) + 34)
weight_of_agg kinds (Wsum operand weights) = 24 + 8 * length weights

-- the part of each frame, its words aside: what goes with every frame, with each of its rings and with its divider
abbrev pub weight_of_rings : ℕ → ℕ → ℕ
weight_of_rings rings digits = 48 + 32 * rings + 16 * (digits + 2)

-- the part of an item, its words aside; an operand of the row itself has none
abbrev pub weight_of_frame : List Kind → PlanFrame → ℕ
weight_of_frame kinds (Own operand) = 0
weight_of_frame kinds (Lag operand back) = weight_of_rings 1 0
weight_of_frame kinds (Over agg filter back) =
    weight_of_rings (rings_of_frame (Over agg filter back)) (digits_of_frame kinds (Over agg filter back))

-- the words of all items: one that counts rows, two of each frame's state, and those of the rings
abbrev pub words_of_frames : List PlanFrame → ℕ
words_of_frames items = 1 + sum_by (λ item. 2 * frames_in item + words_of_frame item) items

-- the part of items over columns of these kinds, their words aside, where their node has so many lines: these wait so
-- many cycles, four at most in registers and the rest in rings
abbrev pub weight_waiting : List Kind → ℕ → ℕ → List PlanFrame → ℕ
weight_waiting kinds lines delay items =
    4 * lines * (min delay 4 + 4) + 32 + sum_by (weight_of_frame kinds) items

-- their part with their words, of which 16 count as one
abbrev pub weight_of_frames : List Kind → ℕ → List PlanFrame → ℕ
weight_of_frames kinds lines items =
    weight_waiting kinds lines (delay_of_frames kinds items) items + words_of_frames items / 16

-- the same by a key, if there is one: each slot has its words, and the look-up has its part and its words
abbrev pub weight_by_key : List Kind → ℕ → Option PlanKey → List PlanFrame → ℕ
weight_by_key kinds lines None items = weight_of_frames kinds lines items
weight_by_key kinds lines (Some by) items =
    let width = width_of_key kinds by in
    weight_waiting kinds lines (delay_by_key kinds (Some by) items) items + weight_of_look_up width by.groups
    + (ring by.groups * words_of_frames items + words_of_look_up width by.groups) / 16

-- the delay that is added to the shorter of two sides
abbrev pub pad_of : Figures → Figures → ℕ
pad_of p q = max (wait_of p q) (wait_of q p)

-- the part of turns over so many lines: what is counted of two sides that stand side by side
abbrev pub weight_of_turns : Figures → Figures → ℕ → ℕ
weight_of_turns p q lines = 8 * lines * (waits p q + 4)

-- the part of the spacer before a body of this gap, where one stands, over a source of so many lines
abbrev pub weight_of_spacer : ℕ → Figures → ℕ → ℕ
weight_of_spacer gap f lines = if needs_spacer gap f then 8 * lines * (f.ne + 6) else 0

-- so many copies of a body of this weight, with what stands before and behind each
abbrev pub weight_of_copies : ℕ → ℕ → ℕ → ℕ → ℕ
weight_of_copies copies weight source own = copies * (weight + 8 * (source + own + 4)) + 8 * (source + own + 16)

-- the sum of the values of nodes
abbrev pub sum_over : (ℕ → ℕ) → List ℕ → ℕ
sum_over values [] = 0
sum_over values (node ∷ []) = values node
sum_over values (node ∷ next ∷ nodes) = values node + sum_over values (next ∷ nodes)

-- the sum over a node's children: a shared child counts for each use, and a body is none
abbrev pub sum_over_children : (ℕ → ℕ) → PlanNode → ℕ
sum_over_children values node = sum_over values (children_of node)

-- the part of the spacer before the copies of a node's body, by what a spacer of a gap counts over figures and lines
abbrev pub part_of_spacer : (ℕ → Figures → ℕ → ℕ) → (ℕ → Shape) → (ℕ → Figures) → PlanNode → ℕ
part_of_spacer spacer shapes figures node =
    sum_over_children (λ source. spacer (gap_in figures node) (figures source) (lines_of (shapes source))) node

-- a node's own part, where it has so many lines, from the weights of bodies, with what a spacer counts
abbrev pub own_part : (ℕ → Figures → ℕ → ℕ) → (ℕ → Shape) → (ℕ → Figures) → (ℕ → ℕ) → ℕ → PlanNode → ℕ
own_part spacer shapes figures weights lines (Stream number kinds) = lines
own_part spacer shapes figures weights lines (Body kinds) = lines
own_part spacer shapes figures weights lines (Compute child ops) = 4 * (lines + length ops)
own_part spacer shapes figures weights lines (Select child column) = 4 * lines
own_part spacer shapes figures weights lines (Project child items) = 4 * lines
own_part spacer shapes figures weights lines (Frames child by items) =
    weight_by_key (shapes child).kinds lines by items
own_part spacer shapes figures weights lines (Aggregate child aggs) =
    let kinds = (shapes child).kinds in
    4 * lines + sum_by (λ agg. 2 * delay_of_aggs kinds aggs + weight_of_agg kinds agg) aggs
own_part spacer shapes figures weights lines (Union left right) =
    8 * lines * (pad_of (figures left) (figures right) + (figures left).ne + (figures right).ne + 4)
own_part spacer shapes figures weights lines (Merge left right) = weight_of_turns (figures left) (figures right) lines
own_part spacer shapes figures weights lines (Beside left right) =
    8 * lines * (pad_of (figures left) (figures right) + 4)
own_part spacer shapes figures weights lines (Window source body size advance) =
    weight_of_copies (copies_of_window size advance) (weights body) (lines_of (shapes source)) lines
    + 4 * (figures body).a
    + part_of_spacer spacer shapes figures (Window source body size advance)
own_part spacer shapes figures weights lines (TimeWindow source body size advance) =
    weight_of_copies (copies_of_time size advance) (weights body) (lines_of (shapes source)) lines
    + 4 * (figures body).a
    + part_of_spacer spacer shapes figures (TimeWindow source body size advance)
own_part spacer shapes figures weights lines (Group source body key groups) =
    weight_of_copies groups (weights body) (lines_of (shapes source)) lines
    + part_of_spacer spacer shapes figures (Group source body key groups)
own_part spacer shapes figures weights lines (Partition source body key groups size advance) =
    weight_of_copies (copies_of_partition groups size advance) (weights body) (lines_of (shapes source)) lines
    + 16 * groups
    + part_of_spacer spacer shapes figures (Partition source body key groups size advance)

-- a node's own part in the weight
abbrev pub own_weight : (ℕ → Shape) → (ℕ → Figures) → (ℕ → ℕ) → ℕ → PlanNode → ℕ
own_weight = own_part weight_of_spacer

-- a node's weight, from those of the nodes that it names
abbrev pub weight_from : (ℕ → Shape) → (ℕ → Figures) → (ℕ → ℕ) → PlanNode → ℕ
weight_from shapes figures weights node =
    sum_over_children weights node + own_weight shapes figures weights (lines_of (shape_from shapes node)) node

-- the weight of a node
unfoldable pub weight_of : List PlanNode → ℕ → ℕ
weight_of nodes = nodewise (weight_from (shape_of nodes) (figures_of nodes)) 0 nodes

-- the copies that a node itself has of its body, with those in each
abbrev pub own_copies : (ℕ → ℕ) → PlanNode → ℕ
own_copies copies node = copies_in node * (1 + of_body copies node)

-- a node's copies, from those of the nodes that it names
abbrev pub copies_from : (ℕ → ℕ) → PlanNode → ℕ
copies_from copies node = sum_over_children copies node + own_copies copies node

-- the copies of a node
unfoldable pub copies_of : List PlanNode → ℕ → ℕ
copies_of nodes = nodewise copies_from 0 nodes
