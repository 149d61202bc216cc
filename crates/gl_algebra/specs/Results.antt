-- What a plan means over lists of rows: the results that each node may have, with places or without, and whether rows
-- were left out of its groups. After the operators of Mueller, Teubner and Alonso, Streams on Wires, PVLDB 2(1), 2009.
use Rattle.std.specs.Prelude.{ℕ, Bool, true, false, List, [], ◌∷◌, ◌++◌, Option, Some, None, length, map, filter, nat_eq, slice_index}
use Rattle.std.specs.List.{range_with_len}
use Rattle.gl_values.specs.Kinds.{width_of}
use Rattle.gl_values.specs.Lists.{slices, groups, has_further, IsInterleaving}
use Rattle.gl_values.specs.Partitions.{parts}
use Rattle.gl_values.specs.Results.{Row, Results, IsInput, IsChanged, IsOfBoth, AreBeside, IsOfParts, IsOfGroup}
use Rattle.gl_values.specs.Totals.{count_of, sum_total, least_of, greatest_of, average_of, weighted_sum}
use Rattle.gl_values.specs.Times.{tslices}
use Rattle.gl_frames.specs.Frames.{frame_of, framed, framed_by_key, lag_of, last_value_of, own_of}
use Rattle.gl_frames.specs.Results.{IsChangedInPart}
use Rattle.gl_arrival.specs.Places.{at_places}
use Rattle.gl_arrival.specs.Changes.{framed_at, framed_by_key_at, kept_at, mapped_at}
use Rattle.gl_arrival.specs.Results.{Arrivals, IsArrival, IsByArrival, IsChangedInPlace, IsPartedInPlace, IsWithoutPlaces}
use Rattle.gl_bits.specs.Words.{bits_of}
use Rattle.gl_values.specs.declared.kind.Kind.{Kind}
use Rattle.gl_algebra.specs.declared.node.ColOp.{ColOp}
use Rattle.gl_algebra.specs.declared.node.Operand.{Operand}
use Rattle.gl_algebra.specs.declared.node.PlanAgg.{PlanAgg}
use Rattle.gl_algebra.specs.declared.node.PlanAgg.TheVariants.{Count, Sum, Min, Max, Avg, Wsum}
use Rattle.gl_algebra.specs.declared.node.PlanFrame.{PlanFrame}
use Rattle.gl_algebra.specs.declared.node.PlanFrame.TheVariants.{Own, Lag, Over}
use Rattle.gl_algebra.specs.declared.node.PlanFrameAgg.{PlanFrameAgg}
use Rattle.gl_algebra.specs.declared.node.PlanFrameAgg.TheVariants as over
use Rattle.gl_algebra.specs.declared.node.PlanKey.{PlanKey}
use Rattle.gl_algebra.specs.declared.node.PlanNode.{PlanNode}
use Rattle.gl_algebra.specs.declared.node.PlanNode.TheVariants as Node
use Rattle.gl_algebra.specs.Columns.{kind_of_operand}
use Rattle.gl_algebra.specs.Nodewise.{nodewise}
use Rattle.gl_algebra.specs.Shapes.{Shape, shape_of, Pace, with_stream}
use Rattle.gl_algebra.specs.Values.{Sets, value_of_operand, value_of_op}

-- what the leaves give: the rows of each stream, by its number, with their places, their times and the number of all
-- ticks, and the rows of a body's input with their places; and the words of the parameters
pub record Inputs : Type 0 where
  pub streams : ℕ → List Row
  pub places : ℕ → List ℕ
  pub times : ℕ → List ℕ
  pub ticks : ℕ
  pub body : List Row
  pub body_places : List ℕ
  pub sets : Sets

-- the inputs of a body that is given these rows, each at its position
abbrev pub given : Inputs → List Row → Inputs
given inputs rows = record inputs { body = rows; body_places = range_with_len 0 (length rows) }

-- the results for inputs
abbrev pub Meaning : Type 1
Meaning = Inputs → Results

-- the results with places for inputs
abbrev pub Arriving : Type 1
Arriving = Inputs → Arrivals

-- the times of rows that come one with each of a stream's
abbrev pub times_with : Pace → Inputs → List ℕ
times_with (with_stream number) inputs = inputs.times number
times_with pace inputs = []

-- the value of an aggregate over rows whose columns have these kinds
abbrev pub total_of : Sets → List Kind → List Row → PlanAgg → ℕ
total_of sets kinds rows Count = count_of rows
total_of sets kinds rows (Sum operand) =
    sum_total (width_of (kind_of_operand kinds operand)) (map (λ row. value_of_operand sets row operand) rows)
total_of sets kinds rows (Min operand) =
    least_of (kind_of_operand kinds operand) (map (λ row. value_of_operand sets row operand) rows)
total_of sets kinds rows (Max operand) =
    greatest_of (kind_of_operand kinds operand) (map (λ row. value_of_operand sets row operand) rows)
total_of sets kinds rows (Avg operand) =
    average_of (kind_of_operand kinds operand) (map (λ row. value_of_operand sets row operand) rows)
total_of sets kinds rows (Wsum operand weights) =
    weighted_sum (width_of (kind_of_operand kinds operand)) (bits_of weights)
    (map (λ row. value_of_operand sets row operand) rows)

-- what the nodes of one child make of its rows, whose columns have these kinds
abbrev pub computed : Sets → List Kind → List ColOp → Row → Row
computed sets kinds ops row = row ++ map (value_of_op sets kinds row) ops

-- the rows whose condition column is 1, in their order
abbrev pub selected : ℕ → List Row → List Row
selected column rows = filter (λ row. nat_eq (slice_index row column) 1) rows

-- whether a row counts in a frame: the column of its condition is 1; without a condition each row counts
abbrev pub counts_in : Option ℕ → Row → Bool
counts_in None row = true
counts_in (Some column) row = nat_eq (slice_index row column) 1

-- the values of an operand in the rows of a frame that count
abbrev pub values_in : Sets → Option ℕ → Option ℕ → List Row → Operand → List ℕ
values_in sets filter back rows operand = map (λ row. value_of_operand sets row operand) (frame_of back (counts_in filter) rows)

-- the value of a function over the last ones of these rows, whose columns have these kinds
abbrev pub value_over : Sets → List Kind → Option ℕ → Option ℕ → List Row → PlanFrameAgg → ℕ
value_over sets kinds filter back rows over.Count = count_of (frame_of back (counts_in filter) rows)
value_over sets kinds filter back rows (over.Sum operand) =
    sum_total (width_of (kind_of_operand kinds operand)) (values_in sets filter back rows operand)
value_over sets kinds filter back rows (over.Min operand) =
    least_of (kind_of_operand kinds operand) (values_in sets filter back rows operand)
value_over sets kinds filter back rows (over.Max operand) =
    greatest_of (kind_of_operand kinds operand) (values_in sets filter back rows operand)
value_over sets kinds filter back rows (over.Avg operand) =
    average_of (kind_of_operand kinds operand) (values_in sets filter back rows operand)
value_over sets kinds filter back rows (over.LastValue operand) =
    last_value_of (λ row. value_of_operand sets row operand) back (counts_in filter) rows

-- what an item of a node of frames makes of the rows up to a row, the row itself last
abbrev pub value_of_frame : Sets → List Kind → List Row → PlanFrame → ℕ
value_of_frame sets kinds rows (Own operand) = own_of (λ row. value_of_operand sets row operand) rows
value_of_frame sets kinds rows (Lag operand back) = lag_of (λ row. value_of_operand sets row operand) back rows
value_of_frame sets kinds rows (Over agg filter back) = value_over sets kinds filter back rows agg

-- one row of the items' values
abbrev pub row_of_frames : Sets → List Kind → List PlanFrame → List Row → Row
row_of_frames sets kinds items rows = map (value_of_frame sets kinds rows) items

-- what is made of rows up to each: without a key of all rows. By a key each row of the first groups has what is made of
-- those of its group, and whether rows of further keys came is told
abbrev pub IsFramed : Option PlanKey → (List Row → Row) → Results → Results
IsFramed None row source = IsChanged source (framed row)
IsFramed (Some by) row source =
    IsChangedInPart source (framed_by_key by.groups (λ x. slice_index x by.key) row)
    (has_further by.groups (λ x. slice_index x by.key))

-- the same of rows at places: each row is at the place of the row that it is for
abbrev pub IsFramedInPlace : Option PlanKey → (List Row → Row) → Arrivals → Arrivals
IsFramedInPlace None row source = IsChangedInPlace source (framed_at row)
IsFramedInPlace (Some by) row source =
    IsPartedInPlace source (framed_by_key_at by.groups (λ x. slice_index x by.key) row)
    (has_further by.groups (λ x. slice_index x by.key))

-- one row of the items' values, each a column, a literal or a parameter
abbrev pub projected : Sets → List Operand → Row → Row
projected sets items row = map (value_of_operand sets row) items

-- the single row of all aggregates over the rows
abbrev pub totalled : Sets → List Kind → List PlanAgg → List Row → List Row
totalled sets kinds aggs rows = map (total_of sets kinds rows) aggs ∷ []

-- no result with places
abbrev pub NoArriving : Arriving
NoArriving inputs out spill = ⊥

-- the results of a node each of whose rows comes of one row that came, with the places of those rows. Another node has
-- none
abbrev pub arriving_from : (ℕ → Shape) → (ℕ → Arriving) → PlanNode → Arriving
arriving_from shapes arrivals (Node.Stream number kinds) inputs =
    IsArrival (at_places (inputs.streams number) (inputs.places number))
arriving_from shapes arrivals (Node.Body kinds) inputs = IsArrival (at_places inputs.body inputs.body_places)
arriving_from shapes arrivals (Node.Compute child ops) inputs =
    IsChangedInPlace (arrivals child inputs) (mapped_at (computed inputs.sets (shapes child).kinds ops))
arriving_from shapes arrivals (Node.Select child column) inputs =
    IsChangedInPlace (arrivals child inputs) (kept_at (λ row. nat_eq (slice_index row column) 1))
arriving_from shapes arrivals (Node.Project child items) inputs =
    IsChangedInPlace (arrivals child inputs) (mapped_at (projected inputs.sets items))
arriving_from shapes arrivals (Node.Frames child by items) inputs =
    IsFramedInPlace by (row_of_frames inputs.sets (shapes child).kinds items) (arrivals child inputs)
arriving_from shapes arrivals (Node.Merge left right) inputs =
    IsByArrival (arrivals left inputs) (arrivals right inputs)
arriving_from shapes arrivals node inputs = NoArriving inputs

-- the rows at places are a result of a node with this spill
unfoldable pub IsPlanArrival : List PlanNode → ℕ → Arriving
IsPlanArrival nodes = nodewise (arriving_from (shape_of nodes)) NoArriving nodes

-- the results of a node, from the meanings of the nodes that it names, with places and without
abbrev pub meaning_from : (ℕ → Shape) → (ℕ → Arriving) → (ℕ → Meaning) → PlanNode → Meaning
meaning_from shapes arrivals meanings (Node.Stream number kinds) inputs = IsInput (inputs.streams number)
meaning_from shapes arrivals meanings (Node.Body kinds) inputs = IsInput inputs.body
meaning_from shapes arrivals meanings (Node.Compute child ops) inputs =
    IsChanged (meanings child inputs) (map (computed inputs.sets (shapes child).kinds ops))
meaning_from shapes arrivals meanings (Node.Select child column) inputs =
    IsChanged (meanings child inputs) (selected column)
meaning_from shapes arrivals meanings (Node.Project child items) inputs =
    IsChanged (meanings child inputs) (map (projected inputs.sets items))
meaning_from shapes arrivals meanings (Node.Frames child by items) inputs =
    IsFramed by (row_of_frames inputs.sets (shapes child).kinds items) (meanings child inputs)
meaning_from shapes arrivals meanings (Node.Aggregate child aggs) inputs =
    IsChanged (meanings child inputs) (totalled inputs.sets (shapes child).kinds aggs)
meaning_from shapes arrivals meanings (Node.Union left right) inputs =
    IsOfBoth (meanings left inputs) (meanings right inputs) IsInterleaving
meaning_from shapes arrivals meanings (Node.Merge left right) inputs =
    IsWithoutPlaces (IsByArrival (arrivals left inputs) (arrivals right inputs))
meaning_from shapes arrivals meanings (Node.Beside left right) inputs =
    IsOfBoth (meanings left inputs) (meanings right inputs) AreBeside
meaning_from shapes arrivals meanings (Node.Window source body size advance) inputs =
    IsOfParts (meanings source inputs) (slices size advance) (λ slice. meanings body (given inputs slice))
    (λ rows. false)
meaning_from shapes arrivals meanings (Node.TimeWindow source body size advance) inputs =
    IsOfParts (meanings source inputs) (tslices size advance (times_with (shapes source).pace inputs) inputs.ticks)
    (λ slice. meanings body (given inputs slice)) (λ rows. false)
meaning_from shapes arrivals meanings (Node.Group source body key count) inputs =
    IsOfParts (meanings source inputs) (groups count (λ row. slice_index row key))
    (IsOfGroup (λ rows. meanings body (given inputs rows))) (has_further count (λ row. slice_index row key))
meaning_from shapes arrivals meanings (Node.Partition source body key count size advance) inputs =
    IsOfParts (meanings source inputs) (parts count (λ row. slice_index row key) size advance)
    (IsOfGroup (λ rows. meanings body (given inputs rows))) (has_further count (λ row. slice_index row key))

-- no result
abbrev pub NoMeaning : Meaning
NoMeaning inputs out spill = ⊥

-- the rows are a result of a node with this spill; each use of a shared node chooses for itself
unfoldable pub IsPlanResult : List PlanNode → ℕ → Meaning
IsPlanResult nodes = nodewise (meaning_from (shape_of nodes) (IsPlanArrival nodes)) NoMeaning nodes
