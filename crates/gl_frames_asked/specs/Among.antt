-- Rows, kinds, items and a key over the columns that are asked for alone.
use Rattle.std.specs.Prelude.{ℕ, Bool, List, Option, Some, None, filter, length, map, nat_eq, slice_index}
use Rattle.std.specs.List.{list_any, range_with_len}
use Rattle.gl_values.specs.Results.{Row}
use Rattle.gl_values.specs.declared.kind.Kind.{Kind}
use Rattle.gl_algebra.specs.Columns.{kind_of_column}
use Rattle.gl_algebra.specs.declared.node.Operand.{Operand}
use Rattle.gl_algebra.specs.declared.node.Operand.TheVariants.{Column, Literal, Parameter}
use Rattle.gl_algebra.specs.declared.node.PlanFrame.{PlanFrame}
use Rattle.gl_algebra.specs.declared.node.PlanFrame.TheVariants.{Own, Lag, Over}
use Rattle.gl_algebra.specs.declared.node.PlanFrameAgg.{PlanFrameAgg}
use Rattle.gl_algebra.specs.declared.node.PlanFrameAgg.TheVariants.{Count, Sum, Min, Max, Avg, LastValue}
use Rattle.gl_algebra.specs.declared.node.PlanKey.{PlanKey}

-- the values of a row, or widths, at some columns
abbrev pub pick : List ℕ → Row → Row
pick asked row = map (slice_index row) asked

-- the kinds of some columns
abbrev pub pick_kinds : List ℕ → List Kind → List Kind
pick_kinds asked kinds = map (kind_of_column kinds) asked

-- whether a column is among some
abbrev pub is_among : List ℕ → ℕ → Bool
is_among asked column = list_any (nat_eq column) asked

-- the place of a column among those that are asked for: how many of the columns below it are asked for
abbrev pub place_among : List ℕ → ℕ → ℕ
place_among asked column = length (filter (is_among asked) (range_with_len 0 column))

-- an operand over these columns alone; a literal and a parameter stay as they are
abbrev pub renumber_operand : List ℕ → Operand → Operand
renumber_operand asked (Column column) = Column (place_among asked column)
renumber_operand asked (Literal word kind) = Literal word kind
renumber_operand asked (Parameter number kind) = Parameter number kind

-- a function over these columns alone
abbrev pub renumber_agg : List ℕ → PlanFrameAgg → PlanFrameAgg
renumber_agg asked Count = Count
renumber_agg asked (Sum operand) = Sum (renumber_operand asked operand)
renumber_agg asked (Min operand) = Min (renumber_operand asked operand)
renumber_agg asked (Max operand) = Max (renumber_operand asked operand)
renumber_agg asked (Avg operand) = Avg (renumber_operand asked operand)
renumber_agg asked (LastValue operand) = LastValue (renumber_operand asked operand)

-- a condition over these columns alone
abbrev pub renumber_condition : List ℕ → Option ℕ → Option ℕ
renumber_condition asked None = None
renumber_condition asked (Some column) = Some (place_among asked column)

-- an item over these columns alone
abbrev pub renumber : List ℕ → PlanFrame → PlanFrame
renumber asked (Own operand) = Own (renumber_operand asked operand)
renumber asked (Lag operand back) = Lag (renumber_operand asked operand) back
renumber asked (Over agg filter back) = Over (renumber_agg asked agg) (renumber_condition asked filter) back

-- a key over these columns alone
abbrev pub renumber_key : List ℕ → PlanKey → PlanKey
renumber_key asked by = record by { key = place_among asked by.key }
