-- Which columns of a row the key and the items of a node of frames ask for.
use Rattle.std.specs.Prelude.{ℕ, Bool, ◌||◌, List, [], ◌∷◌, ◌++◌, Option, Some, None, filter, nat_eq}
use Rattle.std.specs.List.{list_any, range_with_len}
use Rattle.gl_algebra.specs.declared.node.Operand.{Operand}
use Rattle.gl_algebra.specs.declared.node.Operand.TheVariants.{Column, Literal, Parameter}
use Rattle.gl_algebra.specs.declared.node.PlanFrame.{PlanFrame}
use Rattle.gl_algebra.specs.declared.node.PlanFrame.TheVariants.{Own, Lag, Over}
use Rattle.gl_algebra.specs.declared.node.PlanFrameAgg.{PlanFrameAgg}
use Rattle.gl_algebra.specs.declared.node.PlanFrameAgg.TheVariants.{Count, Sum, Min, Max, Avg, LastValue}

-- the column of an operand; a literal and a parameter have none
abbrev pub columns_of_operand : Operand → List ℕ
columns_of_operand (Column column) = column ∷ []
columns_of_operand (Literal word kind) = []
columns_of_operand (Parameter number kind) = []

-- the column of what a function takes
abbrev pub columns_over : PlanFrameAgg → List ℕ
columns_over Count = []
columns_over (Sum operand) = columns_of_operand operand
columns_over (Min operand) = columns_of_operand operand
columns_over (Max operand) = columns_of_operand operand
columns_over (Avg operand) = columns_of_operand operand
columns_over (LastValue operand) = columns_of_operand operand

-- the column of a condition, if there is one
abbrev pub columns_of_condition : Option ℕ → List ℕ
columns_of_condition None = []
columns_of_condition (Some column) = column ∷ []

-- the columns that an item takes of a row: its operand's and its condition's
abbrev pub asks : PlanFrame → List ℕ
asks (Own operand) = columns_of_operand operand
asks (Lag operand back) = columns_of_operand operand
asks (Over agg filter back) = columns_over agg ++ columns_of_condition filter

-- whether an item takes a column
abbrev pub asks_for : ℕ → PlanFrame → Bool
asks_for column item = list_any (nat_eq column) (asks item)

-- whether the key or an item asks for a column
abbrev pub is_asked : ℕ → List PlanFrame → ℕ → Bool
is_asked key items column = nat_eq column key || list_any (asks_for column) items

-- those of so many columns that the key or an item asks for, in ascending order
abbrev pub asked_columns : ℕ → ℕ → List PlanFrame → List ℕ
asked_columns count key items = filter (is_asked key items) (range_with_len 0 count)
