-- What a node makes of rows of the columns that are asked for alone is what it makes of the rows.
use mathlib.Core.Path.{fun_ext}
use Rattle.std.proofs.Common.{◌≡◌, ℕ, ◌%◌, ◌^◌, Bool, List, [], ◌∷◌, Option, Some, None, length, refl, ap, ◌∙◌}
use Rattle.std.specs.Prelude.{map, nat_eq, slice_index}
use Rattle.std.specs.List.{AllByRecursion}
use Rattle.gl_bits.proofs.AllLists.{all_back, all_front, length_map, map_map}
use Rattle.gl_values.specs.Kinds.{width_of}
use Rattle.gl_values.specs.Results.{Row}
use Rattle.gl_values.specs.Totals.{average_of, count_of, greatest_of, least_of, sum_total}
use Rattle.gl_values.specs.declared.kind.Kind.{Kind}
use Rattle.gl_frames.specs.Frames.{frame_of, lag_of, last_value_of}
use Rattle.gl_algebra.specs.Columns.{kind_of_operand}
use Rattle.gl_algebra.specs.Results.{counts_in, row_of_frames, value_of_frame, value_over, values_in}
use Rattle.gl_algebra.specs.Values.{Sets, value_of_operand}
use Rattle.gl_algebra.specs.declared.node.Operand.{Operand}
use Rattle.gl_algebra.specs.declared.node.Operand.TheVariants.{Column, Literal, Parameter}
use Rattle.gl_algebra.specs.declared.node.PlanFrame.{PlanFrame}
use Rattle.gl_algebra.specs.declared.node.PlanFrame.TheVariants.{Own, Lag, Over}
use Rattle.gl_algebra.specs.declared.node.PlanFrameAgg.{PlanFrameAgg}
use Rattle.gl_algebra.specs.declared.node.PlanFrameAgg.TheVariants.{Count, Sum, Min, Max, Avg, LastValue}
use Rattle.gl_frames_asked.specs.Among.{pick, pick_kinds, renumber, renumber_agg, renumber_condition, renumber_operand}
use Rattle.gl_frames_asked.specs.Asked.{asked_columns, asks, columns_of_condition, columns_of_operand, columns_over}
use Rattle.gl_frames_asked.specs.Laws.{IsFound, NodesMakeSame}
use Rattle.gl_frames_asked.proofs.AskedLemmas.{items_found, key_found}
use Rattle.gl_frames_asked.proofs.MapLemmas.{frame_mapped, lag_mapped, last_mapped}
use Rattle.gl_frames_asked.proofs.SameLemmas.{kind_same, made_at}

count_mapped : {A B : Type 0} (f : A → B) (xs : List A) → count_of (map f xs) ≡ count_of xs
unfolding count_of
count_mapped f xs = ap (λ (n : ℕ). n % 2 ^ 32) (length_map f xs)

module _ (sets : Sets) (kinds : List Kind) (asked : List ℕ) where
  operand_value : (operand : Operand) → AllByRecursion (IsFound asked) (columns_of_operand operand)
      → (row : Row) → value_of_operand sets (pick asked row) (renumber_operand asked operand) ≡ value_of_operand sets row operand
  operand_value (Column column) found row = made_at (slice_index row) asked column 0 found.0
  operand_value (Literal word kind) found row = refl
  operand_value (Parameter number kind) found row = refl

  -- the same as functions of a row
  values : (operand : Operand) → AllByRecursion (IsFound asked) (columns_of_operand operand)
      → ◌≡◌ {A = Row → ℕ} (λ row. value_of_operand sets (pick asked row) (renumber_operand asked operand)) (λ row. value_of_operand sets row operand)
  values operand found = fun_ext (operand_value operand found)

  condition_value : (filter : Option ℕ) → AllByRecursion (IsFound asked) (columns_of_condition filter)
      → (row : Row) → counts_in (renumber_condition asked filter) (pick asked row) ≡ counts_in filter row
  condition_value None found row = refl
  condition_value (Some column) found row = ap (λ (x : ℕ). nat_eq x 1) (made_at (slice_index row) asked column 0 found.0)

  conditions : (filter : Option ℕ) → AllByRecursion (IsFound asked) (columns_of_condition filter)
      → ◌≡◌ {A = Row → Bool} (λ row. counts_in (renumber_condition asked filter) (pick asked row)) (counts_in filter)
  conditions filter found = fun_ext (condition_value filter found)

  -- ---- frames

  frame_same : (filter back : Option ℕ) → AllByRecursion (IsFound asked) (columns_of_condition filter) → (rows : List Row)
      → frame_of back (counts_in (renumber_condition asked filter)) (map (pick asked) rows) ≡ map (pick asked) (frame_of back (counts_in filter) rows)
  frame_same filter back found rows =
      frame_mapped (pick asked) back (counts_in (renumber_condition asked filter)) rows
      ∙ ap (λ (passes : Row → Bool). map (pick asked) (frame_of back passes rows)) (conditions filter found)

  values_same : (filter back : Option ℕ) (operand : Operand) → AllByRecursion (IsFound asked) (columns_of_operand operand)
      → AllByRecursion (IsFound asked) (columns_of_condition filter) → (rows : List Row)
      → values_in sets (renumber_condition asked filter) back (map (pick asked) rows) (renumber_operand asked operand) ≡ values_in sets filter back rows operand
  values_same filter back operand own of rows =
      ap (map (λ (row : Row). value_of_operand sets row (renumber_operand asked operand))) (frame_same filter back of rows)
      ∙ map_map (λ (row : Row). value_of_operand sets row (renumber_operand asked operand)) (pick asked) (frame_of back (counts_in filter) rows)
      ∙ ap (λ (value : Row → ℕ). map value (frame_of back (counts_in filter) rows)) (values operand own)

  lag_same : (operand : Operand) → AllByRecursion (IsFound asked) (columns_of_operand operand) → (back : ℕ) (rows : List Row)
      → lag_of (λ row. value_of_operand sets row (renumber_operand asked operand)) back (map (pick asked) rows) ≡ lag_of (λ row. value_of_operand sets row operand) back rows
  lag_same operand found back rows =
      lag_mapped (pick asked) (λ row. value_of_operand sets row (renumber_operand asked operand)) back rows
      ∙ ap (λ (value : Row → ℕ). lag_of value back rows) (values operand found)

  last_same : (filter back : Option ℕ) (operand : Operand) → AllByRecursion (IsFound asked) (columns_of_operand operand)
      → AllByRecursion (IsFound asked) (columns_of_condition filter) → (rows : List Row)
      → last_value_of (λ row. value_of_operand sets row (renumber_operand asked operand)) back (counts_in (renumber_condition asked filter)) (map (pick asked) rows)
      ≡ last_value_of (λ row. value_of_operand sets row operand) back (counts_in filter) rows
  last_same filter back operand own of rows =
      last_mapped (pick asked) (λ row. value_of_operand sets row (renumber_operand asked operand)) back (counts_in (renumber_condition asked filter)) rows
      ∙ ap (λ (value : Row → ℕ). last_value_of value back (λ row. counts_in (renumber_condition asked filter) (pick asked row)) rows) (values operand own)
      ∙ ap (λ (passes : Row → Bool). last_value_of (λ row. value_of_operand sets row operand) back passes rows) (conditions filter of)

  -- ---- functions

  over_same : (agg : PlanFrameAgg) (filter back : Option ℕ) → AllByRecursion (IsFound asked) (columns_over agg)
      → AllByRecursion (IsFound asked) (columns_of_condition filter) → (rows : List Row)
      → value_over sets (pick_kinds asked kinds) (renumber_condition asked filter) back (map (pick asked) rows) (renumber_agg asked agg) ≡ value_over sets kinds filter back rows agg
  over_same Count filter back own of rows =
      ap count_of (frame_same filter back of rows) ∙ count_mapped (pick asked) (frame_of back (counts_in filter) rows)
  over_same (Sum operand) filter back own of rows =
      ap (λ (kind : Kind). sum_total (width_of kind) (values_in sets (renumber_condition asked filter) back (map (pick asked) rows) (renumber_operand asked operand))) (kind_same kinds asked operand own)
      ∙ ap (sum_total (width_of (kind_of_operand kinds operand))) (values_same filter back operand own of rows)
  over_same (Min operand) filter back own of rows =
      ap (λ (kind : Kind). least_of kind (values_in sets (renumber_condition asked filter) back (map (pick asked) rows) (renumber_operand asked operand))) (kind_same kinds asked operand own)
      ∙ ap (least_of (kind_of_operand kinds operand)) (values_same filter back operand own of rows)
  over_same (Max operand) filter back own of rows =
      ap (λ (kind : Kind). greatest_of kind (values_in sets (renumber_condition asked filter) back (map (pick asked) rows) (renumber_operand asked operand))) (kind_same kinds asked operand own)
      ∙ ap (greatest_of (kind_of_operand kinds operand)) (values_same filter back operand own of rows)
  over_same (Avg operand) filter back own of rows =
      ap (λ (kind : Kind). average_of kind (values_in sets (renumber_condition asked filter) back (map (pick asked) rows) (renumber_operand asked operand))) (kind_same kinds asked operand own)
      ∙ ap (average_of (kind_of_operand kinds operand)) (values_same filter back operand own of rows)
  over_same (LastValue operand) filter back own of rows = last_same filter back operand own of rows

  item_value : (rows : List Row) (item : PlanFrame) → AllByRecursion (IsFound asked) (asks item)
      → value_of_frame sets (pick_kinds asked kinds) (map (pick asked) rows) (renumber asked item) ≡ value_of_frame sets kinds rows item
  item_value rows (Own operand) found = lag_same operand found 0 rows
  item_value rows (Lag operand back) found = lag_same operand found back rows
  item_value rows (Over agg filter back) found =
      over_same agg filter back (all_front (IsFound asked) (columns_over agg) (columns_of_condition filter) found)
      (all_back (IsFound asked) (columns_over agg) (columns_of_condition filter) found) rows

  pub row_same : (items : List PlanFrame) → AllByRecursion (λ item. AllByRecursion (IsFound asked) (asks item)) items → (rows : List Row)
      → row_of_frames sets (pick_kinds asked kinds) (map (renumber asked) items) (map (pick asked) rows) ≡ row_of_frames sets kinds items rows
  row_same [] found rows = refl
  row_same (item ∷ items) found rows =
      ap (λ (x : ℕ). x ∷ row_of_frames sets (pick_kinds asked kinds) (map (renumber asked) items) (map (pick asked) rows)) (item_value rows item found.0)
      ∙ ap (λ row. value_of_frame sets kinds rows item ∷ row) (row_same items found.1 rows)

pub nodes_make : NodesMakeSame
nodes_make kinds by items key_there fit = record {
  key = λ row. made_at (slice_index row) (asked_columns (length kinds) by.key items) by.key 0 (key_found kinds by.key items key_there fit);
  row = λ sets. row_same sets kinds (asked_columns (length kinds) by.key items) items (items_found kinds by.key items key_there fit);
}
