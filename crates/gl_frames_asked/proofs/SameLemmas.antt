-- An item over the columns that are asked for alone fits them, and is what it was.
use Rattle.std.proofs.Common.{◌≡◌, ℕ, ◌+◌, ◌<◌, List, Option, Some, None, length, get_or, refl, sym, ap, ◌∙◌, subst, arith}
use Rattle.std.specs.Prelude.{All, IsTrue, map}
use Rattle.std.specs.List.{AllByRecursion}
use Rattle.std.proofs.lemmas.List.Elements.{All-from_recursion, recursion_from_All}
use Rattle.std.proofs.lemmas.Option.{get_or_from_slice_get}
use Rattle.gl_bits.proofs.AllLists.{all_at, all_back, all_by_place, all_front, get_mapped, length_map}
use Rattle.gl_values.specs.Kinds.{is_number, width_of}
use Rattle.gl_values.specs.declared.kind.Kind.{Kind}
use Rattle.gl_algebra.specs.Columns.{ConditionFits, FrameAggFits, FrameFits, OperandFits, bit_kind, kind_of_column, kind_of_frame_agg, kind_of_operand}
use Rattle.gl_algebra.specs.Frames.{delay_of_count, delay_of_sum, delay_over, digits_of_rows, digits_over, rings_over, words_over}
use Rattle.gl_algebra.specs.Weights.{weight_of_rings}
use Rattle.gl_algebra.specs.declared.node.Operand.{Operand}
use Rattle.gl_algebra.specs.declared.node.Operand.TheVariants.{Column, Literal, Parameter}
use Rattle.gl_algebra.specs.declared.node.PlanFrame.{PlanFrame}
use Rattle.gl_algebra.specs.declared.node.PlanFrame.TheVariants.{Own, Lag, Over}
use Rattle.gl_algebra.specs.declared.node.PlanFrameAgg.{PlanFrameAgg}
use Rattle.gl_algebra.specs.declared.node.PlanFrameAgg.TheVariants.{Count, Sum, Min, Max, Avg, LastValue}
use Rattle.gl_frames_asked.specs.Among.{pick_kinds, place_among, renumber_agg, renumber_condition, renumber_operand}
use Rattle.gl_frames_asked.specs.Asked.{asked_columns, asks, columns_of_condition, columns_of_operand, columns_over}
use Rattle.gl_frames_asked.specs.Laws.{IsFound, IsSameItem, ItemsAreSame}
use Rattle.gl_frames_asked.proofs.AskedLemmas.{items_found}

-- what is made of each column stands at the column's place
pub made_at : {A : Type 0} (f : ℕ → A) (asked : List ℕ) (column : ℕ) (d : A) → IsFound asked column → get_or (map f asked) (place_among asked column) d ≡ f column
made_at f asked column d found = get_or_from_slice_get (map f asked) (place_among asked column) (f column) d (get_mapped f asked (place_among asked column) column found.there)

module _ (kinds : List Kind) (asked : List ℕ) where
  -- ---- operands

  pub kind_same : (operand : Operand) → AllByRecursion (IsFound asked) (columns_of_operand operand)
      → kind_of_operand (pick_kinds asked kinds) (renumber_operand asked operand) ≡ kind_of_operand kinds operand
  kind_same (Column column) found = made_at (kind_of_column kinds) asked column bit_kind found.0
  kind_same (Literal word kind) found = refl
  kind_same (Parameter number kind) found = refl

  operand_fits : (operand : Operand) → OperandFits kinds operand → AllByRecursion (IsFound asked) (columns_of_operand operand)
      → OperandFits (pick_kinds asked kinds) (renumber_operand asked operand)
  operand_fits (Column column) fits found = let long = length_map (kind_of_column kinds) asked in let within = found.0.within in omega (arith, long, within)
  operand_fits (Literal word kind) fits found = fits
  operand_fits (Parameter number kind) fits found = fits

  number_fits : (operand : Operand) → IsTrue (is_number (kind_of_operand kinds operand)) → AllByRecursion (IsFound asked) (columns_of_operand operand)
      → IsTrue (is_number (kind_of_operand (pick_kinds asked kinds) (renumber_operand asked operand)))
  number_fits operand fits found = subst (λ (kind : Kind). IsTrue (is_number kind)) (sym (kind_same operand found)) fits

  -- ---- functions

  agg_kind : (agg : PlanFrameAgg) → AllByRecursion (IsFound asked) (columns_over agg)
      → kind_of_frame_agg (pick_kinds asked kinds) (renumber_agg asked agg) ≡ kind_of_frame_agg kinds agg
  agg_kind Count found = refl
  agg_kind (Sum operand) found = kind_same operand found
  agg_kind (Min operand) found = kind_same operand found
  agg_kind (Max operand) found = kind_same operand found
  agg_kind (Avg operand) found = kind_same operand found
  agg_kind (LastValue operand) found = kind_same operand found

  agg_fits : (agg : PlanFrameAgg) → FrameAggFits kinds agg → AllByRecursion (IsFound asked) (columns_over agg)
      → FrameAggFits (pick_kinds asked kinds) (renumber_agg asked agg)
  agg_fits Count fits found = tt
  agg_fits (Sum operand) fits found = (operand_fits operand fits.0 found, number_fits operand fits.1 found)
  agg_fits (Min operand) fits found = operand_fits operand fits found
  agg_fits (Max operand) fits found = operand_fits operand fits found
  agg_fits (Avg operand) fits found = (operand_fits operand fits.0 found, number_fits operand fits.1 found)
  agg_fits (LastValue operand) fits found = operand_fits operand fits found

  agg_digits : (agg : PlanFrameAgg) (back : Option ℕ) → AllByRecursion (IsFound asked) (columns_over agg)
      → digits_over (pick_kinds asked kinds) (renumber_agg asked agg) back ≡ digits_over kinds agg back
  agg_digits Count back found = refl
  agg_digits (Sum operand) back found = refl
  agg_digits (Min operand) back found = refl
  agg_digits (Max operand) back found = refl
  agg_digits (Avg operand) back found = ap (λ (kind : Kind). width_of kind + digits_of_rows back) (kind_same operand found)
  agg_digits (LastValue operand) back found = refl

  -- ---- conditions

  condition_fits : (filter : Option ℕ) → ConditionFits kinds filter → AllByRecursion (IsFound asked) (columns_of_condition filter)
      → ConditionFits (pick_kinds asked kinds) (renumber_condition asked filter)
  condition_fits None fits found = tt
  condition_fits (Some column) fits found =
      get_mapped (kind_of_column kinds) asked (place_among asked column) column found.0.there
      ∙ ap (λ (kind : Kind). Some kind) (get_or_from_slice_get kinds column bit_kind bit_kind fits)

  count_delay : (filter back : Option ℕ) → delay_of_count (renumber_condition asked filter) back ≡ delay_of_count filter back
  count_delay None back = refl
  count_delay (Some column) back = refl

  over_delay : (agg : PlanFrameAgg) (filter back : Option ℕ) → AllByRecursion (IsFound asked) (columns_over agg)
      → delay_over (pick_kinds asked kinds) (renumber_agg asked agg) (renumber_condition asked filter) back ≡ delay_over kinds agg filter back
  over_delay Count filter back found = count_delay filter back
  over_delay (Sum operand) filter back found = refl
  over_delay (Min operand) filter back found = refl
  over_delay (Max operand) filter back found = refl
  over_delay (Avg operand) filter back found = ap (λ (digits : ℕ). delay_of_sum back + digits + 1) (agg_digits (Avg operand) back found)
  over_delay (LastValue operand) filter back found = refl

  over_rings : (agg : PlanFrameAgg) (filter back : Option ℕ)
      → rings_over (renumber_agg asked agg) (renumber_condition asked filter) back ≡ rings_over agg filter back
  over_rings Count None back = refl
  over_rings Count (Some column) back = refl
  over_rings (Sum operand) filter back = refl
  over_rings (Min operand) filter back = refl
  over_rings (Max operand) filter back = refl
  over_rings (Avg operand) filter back = refl
  over_rings (LastValue operand) filter back = refl

  over_words : (agg : PlanFrameAgg) (filter back : Option ℕ)
      → words_over (renumber_agg asked agg) (renumber_condition asked filter) back ≡ words_over agg filter back
  over_words Count None back = refl
  over_words Count (Some column) back = refl
  over_words (Sum operand) filter back = refl
  over_words (Min operand) filter back = refl
  over_words (Max operand) filter back = refl
  over_words (Avg operand) filter back = refl
  over_words (LastValue operand) filter back = refl

  -- ---- items

  item_same : (item : PlanFrame) → FrameFits kinds item → AllByRecursion (IsFound asked) (asks item) → IsSameItem kinds asked item
  item_same (Own operand) fits found = record {
    fits = operand_fits operand fits found;
    kind = kind_same operand found;
    delay = refl;
    digits = refl;
    weight = refl;
    frames = refl;
    rings = refl;
    words = refl;
  }
  item_same (Lag operand back) fits found = record {
    fits = (operand_fits operand fits.0 found, fits.1, fits.2);
    kind = kind_same operand found;
    delay = refl;
    digits = refl;
    weight = refl;
    frames = refl;
    rings = refl;
    words = refl;
  }
  item_same (Over agg filter back) fits found =
      let own = all_front (IsFound asked) (columns_over agg) (columns_of_condition filter) found in
      let of = all_back (IsFound asked) (columns_over agg) (columns_of_condition filter) found in
      record {
        fits = (agg_fits agg fits.0 own, condition_fits filter fits.1 of, fits.2);
        kind = agg_kind agg own;
        delay = over_delay agg filter back own;
        digits = agg_digits agg back own;
        weight = ap (λ (n : ℕ). weight_of_rings n (digits_over (pick_kinds asked kinds) (renumber_agg asked agg) back)) (over_rings agg filter back)
            ∙ ap (λ (n : ℕ). weight_of_rings (rings_over agg filter back) n) (agg_digits agg back own);
        frames = refl;
        rings = over_rings agg filter back;
        words = over_words agg filter back;
      }

pub items_same_each : (kinds : List Kind) (key : ℕ) (items : List PlanFrame) → key < length kinds → All (FrameFits kinds) items
    → AllByRecursion (IsSameItem kinds (asked_columns (length kinds) key items)) items
items_same_each kinds key items key_there fit =
    all_by_place (IsSameItem kinds (asked_columns (length kinds) key items)) items (λ i item at.
    item_same kinds (asked_columns (length kinds) key items) item (all_at (FrameFits kinds) items i item at (recursion_from_All (FrameFits kinds) items fit))
    (all_at (λ own. AllByRecursion (IsFound (asked_columns (length kinds) key items)) (asks own)) items i item at (items_found kinds key items key_there fit)))

pub items_same : ItemsAreSame
items_same kinds key items key_there fit =
    All-from_recursion (IsSameItem kinds (asked_columns (length kinds) key items)) items (items_same_each kinds key items key_there fit)
