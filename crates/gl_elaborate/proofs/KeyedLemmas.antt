-- PARTITION over a node of a plan: the key that it becomes, and what frames by it make of a result.
use Rattle.std.proofs.Common.{◌≡◌, ℕ, ◌+◌, Bool, ◌||◌, List, Option, Some, None, slice_index, sym, ap, subst, ◌∙◌, map, filter, ◌++◌}
use Rattle.std.specs.List.{AllByRecursion}
use Rattle.std.proofs.lemmas.List.{length-map}
use Rattle.gl_values.specs.Kinds.{width_of}
use Rattle.gl_values.specs.Lists.{has_further}
use Rattle.gl_values.specs.Results.{Row, Results, IsChanged}
use Rattle.gl_values.specs.declared.kind.Kind.{Kind}
use Rattle.gl_frames.specs.Frames.{framed, framed_by_key}
use Rattle.gl_schema.specs.declared.schema.Column.{Column as NamedColumn}
use Rattle.gl_schema.specs.Schemas.{kinds_of}
use Rattle.gl_query.specs.Shapes.{ExprShape, FrameItemShape, SlotsShape}
use Rattle.gl_query.specs.Values.{column_number}
use Rattle.gl_query.specs.Accepted.{IsParted}
use Rattle.gl_query.specs.Results.{Reach, is_kept, kept, reached_row}
use Rattle.gl_query.specs.Laws.{AreKinds, IsLongAs}
use Rattle.gl_query.proofs.Holding.{all_filter}
use Rattle.gl_algebra.specs.declared.node.PlanFrame.{PlanFrame}
use Rattle.gl_algebra.specs.Fits.{KeyFits}
use Rattle.gl_algebra.specs.Frames.{delay_of_frames}
use Rattle.gl_algebra.specs.Keys.{cycles_of_look_up, delay_by_key}
use Rattle.gl_algebra.specs.Values.{Sets}
use Rattle.gl_algebra.specs.Results.{row_of_frames}
use Rattle.gl_algebra.specs.Results as plan
use Rattle.gl_elaborate.specs.Plans.{key_over}
use Rattle.gl_elaborate.specs.Figures.{parted_delay}
use Rattle.gl_elaborate.proofs.ApartLemmas.{AreWords}
use Rattle.gl_elaborate.proofs.TermLemmas.{kind-column}
use Rattle.gl_elaborate.proofs.AcceptedLemmas.{column-fits}
use Rattle.gl_elaborate.proofs.LevelLemmas.{KeepsColumns}
use Rattle.gl_elaborate.proofs.LongLemmas.{AreLong}
use Rattle.gl_arrival.specs.Places.{Placed, rows_of}
use Rattle.gl_arrival.specs.Changes.{framed_at, framed_by_key_at, kept_at, mapped_at}
use Rattle.gl_arrival.specs.Results.{Arrivals, IsChangedInPlace}
use Rattle.gl_arrival.proofs.ChangeLemmas.{rows_kept, rows_mapped}
use Rattle.gl_elaborate.proofs.FramedLemmas.{filter_mapped, framed_mapped, framed_mapped_in_place, further_mapped, kept_mapped, keyed_mapped, keyed_mapped_in_place}

-- what the expressions of a select see where the parameters have these words
abbrev pub seen_with : (columns parameters : List NamedColumn) → Row → Reach
seen_with columns parameters words = record { columns = columns ++ parameters; words = words }

-- made of a result of the source whose rows are long, with the words that are set
pub record IsFramed (columns parameters : List NamedColumn) (items : List FrameItemShape) (condition : Option ExprShape) (sets : Sets) (source : Results) (out : List Row) (spill : Bool) : Type 0 where
  pub rows : List Row
  pub of_source : source rows spill
  pub made : (words : Row) → AreWords parameters sets words → AreLong columns rows
      → out ≡ framed (reached_row (seen_with columns parameters words) items) (kept (seen_with columns parameters words) condition rows)

-- the column of PARTITION
abbrev pub key_of : List NamedColumn → SlotsShape → Row → ℕ
key_of columns s row = slice_index row (column_number columns s.key)

-- the same of the first keys of such a result
pub record IsFramedByKey (columns parameters : List NamedColumn) (items : List FrameItemShape) (condition : Option ExprShape) (slots : SlotsShape) (sets : Sets) (source : Results) (out : List Row) (spill : Bool) : Type 0 where
  pub rows : List Row
  pub source_spill : Bool
  pub of_source : source rows source_spill
  pub made : (words : Row) → AreWords parameters sets words → AreLong columns rows
      → out ≡ framed_by_key slots.groups (key_of columns slots) (reached_row (seen_with columns parameters words) items) (kept (seen_with columns parameters words) condition rows)
  pub told : (words : Row) → AreWords parameters sets words → AreLong columns rows
      → spill ≡ (source_spill || has_further slots.groups (key_of columns slots) (kept (seen_with columns parameters words) condition rows))

abbrev pub AreFramed : (columns parameters : List NamedColumn) → List FrameItemShape → Option ExprShape → Option SlotsShape → Sets → Results → Results
AreFramed columns parameters items condition None sets source = IsFramed columns parameters items condition sets source
AreFramed columns parameters items condition (Some s) sets source = IsFramedByKey columns parameters items condition s sets source

-- the same with places
pub record IsFramedHere (columns parameters : List NamedColumn) (items : List FrameItemShape) (condition : Option ExprShape) (sets : Sets) (source : Arrivals) (out : List (Placed Row)) (spill : Bool) : Type 0 where
  pub rows : List (Placed Row)
  pub of_source : source rows spill
  pub made : (words : Row) → AreWords parameters sets words → AreLong columns (rows_of rows)
      → out ≡ framed_at (reached_row (seen_with columns parameters words) items) (kept_at (is_kept (seen_with columns parameters words) condition) rows)

pub record IsFramedByKeyHere (columns parameters : List NamedColumn) (items : List FrameItemShape) (condition : Option ExprShape) (slots : SlotsShape) (sets : Sets) (source : Arrivals) (out : List (Placed Row)) (spill : Bool) : Type 0 where
  pub rows : List (Placed Row)
  pub source_spill : Bool
  pub of_source : source rows source_spill
  pub made : (words : Row) → AreWords parameters sets words → AreLong columns (rows_of rows)
      → out ≡ framed_by_key_at slots.groups (key_of columns slots) (reached_row (seen_with columns parameters words) items)
      (kept_at (is_kept (seen_with columns parameters words) condition) rows)
  pub told : (words : Row) → AreWords parameters sets words → AreLong columns (rows_of rows)
      → spill ≡ (source_spill || has_further slots.groups (key_of columns slots) (kept (seen_with columns parameters words) condition (rows_of rows)))

abbrev pub AreFramedHere : (columns parameters : List NamedColumn) → List FrameItemShape → Option ExprShape → Option SlotsShape → Sets → Arrivals → Arrivals
AreFramedHere columns parameters items condition None sets source = IsFramedHere columns parameters items condition sets source
AreFramedHere columns parameters items condition (Some s) sets source = IsFramedByKeyHere columns parameters items condition s sets source

-- the key of a node stands for PARTITION
pub record IsKeyOf (columns : List NamedColumn) (kinds : List Kind) (slots : Option SlotsShape) : Type 0 where
  pub fits : KeyFits kinds (key_over columns slots)
  pub delay : (items : List PlanFrame) (d : ℕ) → delay_of_frames kinds items ≡ d → delay_by_key kinds (key_over columns slots) items ≡ parted_delay columns slots d

module _ (columns parameters : List NamedColumn) (areKinds : AreKinds columns) (kinds : List Kind) (widen : Sets → Row → Row) (wide : KeepsColumns (kinds_of columns) kinds widen) where
  pub key-stands : (slots : Option SlotsShape) → IsParted columns slots → IsKeyOf columns kinds slots
  key-stands None h = record { fits = tt; delay = λ items d same. same }
  key-stands (Some s) h =
      let column = wide (column_number columns s.key) (column-fits columns areKinds s.key h.known) in
      let kind = column.kind ∙ kind-column columns s.key in
      record {
        fits = (column.fits, record { least = h.some_groups; most = h.most_groups });
        delay = λ items d same. λ i. same i + cycles_of_look_up (width_of (kind i)) s.groups + 1;
      }

  -- frames over rows that are widened and filtered
  module _ (items : List FrameItemShape) (o : Option ExprShape) (made : List PlanFrame) (p : Row → Bool)
      (picks : (sets : Sets) (words : Row) → AreWords parameters sets words → (row : Row) → IsLongAs columns row
      → p (widen sets row) ≡ is_kept (seen_with columns parameters words) o row)
      (alike : (sets : Sets) (words : Row) → AreWords parameters sets words → (rows : List Row) → AreLong columns rows
      → row_of_frames sets kinds made (map (widen sets) rows) ≡ reached_row (seen_with columns parameters words) items rows) where
    -- the rows that a condition keeps
    abbrev keeps_with : Row → Row → Bool
    keeps_with words row = is_kept (seen_with columns parameters words) o row

    -- a result of the source that is widened, then filtered
    narrowed : (sets : Sets) (words : Row) → AreWords parameters sets words → (source : Results) (out : List Row) (spill : Bool)
        (r : IsChanged (IsChanged source (map (widen sets))) (filter p) out spill)
        → AreLong columns r.of_source.rows → out ≡ map (widen sets) (kept (seen_with columns parameters words) o r.of_source.rows)
    narrowed sets words are source out spill r long =
        r.changed ∙ ap (filter p) r.of_source.changed
        ∙ filter_mapped (widen sets) (IsLongAs columns) p (keeps_with words) (picks sets words are) r.of_source.rows long

    pub framed-alike : (slots : Option SlotsShape) → IsParted columns slots → (sets : Sets) (source : Results) (out : List Row) (spill : Bool)
        → plan.IsFramed (key_over columns slots) (row_of_frames sets kinds made) (IsChanged (IsChanged source (map (widen sets))) (filter p)) out spill
        → AreFramed columns parameters items o slots sets source out spill
    framed-alike None h sets source out spill r = record {
      rows = r.of_source.of_source.rows;
      of_source = r.of_source.of_source.of_source;
      made = λ words are long.
          let rows = r.of_source.of_source.rows in
          let seen = seen_with columns parameters words in
          r.changed ∙ ap (framed (row_of_frames sets kinds made)) (narrowed sets words are source r.rows spill r.of_source long)
          ∙ framed_mapped (widen sets) (IsLongAs columns) (row_of_frames sets kinds made) (reached_row seen items) (alike sets words are) (kept seen o rows)
          (all_filter (IsLongAs columns) (keeps_with words) rows long);
    }
    framed-alike (Some s) h sets source out spill r =
        let number = column_number columns s.key in
        let column = wide number (column-fits columns areKinds s.key h.known) in
        let same : (row : Row) → IsLongAs columns row → slice_index (widen sets row) number ≡ slice_index row number =
        λ row long. column.value sets row (long ∙ sym (length-map columns (λ c. c.kind))) in
        let rows = r.of_source.of_source.rows in
        let key : Row → ℕ = key_of columns s in
        record {
          rows = rows;
          source_spill = r.source_spill;
          of_source = r.of_source.of_source.of_source;
          made = λ words are long.
              let seen = seen_with columns parameters words in
              r.changed ∙ ap (framed_by_key s.groups key (row_of_frames sets kinds made)) (narrowed sets words are source r.rows r.source_spill r.of_source long)
              ∙ keyed_mapped (widen sets) (IsLongAs columns) (row_of_frames sets kinds made) (reached_row seen items) (alike sets words are) s.groups key key same (kept seen o rows)
              (all_filter (IsLongAs columns) (keeps_with words) rows long);
          told = λ words are long.
              let seen = seen_with columns parameters words in
              r.any ∙ ap (λ (l : List Row). r.source_spill || has_further s.groups key l) (narrowed sets words are source r.rows r.source_spill r.of_source long)
              ∙ ap (λ (b : Bool). r.source_spill || b)
              (further_mapped (widen sets) (IsLongAs columns) key key same s.groups (kept seen o rows) (all_filter (IsLongAs columns) (keeps_with words) rows long));
        }

    -- the same with places
    long_kept : (words : Row) (xs : List (Placed Row)) → AreLong columns (rows_of xs) → AreLong columns (rows_of (kept_at (keeps_with words) xs))
    long_kept words xs long =
        subst (AllByRecursion (IsLongAs columns)) (sym (rows_kept (keeps_with words) xs)) (all_filter (IsLongAs columns) (keeps_with words) (rows_of xs) long)

    narrowed_here : (sets : Sets) (words : Row) → AreWords parameters sets words → (source : Arrivals) (out : List (Placed Row)) (spill : Bool)
        (r : IsChangedInPlace source (λ xs. kept_at p (mapped_at (widen sets) xs)) out spill)
        → AreLong columns (rows_of r.rows) → out ≡ mapped_at (widen sets) (kept_at (keeps_with words) r.rows)
    narrowed_here sets words are source out spill r long =
        r.changed ∙ kept_mapped (widen sets) (IsLongAs columns) p (keeps_with words) (picks sets words are) r.rows long

    pub framed-alike-here : (slots : Option SlotsShape) → IsParted columns slots → (sets : Sets) (source : Arrivals) (out : List (Placed Row)) (spill : Bool)
        → plan.IsFramedInPlace (key_over columns slots) (row_of_frames sets kinds made) (IsChangedInPlace source (λ xs. kept_at p (mapped_at (widen sets) xs))) out spill
        → AreFramedHere columns parameters items o slots sets source out spill
    framed-alike-here None h sets source out spill r = record {
      rows = r.of_source.rows;
      of_source = r.of_source.of_source;
      made = λ words are long.
          let rows = r.of_source.rows in
          let seen = seen_with columns parameters words in
          r.changed ∙ ap (λ (l : List (Placed Row)). framed_at (row_of_frames sets kinds made) l) (narrowed_here sets words are source r.rows spill r.of_source long)
          ∙ framed_mapped_in_place (widen sets) (IsLongAs columns) (row_of_frames sets kinds made) (reached_row seen items) (alike sets words are) (kept_at (keeps_with words) rows)
          (long_kept words rows long);
    }
    framed-alike-here (Some s) h sets source out spill r =
        let number = column_number columns s.key in
        let column = wide number (column-fits columns areKinds s.key h.known) in
        let same : (row : Row) → IsLongAs columns row → slice_index (widen sets row) number ≡ slice_index row number =
        λ row long. column.value sets row (long ∙ sym (length-map columns (λ c. c.kind))) in
        let rows = r.of_source.rows in
        let key : Row → ℕ = key_of columns s in
        record {
          rows = rows;
          source_spill = r.source_spill;
          of_source = r.of_source.of_source;
          made = λ words are long.
              let seen = seen_with columns parameters words in
              r.changed ∙ ap (λ (l : List (Placed Row)). framed_by_key_at s.groups key (row_of_frames sets kinds made) l) (narrowed_here sets words are source r.rows r.source_spill r.of_source long)
              ∙ keyed_mapped_in_place (widen sets) (IsLongAs columns) (row_of_frames sets kinds made) (reached_row seen items) (alike sets words are) s.groups key key same
              (kept_at (keeps_with words) rows) (long_kept words rows long);
          told = λ words are long.
              let left : List (Placed Row) = kept_at (keeps_with words) rows in
              r.any
              ∙ ap (λ (l : List Row). r.source_spill || has_further s.groups key l)
              (ap (λ (l : List (Placed Row)). rows_of l) (narrowed_here sets words are source r.rows r.source_spill r.of_source long) ∙ rows_mapped (widen sets) left)
              ∙ ap (λ (b : Bool). r.source_spill || b) (further_mapped (widen sets) (IsLongAs columns) key key same s.groups (rows_of left) (long_kept words rows long))
              ∙ ap (λ (l : List Row). r.source_spill || has_further s.groups key l) (rows_kept (keeps_with words) rows);
        }
