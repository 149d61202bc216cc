-- Items of a node of frames stand for those of a select.
use Rattle.std.proofs.Common.{◌≡◌, ℕ, ◌+◌, Bool, List, [], ◌∷◌, ◌++◌, Option, Some, None, refl, sym, ap, subst, ◌∙◌, arith, map, max, nat_eq, append_assoc, lit≤}
use Rattle.std.specs.Prelude.{option_to_list}
use Rattle.std.specs.List.{AllByRecursion, AllZip}
use Rattle.std.proofs.lemmas.List.{length-map}
use Rattle.gl_values.specs.Kinds.{width_of}
use Rattle.gl_values.specs.Results.{Row}
use Rattle.gl_values.specs.Totals.{count_of, sum_total, least_of, greatest_of, average_of}
use Rattle.gl_values.specs.declared.kind.Kind.{Kind}
use Rattle.gl_values.specs.declared.kind.Kind.TheVariants.{Unsigned}
use Rattle.gl_frames.specs.Frames.{frame_of}
use Rattle.gl_schema.specs.declared.schema.Column.{Column as NamedColumn}
use Rattle.gl_schema.specs.Schemas.{kinds_of}
use Rattle.gl_query.specs.Shapes.{ExprShape, FrameAggShape, FrameShape, FrameItemShape}
use Rattle.gl_query.specs.Shapes as shape
use Rattle.gl_query.specs.Values.{kind_alone, kind_of, value_of}
use Rattle.gl_query.specs.Columns.{frame_agg_kind, frame_column, frame_kind}
use Rattle.gl_query.specs.Accepted.{IsBack, IsFilter, IsFrame, IsFrameAgg}
use Rattle.gl_query.specs.Results.{frame_agg_value, frame_value, keeps, reached_row, values_of, widened}
use Rattle.gl_query.specs.Laws.{AreKinds, IsLongAs}
use Rattle.gl_query.proofs.Holding.{all_in_frame}
use Rattle.gl_algebra.specs.declared.node.Operand.{Operand}
use Rattle.gl_algebra.specs.declared.node.PlanFrame.{PlanFrame}
use Rattle.gl_algebra.specs.declared.node.PlanFrameAgg.{PlanFrameAgg}
use Rattle.gl_algebra.specs.Columns.{kind_of_frame, kind_of_frame_agg, kind_of_operand, BackFits, ConditionFits, FrameAggFits, FrameFits}
use Rattle.gl_algebra.specs.Frames.{delay_of_count, delay_of_frame, delay_of_frames, delay_of_sum, delay_over, digits_of_rows}
use Rattle.gl_algebra.specs.Results.{counts_in, row_of_frames, value_of_frame, value_over, values_in}
use Rattle.gl_algebra.specs.Values.{Sets, value_of_operand}
use Rattle.gl_elaborate.specs.Terms.{Term, term_over, depth_of_all}
use Rattle.gl_elaborate.specs.Levels.{operand_of}
use Rattle.gl_elaborate.specs.Plans.{behind_argument, behind_condition, behind_frame, condition_over, filter_of, frame_agg_over, frame_arguments, frame_over, frame_terms, frames_of, frames_terms}
use Rattle.gl_elaborate.specs.Figures.{frame_agg_delay, frame_delay, frames_delay}
use Rattle.gl_elaborate.proofs.ApartLemmas.{AreWords, over-fits, over-kind, over-narrow, over-value}
use Rattle.gl_elaborate.proofs.LevelLemmas.{IsCarried}
use Rattle.gl_elaborate.proofs.LongLemmas.{AreLong}
use Rattle.gl_elaborate.proofs.RowsLemmas.{condition, flat-column}
use Rattle.gl_elaborate.proofs.TotalsLemmas.{IsArgument, argument, counted, sum_of_kind, summed}
use Rattle.gl_elaborate.proofs.FramedLemmas.{frame_mapped, lag_both, last_both}
use Rattle.gl_elaborate.proofs.KeyedLemmas.{seen_with}

-- a column over wider rows picks the rows that a condition picks
abbrev PicksAlike : (columns parameters : List NamedColumn) → (Sets → Row → Row) → Option ExprShape → Option ℕ → Type 0
PicksAlike columns parameters widen condition column = (sets : Sets) (words : Row) → AreWords parameters sets words
    → (row : Row) → IsLongAs columns row → counts_in column (widen sets row) ≡ keeps (columns ++ parameters) condition (row ++ words)

record IsConditionAt (columns parameters : List NamedColumn) (kinds : List Kind) (widen : Sets → Row → Row) (condition : Option ExprShape) (column : Option ℕ) : Type 0 where
  pub fits : ConditionFits kinds column
  pub picks : PicksAlike columns parameters widen condition column
  pub delay : (back : Option ℕ) → delay_of_count column back ≡ delay_of_count condition back

-- a function stands for another
record IsFunctionOf (columns parameters : List NamedColumn) (kinds : List Kind) (widen : Sets → Row → Row) (a : FrameAggShape) (x : PlanFrameAgg) : Type 0 where
  pub fits : FrameAggFits kinds x
  pub kind : kind_of_frame_agg kinds x ≡ frame_agg_kind (columns ++ parameters) a
  pub delay : (condition : Option ExprShape) (column back : Option ℕ) → delay_of_count column back ≡ delay_of_count condition back
      → delay_over kinds x column back ≡ frame_agg_delay (columns ++ parameters) a condition back
  pub value : (condition : Option ExprShape) (column back : Option ℕ) → PicksAlike columns parameters widen condition column
      → (sets : Sets) (words : Row) → AreWords parameters sets words → (rows : List Row) → AreLong columns rows
      → value_over sets kinds column back (map (widen sets) rows) x
      ≡ frame_agg_value (columns ++ parameters) back (keeps (columns ++ parameters) condition) (widened words rows) a

-- a frame stands for another
record IsFrameOf (columns parameters : List NamedColumn) (kinds : List Kind) (widen : Sets → Row → Row) (f : FrameShape) (x : PlanFrame) : Type 0 where
  pub fits : FrameFits kinds x
  pub kind : kind_of_frame kinds x ≡ frame_kind (columns ++ parameters) f
  pub delay : delay_of_frame kinds x ≡ frame_delay (columns ++ parameters) f
  pub value : (sets : Sets) (words : Row) → AreWords parameters sets words → (rows : List Row) → AreLong columns rows
      → value_of_frame sets kinds (map (widen sets) rows) x ≡ frame_value (columns ++ parameters) (widened words rows) f

back-fits : (back : Option ℕ) → IsBack back → BackFits back
back-fits None h = tt
back-fits (Some k) h = h

module _ (columns parameters : List NamedColumn) (areKinds : AreKinds (columns ++ parameters)) (kinds : List Kind) (widen : Sets → Row → Row) where
  -- what the frames may name
  abbrev reach : List NamedColumn
  reach = columns ++ parameters

  -- a row with the words of the parameters
  abbrev seen : Row → Row → Row
  seen words row = row ++ words

  -- terms that are left, all of them flat
  abbrev AreLeft : List Term → List Term → Type 0
  AreLeft rest terms = AllZip (IsCarried (kinds_of columns) kinds widen) rest terms × (depth_of_all terms ≡ 0)

  -- the rows that a condition picks
  abbrev picked_with : Option ExprShape → Row → Row → Bool
  picked_with condition words row = keeps reach condition (row ++ words)

  -- the rows of a frame over rows with words are those over rows without, with words
  seen_frame : (condition : Option ExprShape) (words : Row) (back : Option ℕ) (rows : List Row) → AreLong columns rows
      → frame_of back (keeps reach condition) (widened words rows) ≡ widened words (frame_of back (picked_with condition words) rows)
  seen_frame condition words back rows long =
      frame_mapped (seen words) (IsLongAs columns) (keeps reach condition) (picked_with condition words) (λ row one. refl) back rows long

  over_kind : (e : ExprShape) (x : Operand) → IsArgument columns parameters kinds widen e x → (f : Kind → List ℕ → ℕ) (condition : Option ExprShape) (column back : Option ℕ)
      → PicksAlike columns parameters widen condition column → (sets : Sets) (words : Row) → AreWords parameters sets words → (rows : List Row) → AreLong columns rows
      → f (kind_of_operand kinds x) (values_in sets column back (map (widen sets) rows) x)
      ≡ f (kind_of reach (kind_alone e) e) (values_of reach e (frame_of back (keeps reach condition) (widened words rows)))
  over_kind e x is f condition column back picks sets words are rows long =
      let within = frame_of back (picked_with condition words) rows in
      ap (λ (l : List Row). f (kind_of_operand kinds x) (map (λ row. value_of_operand sets row x) l))
      (frame_mapped (widen sets) (IsLongAs columns) (counts_in column) (picked_with condition words) (picks sets words are) back rows long)
      ∙ sum_of_kind columns parameters areKinds kinds widen e x is f sets words are within
      (all_in_frame (IsLongAs columns) back (picked_with condition words) rows long)
      ∙ ap (λ (l : List Row). f (kind_of reach (kind_alone e) e) (values_of reach e l)) (sym (seen_frame condition words back rows long))

  function : (a : FrameAggShape) (terms rest : List Term) → IsFrameAgg reach a
      → AllZip (IsCarried (kinds_of columns) kinds widen) (frame_arguments columns reach a ++ rest) terms → depth_of_all terms ≡ 0
      → IsFunctionOf columns parameters kinds widen a (frame_agg_over a terms) × AreLeft rest (behind_argument a terms)
  function shape.CountOver terms rest h zipped flat = (
    record {
      fits = tt;
      kind = refl;
      delay = λ condition column back same. same;
      value = λ condition column back picks sets words are rows long.
          let within = frame_of back (picked_with condition words) rows in
          ap count_of (frame_mapped (widen sets) (IsLongAs columns) (counts_in column) (picked_with condition words) (picks sets words are) back rows long)
          ∙ counted (widen sets) within ∙ sym (counted (seen words) within)
          ∙ ap count_of (sym (seen_frame condition words back rows long));
    },
    (zipped, flat),
  )
  function (shape.SumOver e) [] rest h zipped flat = absurd zipped
  function (shape.SumOver e) (t ∷ terms) rest h zipped flat =
      let is = argument columns parameters areKinds kinds widen e t zipped.0 (omega arith) in (
        record {
          fits = (is.fits, summed columns parameters areKinds kinds widen e (operand_of t) is h);
          kind = is.kind;
          delay = λ condition column back same. refl;
          value = over_kind e (operand_of t) is (λ k xs. sum_total (width_of k) xs);
        },
        (zipped.1, omega arith),
      )
  function (shape.MinOver e) [] rest h zipped flat = absurd zipped
  function (shape.MinOver e) (t ∷ terms) rest h zipped flat =
      let is = argument columns parameters areKinds kinds widen e t zipped.0 (omega arith) in (
        record {
          fits = is.fits;
          kind = is.kind;
          delay = λ condition column back same. refl;
          value = over_kind e (operand_of t) is least_of;
        },
        (zipped.1, omega arith),
      )
  function (shape.MaxOver e) [] rest h zipped flat = absurd zipped
  function (shape.MaxOver e) (t ∷ terms) rest h zipped flat =
      let is = argument columns parameters areKinds kinds widen e t zipped.0 (omega arith) in (
        record {
          fits = is.fits;
          kind = is.kind;
          delay = λ condition column back same. refl;
          value = over_kind e (operand_of t) is greatest_of;
        },
        (zipped.1, omega arith),
      )
  function (shape.AvgOver e) [] rest h zipped flat = absurd zipped
  function (shape.AvgOver e) (t ∷ terms) rest h zipped flat =
      let is = argument columns parameters areKinds kinds widen e t zipped.0 (omega arith) in (
        record {
          fits = (is.fits, summed columns parameters areKinds kinds widen e (operand_of t) is h);
          kind = is.kind;
          delay = λ condition column back same. ap (λ (k : Kind). delay_of_sum back + (width_of k + digits_of_rows back) + 1) is.kind;
          value = over_kind e (operand_of t) is average_of;
        },
        (zipped.1, omega arith),
      )
  function (shape.LastOver e) [] rest h zipped flat = absurd zipped
  function (shape.LastOver e) (t ∷ terms) rest h zipped flat =
      let is = argument columns parameters areKinds kinds widen e t zipped.0 (omega arith) in (
        record {
          fits = is.fits;
          kind = is.kind;
          delay = λ condition column back same. refl;
          value = λ condition column back picks sets words are rows long.
              last_both (widen sets) (seen words) (IsLongAs columns) (counts_in column) (keeps reach condition) (picks sets words are)
              (λ row. value_of_operand sets row (operand_of t)) (value_of reach (kind_alone e) e) (is.value sets words are) back rows long;
        },
        (zipped.1, omega arith),
      )

  conditioned : (o : Option ExprShape) (terms rest : List Term) → IsFilter reach o
      → AllZip (IsCarried (kinds_of columns) kinds widen) (option_to_list (filter_of columns reach o) ++ rest) terms → depth_of_all terms ≡ 0
      → IsConditionAt columns parameters kinds widen o (condition_over o terms) × AreLeft rest (behind_condition o terms)
  conditioned None terms rest h zipped flat = (record { fits = tt; picks = λ sets words are row long. refl; delay = λ back. refl }, (zipped, flat))
  conditioned (Some e) [] rest h zipped flat = absurd zipped
  conditioned (Some e) (t ∷ terms) rest h zipped flat =
      let term = term_over columns reach (Unsigned 1) e in
      let cast = condition (kinds_of columns) term (over-fits columns parameters areKinds e (Unsigned 1) (lit≤ tt, lit≤ tt) h.typed)
      (over-kind columns parameters (Unsigned 1) e ∙ h.bit) in
      let bit = flat-column kinds t (omega arith) zipped.0.fits (zipped.0.still cast.no) (zipped.0.kind ∙ cast.kind) in (
        record {
          fits = bit.is;
          picks = λ sets words are row long. ap (λ (n : ℕ). nat_eq n 1)
              (bit.value sets (widen sets row) ∙ zipped.0.value sets row (long ∙ sym (length-map columns (λ c. c.kind)))
              ∙ cast.value sets row (over-narrow columns parameters (Unsigned 1) e sets words are)
              ∙ over-value columns parameters (Unsigned 1) e sets words row are long);
          delay = λ back. refl;
        },
        (zipped.1, omega arith),
      )

  frame : (f : FrameShape) (terms rest : List Term) → IsFrame reach f
      → AllZip (IsCarried (kinds_of columns) kinds widen) (frame_terms columns reach f ++ rest) terms → depth_of_all terms ≡ 0
      → IsFrameOf columns parameters kinds widen f (frame_over f terms) × AreLeft rest (behind_frame f terms)
  frame (shape.Own e) [] rest h zipped flat = absurd zipped
  frame (shape.Own e) (t ∷ terms) rest h zipped flat =
      let is = argument columns parameters areKinds kinds widen e t zipped.0 (omega arith) in (
        record {
          fits = is.fits;
          kind = is.kind;
          delay = refl;
          value = λ sets words are. lag_both (widen sets) (seen words) (IsLongAs columns) (λ row. value_of_operand sets row (operand_of t))
              (value_of reach (kind_alone e) e) (is.value sets words are) 0;
        },
        (zipped.1, omega arith),
      )
  frame (shape.Lag e back) [] rest h zipped flat = absurd zipped
  frame (shape.Lag e back) (t ∷ terms) rest h zipped flat =
      let is = argument columns parameters areKinds kinds widen e t zipped.0 (omega arith) in (
        record {
          fits = (is.fits, h.some, h.most);
          kind = is.kind;
          delay = refl;
          value = λ sets words are. lag_both (widen sets) (seen words) (IsLongAs columns) (λ row. value_of_operand sets row (operand_of t))
              (value_of reach (kind_alone e) e) (is.value sets words are) back;
        },
        (zipped.1, omega arith),
      )
  frame (shape.Over a o back) terms rest h zipped flat =
      let conditions = option_to_list (filter_of columns reach o) in
      let parted = subst (λ (l : List Term). AllZip (IsCarried (kinds_of columns) kinds widen) l terms)
      (append_assoc (frame_arguments columns reach a) conditions rest) zipped in
      let first = function a terms (conditions ++ rest) h.typed parted flat in
      let second = conditioned o (behind_argument a terms) rest h.picks first.1.0 first.1.1 in
      let column = condition_over o (behind_argument a terms) in (
        record {
          fits = (first.0.fits, second.0.fits, back-fits back h.reach);
          kind = first.0.kind;
          delay = first.0.delay o column back (second.0.delay back);
          value = first.0.value o column back second.0.picks;
        },
        second.1,
      )

  pub frames : (items : List FrameItemShape) (terms : List Term) → AllByRecursion (λ (i : FrameItemShape). IsFrame reach i.frame) items
      → AllZip (IsCarried (kinds_of columns) kinds widen) (frames_terms columns reach items) terms → depth_of_all terms ≡ 0
      → AllByRecursion (FrameFits kinds) (frames_of items terms)
      × (map (kind_of_frame kinds) (frames_of items terms) ≡ kinds_of (map (frame_column reach) items))
      × (delay_of_frames kinds (frames_of items terms) ≡ frames_delay reach items)
      × ((sets : Sets) (words : Row) → AreWords parameters sets words → (rows : List Row) → AreLong columns rows
      → row_of_frames sets kinds (frames_of items terms) (map (widen sets) rows) ≡ reached_row (seen_with columns parameters words) items rows)
  frames [] terms h zipped flat = (tt, refl, refl, λ sets words are rows long. refl)
  frames (i ∷ items) terms h zipped flat =
      let here = frame i.frame terms (frames_terms columns reach items) h.0 zipped flat in
      let rest = frames items (behind_frame i.frame terms) h.1 here.1.0 here.1.1 in (
        (here.0.fits, rest.0),
        (λ k. here.0.kind k ∷ rest.1 k),
        (λ k. max (here.0.delay k) (rest.2 k)),
        λ sets words are rows long. λ k. here.0.value sets words are rows long k ∷ rest.3 sets words are rows long k,
      )
