-- Frames over a node of a plan.
use Rattle.std.proofs.Common.{◌≡◌, ℕ, Bool, true, List, [], ◌∷◌, ◌++◌, length, Option, Some, None, slice_index, refl, sym, ap, subst, ◌∙◌, arith, map, filter, nat_eq, lit≤}
use Rattle.std.specs.Prelude.{option_to_list}
use Rattle.std.specs.List.{AllByRecursion, AllZip}
use Rattle.std.proofs.lemmas.List.{length-map}
use Rattle.gl_values.specs.Results.{Row, IsChanged}
use Rattle.gl_values.specs.declared.kind.Kind.{Kind}
use Rattle.gl_values.specs.declared.kind.Kind.TheVariants.{Unsigned}
use Rattle.gl_bits.proofs.AllLists.{all_append}
use Rattle.gl_schema.specs.declared.schema.Column.{Column as NamedColumn}
use Rattle.gl_schema.specs.Schemas.{kinds_of}
use Rattle.gl_query.specs.Shapes.{ExprShape, FrameAggShape, FrameShape, FrameItemShape, SlotsShape}
use Rattle.gl_query.specs.Shapes as shape
use Rattle.gl_query.specs.Columns.{frame_column}
use Rattle.gl_query.specs.Accepted.{IsFilter, IsFrame, IsFrameAgg, IsParted}
use Rattle.gl_query.specs.Results.{keeps}
use Rattle.gl_query.specs.Laws.{AreKinds, IsLongAs}
use Rattle.gl_algebra.specs.declared.node.PlanKey.{PlanKey}
use Rattle.gl_algebra.specs.declared.node.PlanNode.{PlanNode}
use Rattle.gl_algebra.specs.Added.{Placed}
use Rattle.gl_algebra.specs.Keys.{delay_by_key}
use Rattle.gl_arrival.specs.Places as arrival
use Rattle.gl_arrival.specs.Changes.{kept_at, mapped_at}
use Rattle.gl_arrival.specs.Results.{IsChangedInPlace}
use Rattle.gl_algebra.specs.Results.{Inputs, IsPlanArrival, Meaning, row_of_frames}
use Rattle.gl_algebra.specs.Results as plan
use Rattle.gl_algebra.proofs.ReadLemmas.{framed_in_place}
use Rattle.gl_algebra.specs.Shapes.{Shape, Pace, unsteady, pace_by_key, shape_of}
use Rattle.gl_algebra.specs.Values.{Sets}
use Rattle.gl_elaborate.specs.Terms.{Term, IsTerm, term_over, depth_of_all}
use Rattle.gl_elaborate.specs.Levels.{operand_of}
use Rattle.gl_elaborate.specs.Plans.{column_under, condition_of, filter_of, frame_arguments, frame_terms, framed_over, frames_of, frames_over, frames_terms, key_over, levelled, selected, with_filter}
use Rattle.gl_elaborate.specs.Fitting.{FramedFits, FramesFit, LevelledFit, SelectFits}
use Rattle.gl_elaborate.specs.Figures.{frames_delay, parted_delay}
use Rattle.gl_elaborate.proofs.ApartLemmas.{AreWords, over-fits, over-kind, over-narrow, over-value}
use Rattle.gl_elaborate.proofs.LevelLemmas.{IsCarried, KeepsColumns}
use Rattle.gl_elaborate.proofs.DepthLemmas.{IsNoLiteral}
use Rattle.gl_elaborate.proofs.StandsLemmas.{Comes, Stands, comes-then, weaker, frames-fits, frames-stands, frames-comes, select-fits, select-stands, select-comes, IsLevelled, levels-stand}
use Rattle.gl_elaborate.proofs.RowsLemmas.{IsCast, condition, flat-column, pace_under, unfiltered, unfiltered_in_place}
use Rattle.gl_elaborate.proofs.TotalsLemmas.{argument-term}
use Rattle.gl_elaborate.proofs.KeyedLemmas.{AreFramed, AreFramedHere, framed-alike, framed-alike-here, key-stands}
use Rattle.gl_elaborate.proofs.FrameItems.{frames}

module _ (columns parameters : List NamedColumn) (areKinds : AreKinds (columns ++ parameters)) where
  -- what arguments and conditions may name
  abbrev within : List NamedColumn
  within = columns ++ parameters

  pub own-arguments-fit : (a : FrameAggShape) → IsFrameAgg within a → AllByRecursion (IsTerm (kinds_of columns)) (frame_arguments columns within a)
  own-arguments-fit shape.CountOver h = tt
  own-arguments-fit (shape.SumOver e) h = (argument-term columns parameters areKinds e h.typed, tt)
  own-arguments-fit (shape.MinOver e) h = (argument-term columns parameters areKinds e h, tt)
  own-arguments-fit (shape.MaxOver e) h = (argument-term columns parameters areKinds e h, tt)
  own-arguments-fit (shape.AvgOver e) h = (argument-term columns parameters areKinds e h.typed, tt)
  own-arguments-fit (shape.LastOver e) h = (argument-term columns parameters areKinds e h, tt)

  -- a condition's term is one
  cast : (e : ExprShape) → IsFilter within (Some e) → IsCast (kinds_of columns) (term_over columns within (Unsigned 1) e) (condition_of (term_over columns within (Unsigned 1) e))
  cast e h = condition (kinds_of columns) (term_over columns within (Unsigned 1) e)
      (over-fits columns parameters areKinds e (Unsigned 1) (lit≤ tt, lit≤ tt) h.typed) (over-kind columns parameters (Unsigned 1) e ∙ h.bit)

  conditions-fit : (o : Option ExprShape) → IsFilter within o → AllByRecursion (IsTerm (kinds_of columns)) (option_to_list (filter_of columns within o))
  conditions-fit None h = tt
  conditions-fit (Some e) h = ((cast e h).fits, tt)

  frame-fits : (f : FrameShape) → IsFrame within f → AllByRecursion (IsTerm (kinds_of columns)) (frame_terms columns within f)
  frame-fits (shape.Own e) h = (argument-term columns parameters areKinds e h, tt)
  frame-fits (shape.Lag e back) h = (argument-term columns parameters areKinds e h.typed, tt)
  frame-fits (shape.Over a o back) h =
      all_append (IsTerm (kinds_of columns)) (frame_arguments columns within a) (option_to_list (filter_of columns within o)) (own-arguments-fit a h.typed) (conditions-fit o h.picks)

  terms-fit : (items : List FrameItemShape) → AllByRecursion (λ (i : FrameItemShape). IsFrame within i.frame) items
      → AllByRecursion (IsTerm (kinds_of columns)) (frames_terms columns within items)
  terms-fit [] h = tt
  terms-fit (i ∷ items) h =
      all_append (IsTerm (kinds_of columns)) (frame_terms columns within i.frame) (frames_terms columns within items) (frame-fits i.frame h.0) (terms-fit items h.1)

-- the node of the frames has their delay
abbrev pub HasFrameDelay : (columns reach : List NamedColumn) → List FrameItemShape → Option SlotsShape → Placed → List Term → Type 0
HasFrameDelay columns reach items slots at terms =
    delay_by_key (shape_of at.nodes at.root).kinds (key_over columns slots) (frames_of items terms) ≡ parted_delay columns slots (frames_delay reach items)

module _ (columns parameters : List NamedColumn) (own : AreKinds columns) (areKinds : AreKinds (columns ++ parameters)) (old : List PlanNode) (at : Placed) (shape : Shape) (Means : Meaning)
    (same : shape.kinds ≡ kinds_of columns) (items : List FrameItemShape) (typed : AllByRecursion (λ (i : FrameItemShape). IsFrame (columns ++ parameters) i.frame) items)
    (slots : Option SlotsShape) (parted : IsParted columns slots) where
  abbrev given : Shape
  given = record shape { kinds = kinds_of columns }

  -- what the frames may name
  abbrev all_named : List NamedColumn
  all_named = columns ++ parameters

  -- the key of the last node
  abbrev by : Option PlanKey
  by = key_over columns slots

  -- the last node, over what is kept, has this shape
  abbrev last : Pace → Shape
  last pace = record shape { kinds = kinds_of (map (frame_column all_named) items); pace = pace_by_key by pace }

  -- and makes this of a result
  abbrev Makes : Option ExprShape → Meaning
  Makes o inputs = AreFramed columns parameters items o slots inputs.sets (Means inputs)

  open_levels : (left : Option Term)
      → AllByRecursion (IsTerm (kinds_of columns)) (option_to_list left) → AllByRecursion IsNoLiteral (option_to_list left)
      → Stands old at shape Means
      → IsLevelled old at given Means (frames_terms columns all_named items) left (levelled (length columns) at (frames_terms columns all_named items) left)
      (LevelledFit (length columns) at (frames_terms columns all_named items) left)
  open_levels left fits nl s =
      levels-stand (depth_of_all (with_filter (frames_terms columns all_named items) left)) (length columns) old at given Means (frames_terms columns all_named items) left
      (sym (length-map columns (λ c. c.kind))) (omega arith) (terms-fit columns parameters areKinds items typed) fits nl
      (subst (λ (k : List Kind). Stands old at (record shape { kinds = k }) Means) same s)

  -- what comes of the last node is made of what comes of the source
  abbrev pub FramesHere : Option ExprShape → Placed → Type 0
  FramesHere o next = (inputs : Inputs) (out : List (arrival.Placed Row)) (spill : Bool) → IsPlanArrival next.nodes next.root inputs out spill
      → AreFramedHere columns parameters items o slots inputs.sets (IsPlanArrival at.nodes at.root inputs) out spill

  -- the last node, behind a filter
  finish : (o : Option ExprShape) (pace : Pace) (from : Placed) (kinds : List Kind) (widen : Sets → Row → Row) (p : Row → Bool) (terms : List Term)
      → Stands old from (record shape { kinds = kinds; pace = pace }) (λ inputs. IsChanged (IsChanged (Means inputs) (map (widen inputs.sets))) (filter p))
      → Comes at from (λ sets xs. kept_at p (mapped_at (widen sets) xs))
      → AllZip (IsCarried (kinds_of columns) kinds widen) (frames_terms columns all_named items) terms → depth_of_all terms ≡ 0 → KeepsColumns (kinds_of columns) kinds widen
      → ((sets : Sets) (words : Row) → AreWords parameters sets words → (row : Row) → IsLongAs columns row → p (widen sets row) ≡ keeps all_named o (row ++ words))
      → FramedFits from by items terms × HasFrameDelay columns all_named items slots from terms
      × Stands old (framed_over from by items terms) (last pace) (Makes o)
      × FramesHere o (framed_over from by items terms)
  finish o pace from kinds widen p terms s come zipped flat wide picks =
      let all = frames columns parameters areKinds kinds widen items terms typed zipped flat in
      let key = key-stands columns parameters own kinds widen wide slots parted in
      let made = frames_of items terms in
      let below : Shape = record shape { kinds = kinds; pace = pace } in
      let stood = frames-stands old from below (λ inputs. IsChanged (IsChanged (Means inputs) (map (widen inputs.sets))) (filter p)) s by made key.fits all.0 in
      let moved = subst (λ (k : List Kind). Stands old (framed_over from by items terms) (record shape { kinds = k; pace = pace_by_key by pace })
      (λ inputs. plan.IsFramed by (row_of_frames inputs.sets kinds made) (IsChanged (IsChanged (Means inputs) (map (widen inputs.sets))) (filter p)))) all.1 stood in (
        frames-fits old from below (λ inputs. IsChanged (IsChanged (Means inputs) (map (widen inputs.sets))) (filter p)) s by made key.fits all.0,
        ap (λ (x : Shape). delay_by_key x.kinds by made) s.is ∙ key.delay made (frames_delay all_named items) all.2,
        weaker old (framed_over from by items terms) (last pace)
            (λ inputs. plan.IsFramed by (row_of_frames inputs.sets kinds made) (IsChanged (IsChanged (Means inputs) (map (widen inputs.sets))) (filter p)))
            (Makes o) moved
            (λ inputs. framed-alike columns parameters own kinds widen wide items o made p picks all.3 slots parted inputs.sets (Means inputs)),
        λ inputs out spill r.
            framed-alike-here columns parameters own kinds widen wide items o made p picks all.3 slots parted inputs.sets (IsPlanArrival at.nodes at.root inputs) out spill
            (framed_in_place (IsPlanArrival from.nodes from.root inputs) (IsChangedInPlace (IsPlanArrival at.nodes at.root inputs) (λ xs. kept_at p (mapped_at (widen inputs.sets) xs))) by
            (row_of_frames inputs.sets kinds made) (come inputs) out spill
            (frames-comes old from below (λ inputs. IsChanged (IsChanged (Means inputs) (map (widen inputs.sets))) (filter p)) s by made key.fits all.0 inputs out spill r)),
      )

  over_none : (from : Placed) (terms : List Term) (left : Option Term) (Fit : Type 0)
      → IsLevelled old at given Means (frames_terms columns all_named items) None (record { at = from; items = terms; filter = left }) Fit
      → SelectFits from left × FramedFits (selected from left) by items terms × HasFrameDelay columns all_named items slots (selected from left) terms
      × Stands old (framed_over (selected from left) by items terms) (last shape.pace) (Makes None)
      × FramesHere None (framed_over (selected from left) by items terms)
  over_none from terms None Fit l =
      let done = finish None shape.pace from l.kinds l.widen (λ row. true) terms
      (weaker old from (record shape { kinds = l.kinds }) (λ inputs. IsChanged (Means inputs) (map (l.widen inputs.sets)))
      (λ inputs. IsChanged (IsChanged (Means inputs) (map (l.widen inputs.sets))) (filter (λ row. true))) l.stands
      (λ inputs out spill r. record { rows = out; of_source = r; changed = unfiltered out }))
      (λ inputs out spill r.
      let y = l.comes inputs out spill r in
      record { rows = y.rows; of_source = y.of_source; changed = y.changed ∙ unfiltered_in_place (mapped_at (l.widen inputs.sets) y.rows) })
      l.of_items l.flat_items l.of_columns (λ sets words are row long. refl) in
      (tt, done.0, done.1, done.2, done.3)
  over_none from terms (Some t) Fit l = absurd l.of_filter

  over_some : (e : ExprShape) (from : Placed) (terms : List Term) (left : Option Term) (Fit : Type 0)
      → IsCast (kinds_of columns) (term_over columns all_named (Unsigned 1) e) (condition_of (term_over columns all_named (Unsigned 1) e))
      → IsLevelled old at given Means (frames_terms columns all_named items) (filter_of columns all_named (Some e)) (record { at = from; items = terms; filter = left }) Fit
      → SelectFits from left × FramedFits (selected from left) by items terms × HasFrameDelay columns all_named items slots (selected from left) terms
      × Stands old (framed_over (selected from left) by items terms) (last unsteady) (Makes (Some e))
      × FramesHere (Some e) (framed_over (selected from left) by items terms)
  over_some e from terms None Fit is l = absurd l.of_filter
  over_some e from terms (Some t) Fit is l =
      let carried = l.of_filter.0 in
      let bit = flat-column l.kinds t (let d = l.flat_filter in omega arith) carried.fits l.columns.0 (carried.kind ∙ is.kind) in
      let column = column_under (operand_of t) in
      let done = finish (Some e) unsteady (selected from (Some t)) l.kinds l.widen (λ row. nat_eq (slice_index row column) 1) terms
      (select-stands old from (record shape { kinds = l.kinds }) (λ inputs. IsChanged (Means inputs) (map (l.widen inputs.sets))) l.stands column bit.is)
      (comes-then at from (selected from (Some t)) (λ sets. mapped_at (l.widen sets)) (λ sets. kept_at (λ (row : Row). nat_eq (slice_index row column) 1)) l.comes
      (select-comes old from (record shape { kinds = l.kinds }) (λ inputs. IsChanged (Means inputs) (map (l.widen inputs.sets))) l.stands column bit.is))
      l.of_items l.flat_items l.of_columns
      (λ sets words are row long. ap (λ (n : ℕ). nat_eq n 1)
      (bit.value sets (l.widen sets row) ∙ carried.value sets row (long ∙ sym (length-map columns (λ c. c.kind)))
      ∙ is.value sets row (over-narrow columns parameters (Unsigned 1) e sets words are)
      ∙ over-value columns parameters (Unsigned 1) e sets words row are long)) in
      (select-fits old from (record shape { kinds = l.kinds }) (λ inputs. IsChanged (Means inputs) (map (l.widen inputs.sets))) l.stands column bit.is, done.0, done.1, done.2, done.3)

  -- a select of frames over a node
  pub frames-stand : (o : Option ExprShape) → IsFilter all_named o → Stands old at shape Means
      → FramesFit columns all_named items o by at
      × (let over = levelled (length columns) at (frames_terms columns all_named items) (filter_of columns all_named o) in
      HasFrameDelay columns all_named items slots (selected over.at over.filter) over.items)
      × Stands old (frames_over columns all_named items o by at) (last (pace_under o shape.pace)) (Makes o)
      × FramesHere o (frames_over columns all_named items o by at)
  frames-stand None is s =
      let opened = open_levels None tt tt s in
      let done = over_none _ _ _ _ opened in
      (record { of_levels = opened.fit; of_select = done.0; of_frames = done.1 }, done.2, done.3, done.4)
  frames-stand (Some e) is s =
      let of_condition = cast columns parameters areKinds e is in
      let opened = open_levels (filter_of columns all_named (Some e)) (of_condition.fits, tt) (of_condition.no, tt) s in
      let done = over_some e _ _ _ _ of_condition opened in
      (record { of_levels = opened.fit; of_select = done.0; of_frames = done.1 }, done.2, done.3, done.4)
