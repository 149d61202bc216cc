-- A select over a node of a plan: its nodes fit, and its results are those of the select.
use Rattle.std.proofs.Common.{◌≡◌, ℕ, zero, suc, ◌+◌, ◌%◌, ◌^◌, ◌<◌, ◌≤◌, Bool, true, List, [], ◌∷◌, ◌++◌, length, Option, Some, None, slice_get, get_or, slice_index, refl, sym, ap, subst, ◌∙◌, arith, map, filter, nat_eq, lit≤}
use Rattle.std.specs.Prelude.{IsTrue, option_to_list}
use Rattle.std.specs.List.{AllByRecursion, AllZip, range_with_len}
use Rattle.std.proofs.lemmas.List.{length-map}
use Rattle.std.proofs.lemmas.Option.{slice_get-get_or}
use Rattle.gl_values.specs.Kinds.{can_cast, width_of}
use Rattle.gl_values.specs.Operators.{cast_of}
use Rattle.gl_values.specs.declared.kind.Kind.{Kind}
use Rattle.gl_values.specs.declared.kind.Kind.TheVariants.{Unsigned}
use Rattle.gl_schema.specs.declared.schema.Column.{Column as NamedColumn}
use Rattle.gl_schema.specs.Schemas.{kinds_of}
use Rattle.gl_query.specs.Shapes.{ExprShape, ItemShape, PickShape}
use Rattle.gl_query.specs.Shapes as shape
use Rattle.gl_query.specs.Values.{HasKind, kind_alone, value_of}
use Rattle.gl_query.specs.Columns.{item_column, picked_columns}
use Rattle.gl_query.specs.Accepted.{IsRows, IsPick}
use Rattle.gl_arrival.specs.Places as arrival
use Rattle.gl_arrival.specs.Changes.{kept_at, mapped_at}
use Rattle.gl_arrival.specs.Results.{Arrivals}
use Rattle.gl_query.specs.Results.{picked, is_kept, kept, Reach}
use Rattle.gl_algebra.specs.declared.node.PlanNode.{PlanNode}
use Rattle.gl_algebra.specs.Columns.{bit_kind, kind_of_operand, OperandFits}
use Rattle.gl_algebra.specs.Shapes.{Shape, Pace, unsteady}
use Rattle.gl_values.specs.Results.{Row, Results, IsChanged}
use Rattle.gl_bits.proofs.Bools.{by_cases}
use Rattle.gl_query.specs.Laws.{AreKinds, IsLongAs}
use Rattle.gl_algebra.specs.Added.{Placed}
use Rattle.gl_algebra.specs.Results.{Inputs, IsPlanArrival, Meaning}
use Rattle.gl_algebra.specs.Values.{Sets}
use Rattle.gl_algebra.specs.Results as algebra
use Rattle.gl_elaborate.specs.Terms.{Term, Column, Literal, Parameter, Not, Flip, Cast, Binary, IsTerm, term_over, term_kind, term_value, depth_of, depth_of_all}
use Rattle.gl_elaborate.specs.Levels.{operand_of}
use Rattle.gl_elaborate.specs.Plans.{projected, levelled, condition_of, filter_of, picked_terms, column_under, selected, rows_over, with_filter}
use Rattle.gl_elaborate.specs.Fitting.{LevelledFit, SelectFits, ProjectFits, RowsFit}
use Rattle.gl_elaborate.proofs.ApartLemmas.{AreWords, IsNarrow, over-fits, over-kind, over-narrow, over-value}
use Rattle.gl_elaborate.proofs.LevelLemmas.{IsLeaf, IsCarried}
use Rattle.gl_elaborate.proofs.DepthLemmas.{IsNoLiteral}
use Rattle.gl_elaborate.proofs.LongLemmas.{AreLong}
use Rattle.gl_elaborate.proofs.StandsLemmas.{Comes, Stands, comes-then, weaker, select-stands, select-comes, project-stands, project-comes, select-fits, project-fits, IsLevelled, levels-stand, zip-fits}
use Rattle.gl_query.proofs.Real.{alone_kind}

-- ---- terms of depth 0

pub flat-operand : (kinds : List Kind) (t : Term) → depth_of t ≡ 0 → IsTerm kinds t → IsLeaf kinds t (operand_of t)
flat-operand kinds (Column n) d fits = record { fits = fits; kind = refl; value = λ sets row. refl }
flat-operand kinds (Literal w k) d fits = record { fits = fits; kind = refl; value = λ sets row. refl }
flat-operand kinds (Parameter n k) d fits = record { fits = fits; kind = refl; value = λ sets row. refl }
flat-operand kinds (Not t) d fits = absurd (omega arith)
flat-operand kinds (Flip t) d fits = absurd (omega arith)
flat-operand kinds (Cast t k) d fits = absurd (omega arith)
flat-operand kinds (Binary o l r) d fits = absurd (omega arith)

-- a column of one bit has a term's value
pub record IsBitOf (kinds : List Kind) (t : Term) (column : ℕ) : Type 0 where
  pub is : slice_get kinds column ≡ Some bit_kind
  pub value : (sets : Sets) (row : Row) → slice_index row column ≡ term_value sets kinds row t

pub flat-column : (kinds : List Kind) (t : Term) → depth_of t ≡ 0 → IsTerm kinds t → IsNoLiteral t → term_kind kinds t ≡ bit_kind
    → IsBitOf kinds t (column_under (operand_of t))
flat-column kinds (Column n) d fits nl bit = record {
  is = slice_get-get_or kinds n bit_kind fits ∙ ap Some bit;
  value = λ sets row. refl;
}
flat-column kinds (Literal w k) d fits nl bit = absurd nl
flat-column kinds (Parameter n k) d fits nl bit = absurd nl
flat-column kinds (Not t) d fits nl bit = absurd (omega arith)
flat-column kinds (Flip t) d fits nl bit = absurd (omega arith)
flat-column kinds (Cast t k) d fits nl bit = absurd (omega arith)
flat-column kinds (Binary o l r) d fits nl bit = absurd (omega arith)

-- ---- conditions

pub record IsCast (kinds : List Kind) (t t' : Term) : Type 0 where
  pub fits : IsTerm kinds t'
  pub kind : term_kind kinds t' ≡ bit_kind
  pub no : IsNoLiteral t'
  pub value : (sets : Sets) (row : Row) → IsNarrow sets t → term_value sets kinds row t' ≡ term_value sets kinds row t

same_bit : (n width : ℕ) (kind : Kind) → kind ≡ bit_kind → width ≡ width_of kind → n < 2 ^ width → cast_of kind (Unsigned 1) n ≡ n
same_bit n width kind k w fits =
    let narrow : 2 ^ width ≡ 2 = ap (λ (i : ℕ). 2 ^ i) (w ∙ ap width_of k) in
    let less : n < 2 = omega (arith, fits, narrow) in
    ap (λ (j : Kind). cast_of j (Unsigned 1) n) k ∙ (let same : n % 2 ≡ n = omega arith in same)

pub condition : (kinds : List Kind) (t : Term) → IsTerm kinds t → term_kind kinds t ≡ bit_kind → IsCast kinds t (condition_of t)
condition kinds (Column n) fits bit = record { fits = fits; kind = bit; no = tt; value = λ sets row narrow. refl }
condition kinds (Literal w k) fits bit = record {
  fits = (fits, subst (λ (j : Kind). IsTrue (can_cast j (Unsigned 1))) (sym bit) refl);
  kind = refl;
  no = tt;
  value = λ sets row narrow. same_bit w.bits w.width k bit fits.2 fits.0.fits;
}
condition kinds (Parameter n k) fits bit = record {
  fits = (fits, subst (λ (j : Kind). IsTrue (can_cast j (Unsigned 1))) (sym bit) refl);
  kind = refl;
  no = tt;
  value = λ sets row narrow. same_bit (sets n) (width_of k) k bit refl narrow;
}
condition kinds (Not t) fits bit = record { fits = fits; kind = bit; no = tt; value = λ sets row narrow. refl }
condition kinds (Flip t) fits bit = record { fits = fits; kind = bit; no = tt; value = λ sets row narrow. refl }
condition kinds (Cast t k) fits bit = record { fits = fits; kind = bit; no = tt; value = λ sets row narrow. refl }
condition kinds (Binary o l r) fits bit = record { fits = fits; kind = bit; no = tt; value = λ sets row narrow. refl }

-- ---- items

each_from : {A : Type 0} (f : ℕ → A) (d : A) (xs : List A) (k : ℕ) → ((i : ℕ) → i < length xs → f (k + i) ≡ get_or xs i d)
    → map f (range_with_len k (length xs)) ≡ xs
each_from f d [] k h = refl
each_from f d (x ∷ xs) k h =
    let here : f k ≡ x = ap f (let e : k ≡ k + 0 = omega arith in e) ∙ h 0 (omega arith) in
    let rest = each_from f d xs (k + 1) (λ i below. ap f (let e : k + 1 + i ≡ k + suc i = omega arith in e) ∙ h (suc i) (omega arith)) in
    λ i. here i ∷ rest i

each : {A : Type 0} (d : A) (xs : List A) → map (λ i. get_or xs i d) (range_with_len 0 (length xs)) ≡ xs
each d xs = each_from (λ i. get_or xs i d) d xs 0 (λ i below. ap (λ (j : ℕ). get_or xs j d) (let e : 0 + i ≡ i = omega arith in e))

over_columns : {A : Type 0} (f : Term → A) (k n : ℕ) → map f (map Column (range_with_len k n)) ≡ map (λ i. f (Column i)) (range_with_len k n)
over_columns f k zero = refl
over_columns f k (suc n) = ap (λ l. f (Column k) ∷ l) (over_columns f (k + 1) n)

columns-fit : (kinds : List Kind) (k n : ℕ) → k + n ≤ length kinds → AllByRecursion (IsTerm kinds) (map Column (range_with_len k n))
columns-fit kinds k zero h = tt
columns-fit kinds k (suc n) h = (omega arith, columns-fit kinds (k + 1) n (omega arith))

module _ (columns parameters : List NamedColumn) (kinds : AreKinds (columns ++ parameters)) where
  items-fit : (items : List ItemShape) → AllByRecursion (λ (i : ItemShape). HasKind (columns ++ parameters) (kind_alone i.expr) i.expr) items
      → AllByRecursion (IsTerm (kinds_of columns)) (map (λ (i : ItemShape). term_over columns (columns ++ parameters) (kind_alone i.expr) i.expr) items)
  items-fit [] h = tt
  items-fit (i ∷ items) h = (over-fits columns parameters kinds i.expr (kind_alone i.expr) (alone_kind i.expr) h.0, items-fit items h.1)

  pub pick-fits : (pick : PickShape) → IsPick (columns ++ parameters) pick
      → AllByRecursion (IsTerm (kinds_of columns)) (picked_terms columns (columns ++ parameters) pick)
  pick-fits shape.All h = columns-fit (kinds_of columns) 0 (length columns) (rw length-map (omega arith))
  pick-fits (shape.Items items) h = items-fit items h.typed

module _ (columns parameters : List NamedColumn) where
  items-kinds : (items : List ItemShape)
      → map (term_kind (kinds_of columns)) (map (λ (i : ItemShape). term_over columns (columns ++ parameters) (kind_alone i.expr) i.expr) items)
      ≡ kinds_of (map (item_column (columns ++ parameters)) items)
  items-kinds [] = refl
  items-kinds (i ∷ items) = λ k. over-kind columns parameters (kind_alone i.expr) i.expr k ∷ items-kinds items k

  pick-kinds : (pick : PickShape)
      → map (term_kind (kinds_of columns)) (picked_terms columns (columns ++ parameters) pick) ≡ kinds_of (picked_columns columns (columns ++ parameters) pick)
  pick-kinds shape.All =
      over_columns (term_kind (kinds_of columns)) 0 (length columns)
      ∙ ap (λ (n : ℕ). map (λ i. get_or (kinds_of columns) i bit_kind) (range_with_len 0 n)) (sym (length-map columns (λ c. c.kind)))
      ∙ each bit_kind (kinds_of columns)
  pick-kinds (shape.Items items) = items-kinds items

  module _ (sets : Sets) (words : Row) (are : AreWords parameters sets words) where
    items-values : (items : List ItemShape) (row : Row) → length row ≡ length columns
        → map (term_value sets (kinds_of columns) row) (map (λ (i : ItemShape). term_over columns (columns ++ parameters) (kind_alone i.expr) i.expr) items)
        ≡ map (λ (i : ItemShape). value_of (columns ++ parameters) (kind_alone i.expr) i.expr (row ++ words)) items
    items-values [] row long = refl
    items-values (i ∷ items) row long =
        λ k. over-value columns parameters (kind_alone i.expr) i.expr sets words row are long k ∷ items-values items row long k

    pick-values : (pick : PickShape) (row : Row) → length row ≡ length columns
        → map (term_value sets (kinds_of columns) row) (picked_terms columns (columns ++ parameters) pick)
        ≡ picked (record { columns = columns ++ parameters; words = words }) pick row
    pick-values shape.All row long =
        over_columns (term_value sets (kinds_of columns) row) 0 (length columns)
        ∙ ap (λ (n : ℕ). map (λ i. get_or row i 0) (range_with_len 0 n)) (sym long)
        ∙ each 0 row
    pick-values (shape.Items items) row long = items-values items row long

-- ---- what is algebra.projected

module _ (kinds kinds' : List Kind) (widen : Sets → Row → Row) where
  flat-fit : (ts : List Term) → depth_of_all ts ≡ 0 → AllByRecursion (IsTerm kinds') ts → AllByRecursion (OperandFits kinds') (map operand_of ts)
  flat-fit [] d fits = tt
  flat-fit (t ∷ ts) d fits = ((flat-operand kinds' t (omega arith) fits.0).fits, flat-fit ts (omega arith) fits.1)

  flat-kinds : (ts us : List Term) → AllZip (IsCarried kinds kinds' widen) ts us → depth_of_all us ≡ 0
      → map (kind_of_operand kinds') (map operand_of us) ≡ map (term_kind kinds) ts
  flat-kinds [] [] h d = refl
  flat-kinds [] (u ∷ us) h d = absurd h
  flat-kinds (t ∷ ts) [] h d = absurd h
  flat-kinds (t ∷ ts) (u ∷ us) h d =
      let one = (flat-operand kinds' u (omega arith) h.0.fits).kind ∙ h.0.kind in
      let rest = flat-kinds ts us h.1 (omega arith) in
      λ i. one i ∷ rest i

  flat-values : (sets : Sets) (ts us : List Term) (row : Row) → length row ≡ length kinds → AllZip (IsCarried kinds kinds' widen) ts us → depth_of_all us ≡ 0
      → algebra.projected sets (map operand_of us) (widen sets row) ≡ map (term_value sets kinds row) ts
  flat-values sets [] [] row long h d = refl
  flat-values sets [] (u ∷ us) row long h d = absurd h
  flat-values sets (t ∷ ts) [] row long h d = absurd h
  flat-values sets (t ∷ ts) (u ∷ us) row long h d =
      let one = (flat-operand kinds' u (omega arith) h.0.fits).value sets (widen sets row) ∙ h.0.value sets row long in
      let rest = flat-values sets ts us row long h.1 (omega arith) in
      λ i. one i ∷ rest i

-- ---- rows through a filter

through : (w : Row → Row) (p q : Row → Bool) (f g : Row → Row) (P : Row → Type 0) → ((row : Row) → P row → (p (w row) ≡ q row) × (f (w row) ≡ g row))
    → (rows : List Row) → AllByRecursion P rows → map f (filter p (map w rows)) ≡ map g (filter q rows)
through w p q f g P each [] h = refl
through w p q f g P each (row ∷ rows) h =
    let here = each row h.0 in
    let rest = through w p q f g P each rows h.1 in
    by_cases (q row) (λ e. rw (here.0, e) (λ i. here.1 i ∷ rest i)) (λ e. rw (here.0, e) rest)

pub unfiltered : (rows : List Row) → rows ≡ filter (λ (row : Row). true) rows
unfiltered [] = refl
unfiltered (row ∷ rows) = ap (λ (l : List Row). row ∷ l) (unfiltered rows)

-- and rows at places
through_in_place : (w : Row → Row) (p q : Row → Bool) (f g : Row → Row) (P : Row → Type 0) → ((row : Row) → P row → (p (w row) ≡ q row) × (f (w row) ≡ g row))
    → (xs : List (arrival.Placed Row)) → AllByRecursion P (arrival.rows_of xs) → mapped_at f (kept_at p (mapped_at w xs)) ≡ mapped_at g (kept_at q xs)
through_in_place w p q f g P each [] h = refl
through_in_place w p q f g P each (x ∷ xs) h =
    let here = each x.row h.0 in
    let rest = through_in_place w p q f g P each xs h.1 in
    by_cases (q x.row) (λ e. rw (here.0, e) (λ i. arrival.at_place (here.1 i) x.place ∷ rest i)) (λ e. rw (here.0, e) rest)

pub unfiltered_in_place : (xs : List (arrival.Placed Row)) → xs ≡ kept_at (λ (row : Row). true) xs
unfiltered_in_place [] = refl
unfiltered_in_place (x ∷ xs) = ap (λ (l : List (arrival.Placed Row)). x ∷ l) (unfiltered_in_place xs)

-- ---- selects

-- made of a result of the source whose rows are long, with the words that are set
pub record IsPicked (columns parameters : List NamedColumn) (pick : PickShape) (condition : Option ExprShape) (sets : Sets) (source : Results) (out : List Row) (spill : Bool) : Type 0 where
  pub rows : List Row
  pub of_source : source rows spill
  pub made : (words : Row) → AreWords parameters sets words → AreLong columns rows
      → let reach : Reach = record { columns = columns ++ parameters; words = words } in
      out ≡ map (picked reach pick) (kept reach condition rows)

-- the same with places
pub record IsPickedInPlace (columns parameters : List NamedColumn) (pick : PickShape) (condition : Option ExprShape) (sets : Sets) (source : Arrivals)
    (out : List (arrival.Placed Row)) (spill : Bool) : Type 0 where
  pub rows : List (arrival.Placed Row)
  pub of_source : source rows spill
  pub made : (words : Row) → AreWords parameters sets words → AreLong columns (arrival.rows_of rows)
      → let reach : Reach = record { columns = columns ++ parameters; words = words } in
      out ≡ mapped_at (picked reach pick) (kept_at (is_kept reach condition) rows)

abbrev pub pace_under : Option ExprShape → Pace → Pace
pace_under None pace = pace
pace_under (Some e) pace = unsteady

module _ (columns parameters : List NamedColumn) (areKinds : AreKinds (columns ++ parameters)) (old : List PlanNode) (at : Placed) (shape : Shape) (Means : Meaning)
    (same : shape.kinds ≡ kinds_of columns) where
  abbrev given : Shape
  given = record shape { kinds = kinds_of columns }

  -- what the select's expressions may name
  abbrev reach : List NamedColumn
  reach = columns ++ parameters

  -- and what they see
  abbrev seen : Row → Reach
  seen words = record { columns = reach; words = words }

  open_levels : (pick : PickShape) (left : Option Term) → IsPick reach pick
      → AllByRecursion (IsTerm (kinds_of columns)) (option_to_list left) → AllByRecursion IsNoLiteral (option_to_list left)
      → Stands old at shape Means
      → IsLevelled old at given Means (picked_terms columns reach pick) left (levelled (length columns) at (picked_terms columns reach pick) left)
      (LevelledFit (length columns) at (picked_terms columns reach pick) left)
  open_levels pick left picks fits nl s =
      levels-stand (depth_of_all (with_filter (picked_terms columns reach pick) left)) (length columns) old at given Means (picked_terms columns reach pick) left
      (sym (length-map columns (λ c. c.kind))) (omega arith) (pick-fits columns parameters areKinds pick picks) fits nl
      (subst (λ (k : List Kind). Stands old at (record shape { kinds = k }) Means) same s)

  long-kinds : (row : Row) → length row ≡ length columns → length row ≡ length (kinds_of columns)
  long-kinds row e = e ∙ sym (length-map columns (λ c. c.kind))

  -- what comes of the last node is picked of what comes of the source
  abbrev pub PicksInPlace : PickShape → Option ExprShape → Placed → Type 0
  PicksInPlace pick condition next = (inputs : Inputs) (out : List (arrival.Placed Row)) (spill : Bool) → IsPlanArrival next.nodes next.root inputs out spill
      → IsPickedInPlace columns parameters pick condition inputs.sets (IsPlanArrival at.nodes at.root inputs) out spill

  -- a test on wider rows keeps what a condition keeps
  abbrev KeepsAlike : (Sets → Row → Row) → (Row → Bool) → Option ExprShape → Type 0
  KeepsAlike widen p condition = (sets : Sets) (words : Row) → AreWords parameters sets words → (row : Row) → length row ≡ length columns
      → p (widen sets row) ≡ is_kept (seen words) condition row

  -- the last node, behind a filter
  finish : (pick : PickShape) (condition : Option ExprShape) (pace : Pace) (from : Placed) (kinds : List Kind) (widen : Sets → Row → Row) (p : Row → Bool) (items : List Term)
      → Stands old from (record shape { kinds = kinds; pace = pace }) (λ inputs. IsChanged (IsChanged (Means inputs) (map (widen inputs.sets))) (filter p))
      → Comes at from (λ sets xs. kept_at p (mapped_at (widen sets) xs))
      → AllZip (IsCarried (kinds_of columns) kinds widen) (picked_terms columns reach pick) items → depth_of_all items ≡ 0
      → KeepsAlike widen p condition
      → ProjectFits from items
      × Stands old (projected from items) (record shape { kinds = kinds_of (picked_columns columns reach pick); pace = pace })
      (λ inputs. IsPicked columns parameters pick condition inputs.sets (Means inputs))
      × PicksInPlace pick condition (projected from items)
  finish pick condition pace from kinds widen p items s come zipped flat kept_same =
      let both : (sets : Sets) (words : Row) → AreWords parameters sets words → (row : Row) → IsLongAs columns row
      → (p (widen sets row) ≡ is_kept (seen words) condition row) × (algebra.projected sets (map operand_of items) (widen sets row) ≡ picked (seen words) pick row) =
      λ sets words are row one. (
        kept_same sets words are row one,
        flat-values (kinds_of columns) kinds widen sets (picked_terms columns reach pick) items row (long-kinds row one) zipped flat
            ∙ pick-values columns parameters sets words are pick row one,
      ) in
      let fits = zip-fits (kinds_of columns) kinds widen (picked_terms columns reach pick) items zipped in
      let stood = project-stands old from (record shape { kinds = kinds; pace = pace }) (λ inputs. IsChanged (IsChanged (Means inputs) (map (widen inputs.sets))) (filter p)) s (map operand_of items)
      (flat-fit (kinds_of columns) kinds widen items flat fits) in
      let e = flat-kinds (kinds_of columns) kinds widen (picked_terms columns reach pick) items zipped flat ∙ pick-kinds columns parameters pick in
      let moved = subst (λ (k : List Kind). Stands old (projected from items) (record shape { kinds = k; pace = pace })
      (λ inputs. IsChanged (IsChanged (IsChanged (Means inputs) (map (widen inputs.sets))) (filter p)) (map (algebra.projected inputs.sets (map operand_of items))))) e stood in (
        project-fits old from (record shape { kinds = kinds; pace = pace }) (λ inputs. IsChanged (IsChanged (Means inputs) (map (widen inputs.sets))) (filter p)) s (map operand_of items)
            (flat-fit (kinds_of columns) kinds widen items flat fits),
        weaker old (projected from items) (record shape { kinds = kinds_of (picked_columns columns reach pick); pace = pace })
            (λ inputs. IsChanged (IsChanged (IsChanged (Means inputs) (map (widen inputs.sets))) (filter p)) (map (algebra.projected inputs.sets (map operand_of items))))
            (λ inputs. IsPicked columns parameters pick condition inputs.sets (Means inputs)) moved
            (λ inputs out spill r. record {
              rows = r.of_source.of_source.rows;
              of_source = r.of_source.of_source.of_source;
              made = λ words are long.
                  r.changed
                  ∙ ap (map (algebra.projected inputs.sets (map operand_of items))) (r.of_source.changed ∙ ap (filter p) r.of_source.of_source.changed)
                  ∙ through (widen inputs.sets) p (is_kept (seen words) condition) (algebra.projected inputs.sets (map operand_of items)) (picked (seen words) pick)
                  (IsLongAs columns) (both inputs.sets words are) r.of_source.of_source.rows long;
            }),
        λ inputs out spill r.
            let y = project-comes old from (record shape { kinds = kinds; pace = pace }) (λ inputs. IsChanged (IsChanged (Means inputs) (map (widen inputs.sets))) (filter p)) s (map operand_of items)
            (flat-fit (kinds_of columns) kinds widen items flat fits) inputs out spill r in
            let x = come inputs y.rows spill y.of_source in
            record {
              rows = x.rows;
              of_source = x.of_source;
              made = λ words are long.
                  y.changed ∙ ap (λ (l : List (arrival.Placed Row)). mapped_at (algebra.projected inputs.sets (map operand_of items)) l) x.changed
                  ∙ through_in_place (widen inputs.sets) p (is_kept (seen words) condition) (algebra.projected inputs.sets (map operand_of items)) (picked (seen words) pick)
                  (IsLongAs columns) (both inputs.sets words are) x.rows long;
            },
      )

  over_none : (pick : PickShape) (from : Placed) (items : List Term) (left : Option Term) (Fit : Type 0)
      → IsLevelled old at given Means (picked_terms columns reach pick) None (record { at = from; items = items; filter = left }) Fit
      → SelectFits from left × ProjectFits (selected from left) items
      × Stands old (projected (selected from left) items) (record shape { kinds = kinds_of (picked_columns columns reach pick) })
      (λ inputs. IsPicked columns parameters pick None inputs.sets (Means inputs))
      × PicksInPlace pick None (projected (selected from left) items)
  over_none pick from items None Fit l =
      let done = finish pick None shape.pace from l.kinds l.widen (λ row. true) items
      (weaker old from (record shape { kinds = l.kinds }) (λ inputs. IsChanged (Means inputs) (map (l.widen inputs.sets)))
      (λ inputs. IsChanged (IsChanged (Means inputs) (map (l.widen inputs.sets))) (filter (λ row. true))) l.stands
      (λ inputs out spill r. record { rows = out; of_source = r; changed = unfiltered out }))
      (λ inputs out spill r.
      let y = l.comes inputs out spill r in
      record { rows = y.rows; of_source = y.of_source; changed = y.changed ∙ unfiltered_in_place (mapped_at (l.widen inputs.sets) y.rows) })
      l.of_items l.flat_items (λ sets words are row long. refl) in
      (tt, done.0, done.1, done.2)
  over_none pick from items (Some t) Fit l = absurd l.of_filter

  over_some : (pick : PickShape) (e : ExprShape) (from : Placed) (items : List Term) (left : Option Term) (Fit : Type 0)
      → IsCast (kinds_of columns) (term_over columns reach (Unsigned 1) e) (condition_of (term_over columns reach (Unsigned 1) e))
      → IsLevelled old at given Means (picked_terms columns reach pick) (filter_of columns reach (Some e)) (record { at = from; items = items; filter = left }) Fit
      → SelectFits from left × ProjectFits (selected from left) items
      × Stands old (projected (selected from left) items) (record shape { kinds = kinds_of (picked_columns columns reach pick); pace = unsteady })
      (λ inputs. IsPicked columns parameters pick (Some e) inputs.sets (Means inputs))
      × PicksInPlace pick (Some e) (projected (selected from left) items)
  over_some pick e from items None Fit is l = absurd l.of_filter
  over_some pick e from items (Some t) Fit is l =
      let carried = l.of_filter.0 in
      let bit = flat-column l.kinds t (let d = l.flat_filter in omega arith) carried.fits l.columns.0 (carried.kind ∙ is.kind) in
      let column = column_under (operand_of t) in
      let done = finish pick (Some e) unsteady (selected from (Some t)) l.kinds l.widen (λ row. nat_eq (slice_index row column) 1) items
      (select-stands old from (record shape { kinds = l.kinds }) (λ inputs. IsChanged (Means inputs) (map (l.widen inputs.sets))) l.stands column bit.is)
      (comes-then at from (selected from (Some t)) (λ sets. mapped_at (l.widen sets)) (λ sets. kept_at (λ (row : Row). nat_eq (slice_index row column) 1)) l.comes
      (select-comes old from (record shape { kinds = l.kinds }) (λ inputs. IsChanged (Means inputs) (map (l.widen inputs.sets))) l.stands column bit.is))
      l.of_items l.flat_items
      (λ sets words are row long. ap (λ (n : ℕ). nat_eq n 1)
      (bit.value sets (l.widen sets row) ∙ carried.value sets row (long-kinds row long)
      ∙ is.value sets row (over-narrow columns parameters (Unsigned 1) e sets words are)
      ∙ over-value columns parameters (Unsigned 1) e sets words row are long)) in
      (select-fits old from (record shape { kinds = l.kinds }) (λ inputs. IsChanged (Means inputs) (map (l.widen inputs.sets))) l.stands column bit.is, done.0, done.1, done.2)

  -- a select over a node
  pub rows-stand : (pick : PickShape) (condition : Option ExprShape) → IsRows reach pick condition
      → Stands old at shape Means
      → RowsFit columns reach pick condition at
      × Stands old (rows_over columns reach pick condition at) (record shape { kinds = kinds_of (picked_columns columns reach pick); pace = pace_under condition shape.pace })
      (λ inputs. IsPicked columns parameters pick condition inputs.sets (Means inputs))
      × PicksInPlace pick condition (rows_over columns reach pick condition at)
  rows-stand pick None is s =
      let opened = open_levels pick None is.picks tt tt s in
      let done = over_none pick _ _ _ _ opened in
      (record { of_levels = opened.fit; of_select = done.0; of_project = done.1 }, done.2, done.3)
  rows-stand pick (Some e) is s =
      let fits = over-fits columns parameters areKinds e (Unsigned 1) (lit≤ tt, lit≤ tt) is.filters.typed in
      let cast = condition (kinds_of columns) (term_over columns reach (Unsigned 1) e) fits (over-kind columns parameters (Unsigned 1) e ∙ is.filters.bit) in
      let opened = open_levels pick (filter_of columns reach (Some e)) is.picks (cast.fits, tt) (cast.no, tt) s in
      let done = over_some pick e _ _ _ _ cast opened in
      (record { of_levels = opened.fit; of_select = done.0; of_project = done.1 }, done.2, done.3)
