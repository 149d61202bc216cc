-- Totals over a node of a plan.
use Rattle.std.proofs.Common.{◌≡◌, ℕ, ◌+◌, ◌^◌, ◌<◌, Bool, true, false, List, [], ◌∷◌, ◌++◌, length, None, refl, sym, ap, subst, ◌∙◌, arith, map, max}
use Rattle.std.specs.Prelude.{IsTrue}
use Rattle.std.specs.List.{AllByRecursion, AllZip, All}
use Rattle.std.proofs.lemmas.List.{length-map}
use Rattle.std.proofs.lemmas.List.Elements.{All-from_recursion}
use Rattle.gl_bits.specs.Words.{bits_of}
use Rattle.gl_values.specs.Kinds.{IsKind, is_number, width_of}
use Rattle.gl_values.specs.Totals.{count_of, sum_total, least_of, greatest_of, average_of, weighted_sum}
use Rattle.gl_values.specs.declared.kind.Kind.{Kind}
use Rattle.gl_schema.specs.declared.schema.Column.{Column as NamedColumn}
use Rattle.gl_schema.specs.Schemas.{kinds_of}
use Rattle.gl_query.specs.Shapes.{ExprShape, AggShape, AggItemShape}
use Rattle.gl_query.specs.Shapes as shape
use Rattle.gl_query.specs.Values.{HasKind, kind_alone, kind_of, value_of}
use Rattle.gl_query.specs.Columns.{agg_column, agg_kind}
use Rattle.gl_query.specs.Accepted.{IsAgg, IsSummed}
use Rattle.gl_query.specs.Results.{agg_value, total_row, values_of, widened}
use Rattle.gl_algebra.specs.declared.node.Operand.{Operand}
use Rattle.gl_algebra.specs.declared.node.PlanAgg.{PlanAgg}
use Rattle.gl_algebra.specs.declared.node.PlanNode.{PlanNode}
use Rattle.gl_algebra.specs.Columns.{kind_of_operand, kind_of_agg, OperandFits, AggFits, WeightFits}
use Rattle.gl_algebra.specs.Values.{Sets, value_of_operand}
use Rattle.gl_algebra.specs.Shapes.{Shape, once, shape_of}
use Rattle.gl_algebra.specs.FigureTable.{delay_of_agg, delay_of_aggs}
use Rattle.gl_elaborate.specs.Figures.{agg_delay, aggs_delay}
use Rattle.gl_bits.specs.Words.{IsWidth}
use Rattle.gl_values.specs.Results.{Row, Results, IsChanged}
use Rattle.gl_bits.proofs.AllLists.{all_append}
use Rattle.gl_values.proofs.KindLemmas.{kind_some, range_below}
use Rattle.gl_query.specs.Laws.{AreKinds}
use Rattle.gl_query.specs.Values.{IsNumberOf}
use Rattle.gl_algebra.specs.Added.{Placed}
use Rattle.gl_algebra.specs.Results.{Meaning, total_of, totalled}
use Rattle.gl_elaborate.specs.Terms.{Term, IsTerm, term_over, depth_of, depth_of_all}
use Rattle.gl_elaborate.specs.Levels.{operand_of}
use Rattle.gl_elaborate.specs.Plans.{levelled, arguments_of, arguments_of_all, weights_of, agg_over, behind, aggs_of, totals_over}
use Rattle.gl_elaborate.specs.Fitting.{TotalsFit}
use Rattle.gl_elaborate.proofs.ApartLemmas.{AreWords, over-fits, over-kind, over-value}
use Rattle.gl_elaborate.proofs.AcceptedLemmas.{kind-fits}
use Rattle.gl_elaborate.proofs.LevelLemmas.{IsCarried}
use Rattle.gl_elaborate.proofs.StandsLemmas.{Stands, weaker, aggregate-fits, aggregate-stands, levels-stand}
use Rattle.gl_elaborate.proofs.LongLemmas.{AreLong}
use Rattle.gl_elaborate.proofs.RowsLemmas.{flat-operand}
use Rattle.gl_query.proofs.Real.{alone_kind}

-- an operand stands for an expression over rows that are as long as the columns are many
pub record IsArgument (columns parameters : List NamedColumn) (kinds : List Kind) (widen : Sets → Row → Row) (e : ExprShape) (x : Operand) : Type 0 where
  pub fits : OperandFits kinds x
  pub kind : kind_of_operand kinds x ≡ kind_of (columns ++ parameters) (kind_alone e) e
  pub value : (sets : Sets) (words : Row) → AreWords parameters sets words → (row : Row) → length row ≡ length columns
      → value_of_operand sets (widen sets row) x ≡ value_of (columns ++ parameters) (kind_alone e) e (row ++ words)

-- an aggregate stands for another
record IsAggregate (columns parameters : List NamedColumn) (kinds : List Kind) (widen : Sets → Row → Row) (a : AggShape) (x : PlanAgg) : Type 0 where
  pub fits : AggFits kinds x
  pub kind : kind_of_agg kinds x ≡ agg_kind (columns ++ parameters) a
  pub delay : delay_of_agg kinds x ≡ agg_delay (columns ++ parameters) a
  pub value : (sets : Sets) (words : Row) → AreWords parameters sets words → (rows : List Row) → AreLong columns rows
      → total_of sets kinds (map (widen sets) rows) x ≡ agg_value (columns ++ parameters) (widened words rows) a

-- there are as many wider rows
pub counted : (w : Row → Row) (rows : List Row) → count_of (map w rows) ≡ count_of rows
unfolding count_of
counted w rows = rw length-map refl

width-fits : (kind : Kind) → IsKind kind → IsWidth (width_of kind)
width-fits kind k = record { some' = kind_some kind k; most = omega (arith, k.1) }

pub number_fits : (kind : Kind) (n : ℕ) → IsNumberOf kind n → n < 2 ^ width_of kind
number_fits kind n h = range_below kind n h.1

weights-fit : (kind : Kind) (weights : List ℕ) → IsKind kind → AllByRecursion (IsNumberOf kind) weights
    → AllByRecursion (WeightFits kind) (weights_of kind weights)
weights-fit kind [] k h = tt
weights-fit kind (n ∷ weights) k h =
    (record { word = record { width = width-fits kind k; fits = number_fits kind n h.0 }; width = refl }, weights-fit kind weights k h.1)

weight-bits : (kind : Kind) (weights : List ℕ) → bits_of (weights_of kind weights) ≡ weights
weight-bits kind [] = refl
weight-bits kind (n ∷ weights) = ap (λ (l : List ℕ). n ∷ l) (weight-bits kind weights)

module _ (columns parameters : List NamedColumn) (areKinds : AreKinds (columns ++ parameters)) (kinds : List Kind) (widen : Sets → Row → Row) where
  pub argument : (e : ExprShape) (t : Term) → IsCarried (kinds_of columns) kinds widen (term_over columns (columns ++ parameters) (kind_alone e) e) t → depth_of t ≡ 0
      → IsArgument columns parameters kinds widen e (operand_of t)
  argument e t carried flat =
      let leaf = flat-operand kinds t flat carried.fits in
      record {
        fits = leaf.fits;
        kind = leaf.kind ∙ carried.kind ∙ over-kind columns parameters (kind_alone e) e;
        value = λ sets words are row long.
            leaf.value sets (widen sets row) ∙ carried.value sets row (long ∙ sym (length-map columns (λ c. c.kind)))
            ∙ over-value columns parameters (kind_alone e) e sets words row are long;
      }

  values : (e : ExprShape) (x : Operand) → IsArgument columns parameters kinds widen e x → (sets : Sets) (words : Row) → AreWords parameters sets words
      → (rows : List Row) → AreLong columns rows
      → map (λ row. value_of_operand sets row x) (map (widen sets) rows) ≡ values_of (columns ++ parameters) e (widened words rows)
  values e x is sets words are [] long = refl
  values e x is sets words are (row ∷ rows) long =
      let here = is.value sets words are row long.0 in
      let rest = values e x is sets words are rows long.1 in
      λ i. here i ∷ rest i

  pub summed : (e : ExprShape) (x : Operand) → IsArgument columns parameters kinds widen e x → IsSummed (columns ++ parameters) e → IsTrue (is_number (kind_of_operand kinds x))
  summed e x is h = subst (λ (j : Kind). IsTrue (is_number j)) (sym is.kind) h.number

  pub sum_of_kind : (e : ExprShape) (x : Operand) → IsArgument columns parameters kinds widen e x → (f : Kind → List ℕ → ℕ)
      → (sets : Sets) (words : Row) → AreWords parameters sets words → (rows : List Row) → AreLong columns rows
      → f (kind_of_operand kinds x) (map (λ row. value_of_operand sets row x) (map (widen sets) rows))
      ≡ f (kind_of (columns ++ parameters) (kind_alone e) e) (values_of (columns ++ parameters) e (widened words rows))
  sum_of_kind e x is f sets words are rows long = λ i. f (is.kind i) (values e x is sets words are rows long i)

  aggregate : (a : AggShape) (terms : List Term) (rest : List Term) → IsAgg (columns ++ parameters) a
      → AllZip (IsCarried (kinds_of columns) kinds widen) (arguments_of columns (columns ++ parameters) a ++ rest) terms → depth_of_all terms ≡ 0
      → IsAggregate columns parameters kinds widen a (agg_over (columns ++ parameters) a terms)
      × AllZip (IsCarried (kinds_of columns) kinds widen) rest (behind a terms) × (depth_of_all (behind a terms) ≡ 0)
  aggregate shape.Count terms rest h zipped flat = (record { fits = tt; kind = refl; delay = refl; value = λ sets words are rows long. counted (widen sets) rows ∙ sym (counted (λ row. row ++ words) rows) }, zipped, flat)
  aggregate (shape.Sum e) [] rest h zipped flat = absurd zipped
  aggregate (shape.Sum e) (t ∷ terms) rest h zipped flat =
      let is = argument e t zipped.0 (omega arith) in (
        record {
          fits = (is.fits, summed e (operand_of t) is h);
          kind = is.kind;
          delay = refl;
          value = sum_of_kind e (operand_of t) is (λ k xs. sum_total (width_of k) xs);
        },
        zipped.1,
        omega arith,
      )
  aggregate (shape.Min e) [] rest h zipped flat = absurd zipped
  aggregate (shape.Min e) (t ∷ terms) rest h zipped flat =
      let is = argument e t zipped.0 (omega arith) in (
        record {
          fits = is.fits;
          kind = is.kind;
          delay = refl;
          value = sum_of_kind e (operand_of t) is least_of;
        },
        zipped.1,
        omega arith,
      )
  aggregate (shape.Max e) [] rest h zipped flat = absurd zipped
  aggregate (shape.Max e) (t ∷ terms) rest h zipped flat =
      let is = argument e t zipped.0 (omega arith) in (
        record {
          fits = is.fits;
          kind = is.kind;
          delay = refl;
          value = sum_of_kind e (operand_of t) is greatest_of;
        },
        zipped.1,
        omega arith,
      )
  aggregate (shape.Avg e) [] rest h zipped flat = absurd zipped
  aggregate (shape.Avg e) (t ∷ terms) rest h zipped flat =
      let is = argument e t zipped.0 (omega arith) in (
        record {
          fits = (is.fits, summed e (operand_of t) is h);
          kind = is.kind;
          delay = ap (λ (k : Kind). width_of k + 34) is.kind;
          value = sum_of_kind e (operand_of t) is average_of;
        },
        zipped.1,
        omega arith,
      )
  aggregate (shape.Wsum e weights) [] rest h zipped flat = absurd zipped
  aggregate (shape.Wsum e weights) (t ∷ terms) rest h zipped flat =
      let is = argument e t zipped.0 (omega arith) in
      let kind = kind_of (columns ++ parameters) (kind_alone e) e in
      let areWeights = weights-fit kind weights (kind-fits (columns ++ parameters) areKinds e (kind_alone e) (kind_alone e) h.summed.typed (alone_kind e)) h.fit in (
        record {
          fits = (
            is.fits,
            summed e (operand_of t) is h.summed,
            rw length-map h.most,
            subst (λ (k : Kind). All (WeightFits k) (weights_of kind weights)) (sym is.kind) (All-from_recursion (WeightFits kind) (weights_of kind weights) areWeights),
          );
          kind = is.kind;
          delay = refl;
          value = λ sets words are rows long.
              sum_of_kind e (operand_of t) is (λ k xs. weighted_sum (width_of k) (bits_of (weights_of kind weights)) xs) sets words are rows long
              ∙ ap (λ (ws : List ℕ). weighted_sum (width_of kind) ws (values_of (columns ++ parameters) e (widened words rows))) (weight-bits kind weights);
        },
        zipped.1,
        omega arith,
      )

  aggregates : (items : List AggItemShape) (terms : List Term) → AllByRecursion (λ (i : AggItemShape). IsAgg (columns ++ parameters) i.agg) items
      → AllZip (IsCarried (kinds_of columns) kinds widen) (arguments_of_all columns (columns ++ parameters) items) terms → depth_of_all terms ≡ 0
      → AllByRecursion (AggFits kinds) (aggs_of (columns ++ parameters) items terms)
      × (map (kind_of_agg kinds) (aggs_of (columns ++ parameters) items terms) ≡ kinds_of (map (agg_column (columns ++ parameters)) items))
      × (delay_of_aggs kinds (aggs_of (columns ++ parameters) items terms) ≡ aggs_delay (columns ++ parameters) items)
      × ((sets : Sets) (words : Row) → AreWords parameters sets words → (rows : List Row) → AreLong columns rows
      → map (total_of sets kinds (map (widen sets) rows)) (aggs_of (columns ++ parameters) items terms) ≡ total_row (columns ++ parameters) items (widened words rows))
  aggregates [] terms h zipped flat = (tt, refl, refl, λ sets words are rows long. refl)
  aggregates (i ∷ items) terms h zipped flat =
      let here = aggregate i.agg terms (arguments_of_all columns (columns ++ parameters) items) h.0 zipped flat in
      let rest = aggregates items (behind i.agg terms) h.1 here.1 here.2 in (
        (here.0.fits, rest.0),
        (λ k. here.0.kind k ∷ rest.1 k),
        (λ k. max (here.0.delay k) (rest.2 k)),
        λ sets words are rows long. λ k. here.0.value sets words are rows long k ∷ rest.3 sets words are rows long k,
      )

module _ (columns parameters : List NamedColumn) (areKinds : AreKinds (columns ++ parameters)) where
  -- the term of an argument is one
  pub argument-term : (e : ExprShape) → HasKind (columns ++ parameters) (kind_alone e) e → IsTerm (kinds_of columns) (term_over columns (columns ++ parameters) (kind_alone e) e)
  argument-term e h = over-fits columns parameters areKinds e (kind_alone e) (alone_kind e) h

  argument-fits : (a : AggShape) → IsAgg (columns ++ parameters) a → AllByRecursion (IsTerm (kinds_of columns)) (arguments_of columns (columns ++ parameters) a)
  argument-fits shape.Count h = tt
  argument-fits (shape.Sum e) h = (argument-term e h.typed, tt)
  argument-fits (shape.Min e) h = (argument-term e h, tt)
  argument-fits (shape.Max e) h = (argument-term e h, tt)
  argument-fits (shape.Avg e) h = (argument-term e h.typed, tt)
  argument-fits (shape.Wsum e weights) h = (argument-term e h.summed.typed, tt)

  pub arguments-fit : (items : List AggItemShape) → AllByRecursion (λ (i : AggItemShape). IsAgg (columns ++ parameters) i.agg) items
      → AllByRecursion (IsTerm (kinds_of columns)) (arguments_of_all columns (columns ++ parameters) items)
  arguments-fit [] h = tt
  arguments-fit (i ∷ items) h =
      all_append (IsTerm (kinds_of columns)) (arguments_of columns (columns ++ parameters) i.agg) (arguments_of_all columns (columns ++ parameters) items)
      (argument-fits i.agg h.0) (arguments-fit items h.1)

-- made of a result of the source whose rows are long, with the words that are set
pub record IsTotalled (columns parameters : List NamedColumn) (items : List AggItemShape) (sets : Sets) (source : Results) (out : List Row) (spill : Bool) : Type 0 where
  pub rows : List Row
  pub of_source : source rows spill
  pub made : (words : Row) → AreWords parameters sets words → AreLong columns rows
      → out ≡ total_row (columns ++ parameters) items (widened words rows) ∷ []

-- the node of the aggregates has their delay
abbrev pub HasDelay : (columns reach : List NamedColumn) → List AggItemShape → Placed → Type 0
HasDelay columns reach items at =
    let over = levelled (length columns) at (arguments_of_all columns reach items) None in
    delay_of_aggs (shape_of over.at.nodes over.at.root).kinds (aggs_of reach items over.items) ≡ aggs_delay reach items

module _ (columns parameters : List NamedColumn) (areKinds : AreKinds (columns ++ parameters)) (old : List PlanNode) (at : Placed) (shape : Shape) (Means : Meaning)
    (same : shape.kinds ≡ kinds_of columns) where
  -- what the arguments may name
  abbrev reach : List NamedColumn
  reach = columns ++ parameters

  pub totals-stand : (items : List AggItemShape) → AllByRecursion (λ (i : AggItemShape). IsAgg reach i.agg) items
      → Stands old at shape Means
      → TotalsFit columns reach items at
      × HasDelay columns reach items at
      × Stands old (totals_over columns reach items at) (record shape { kinds = kinds_of (map (agg_column reach) items); closing = true; pace = once; arrives = false })
      (λ inputs. IsTotalled columns parameters items inputs.sets (Means inputs))
  totals-stand items h s =
      let terms = arguments_of_all columns reach items in
      let l = levels-stand (depth_of_all (terms ++ [])) (length columns) old at (record shape { kinds = kinds_of columns }) Means terms None
      (sym (length-map columns (λ c. c.kind))) (omega arith) (arguments-fit columns parameters areKinds items h) tt tt
      (subst (λ (k : List Kind). Stands old at (record shape { kinds = k }) Means) same s) in
      let over = levelled (length columns) at terms None in
      let all = aggregates columns parameters areKinds l.kinds l.widen items over.items h l.of_items l.flat_items in
      let aggs = aggs_of reach items over.items in
      let stood = aggregate-stands old over.at (record shape { kinds = l.kinds }) (λ inputs. IsChanged (Means inputs) (map (l.widen inputs.sets))) l.stands aggs all.0 in
      let moved = subst (λ (k : List Kind). Stands old (totals_over columns reach items at) (record shape { kinds = k; closing = true; pace = once; arrives = false })
      (λ inputs. IsChanged (IsChanged (Means inputs) (map (l.widen inputs.sets))) (totalled inputs.sets l.kinds aggs))) all.1 stood in (
        record {
          of_levels = l.fit;
          of_aggregate = aggregate-fits old over.at (record shape { kinds = l.kinds }) (λ inputs. IsChanged (Means inputs) (map (l.widen inputs.sets))) l.stands aggs all.0;
        },
        ap (λ (x : Shape). delay_of_aggs x.kinds aggs) l.stands.is ∙ all.2,
        weaker old (totals_over columns reach items at) (record shape { kinds = kinds_of (map (agg_column reach) items); closing = true; pace = once; arrives = false })
            (λ inputs. IsChanged (IsChanged (Means inputs) (map (l.widen inputs.sets))) (totalled inputs.sets l.kinds aggs))
            (λ inputs. IsTotalled columns parameters items inputs.sets (Means inputs)) moved
            (λ inputs out spill r. record {
              rows = r.of_source.rows;
              of_source = r.of_source.of_source;
              made = λ words are long.
                  r.changed ∙ ap (totalled inputs.sets l.kinds aggs) r.of_source.changed
                  ∙ ap (λ (row : Row). row ∷ []) (all.3 inputs.sets words are r.of_source.rows long);
            }),
      )
