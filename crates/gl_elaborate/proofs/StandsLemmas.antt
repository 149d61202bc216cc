-- Levels over a node of a plan: their nodes fit, and what they make of a result of the node.
use Rattle.std.proofs.Common.{◌≡◌, ℕ, zero, suc, ◌+◌, ◌<◌, ◌≤◌, Bool, true, false, List, [], ◌∷◌, ◌++◌, length, Option, Some, slice_get, slice_index, refl, sym, ap, subst, ◌∙◌, arith, map, nat_eq, All, length-append}
use Rattle.std.specs.Prelude.{option_map, option_to_list}
use Rattle.std.specs.List.{AllByRecursion, AllZip}
use Rattle.std.proofs.lemmas.List.{length-map, map-id}
use Rattle.std.proofs.lemmas.List.Elements.{All-cons, All-nil, All-from_recursion}
use Rattle.gl_values.specs.declared.kind.Kind.{Kind}
use Rattle.gl_algebra.specs.declared.node.Operand.{Operand}
use Rattle.gl_algebra.specs.declared.node.ColOp.{ColOp}
use Rattle.gl_algebra.specs.declared.node.PlanAgg.{PlanAgg}
use Rattle.gl_algebra.specs.declared.node.PlanFrame.{PlanFrame}
use Rattle.gl_algebra.specs.declared.node.PlanKey.{PlanKey}
use Rattle.gl_algebra.specs.declared.node.PlanNode.{PlanNode}
use Rattle.gl_algebra.specs.declared.node.PlanNode.TheVariants as node
use Rattle.gl_algebra.specs.Columns.{bit_kind, kind_of_operand, kind_of_agg, kind_of_frame, OperandFits, OpFits, AggFits, FrameFits}
use Rattle.gl_algebra.specs.Fits.{Fits, KeyFits}
use Rattle.gl_algebra.specs.Shapes.{Shape, unsteady, once, pace_by_key, shape_from, shape_of}
use Rattle.gl_values.specs.Results.{Row, Results, IsChanged}
use Rattle.gl_bits.proofs.AllLists.{all_append, all_front, all_back, map_map}
use Rattle.gl_algebra.specs.Added.{Placed, added}
use Rattle.gl_arrival.specs.Places as arrival
use Rattle.gl_arrival.specs.Changes.{kept_at, mapped_at}
use Rattle.gl_arrival.specs.Results.{IsChangedInPlace}
use Rattle.gl_algebra.specs.Results.{Arriving, Inputs, IsFramed, IsFramedInPlace, Meaning, IsPlanArrival, IsPlanResult, arriving_from, meaning_from, computed, row_of_frames, selected, projected, totalled}
use Rattle.gl_algebra.specs.Values.{Sets}
use Rattle.gl_algebra.proofs.ReadLemmas.{framed_within}
use Rattle.gl_algebra.proofs.ResultLemmas.{moved, moved_in_place}
use Rattle.gl_elaborate.specs.Terms.{Term, Column, IsTerm, depth_of_all}
use Rattle.gl_elaborate.specs.Levels.{innermost_of_all, level_of, reduced}
use Rattle.gl_elaborate.specs.Plans.{Levelled, levels, with_filter}
use Rattle.gl_elaborate.specs.Fitting.{LevelsFit}
use Rattle.gl_elaborate.proofs.PlacedLemmas.{IsOver, over-then, is_added}
use Rattle.gl_elaborate.proofs.StepLemmas.{listed}
use Rattle.gl_elaborate.proofs.LevelLemmas.{Has, IsCarried, KeepsColumns, wider, carried, all-carried, level-has, level-fits, length-computed}
use Rattle.gl_elaborate.proofs.RoomLemmas.{innermost-both}
use Rattle.gl_elaborate.proofs.DepthLemmas.{depth-reduced_all, depth-both, IsNoLiteral, all-no-literal}

-- a node that stands over a plan with this shape, whose results are among these
pub record Stands (old : List PlanNode) (at : Placed) (shape : Shape) (Means : Meaning) : Type 0 where
  pub over : IsOver old at
  pub is : shape_of at.nodes at.root ≡ shape
  pub means : (inputs : Inputs) (out : List Row) (spill : Bool) → IsPlanResult at.nodes at.root inputs out spill → Means inputs out spill

-- what a node's results with places are made of those of another
abbrev pub Comes : Placed → Placed → (Sets → List (arrival.Placed Row) → List (arrival.Placed Row)) → Type 0
Comes at next change = (inputs : Inputs) (out : List (arrival.Placed Row)) (spill : Bool) → IsPlanArrival next.nodes next.root inputs out spill
    → IsChangedInPlace (IsPlanArrival at.nodes at.root inputs) (change inputs.sets) out spill

pub comes-then : (a b c : Placed) (f g : Sets → List (arrival.Placed Row) → List (arrival.Placed Row)) → Comes a b f → Comes b c g
    → Comes a c (λ sets xs. g sets (f sets xs))
comes-then a b c f g first second inputs out spill r =
    let y = second inputs out spill r in
    let x = first inputs y.rows spill y.of_source in
    record { rows = x.rows; of_source = x.of_source; changed = y.changed ∙ ap (g inputs.sets) x.changed }

mapped_same : (xs : List (arrival.Placed Row)) → mapped_at (λ (row : Row). row) xs ≡ xs
mapped_same [] = refl
mapped_same (x ∷ xs) = ap (λ (l : List (arrival.Placed Row)). x ∷ l) (mapped_same xs)

mapped_twice : (f g : Row → Row) (xs : List (arrival.Placed Row)) → mapped_at g (mapped_at f xs) ≡ mapped_at (λ row. g (f row)) xs
mapped_twice f g [] = refl
mapped_twice f g (x ∷ xs) = ap (λ (l : List (arrival.Placed Row)). arrival.at_place (g (f x.row)) x.place ∷ l) (mapped_twice f g xs)

-- other results that are at least these
pub weaker : (old : List PlanNode) (at : Placed) (shape : Shape) (M N : Meaning) → Stands old at shape M
    → ((inputs : Inputs) (out : List Row) (spill : Bool) → M inputs out spill → N inputs out spill) → Stands old at shape N
weaker old at shape M N s f = record {
  over = s.over;
  is = s.is;
  means = λ inputs out spill r. f inputs out spill (s.means inputs out spill r);
}

module _ (old : List PlanNode) (at : Placed) (shape : Shape) (Means : Meaning) (s : Stands old at shape Means) where
  -- one more node over it, that changes its results
  one-more : (n : PlanNode) (change : Sets → Shape → List Row → List Row)
      → Fits at.nodes (length at.nodes) n
      → ((x : ℕ → Shape) → shape_from x n ≡ shape_from (λ _. x at.root) n)
      → ((x : ℕ → Shape) (v : ℕ → Arriving) (m : ℕ → Meaning) (inputs : Inputs) (out : List Row) (spill : Bool) → meaning_from x v m n inputs out spill
      → IsChanged (m at.root inputs) (change inputs.sets (x at.root)) out spill)
      → Stands old (added at.nodes n) (shape_from (λ _. shape) n) (λ inputs. IsChanged (Means inputs) (change inputs.sets shape))
  one-more n change fits local means =
      let new = is_added at.nodes n s.over.plan fits in
      record {
        over = over-then old at (added at.nodes n) s.over new.over;
        is = new.shape ∙ local (shape_of at.nodes) ∙ ap (λ (x : Shape). shape_from (λ _. x) n) s.is;
        means = λ inputs out spill r.
            let made = means (shape_of at.nodes) (IsPlanArrival at.nodes) (IsPlanResult at.nodes) inputs out spill
            (moved (IsPlanResult (added at.nodes n).nodes (added at.nodes n).root) (meaning_from (shape_of at.nodes) (IsPlanArrival at.nodes) (IsPlanResult at.nodes) n)
            new.means inputs out spill r) in
            record {
              rows = made.rows;
              of_source = s.means inputs made.rows spill made.of_source;
              changed = made.changed ∙ ap (λ (x : Shape). change inputs.sets x made.rows) s.is;
            };
      }

  before : All (λ child. child < length at.nodes) (at.root ∷ [])
  before = All-cons (λ child. child < length at.nodes) at.root [] s.over.within (All-nil (λ child. child < length at.nodes))

  pub compute-fits : (ops : List ColOp) → AllByRecursion (OpFits shape.kinds) ops → Fits at.nodes (length at.nodes) (node.Compute at.root ops)
  compute-fits ops fits = record {
    before = before;
    suits = subst (λ (x : Shape). All (OpFits x.kinds) ops) (sym s.is) (All-from_recursion (OpFits shape.kinds) ops fits);
    timed = tt;
  }

  pub select-fits : (column : ℕ) → slice_get shape.kinds column ≡ Some bit_kind → Fits at.nodes (length at.nodes) (node.Select at.root column)
  select-fits column fits = record {
    before = before;
    suits = subst (λ (x : Shape). slice_get x.kinds column ≡ Some bit_kind) (sym s.is) fits;
    timed = tt;
  }

  pub project-fits : (items : List Operand) → AllByRecursion (OperandFits shape.kinds) items → Fits at.nodes (length at.nodes) (node.Project at.root items)
  project-fits items fits = record {
    before = before;
    suits = subst (λ (x : Shape). All (OperandFits x.kinds) items) (sym s.is) (All-from_recursion (OperandFits shape.kinds) items fits);
    timed = tt;
  }

  pub frames-fits : (by : Option PlanKey) (items : List PlanFrame) → KeyFits shape.kinds by → AllByRecursion (FrameFits shape.kinds) items
      → Fits at.nodes (length at.nodes) (node.Frames at.root by items)
  frames-fits by items key fits = record {
    before = before;
    suits = subst (λ (x : Shape). All (FrameFits x.kinds) items × KeyFits x.kinds by) (sym s.is) (All-from_recursion (FrameFits shape.kinds) items fits, key);
    timed = tt;
  }

  pub frames-stands : (by : Option PlanKey) (items : List PlanFrame) → KeyFits shape.kinds by → AllByRecursion (FrameFits shape.kinds) items
      → Stands old (added at.nodes (node.Frames at.root by items))
      (record shape { kinds = map (kind_of_frame shape.kinds) items; pace = pace_by_key by shape.pace })
      (λ inputs. IsFramed by (row_of_frames inputs.sets shape.kinds items) (Means inputs))
  frames-stands by items key fits =
      let n = node.Frames at.root by items in
      let new = is_added at.nodes n s.over.plan (frames-fits by items key fits) in
      record {
        over = over-then old at (added at.nodes n) s.over new.over;
        is = new.shape ∙ ap (λ (x : Shape). shape_from (λ _. x) n) s.is;
        means = λ inputs out spill r.
            let made = moved (IsPlanResult (added at.nodes n).nodes (added at.nodes n).root) (meaning_from (shape_of at.nodes) (IsPlanArrival at.nodes) (IsPlanResult at.nodes) n)
            new.means inputs out spill r in
            framed_within (IsPlanResult at.nodes at.root inputs) (Means inputs) by (row_of_frames inputs.sets shape.kinds items) (s.means inputs) out spill
            (subst (λ (x : Shape). IsFramed by (row_of_frames inputs.sets x.kinds items) (IsPlanResult at.nodes at.root inputs) out spill) s.is made);
      }

  pub aggregate-fits : (aggs : List PlanAgg) → AllByRecursion (AggFits shape.kinds) aggs → Fits at.nodes (length at.nodes) (node.Aggregate at.root aggs)
  aggregate-fits aggs fits = record {
    before = before;
    suits = subst (λ (x : Shape). All (AggFits x.kinds) aggs) (sym s.is) (All-from_recursion (AggFits shape.kinds) aggs fits);
    timed = tt;
  }

  pub aggregate-stands : (aggs : List PlanAgg) → AllByRecursion (AggFits shape.kinds) aggs
      → Stands old (added at.nodes (node.Aggregate at.root aggs))
      (record shape { kinds = map (kind_of_agg shape.kinds) aggs; closing = true; pace = once; arrives = false })
      (λ inputs. IsChanged (Means inputs) (totalled inputs.sets shape.kinds aggs))
  aggregate-stands aggs fits =
      one-more (node.Aggregate at.root aggs) (λ sets x. totalled sets x.kinds aggs) (aggregate-fits aggs fits)
      (λ x. refl) (λ x v m inputs out spill r. r)

  pub compute-stands : (ops : List ColOp) → AllByRecursion (OpFits shape.kinds) ops
      → Stands old (added at.nodes (node.Compute at.root ops)) (record shape { kinds = wider shape.kinds ops })
      (λ inputs. IsChanged (Means inputs) (map (computed inputs.sets shape.kinds ops)))
  compute-stands ops fits =
      one-more (node.Compute at.root ops) (λ sets x. map (computed sets x.kinds ops))
      (compute-fits ops fits)
      (λ x. refl) (λ x v m inputs out spill r. r)

  pub select-stands : (column : ℕ) → slice_get shape.kinds column ≡ Some bit_kind
      → Stands old (added at.nodes (node.Select at.root column)) (record shape { pace = unsteady })
      (λ inputs. IsChanged (Means inputs) (selected column))
  select-stands column fits =
      one-more (node.Select at.root column) (λ sets x. selected column)
      (select-fits column fits)
      (λ x. refl) (λ x v m inputs out spill r. r)

  pub project-stands : (items : List Operand) → AllByRecursion (OperandFits shape.kinds) items
      → Stands old (added at.nodes (node.Project at.root items)) (record shape { kinds = map (kind_of_operand shape.kinds) items })
      (λ inputs. IsChanged (Means inputs) (map (projected inputs.sets items)))
  project-stands items fits =
      one-more (node.Project at.root items) (λ sets x. map (projected sets items))
      (project-fits items fits)
      (λ x. refl) (λ x v m inputs out spill r. r)

  -- the same with places
  one-comes : (n : PlanNode) (change : Sets → Shape → List (arrival.Placed Row) → List (arrival.Placed Row)) → Fits at.nodes (length at.nodes) n
      → ((x : ℕ → Shape) (v : ℕ → Arriving) (inputs : Inputs) (out : List (arrival.Placed Row)) (spill : Bool) → arriving_from x v n inputs out spill
      → IsChangedInPlace (v at.root inputs) (change inputs.sets (x at.root)) out spill)
      → Comes at (added at.nodes n) (λ sets. change sets shape)
  one-comes n change fits means inputs out spill r =
      let new = is_added at.nodes n s.over.plan fits in
      let made = means (shape_of at.nodes) (IsPlanArrival at.nodes) inputs out spill
      (moved_in_place (IsPlanArrival (added at.nodes n).nodes (added at.nodes n).root) (arriving_from (shape_of at.nodes) (IsPlanArrival at.nodes) n)
      new.arrives inputs out spill r) in
      record { rows = made.rows; of_source = made.of_source; changed = made.changed ∙ ap (λ (x : Shape). change inputs.sets x made.rows) s.is }

  pub compute-comes : (ops : List ColOp) → AllByRecursion (OpFits shape.kinds) ops
      → Comes at (added at.nodes (node.Compute at.root ops)) (λ sets. mapped_at (computed sets shape.kinds ops))
  compute-comes ops fits =
      one-comes (node.Compute at.root ops) (λ sets x. mapped_at (computed sets x.kinds ops)) (compute-fits ops fits) (λ x v inputs out spill r. r)

  pub select-comes : (column : ℕ) → slice_get shape.kinds column ≡ Some bit_kind
      → Comes at (added at.nodes (node.Select at.root column)) (λ sets. kept_at (λ (row : Row). nat_eq (slice_index row column) 1))
  select-comes column fits =
      one-comes (node.Select at.root column) (λ sets x. kept_at (λ (row : Row). nat_eq (slice_index row column) 1)) (select-fits column fits)
      (λ x v inputs out spill r. r)

  pub project-comes : (items : List Operand) → AllByRecursion (OperandFits shape.kinds) items
      → Comes at (added at.nodes (node.Project at.root items)) (λ sets. mapped_at (projected sets items))
  project-comes items fits =
      one-comes (node.Project at.root items) (λ sets x. mapped_at (projected sets items)) (project-fits items fits) (λ x v inputs out spill r. r)

  pub frames-comes : (by : Option PlanKey) (items : List PlanFrame) → KeyFits shape.kinds by → AllByRecursion (FrameFits shape.kinds) items
      → (inputs : Inputs) (out : List (arrival.Placed Row)) (spill : Bool)
      → IsPlanArrival (added at.nodes (node.Frames at.root by items)).nodes (added at.nodes (node.Frames at.root by items)).root inputs out spill
      → IsFramedInPlace by (row_of_frames inputs.sets shape.kinds items) (IsPlanArrival at.nodes at.root inputs) out spill
  frames-comes by items key fits inputs out spill r =
      let n = node.Frames at.root by items in
      let new = is_added at.nodes n s.over.plan (frames-fits by items key fits) in
      subst (λ (x : Shape). IsFramedInPlace by (row_of_frames inputs.sets x.kinds items) (IsPlanArrival at.nodes at.root inputs) out spill) s.is
      (moved_in_place (IsPlanArrival (added at.nodes n).nodes (added at.nodes n).root) (arriving_from (shape_of at.nodes) (IsPlanArrival at.nodes) n)
      new.arrives inputs out spill r)

-- ---- changes behind each other

changed-twice : (M : Results) (f g : Row → Row) (out : List Row) (spill : Bool)
    → IsChanged (IsChanged M (map f)) (map g) out spill → IsChanged M (map (λ row. g (f row))) out spill
changed-twice M f g out spill r = record {
  rows = r.of_source.rows;
  of_source = r.of_source.of_source;
  changed = r.changed ∙ ap (map g) r.of_source.changed ∙ map_map g f r.of_source.rows;
}

-- ---- terms behind each other

-- wider rows are as long as their kinds are many
abbrev pub IsWide : List Kind → List Kind → (Sets → Row → Row) → Type 0
IsWide k k' w = (sets : Sets) (row : Row) → length row ≡ length k → length (w sets row) ≡ length k'

carried-then : (k k' k'' : List Kind) (w w' : Sets → Row → Row) (x y z : Term) → IsWide k k' w
    → IsCarried k k' w x y → IsCarried k' k'' w' y z → IsCarried k k'' (λ sets row. w' sets (w sets row)) x z
carried-then k k' k'' w w' x y z wide a b = record {
  fits = b.fits;
  kind = b.kind ∙ a.kind;
  value = λ sets row same. b.value sets (w sets row) (wide sets row same) ∙ a.value sets row same;
  still = λ no. b.still (a.still no);
}

zip-then : (k k' k'' : List Kind) (w w' : Sets → Row → Row) (xs ys zs : List Term) → IsWide k k' w
    → AllZip (IsCarried k k' w) xs ys → AllZip (IsCarried k' k'' w') ys zs → AllZip (IsCarried k k'' (λ sets row. w' sets (w sets row))) xs zs
zip-then k k' k'' w w' [] [] [] wide a b = tt
zip-then k k' k'' w w' [] [] (z ∷ zs) wide a b = absurd b
zip-then k k' k'' w w' [] (y ∷ ys) zs wide a b = absurd a
zip-then k k' k'' w w' (x ∷ xs) [] zs wide a b = absurd a
zip-then k k' k'' w w' (x ∷ xs) (y ∷ ys) [] wide a b = absurd b
zip-then k k' k'' w w' (x ∷ xs) (y ∷ ys) (z ∷ zs) wide a b =
    (carried-then k k' k'' w w' x y z wide a.0 b.0, zip-then k k' k'' w w' xs ys zs wide a.1 b.1)

zip-self : (k : List Kind) (xs : List Term) → AllByRecursion (IsTerm k) xs → AllZip (IsCarried k k (λ sets row. row)) xs xs
zip-self k [] h = tt
zip-self k (x ∷ xs) h = (record { fits = h.0; kind = refl; value = λ sets row same. refl; still = λ no. no }, zip-self k xs h.1)

pub zip-fits : (k k' : List Kind) (w : Sets → Row → Row) (xs ys : List Term) → AllZip (IsCarried k k' w) xs ys → AllByRecursion (IsTerm k') ys
zip-fits k k' w [] [] h = tt
zip-fits k k' w [] (y ∷ ys) h = absurd h
zip-fits k k' w (x ∷ xs) [] h = absurd h
zip-fits k k' w (x ∷ xs) (y ∷ ys) h = (h.0.fits, zip-fits k k' w xs ys h.1)

-- ---- levels

pub record IsLevelled (old : List PlanNode) (at : Placed) (shape : Shape) (Means : Meaning) (items : List Term) (filter : Option Term) (over : Levelled) (Fit : Type 0) : Type 0 where
  pub fit : Fit
  pub kinds : List Kind
  pub widen : Sets → Row → Row
  pub stands : Stands old over.at (record shape { kinds = kinds }) (λ inputs. IsChanged (Means inputs) (map (widen inputs.sets)))
  pub comes : Comes at over.at (λ sets. mapped_at (widen sets))
  pub wide : IsWide shape.kinds kinds widen
  pub of_items : AllZip (IsCarried shape.kinds kinds widen) items over.items
  pub of_filter : AllZip (IsCarried shape.kinds kinds widen) (option_to_list filter) (option_to_list over.filter)
  pub flat_items : depth_of_all over.items ≡ 0
  pub flat_filter : depth_of_all (option_to_list over.filter) ≡ 0
  pub columns : AllByRecursion IsNoLiteral (option_to_list over.filter)
  pub of_columns : KeepsColumns shape.kinds kinds widen

pub levels-stand : (depth base : ℕ) (old : List PlanNode) (at : Placed) (shape : Shape) (Means : Meaning) (items : List Term) (filter : Option Term)
    → base ≡ length shape.kinds → depth_of_all (with_filter items filter) ≤ depth
    → AllByRecursion (IsTerm shape.kinds) items → AllByRecursion (IsTerm shape.kinds) (option_to_list filter) → AllByRecursion IsNoLiteral (option_to_list filter)
    → Stands old at shape Means → IsLevelled old at shape Means items filter (levels depth base at items filter) (LevelsFit depth base at items filter)
levels-stand zero base old at shape Means items filter same deep fits fits' columns s =
    let both = depth-both items (option_to_list filter) in
    record {
      fit = tt;
      kinds = shape.kinds;
      widen = λ sets row. row;
      stands = weaker old at shape Means (λ inputs. IsChanged (Means inputs) (map (λ row. row))) s
          (λ inputs out spill r. record { rows = out; of_source = r; changed = sym (map-id out) });
      comes = λ inputs out spill r. record { rows = out; of_source = r; changed = sym (mapped_same out) };
      wide = λ sets row e. e;
      of_items = zip-self shape.kinds items fits;
      of_filter = zip-self shape.kinds (option_to_list filter) fits';
      flat_items = omega arith;
      flat_filter = omega arith;
      columns = columns;
      of_columns = λ n lt. record { fits = lt; kind = refl; value = λ sets row same. refl; still = λ no. no };
    }
levels-stand (suc depth) base old at shape Means items filter same deep fits fits' columns s =
    let conditions = option_to_list filter in
    let level = level_of (items ++ conditions) in
    let left = option_map (reduced base level) filter in
    let as_list : option_to_list left ≡ map (reduced base level) conditions = listed (reduced base level) filter in
    let next = added at.nodes (node.Compute at.root level) in
    let kinds' = wider shape.kinds level in
    let w : Sets → Row → Row = λ sets row. computed sets shape.kinds level row in
    let all = all_append (IsTerm shape.kinds) items conditions fits fits' in
    let has = subst (AllByRecursion (Has level)) (innermost-both items conditions) (level-has (items ++ conditions)) in
    let base' : base + length level ≡ length kinds' = rw (length-append, length-map) (omega arith) in
    let made : AllZip (IsCarried shape.kinds kinds' w) items (map (reduced base level) items) =
    subst (λ (b : ℕ). AllZip (IsCarried shape.kinds kinds' w) items (map (reduced b level) items)) (sym same)
    (all-carried shape.kinds level items fits (all_front (Has level) (innermost_of_all items) (innermost_of_all conditions) has)) in
    let made' : AllZip (IsCarried shape.kinds kinds' w) conditions (option_to_list left) =
    subst (AllZip (IsCarried shape.kinds kinds' w) conditions) (sym as_list)
    (subst (λ (b : ℕ). AllZip (IsCarried shape.kinds kinds' w) conditions (map (reduced b level) conditions)) (sym same)
    (all-carried shape.kinds level conditions fits' (all_back (Has level) (innermost_of_all items) (innermost_of_all conditions) has))) in
    let a = depth-reduced_all base level items in
    let b = depth-reduced_all base level conditions in
    let before = depth-both items conditions in
    let after = depth-both (map (reduced base level) items) (option_to_list left) in
    let shallow = ap depth_of_all as_list in
    let less : depth_of_all (with_filter (map (reduced base level) items) left) ≤ depth = omega arith in
    let rest = levels-stand depth (base + length level) old next (record shape { kinds = kinds' })
    (λ inputs. IsChanged (Means inputs) (map (w inputs.sets))) (map (reduced base level) items) left
    base' less (zip-fits shape.kinds kinds' w items (map (reduced base level) items) made)
    (zip-fits shape.kinds kinds' w conditions (option_to_list left) made')
    (subst (AllByRecursion IsNoLiteral) (sym as_list) (all-no-literal base level conditions columns))
    (compute-stands old at shape Means s level (level-fits shape.kinds (items ++ conditions) all)) in
    record {
      fit = (compute-fits old at shape Means s level (level-fits shape.kinds (items ++ conditions) all), rest.fit);
      kinds = rest.kinds;
      widen = λ sets row. rest.widen sets (w sets row);
      stands = weaker old _ (record shape { kinds = rest.kinds }) (λ inputs. IsChanged (IsChanged (Means inputs) (map (w inputs.sets))) (map (rest.widen inputs.sets)))
          (λ inputs. IsChanged (Means inputs) (map (λ row. rest.widen inputs.sets (w inputs.sets row)))) rest.stands
          (λ inputs out spill r. changed-twice (Means inputs) (w inputs.sets) (rest.widen inputs.sets) out spill r);
      comes = λ inputs out spill r.
          let x = comes-then at next _ (λ sets. mapped_at (w sets)) (λ sets. mapped_at (rest.widen sets))
          (compute-comes old at shape Means s level (level-fits shape.kinds (items ++ conditions) all)) rest.comes inputs out spill r in
          record { rows = x.rows; of_source = x.of_source; changed = x.changed ∙ mapped_twice (w inputs.sets) (rest.widen inputs.sets) x.rows };
      wide = λ sets row e. rest.wide sets (w sets row) (length-computed shape.kinds level sets row e);
      of_items = zip-then shape.kinds kinds' rest.kinds w rest.widen items (map (reduced base level) items) _
          (λ sets row e. length-computed shape.kinds level sets row e) made rest.of_items;
      of_filter = zip-then shape.kinds kinds' rest.kinds w rest.widen conditions (option_to_list left) _
          (λ sets row e. length-computed shape.kinds level sets row e) made' rest.of_filter;
      flat_items = rest.flat_items;
      flat_filter = rest.flat_filter;
      columns = rest.columns;
      of_columns = λ n lt.
          let here = carried shape.kinds level (Column n) lt tt in
          carried-then shape.kinds kinds' rest.kinds w rest.widen (Column n) (Column n) (Column n)
          (λ sets row e. length-computed shape.kinds level sets row e) here (rest.of_columns n here.fits);
    }
