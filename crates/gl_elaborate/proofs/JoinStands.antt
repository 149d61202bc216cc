-- The nodes of an as-of join stand over a plan, and what comes of them is what comes of the join.
use Rattle.std.proofs.Common.{◌≡◌, ℕ, ◌<◌, ◌≤◌, Bool, true, false, ◌||◌, List, [], ◌∷◌, ◌++◌, length, Some, slice_index, refl, sym, ap, subst, ◌∙◌, arith, map}
use Rattle.std.specs.List.{AllByRecursion}
use Rattle.std.proofs.lemmas.List.{length-map}
use Rattle.gl_values.specs.Lists.{has_further}
use Rattle.gl_values.specs.Results.{Results, Row, IsChanged}
use Rattle.gl_frames.specs.Frames.{by_key, framed_by_key}
use Rattle.gl_frames.specs.Results.{IsChangedInPart}
use Rattle.gl_arrival.specs.Places as arrival
use Rattle.gl_arrival.specs.Places.{at_place}
use Rattle.gl_arrival.specs.Arrival.{by_arrival}
use Rattle.gl_arrival.specs.Changes.{framed_by_key_at, kept_at, mapped_at}
use Rattle.gl_arrival.specs.Results.{Arrivals, IsByArrival, IsChangedInPlace, IsPartedInPlace, IsWithoutPlaces}
use Rattle.gl_arrival.proofs.ChangeLemmas.{rows_each, rows_kept, rows_mapped}
use Rattle.gl_arrival.proofs.SideLemmas.{by_arrival_of_mapped}
use Rattle.gl_asof.specs.AsOf.{OfEither, of_left, of_right, as_of, both_sides, key_of_either, more_keys}
use Rattle.gl_asof.proofs.FrameLemmas.{frames_join}
use Rattle.gl_values.specs.declared.kind.Kind.{Kind}
use Rattle.gl_schema.specs.declared.schema.Column.{Column as NamedColumn}
use Rattle.gl_schema.specs.Schemas.{kinds_of}
use Rattle.gl_query.specs.Accepted.{AreJoined}
use Rattle.gl_query.specs.Columns.{but_key}
use Rattle.gl_query.specs.Laws.{AreKinds, IsLongAs}
use Rattle.gl_query.specs.Results.{join_by}
use Rattle.gl_query.specs.Shapes.{SlotsShape}
use Rattle.gl_query.specs.Values.{column_number}
use Rattle.gl_query.proofs.Holding.{all_sides}
use Rattle.gl_algebra.specs.declared.node.PlanNode.{PlanNode}
use Rattle.gl_algebra.specs.declared.node.PlanNode.TheVariants as node
use Rattle.gl_algebra.specs.Added.{Placed, placed_at}
use Rattle.gl_algebra.specs.Columns.{OperandFits, kind_of_operand}
use Rattle.gl_algebra.specs.Fits.{KeyFits}
use Rattle.gl_algebra.specs.Keys.{delay_by_key}
use Rattle.gl_algebra.specs.Shapes.{Shape, shape_of, unsteady}
use Rattle.gl_algebra.specs.Values.{Sets}
use Rattle.gl_algebra.specs.Results.{Inputs, IsFramed, IsPlanArrival, Meaning, projected, row_of_frames, selected}
use Rattle.gl_elaborate.specs.Fitting.{JoinFits}
use Rattle.gl_elaborate.specs.Figures.{parted_delay}
use Rattle.gl_elaborate.specs.Joins.{as_of_over, both_placed, columns_from, join_framed, join_frames, join_kept, join_key, joined_columns, left_items, left_side, right_items, right_side}
use Rattle.gl_elaborate.proofs.AcceptedLemmas.{column-fits}
use Rattle.gl_elaborate.proofs.FramedLemmas.{further_mapped, keyed_mapped_in_place}
use Rattle.gl_elaborate.proofs.JoinKinds as kinds
use Rattle.gl_elaborate.proofs.JoinValues.{OfEach, key_alike, makes_joined, passes, widened}
use Rattle.gl_elaborate.proofs.LongLemmas.{AreLong}
use Rattle.gl_elaborate.proofs.PlacedLemmas.{over-then}
use Rattle.gl_elaborate.proofs.StandsLemmas.{Stands, frames-comes, frames-fits, frames-stands, project-comes, project-fits, project-stands, select-comes, select-fits, select-stands, weaker}
use Rattle.gl_elaborate.proofs.TwoLemmas.{behind, left-comes, left_still, merge-stands}

mapped_both : {A B C : Type 0} (f : A → B) (g : B → C) (xs : List (arrival.Placed A)) → mapped_at g (mapped_at f xs) ≡ mapped_at (λ (x : A). g (f x)) xs
mapped_both f g [] = refl
mapped_both f g (x ∷ xs) = ap (λ l. at_place (g (f x.row)) x.place ∷ l) (mapped_both f g xs)

-- what comes of a join of two results, where the rows of both are as long as their columns are many
pub record IsJoinedHere (lefts rights : List NamedColumn) (slots : SlotsShape) (Left Right : Arrivals) (out : List (arrival.Placed Row)) (spill : Bool) : Type 0 where
  pub left : List (arrival.Placed Row)
  pub right : List (arrival.Placed Row)
  pub left_spill : Bool
  pub right_spill : Bool
  pub of_left : Left left left_spill
  pub of_right : Right right right_spill
  pub made : AreLong lefts (arrival.rows_of left) → AreLong rights (arrival.rows_of right) → out ≡ as_of (join_by lefts rights slots) left right
  pub told : AreLong lefts (arrival.rows_of left) → AreLong rights (arrival.rows_of right)
      → spill ≡ ((right_spill || left_spill) || more_keys (join_by lefts rights slots) left right)

-- ---- from both sides to the join

module _ (lefts rights : List NamedColumn) (slots : SlotsShape) (left_in : column_number lefts slots.key < length lefts) (right_in : column_number rights slots.key < length rights)
    (kinds' : List Kind) (sets : Sets) where
  abbrev all : ℕ
  all = joined_columns lefts rights slots.key

  abbrev key : Row → ℕ
  key x = slice_index x (column_number lefts slots.key)

  abbrev made_row : List Row → Row
  made_row rows = row_of_frames sets kinds' (join_frames lefts rights slots.key) rows

  abbrev without_mark : Row → Row
  without_mark row = projected sets (columns_from 0 all) row

  abbrev w : OfEither Row Row → Row
  w z = widened lefts rights slots left_in right_in sets z

  -- both sides with columns for all, in the order of arrival
  sides_widened : (xs ys : List (arrival.Placed Row))
      → by_arrival (mapped_at (projected sets (right_items lefts rights slots.key)) ys) (mapped_at (projected sets (left_items lefts rights slots.key)) xs) ≡ mapped_at w (both_sides xs ys)
  sides_widened xs ys =
      (λ i. by_arrival (sym (mapped_both of_right w ys) i) (sym (mapped_both of_left w xs) i)) ∙ by_arrival_of_mapped w (mapped_at of_right ys) (mapped_at of_left xs)

  all_long : (xs ys : List (arrival.Placed Row)) → AreLong lefts (arrival.rows_of xs) → AreLong rights (arrival.rows_of ys)
      → AllByRecursion (OfEach lefts rights slots left_in right_in sets) (arrival.rows_of (both_sides xs ys))
  all_long xs ys h k = all_sides (IsLongAs lefts) (IsLongAs rights) xs ys h k

  rows_joined : (xs ys : List (arrival.Placed Row)) → AreLong lefts (arrival.rows_of xs) → AreLong rights (arrival.rows_of ys)
      → mapped_at without_mark (kept_at (passes lefts rights slots left_in right_in sets) (framed_by_key_at slots.groups key made_row (mapped_at w (both_sides xs ys))))
      ≡ as_of (join_by lefts rights slots) xs ys
  rows_joined xs ys h k =
      let each : OfEither Row Row → Type 0 = OfEach lefts rights slots left_in right_in sets in
      let made : List (OfEither Row Row) → Row = λ zs. made_row (map w zs) in
      ap (λ (l : List (arrival.Placed Row)). mapped_at without_mark (kept_at (passes lefts rights slots left_in right_in sets) l))
      (keyed_mapped_in_place w each made_row made (λ zs q. refl) slots.groups key (key_of_either (join_by lefts rights slots)) (key_alike lefts rights slots left_in right_in sets)
      (both_sides xs ys) (all_long xs ys h k))
      ∙ frames_join (join_by lefts rights slots) each made (passes lefts rights slots left_in right_in sets) without_mark (makes_joined lefts rights slots left_in right_in sets kinds') xs ys (all_long xs ys h k)

  keys_joined : (xs ys : List (arrival.Placed Row)) → AreLong lefts (arrival.rows_of xs) → AreLong rights (arrival.rows_of ys)
      → has_further slots.groups key (arrival.rows_of (mapped_at w (both_sides xs ys))) ≡ more_keys (join_by lefts rights slots) xs ys
  keys_joined xs ys h k =
      ap (λ (l : List Row). has_further slots.groups key l) (rows_mapped w (both_sides xs ys))
      ∙ further_mapped w (OfEach lefts rights slots left_in right_in sets) key (key_of_either (join_by lefts rights slots)) (key_alike lefts rights slots left_in right_in sets) slots.groups
      (arrival.rows_of (both_sides xs ys)) (all_long xs ys h k)

  -- both sides, each with columns for all
  abbrev Both : Arrivals → Arrivals → Arrivals
  Both Left Right =
      IsByArrival (IsChangedInPlace Right (mapped_at (projected sets (right_items lefts rights slots.key)))) (IsChangedInPlace Left (mapped_at (projected sets (left_items lefts rights slots.key))))

  joined_here : (Left Right : Arrivals) (xs out : List (arrival.Placed Row)) (source_spill spill : Bool) → Both Left Right xs source_spill
      → out ≡ mapped_at without_mark (kept_at (passes lefts rights slots left_in right_in sets) (framed_by_key_at slots.groups key made_row xs))
      → spill ≡ (source_spill || has_further slots.groups key (arrival.rows_of xs)) → IsJoinedHere lefts rights slots Left Right out spill
  joined_here Left Right xs out source_spill spill u e s =
      let order : xs ≡ mapped_at w (both_sides u.of_right.rows u.of_left.rows) =
      u.in_order ∙ (λ i. by_arrival (u.of_left.changed i) (u.of_right.changed i)) ∙ sides_widened u.of_right.rows u.of_left.rows in
      record {
        left = u.of_right.rows;
        right = u.of_left.rows;
        left_spill = u.right_spill;
        right_spill = u.left_spill;
        of_left = u.of_right.of_source;
        of_right = u.of_left.of_source;
        made = λ h k.
            e ∙ ap (λ (l : List (arrival.Placed Row)). mapped_at without_mark (kept_at (passes lefts rights slots left_in right_in sets) (framed_by_key_at slots.groups key made_row l))) order
            ∙ rows_joined u.of_right.rows u.of_left.rows h k;
        told = λ h k.
            s ∙ ap (λ (b : Bool). b || has_further slots.groups key (arrival.rows_of xs)) u.either
            ∙ ap (λ (l : List (arrival.Placed Row)). (u.left_spill || u.right_spill) || has_further slots.groups key (arrival.rows_of l)) order
            ∙ ap (λ (b : Bool). (u.left_spill || u.right_spill) || b) (keys_joined u.of_right.rows u.of_left.rows h k);
      }

  -- the same of three changes behind each other
  abbrev Turn : Arrivals → Arrivals
  Turn source =
      IsChangedInPlace (IsChangedInPlace (IsPartedInPlace source (framed_by_key_at slots.groups key made_row) (has_further slots.groups key))
      (kept_at (passes lefts rights slots left_in right_in sets))) (mapped_at without_mark)

  joined_in_turn : (Left Right : Arrivals) (out : List (arrival.Placed Row)) (spill : Bool) → Turn (Both Left Right) out spill → IsJoinedHere lefts rights slots Left Right out spill
  joined_in_turn Left Right out spill r =
      let k = r.of_source in
      let f = k.of_source in
      let p : Row → Bool = passes lefts rights slots left_in right_in sets in
      joined_here Left Right f.rows out f.source_spill spill f.of_source
      (r.changed ∙ ap (λ (l : List (arrival.Placed Row)). mapped_at without_mark l) (k.changed ∙ ap (λ (l : List (arrival.Placed Row)). kept_at p l) f.changed)) f.any

  -- the same of rows without places
  abbrev Chain : Results → Results
  Chain source =
      IsChanged (IsChanged (IsChangedInPart source (framed_by_key slots.groups key made_row) (has_further slots.groups key)) (selected all)) (map without_mark)

  joined_results : (Left Right : Arrivals) (out : List Row) (spill : Bool) → Chain (IsWithoutPlaces (Both Left Right)) out spill
      → IsWithoutPlaces (IsJoinedHere lefts rights slots Left Right) out spill
  joined_results Left Right out spill r =
      let f = r.of_source.of_source in
      let x = f.of_source in
      let framed : List (arrival.Placed Row) = framed_by_key_at slots.groups key made_row x.rows in
      let kept : List (arrival.Placed Row) = kept_at (passes lefts rights slots left_in right_in sets) framed in
      record {
        rows = mapped_at without_mark kept;
        of_source = joined_here Left Right x.rows (mapped_at without_mark kept) f.source_spill spill x.of_source refl
            (f.any ∙ ap (λ (l : List Row). f.source_spill || has_further slots.groups key l) x.without);
        without =
            r.changed ∙ ap (map without_mark) (r.of_source.changed ∙ ap (selected all) (f.changed ∙ ap (framed_by_key slots.groups key made_row) x.without
            ∙ sym (rows_each (by_key slots.groups key made_row) [] x.rows)) ∙ sym (rows_kept (passes lefts rights slots left_in right_in sets) framed))
            ∙ sym (rows_mapped without_mark kept);
      }

-- ---- a node of a plan, seen from a larger one

again : (old : List PlanNode) (l r : Placed) (shape : Shape) (M : Meaning) (N : Shape) (K : Meaning) → Stands old l shape M → Stands l.nodes r N K → Stands old (placed_at r.nodes l.root) shape M
again old l r shape M N K s t =
    let still = left_still old l r shape N M K s t in
    record {
      over = record {
        plan = t.over.plan;
        within = still.within;
        longer = (over-then old l r s.over t.over).longer;
        kept = (over-then old l r s.over t.over).kept;
      };
      is = still.is;
      means = still.means;
    }

-- a node of the plan itself
alone : (nodes : List PlanNode) (at : Placed) (shape : Shape) (M : Meaning) → Stands nodes at shape M → Stands at.nodes at shape M
alone nodes at shape M s = record {
  over = record { plan = s.over.plan; within = s.over.within; longer = same (length at.nodes); kept = λ n below. refl };
  is = s.is;
  means = s.means;
}
  where
    same : (n : ℕ) → n ≤ n
    same n = omega arith

further : (old : List PlanNode) (l r : Placed) (shape other : Shape) (M N : Meaning) → Stands old l shape M → Stands l.nodes r other N → Stands old r other N
further old l r shape other M N s t = record { over = over-then old l r s.over t.over; is = t.is; means = t.means }

-- ---- the nodes of a join

-- what is shown of them: each fits, and what comes of the last one
pub record IsJoin (lefts rights : List NamedColumn) (slots : SlotsShape) (old : List PlanNode) (l r : Placed) (shape : Shape) : Type 0 where
  pub fit : JoinFits lefts rights slots l.root r
  pub stands :
      Stands old (as_of_over lefts rights slots l.root r) shape
      (λ inputs. IsWithoutPlaces (IsJoinedHere lefts rights slots (IsPlanArrival l.nodes l.root inputs) (IsPlanArrival r.nodes r.root inputs)))
  pub delay :
      let both = both_placed lefts rights slots.key l.root r in
      delay_by_key (shape_of both.nodes both.root).kinds (Some (join_key lefts slots)) (join_frames lefts rights slots.key) ≡ parted_delay lefts (Some slots) 1
  pub comes : (inputs : Inputs) (out : List (arrival.Placed Row)) (spill : Bool)
      → IsPlanArrival (as_of_over lefts rights slots l.root r).nodes (as_of_over lefts rights slots l.root r).root inputs out spill
      → IsJoinedHere lefts rights slots (IsPlanArrival l.nodes l.root inputs) (IsPlanArrival r.nodes r.root inputs) out spill

module _ (lefts rights : List NamedColumn) (slots : SlotsShape) (left_kinds : AreKinds lefts) (right_kinds : AreKinds rights)
    (j : AreJoined lefts rights slots (lefts ++ but_key slots.key rights)) where
  left_in : column_number lefts slots.key < length lefts
  left_in = let a = column-fits lefts left_kinds slots.key j.of_left.known in let b = length-map lefts (λ (c : NamedColumn). c.kind) in omega (arith, a, b)

  right_in : column_number rights slots.key < length rights
  right_in = let a = column-fits rights right_kinds slots.key j.of_right.known in let b = length-map rights (λ (c : NamedColumn). c.kind) in omega (arith, a, b)

  abbrev wide : List Kind
  wide = kinds.wide lefts rights slots left_in right_in j.alike left_kinds right_kinds

  abbrev framed_kinds : List Kind
  framed_kinds = kinds.framed_kinds lefts rights slots left_in right_in j.alike left_kinds right_kinds

  key_fits : KeyFits wide (Some (join_key lefts slots))
  key_fits = (kinds.key_in lefts rights slots left_in right_in j.alike left_kinds right_kinds, record { least = j.of_left.some_groups; most = j.of_left.most_groups })

  pub join-stands : (old : List PlanNode) (l r : Placed) (sl sr : Shape) (ML MR : Meaning) → sl.kinds ≡ kinds_of lefts → sr.kinds ≡ kinds_of rights → sl.arrives ≡ true → sr.arrives ≡ true
      → Stands old l sl ML → Stands l.nodes r sr MR
      → IsJoin lefts rights slots old l r (record { kinds = kinds_of (lefts ++ but_key slots.key rights); closing = false; pace = unsteady; arrives = true; leaves = sr.leaves ++ sl.leaves })
  join-stands old l r sl sr ML MR own other first second s t =
      let name = slots.key in
      let right_fit = subst (λ (k : List Kind). AllByRecursion (OperandFits k) (right_items lefts rights name)) (sym other) (kinds.right_fit lefts rights slots left_in right_in j.alike left_kinds right_kinds) in
      let left_fit = subst (λ (k : List Kind). AllByRecursion (OperandFits k) (left_items lefts rights name)) (sym own) (kinds.left_fit lefts rights slots left_in right_in j.alike left_kinds right_kinds) in
      let c : Placed = right_side lefts rights name r in
      let sc : Shape = record sr { kinds = wide } in
      let MC : Meaning = λ inputs. IsChanged (MR inputs) (map (projected inputs.sets (right_items lefts rights name))) in
      let on_c : Stands l.nodes c sc MC =
      subst (λ (k : List Kind). Stands l.nodes c (record sr { kinds = k }) MC)
      (ap (λ (k : List Kind). map (kind_of_operand k) (right_items lefts rights name)) other ∙ kinds.right_wide lefts rights slots left_in right_in j.alike left_kinds right_kinds)
      (project-stands l.nodes r sr MR t (right_items lefts rights name) right_fit) in
      let still : Placed = placed_at c.nodes l.root in
      let on_still : Stands c.nodes still sl ML = alone old still sl ML (again old l c sl ML sc MC s on_c) in
      let d : Placed = left_side lefts rights name l.root r in
      let sd : Shape = record sl { kinds = wide } in
      let MD : Meaning = λ inputs. IsChanged (ML inputs) (map (projected inputs.sets (left_items lefts rights name))) in
      let on_d : Stands c.nodes d sd MD =
      subst (λ (k : List Kind). Stands c.nodes d (record sl { kinds = k }) MD)
      (ap (λ (k : List Kind). map (kind_of_operand k) (left_items lefts rights name)) own ∙ kinds.left_wide lefts rights slots left_in right_in j.alike left_kinds right_kinds)
      (project-stands c.nodes still sl ML on_still (left_items lefts rights name) left_fit) in
      let c_old : Stands old c sc MC = further old l c sl sc ML MC s on_c in
      let both = merge-stands old c d sc sd MC MD c_old on_d refl second first in
      let e : Placed = both_placed lefts rights name l.root r in
      let se : Shape = record { kinds = wide; closing = false; pace = unsteady; arrives = true; leaves = sr.leaves ++ sl.leaves } in
      let ME : Meaning = λ inputs. IsWithoutPlaces (IsByArrival (IsPlanArrival d.nodes c.root inputs) (IsPlanArrival d.nodes d.root inputs)) in
      let frames = kinds.frames_fit lefts rights slots left_in right_in j.alike left_kinds right_kinds in
      let items = join_frames lefts rights name in
      let f : Placed = join_framed lefts rights slots l.root r in
      let sf : Shape = record se { kinds = framed_kinds } in
      let MF : Meaning = λ inputs. IsFramed (Some (join_key lefts slots)) (row_of_frames inputs.sets wide items) (ME inputs) in
      let on_f : Stands old f sf MF =
      subst (λ (k : List Kind). Stands old f (record se { kinds = k }) MF) (kinds.frames_kinds lefts rights slots left_in right_in j.alike left_kinds right_kinds)
      (frames-stands old e se ME both.stands (Some (join_key lefts slots)) items key_fits frames) in
      let marked = kinds.is_kept lefts rights slots left_in right_in j.alike left_kinds right_kinds in
      let all = joined_columns lefts rights name in
      let g : Placed = join_kept lefts rights slots l.root r in
      let MG : Meaning = λ inputs. IsChanged (MF inputs) (selected all) in
      let on_g : Stands old g sf MG = select-stands old f sf MF on_f all marked in
      let kept = kinds.kept_fit lefts rights slots left_in right_in j.alike left_kinds right_kinds in
      let last : Placed = as_of_over lefts rights slots l.root r in
      let MH : Meaning = λ inputs. IsChanged (MG inputs) (map (projected inputs.sets (columns_from 0 all))) in
      let on_h : Stands old last (record se { kinds = kinds_of (lefts ++ but_key name rights) }) MH =
      subst (λ (k : List Kind). Stands old last (record se { kinds = k }) MH) (kinds.kept_kinds lefts rights slots left_in right_in j.alike left_kinds right_kinds)
      (project-stands old g sf MG on_g (columns_from 0 all) kept) in
      -- what comes of both sides
      let of_both : (inputs : Inputs) (xs : List (arrival.Placed Row)) (spill : Bool) → IsByArrival (IsPlanArrival d.nodes c.root inputs) (IsPlanArrival d.nodes d.root inputs) xs spill
      → Both lefts rights slots left_in right_in wide inputs.sets (IsPlanArrival l.nodes l.root inputs) (IsPlanArrival r.nodes r.root inputs) xs spill =
      λ inputs xs spill u.
      let a = project-comes l.nodes r sr MR t (right_items lefts rights name) right_fit inputs u.left u.left_spill (left-comes old c d sc sd MC MD c_old on_d inputs u.left u.left_spill u.of_left) in
      let b = project-comes c.nodes still sl ML on_still (left_items lefts rights name) left_fit inputs u.right u.right_spill u.of_right in
      record {
        left = u.left;
        right = u.right;
        left_spill = u.left_spill;
        right_spill = u.right_spill;
        of_left = a;
        of_right = record { rows = b.rows; of_source = left-comes old l c sl sc ML MC s on_c inputs b.rows u.right_spill b.of_source; changed = b.changed };
        in_order = u.in_order;
        either = u.either;
      } in
      record {
        fit = record {
          of_right = project-fits l.nodes r sr MR t (right_items lefts rights name) right_fit;
          of_left = project-fits c.nodes still sl ML on_still (left_items lefts rights name) left_fit;
          of_both = both.fits;
          of_frames = frames-fits old e se ME both.stands (Some (join_key lefts slots)) items key_fits frames;
          of_select = select-fits old f sf MF on_f all marked;
          of_project = project-fits old g sf MG on_g (columns_from 0 all) kept;
        };
        stands = weaker old last (record se { kinds = kinds_of (lefts ++ but_key name rights) }) MH _ on_h (λ inputs out spill x.
            joined_results lefts rights slots left_in right_in wide inputs.sets (IsPlanArrival l.nodes l.root inputs) (IsPlanArrival r.nodes r.root inputs) out spill
            (with_both inputs (IsPlanArrival d.nodes c.root inputs) (IsPlanArrival d.nodes d.root inputs) (IsPlanArrival l.nodes l.root inputs) (IsPlanArrival r.nodes r.root inputs) (of_both inputs) out spill x));
        delay =
            ap (λ (x : Shape). delay_by_key x.kinds (Some (join_key lefts slots)) items) both.stands.is
            ∙ kinds.delays lefts rights slots left_in right_in j.alike left_kinds right_kinds;
        comes = λ inputs out spill x.
            let h = project-comes old g sf MG on_g (columns_from 0 all) kept inputs out spill x in
            let k = select-comes old f sf MF on_f all marked inputs h.rows spill h.of_source in
            let m = frames-comes old e se ME both.stands (Some (join_key lefts slots)) items key_fits frames inputs k.rows spill k.of_source in
            let u = (behind d.nodes (node.Merge c.root d.root) on_d.over.plan both.fits).comes inputs m.rows m.source_spill m.of_source in
            joined_in_turn lefts rights slots left_in right_in wide inputs.sets (IsPlanArrival l.nodes l.root inputs) (IsPlanArrival r.nodes r.root inputs) out spill
            (record {
              rows = h.rows;
              changed = h.changed;
              of_source = record {
                rows = k.rows;
                changed = k.changed;
                of_source = record { rows = m.rows; source_spill = m.source_spill; changed = m.changed; any = m.any; of_source = of_both inputs m.rows m.source_spill u };
              };
            });
      }
    where
      -- the chain of results over other both sides
      with_both : (inputs : Inputs) (X Y Left Right : Arrivals)
          → ((xs : List (arrival.Placed Row)) (spill : Bool) → IsByArrival X Y xs spill → Both lefts rights slots left_in right_in wide inputs.sets Left Right xs spill)
          → (out : List Row) (spill : Bool) → Chain lefts rights slots left_in right_in wide inputs.sets (IsWithoutPlaces (IsByArrival X Y)) out spill
          → Chain lefts rights slots left_in right_in wide inputs.sets (IsWithoutPlaces (Both lefts rights slots left_in right_in wide inputs.sets Left Right)) out spill
      with_both inputs X Y Left Right turn out spill x =
          let part = x.of_source.of_source in
          record {
            rows = x.rows;
            changed = x.changed;
            of_source = record {
              rows = x.of_source.rows;
              changed = x.of_source.changed;
              of_source = record {
                rows = part.rows;
                source_spill = part.source_spill;
                changed = part.changed;
                any = part.any;
                of_source = record { rows = part.of_source.rows; without = part.of_source.without; of_source = turn part.of_source.rows part.source_spill part.of_source.of_source };
              };
            };
          }
