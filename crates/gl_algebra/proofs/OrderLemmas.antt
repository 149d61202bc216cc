-- Results with places go by the order of places alone: where places turn into others in the same order, so do those of
-- each result.
use Rattle.std.proofs.Common.{◌≡◌, ℕ, ◌<◌, List, [], length, Bool, false, ◌||◌, All, Option, Some, None, map, nat_eq, slice_index, refl, sym, ap, ◌∙◌, subst, lit<}
use Rattle.gl_values.specs.Lists.{slices, Group as GroupOf, IsInterleaving}
use Rattle.gl_values.specs.Results.{Row, AreBeside, IsOfGroup, IsOfParts}
use Rattle.gl_values.specs.Times.{tslices}
use Rattle.gl_arrival.specs.Arrival.{by_arrival}
use Rattle.gl_arrival.specs.Changes.{framed_at, framed_by_key_at, kept_at, mapped_at, moved}
use Rattle.gl_arrival.specs.Laws.{Rises}
use Rattle.gl_arrival.specs.Places.{Placed, at_places, rows_of}
use Rattle.gl_arrival.specs.Results.{Arrivals, IsArrival, IsByArrival, IsChangedInPlace, IsPartedInPlace, IsWithoutPlaces}
use Rattle.gl_arrival.proofs.ChangeLemmas.{each_moved, kept_moved, mapped_moved, rows_moved}
use Rattle.gl_arrival.proofs.SideLemmas.{by_arrival_moved, keeps_order}
use Rattle.gl_frames.specs.Frames.{by_key}
use Rattle.gl_values.specs.Lists.{has_further}
use Rattle.gl_algebra.specs.declared.node.PlanKey.{PlanKey}
use Rattle.gl_algebra.specs.declared.node.PlanNode.{PlanNode}
use Rattle.gl_algebra.specs.declared.node.PlanNode.TheVariants.{Stream, Body, Compute, Select, Project, Frames, Aggregate, Union, Merge, Beside, Window, TimeWindow, Group, Partition}
use Rattle.gl_algebra.specs.Fits.{IsPlan, Suits}
use Rattle.gl_algebra.specs.Laws.{ResultsGoByOrder, TurnInto}
use Rattle.gl_algebra.specs.Nodewise.{named_by}
use Rattle.gl_algebra.specs.Results.{Arriving, Inputs, IsFramedInPlace, IsPlanArrival, IsPlanResult, Meaning, arriving_from, computed, given, meaning_from, projected, row_of_frames, times_with, totalled}
use Rattle.gl_algebra.specs.Shapes.{Pace, Shape, once, shape_of, unsteady, with_body, with_stream}
use Rattle.gl_algebra.specs.Values.{Sets}
use Rattle.gl_algebra.proofs.PlanLemmas.{by_nodes}
use Rattle.gl_algebra.proofs.ReadLemmas.{Reads, Within, body_reads, both_within, changed_by, changed_within, framed_by, named_within, parts_within}
use Rattle.gl_algebra.proofs.TableLemmas.{nodes_follow_tables}

-- ---- results with places

module _ (g : ℕ → ℕ) (rises : Rises g) where
  -- each of the second results is one of the first, its places turned
  abbrev TurnsBack : Arrivals → Arrivals → Type 0
  TurnsBack R S = (out : List (Placed Row)) (spill : Bool) → S out spill → (xs : List (Placed Row)) × (out ≡ moved g xs) × R xs spill

  leaf_back : (first second : List (Placed Row)) → second ≡ moved g first → TurnsBack (IsArrival first) (IsArrival second)
  leaf_back first second same out spill r = (first, r.rows ∙ same, record { rows = refl; kept = r.kept })

  changed_back : (R S : Arrivals) (change : List (Placed Row) → List (Placed Row)) → ((xs : List (Placed Row)) → change (moved g xs) ≡ moved g (change xs))
      → TurnsBack R S → TurnsBack (IsChangedInPlace R change) (IsChangedInPlace S change)
  changed_back R S change same back out spill r =
      let b = back r.rows spill r.of_source in
      (change b.0, r.changed ∙ ap change b.1 ∙ same b.0, record { rows = b.0; of_source = b.2; changed = refl })

  parted_back : (R S : Arrivals) (change : List (Placed Row) → List (Placed Row)) (further : List Row → Bool)
      → ((xs : List (Placed Row)) → change (moved g xs) ≡ moved g (change xs)) → TurnsBack R S
      → TurnsBack (IsPartedInPlace R change further) (IsPartedInPlace S change further)
  parted_back R S change further same back out spill r =
      let b = back r.rows r.source_spill r.of_source in (
        change b.0,
        r.changed ∙ ap change b.1 ∙ same b.0,
        record {
          rows = b.0;
          source_spill = r.source_spill;
          of_source = b.2;
          changed = refl;
          any = r.any ∙ ap (λ (l : List Row). r.source_spill || further l) (ap (λ (l : List (Placed Row)). rows_of l) b.1 ∙ rows_moved g b.0);
        },
      )

  framed_back : (R S : Arrivals) (by : Option PlanKey) (row : List Row → Row) → TurnsBack R S → TurnsBack (IsFramedInPlace by row R) (IsFramedInPlace by row S)
  framed_back R S None row back = changed_back R S (framed_at row) (λ xs. each_moved (λ seen. Some (row seen)) g [] xs) back
  framed_back R S (Some by) row back =
      parted_back R S (framed_by_key_at by.groups (λ x. slice_index x by.key) row) (has_further by.groups (λ x. slice_index x by.key))
      (λ xs. each_moved (by_key by.groups (λ x. slice_index x by.key) row) g [] xs) back

  -- a change that goes by the words of the parameters, which are the same
  changed_back_by : (R S : Arrivals) (step : Sets → List (Placed Row) → List (Placed Row)) (u w : Sets) → u ≡ w
      → ((xs : List (Placed Row)) → step u (moved g xs) ≡ moved g (step u xs)) → TurnsBack R S
      → TurnsBack (IsChangedInPlace R (step u)) (IsChangedInPlace S (step w))
  changed_back_by R S step u w e same back =
      subst (λ (z : Sets). TurnsBack (IsChangedInPlace R (step u)) (IsChangedInPlace S (step z))) e (changed_back R S (step u) same back)

  framed_back_by : (R S : Arrivals) (by : Option PlanKey) (row : Sets → List Row → Row) (u w : Sets) → u ≡ w → TurnsBack R S
      → TurnsBack (IsFramedInPlace by (row u) R) (IsFramedInPlace by (row w) S)
  framed_back_by R S by row u w e back =
      subst (λ (z : Sets). TurnsBack (IsFramedInPlace by (row u) R) (IsFramedInPlace by (row z) S)) e (framed_back R S by (row u) back)

  merged_back : (L R L' R' : Arrivals) → TurnsBack L L' → TurnsBack R R' → TurnsBack (IsByArrival L R) (IsByArrival L' R')
  merged_back L R L' R' left right out spill r =
      let a = left r.left r.left_spill r.of_left in
      let b = right r.right r.right_spill r.of_right in (
        by_arrival a.0 b.0,
        r.in_order ∙ ap (λ (l : List (Placed Row)). by_arrival l r.right) a.1 ∙ ap (λ (l : List (Placed Row)). by_arrival (moved g a.0) l) b.1
            ∙ by_arrival_moved g a.0 b.0 (keeps_order g rises a.0 b.0),
        record {
          left = a.0;
          right = b.0;
          left_spill = r.left_spill;
          right_spill = r.right_spill;
          of_left = a.2;
          of_right = b.2;
          in_order = refl;
          either = r.either;
        },
      )

  without_back : (R S : Arrivals) → TurnsBack R S → Within (IsWithoutPlaces S) (IsWithoutPlaces R)
  without_back R S back out spill r =
      let b = back r.rows spill r.of_source in
      record { rows = b.0; of_source = b.2; without = r.without ∙ ap (λ (l : List (Placed Row)). rows_of l) b.1 ∙ rows_moved g b.0 }

  abbrev OrderedInPlace : (ℕ → Arriving) → ℕ → Type 0
  OrderedInPlace arrivals child = (inputs others : Inputs) → TurnInto g inputs others → TurnsBack (arrivals child inputs) (arrivals child others)

  row_ordered_in_place : (s : ℕ → Shape) (v : ℕ → Arriving) (node : PlanNode) → All (OrderedInPlace v) (named_by node)
      → (inputs others : Inputs) → TurnInto g inputs others → TurnsBack (arriving_from s v node inputs) (arriving_from s v node others)
  row_ordered_in_place s v (Stream number kinds) each inputs others turn =
      leaf_back (at_places (inputs.streams number) (inputs.places number)) (at_places (others.streams number) (others.places number)) (turn.places number)
  row_ordered_in_place s v (Body kinds) each inputs others turn =
      leaf_back (at_places inputs.body inputs.body_places) (at_places others.body others.body_places) turn.body_places
  row_ordered_in_place s v (Compute child ops) each inputs others turn =
      changed_back_by (v child inputs) (v child others) (λ u. mapped_at (computed u (s child).kinds ops)) inputs.sets others.sets turn.sets
      (λ xs. mapped_moved (computed inputs.sets (s child).kinds ops) g xs) (each 0 0 (lit< tt) inputs others turn)
  row_ordered_in_place s v (Select child column) each inputs others turn =
      changed_back (v child inputs) (v child others) (kept_at (λ row. nat_eq (slice_index row column) 1)) (λ xs. kept_moved (λ row. nat_eq (slice_index row column) 1) g xs)
      (each 0 0 (lit< tt) inputs others turn)
  row_ordered_in_place s v (Project child items) each inputs others turn =
      changed_back_by (v child inputs) (v child others) (λ u. mapped_at (projected u items)) inputs.sets others.sets turn.sets
      (λ xs. mapped_moved (projected inputs.sets items) g xs) (each 0 0 (lit< tt) inputs others turn)
  row_ordered_in_place s v (Frames child by items) each inputs others turn =
      framed_back_by (v child inputs) (v child others) by (λ u. row_of_frames u (s child).kinds items) inputs.sets others.sets turn.sets (each 0 0 (lit< tt) inputs others turn)
  row_ordered_in_place s v (Aggregate child aggs) each inputs others turn = λ out spill r. absurd r
  row_ordered_in_place s v (Union left right) each inputs others turn = λ out spill r. absurd r
  row_ordered_in_place s v (Merge left right) each inputs others turn =
      merged_back (v left inputs) (v right inputs) (v left others) (v right others) (each 0 0 (lit< tt) inputs others turn) (each 1 0 (lit< tt) inputs others turn)
  row_ordered_in_place s v (Beside left right) each inputs others turn = λ out spill r. absurd r
  row_ordered_in_place s v (Window source body size advance) each inputs others turn = λ out spill r. absurd r
  row_ordered_in_place s v (TimeWindow source body size advance) each inputs others turn = λ out spill r. absurd r
  row_ordered_in_place s v (Group source body key count) each inputs others turn = λ out spill r. absurd r
  row_ordered_in_place s v (Partition source body key count size advance) each inputs others turn = λ out spill r. absurd r

  ordered_in_place : (nodes : List PlanNode) (number : ℕ) → IsPlan nodes → number < length nodes → OrderedInPlace (IsPlanArrival nodes) number
  ordered_in_place nodes number plan within =
      by_nodes nodes plan (OrderedInPlace (IsPlanArrival nodes))
      (λ n node is fits before inputs others turn out spill r.
      let follows = nodes_follow_tables nodes n node plan is in
      let b = row_ordered_in_place (shape_of nodes) (IsPlanArrival nodes) node (λ k d h. before _ (fits.before k d h)) inputs others turn out spill
      ((follows.arrivals others out spill).0 r) in
      (b.0, b.1, (follows.arrivals inputs b.0 spill).1 b.2))
      number within

  -- ---- results

  abbrev Ordered : (ℕ → Meaning) → ℕ → Type 0
  Ordered meanings child = (inputs others : Inputs) → TurnInto g inputs others → Within (meanings child others) (meanings child inputs)

  same_times : (pace : Pace) (inputs others : Inputs) → ((number : ℕ) → inputs.times number ≡ others.times number) → times_with pace inputs ≡ times_with pace others
  same_times unsteady inputs others same = refl
  same_times once inputs others same = refl
  same_times (with_stream number) inputs others same = same number
  same_times with_body inputs others same = refl

  row_ordered : (s : ℕ → Shape) (v : ℕ → Arriving) (m : ℕ → Meaning) (node : PlanNode) → Suits s node → All (OrderedInPlace v) (named_by node) → All (Reads s m) (named_by node)
      → All (Ordered m) (named_by node)
      → (inputs others : Inputs) → TurnInto g inputs others → Within (meaning_from s v m node others) (meaning_from s v m node inputs)
  row_ordered s v m (Stream number kinds) suits placed reads each inputs others turn = λ out spill r. record { rows = r.rows ∙ sym (turn.streams number); kept = r.kept }
  row_ordered s v m (Body kinds) suits placed reads each inputs others turn = λ out spill r. record { rows = r.rows ∙ sym turn.body; kept = r.kept }
  row_ordered s v m (Compute child ops) suits placed reads each inputs others turn =
      changed_by _ _ (λ u. map (computed u (s child).kinds ops)) others.sets inputs.sets (sym turn.sets) (each 0 0 (lit< tt) inputs others turn)
  row_ordered s v m (Select child column) suits placed reads each inputs others turn = changed_within _ _ _ (each 0 0 (lit< tt) inputs others turn)
  row_ordered s v m (Project child items) suits placed reads each inputs others turn =
      changed_by _ _ (λ u. map (projected u items)) others.sets inputs.sets (sym turn.sets) (each 0 0 (lit< tt) inputs others turn)
  row_ordered s v m (Frames child by items) suits placed reads each inputs others turn =
      framed_by (m child others) (m child inputs) by (λ u. row_of_frames u (s child).kinds items) others.sets inputs.sets (sym turn.sets) (each 0 0 (lit< tt) inputs others turn)
  row_ordered s v m (Aggregate child aggs) suits placed reads each inputs others turn =
      changed_by _ _ (λ u. totalled u (s child).kinds aggs) others.sets inputs.sets (sym turn.sets) (each 0 0 (lit< tt) inputs others turn)
  row_ordered s v m (Union left right) suits placed reads each inputs others turn =
      both_within _ _ _ _ IsInterleaving (each 0 0 (lit< tt) inputs others turn) (each 1 0 (lit< tt) inputs others turn)
  row_ordered s v m (Merge left right) suits placed reads each inputs others turn =
      without_back (IsByArrival (v left inputs) (v right inputs)) (IsByArrival (v left others) (v right others))
      (merged_back (v left inputs) (v right inputs) (v left others) (v right others) (placed 0 0 (lit< tt) inputs others turn) (placed 1 0 (lit< tt) inputs others turn))
  row_ordered s v m (Beside left right) suits placed reads each inputs others turn =
      both_within _ _ _ _ AreBeside (each 0 0 (lit< tt) inputs others turn) (each 1 0 (lit< tt) inputs others turn)
  row_ordered s v m (Window source body size advance) suits placed reads each inputs others turn =
      parts_within _ _ (slices size advance) (λ slice. m body (given others slice)) (λ slice. m body (given inputs slice)) (λ rows. false)
      (each 0 0 (lit< tt) inputs others turn)
      (λ slice. reads 1 0 (lit< tt) (s source).kinds suits.0.leaves (given others slice) (given inputs slice) (record { rows = refl; places = refl; sets = sym turn.sets }))
  row_ordered s v m (TimeWindow source body size advance) suits placed reads each inputs others turn = λ out spill r.
      parts_within _ _ (tslices size advance (times_with (s source).pace inputs) inputs.ticks) (λ slice. m body (given others slice)) (λ slice. m body (given inputs slice)) (λ rows. false)
      (each 0 0 (lit< tt) inputs others turn)
      (λ slice. reads 1 0 (lit< tt) (s source).kinds suits.0.leaves (given others slice) (given inputs slice) (record { rows = refl; places = refl; sets = sym turn.sets }))
      out spill
      (subst (λ (n : ℕ). IsOfParts (m source others) (tslices size advance (times_with (s source).pace inputs) n) (λ slice. m body (given others slice)) (λ rows. false) out spill) (sym turn.ticks)
      (subst (λ (ts : List ℕ). IsOfParts (m source others) (tslices size advance ts others.ticks) (λ slice. m body (given others slice)) (λ rows. false) out spill)
      (sym (same_times (s source).pace inputs others turn.times)) r))
  row_ordered s v m (Group source body key count) suits placed reads each inputs others turn =
      parts_within _ _ _ (IsOfGroup (λ rows. m body (given others rows))) (IsOfGroup (λ rows. m body (given inputs rows))) _
      (each 0 0 (lit< tt) inputs others turn)
      (λ (group : GroupOf Row). changed_within _ _ _
      (reads 1 0 (lit< tt) (s source).kinds suits.0.leaves (given others group.rows) (given inputs group.rows) (record { rows = refl; places = refl; sets = sym turn.sets })))
  row_ordered s v m (Partition source body key count size advance) suits placed reads each inputs others turn =
      parts_within _ _ _ (IsOfGroup (λ rows. m body (given others rows))) (IsOfGroup (λ rows. m body (given inputs rows))) _
      (each 0 0 (lit< tt) inputs others turn)
      (λ (group : GroupOf Row). changed_within _ _ _
      (reads 1 0 (lit< tt) (s source).kinds suits.0.leaves (given others group.rows) (given inputs group.rows) (record { rows = refl; places = refl; sets = sym turn.sets })))

pub results_go_by_order : ResultsGoByOrder
results_go_by_order nodes number plan within g rises =
    by_nodes nodes plan (Ordered g rises (IsPlanResult nodes))
    (λ n node is fits before inputs others turn out spill r.
    let follows = nodes_follow_tables nodes n node plan is in
    (follows.results inputs out spill).1
    (row_ordered g rises (shape_of nodes) (IsPlanArrival nodes) (IsPlanResult nodes) node fits.suits
    (λ k d h. ordered_in_place g rises nodes _ plan (named_within nodes n node _ is (fits.before k d h)))
    (λ k d h. body_reads nodes _ plan (named_within nodes n node _ is (fits.before k d h)))
    (λ k d h. before _ (fits.before k d h)) inputs others turn out spill
    ((follows.results others out spill).0 r)))
    number within
