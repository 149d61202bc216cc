-- A node whose leaves are all a body's input reads that input alone, and without a window of time no node reads the time.
use Rattle.std.proofs.Common.{◌≡◌, ℕ, ◌<◌, List, [], ◌∷◌, length, Bool, true, false, All, Option, Some, None, map, slice_get, refl, sym, ap, ◌∙◌, subst, arith, lit<}
use Rattle.std.proofs.lemmas.Bool.{false_from_ne_true}
use Rattle.std.proofs.lemmas.Option.{slice_get_within}
use Rattle.gl_values.specs.declared.kind.Kind.{Kind}
use Rattle.gl_values.specs.Lists.{slices, Group as GroupOf, IsInterleaving}
use Rattle.gl_frames.specs.Frames.{framed}
use Rattle.gl_algebra.specs.declared.node.PlanKey.{PlanKey}
use Rattle.gl_algebra.specs.declared.node.PlanNode.{PlanNode}
use Rattle.gl_algebra.specs.declared.node.PlanNode.TheVariants.{Stream, Body, Compute, Select, Project, Frames, Aggregate, Union, Merge, Beside, Window, TimeWindow, Group, Partition}
use Rattle.gl_algebra.specs.Fits.{IsOverStream, IsPlan, Suits}
use Rattle.gl_algebra.specs.Laws.{BodiesReadTheirInput, HaveSameBody, HaveSameRows, UntimedResults}
use Rattle.gl_algebra.specs.Nodewise.{named_by}
use Rattle.gl_values.specs.Results.{Row, Results, IsChanged, IsOfBoth, AreBeside, AreJoined, IsOfParts, IsOfGroup}
use Rattle.gl_arrival.specs.Places.{Placed, at_places}
use Rattle.gl_arrival.specs.Changes.{framed_at, mapped_at}
use Rattle.gl_arrival.specs.Results.{Arrivals, IsByArrival, IsChangedInPlace, IsWithoutPlaces}
use Rattle.gl_algebra.specs.Results.{Arriving, Inputs, IsFramed, IsFramedInPlace, Meaning, arriving_from, given, meaning_from, row_of_frames, IsPlanArrival, IsPlanResult, computed, projected, totalled}
use Rattle.gl_algebra.specs.Shapes.{Shape, shape_of, shape_from}
use Rattle.gl_algebra.specs.Values.{Sets}
use Rattle.gl_algebra.specs.Views.{is_time, reads_time}
use Rattle.gl_algebra.proofs.ListLemmas.{all_left, all_right, any_at}
use Rattle.gl_algebra.proofs.PlanLemmas.{by_nodes}
use Rattle.gl_algebra.proofs.TableLemmas.{nodes_follow_tables}

-- each of the first results is among the second
abbrev pub Within : Results → Results → Type 0
Within R S = (out : List Row) (spill : Bool) → R out spill → S out spill

pub changed_within : (R S : Results) (change : List Row → List Row) → Within R S → Within (IsChanged R change) (IsChanged S change)
changed_within R S change within out spill r = record {
  rows = r.rows;
  of_source = within r.rows spill r.of_source;
  changed = r.changed;
}

pub both_within : (L R L' R' : Results) (Join : List Row → List Row → List Row → Type 0) → Within L L' → Within R R'
    → Within (IsOfBoth L R Join) (IsOfBoth L' R' Join)
both_within L R L' R' Join left right out spill r = record {
  left = r.left;
  right = r.right;
  left_spill = r.left_spill;
  right_spill = r.right_spill;
  of_left = left r.left r.left_spill r.of_left;
  of_right = right r.right r.right_spill r.of_right;
  join = r.join;
  either = r.either;
}

joined_within : {Part : Type 0} (P Q : Part → Results) → ((part : Part) → Within (P part) (Q part)) → (parts : List Part)
    → Within (AreJoined P parts) (AreJoined Q parts)
joined_within P Q within [] out spill r = r
joined_within P Q within (part ∷ parts) out spill r =
    (r.0, r.1, r.2, r.3, within part r.0 r.2 r.4, joined_within P Q within parts r.1 r.3 r.5, r.6, r.7)

pub parts_within : {Part : Type 0} (R S : Results) (parts : List Row → List Part) (P Q : Part → Results) (further : List Row → Bool)
    → Within R S → ((part : Part) → Within (P part) (Q part)) → Within (IsOfParts R parts P further) (IsOfParts S parts Q further)
parts_within R S parts P Q further source each out spill r = record {
  rows = r.rows;
  source_spill = r.source_spill;
  parts_spill = r.parts_spill;
  of_source = source r.rows r.source_spill r.of_source;
  of_parts = joined_within P Q each (parts r.rows) out r.parts_spill r.of_parts;
  any = r.any;
}

pub framed_within : (R S : Results) (by : Option PlanKey) (row : List Row → Row) → Within R S → Within (IsFramed by row R) (IsFramed by row S)
framed_within R S None row within = changed_within R S (framed row) within
framed_within R S (Some by) row within = λ out spill r. record {
  rows = r.rows;
  source_spill = r.source_spill;
  of_source = within r.rows r.source_spill r.of_source;
  changed = r.changed;
  any = r.any;
}

-- a step that goes by the words of the parameters, which are the same
pub changed_by : (R S : Results) (step : Sets → List Row → List Row) (u v : Sets) → u ≡ v → Within R S
    → Within (IsChanged R (step u)) (IsChanged S (step v))
changed_by R S step u v e within =
    subst (λ (w : Sets). Within (IsChanged R (step u)) (IsChanged S (step w))) e (changed_within R S (step u) within)

pub framed_by : (R S : Results) (by : Option PlanKey) (row : Sets → List Row → Row) (u v : Sets) → u ≡ v → Within R S
    → Within (IsFramed by (row u) R) (IsFramed by (row v) S)
framed_by R S by row u v e within =
    subst (λ (w : Sets). Within (IsFramed by (row u) R) (IsFramed by (row w) S)) e (framed_within R S by (row u) within)

-- ---- results with places

-- each of the first results with places is among the second
abbrev pub WithinInPlace : Arrivals → Arrivals → Type 0
WithinInPlace R S = (out : List (Placed Row)) (spill : Bool) → R out spill → S out spill

changed_in_place : (R S : Arrivals) (change : List (Placed Row) → List (Placed Row)) → WithinInPlace R S → WithinInPlace (IsChangedInPlace R change) (IsChangedInPlace S change)
changed_in_place R S change within out spill r = record {
  rows = r.rows;
  of_source = within r.rows spill r.of_source;
  changed = r.changed;
}

pub framed_in_place : (R S : Arrivals) (by : Option PlanKey) (row : List Row → Row) → WithinInPlace R S → WithinInPlace (IsFramedInPlace by row R) (IsFramedInPlace by row S)
framed_in_place R S None row within = changed_in_place R S (framed_at row) within
framed_in_place R S (Some by) row within = λ out spill r. record {
  rows = r.rows;
  source_spill = r.source_spill;
  of_source = within r.rows r.source_spill r.of_source;
  changed = r.changed;
  any = r.any;
}

changed_in_place_by : (R S : Arrivals) (step : Sets → List (Placed Row) → List (Placed Row)) (u v : Sets) → u ≡ v → WithinInPlace R S
    → WithinInPlace (IsChangedInPlace R (step u)) (IsChangedInPlace S (step v))
changed_in_place_by R S step u v e within =
    subst (λ (w : Sets). WithinInPlace (IsChangedInPlace R (step u)) (IsChangedInPlace S (step w))) e (changed_in_place R S (step u) within)

framed_in_place_by : (R S : Arrivals) (by : Option PlanKey) (row : Sets → List Row → Row) (u v : Sets) → u ≡ v → WithinInPlace R S
    → WithinInPlace (IsFramedInPlace by (row u) R) (IsFramedInPlace by (row v) S)
framed_in_place_by R S by row u v e within =
    subst (λ (w : Sets). WithinInPlace (IsFramedInPlace by (row u) R) (IsFramedInPlace by (row w) S)) e (framed_in_place R S by (row u) within)

by_arrival_in_place : (L R L' R' : Arrivals) → WithinInPlace L L' → WithinInPlace R R' → WithinInPlace (IsByArrival L R) (IsByArrival L' R')
by_arrival_in_place L R L' R' left right out spill r = record {
  left = r.left;
  right = r.right;
  left_spill = r.left_spill;
  right_spill = r.right_spill;
  of_left = left r.left r.left_spill r.of_left;
  of_right = right r.right r.right_spill r.of_right;
  in_order = r.in_order;
  either = r.either;
}

without_within : (R S : Arrivals) → WithinInPlace R S → Within (IsWithoutPlaces R) (IsWithoutPlaces S)
without_within R S within out spill r = record { rows = r.rows; of_source = within r.rows spill r.of_source; without = r.without }

-- a body's rows at their places
body_placed : (inputs others : Inputs) → HaveSameBody inputs others → at_places inputs.body inputs.body_places ≡ at_places others.body others.body_places
body_placed inputs others same =
    ap (λ (l : List Row). at_places l inputs.body_places) same.rows ∙ ap (λ (ps : List ℕ). at_places others.body ps) same.places

-- a node all of whose leaves are a body's input has the same results with places for inputs that give a body the same
-- rows
abbrev ReadsInPlace : (ℕ → Shape) → (ℕ → Arriving) → ℕ → Type 0
ReadsInPlace shapes arrivals child = (kinds : List Kind) → All (λ leaf. leaf ≡ Body kinds) (shapes child).leaves
    → (inputs others : Inputs) → HaveSameBody inputs others → WithinInPlace (arrivals child inputs) (arrivals child others)

row_reads_in_place : (s : ℕ → Shape) (v : ℕ → Arriving) (node : PlanNode) → All (ReadsInPlace s v) (named_by node)
    → (kinds : List Kind) → All (λ leaf. leaf ≡ Body kinds) (shape_from s node).leaves
    → (inputs others : Inputs) → HaveSameBody inputs others → WithinInPlace (arriving_from s v node inputs) (arriving_from s v node others)
row_reads_in_place s v (Stream number columns) reads kinds leaves inputs others same =
    absurd (let is : Stream number columns ≡ Body kinds = leaves 0 (Body kinds) (lit< tt) in cc)
row_reads_in_place s v (Body columns) reads kinds leaves inputs others same =
    λ out spill r. record { rows = r.rows ∙ body_placed inputs others same; kept = r.kept }
row_reads_in_place s v (Compute child ops) reads kinds leaves inputs others same =
    changed_in_place_by _ _ (λ u. mapped_at (computed u (s child).kinds ops)) inputs.sets others.sets same.sets (reads 0 0 (lit< tt) kinds leaves inputs others same)
row_reads_in_place s v (Select child column) reads kinds leaves inputs others same =
    changed_in_place _ _ _ (reads 0 0 (lit< tt) kinds leaves inputs others same)
row_reads_in_place s v (Project child items) reads kinds leaves inputs others same =
    changed_in_place_by _ _ (λ u. mapped_at (projected u items)) inputs.sets others.sets same.sets (reads 0 0 (lit< tt) kinds leaves inputs others same)
row_reads_in_place s v (Frames child by items) reads kinds leaves inputs others same =
    framed_in_place_by (v child inputs) (v child others) by (λ u. row_of_frames u (s child).kinds items) inputs.sets others.sets same.sets (reads 0 0 (lit< tt) kinds leaves inputs others same)
row_reads_in_place s v (Aggregate child aggs) reads kinds leaves inputs others same = λ out spill r. absurd r
row_reads_in_place s v (Union left right) reads kinds leaves inputs others same = λ out spill r. absurd r
row_reads_in_place s v (Merge left right) reads kinds leaves inputs others same =
    by_arrival_in_place _ _ _ _
    (reads 0 0 (lit< tt) kinds (all_left (λ leaf. leaf ≡ Body kinds) (s left).leaves (s right).leaves leaves) inputs others same)
    (reads 1 0 (lit< tt) kinds (all_right (λ leaf. leaf ≡ Body kinds) (s left).leaves (s right).leaves leaves) inputs others same)
row_reads_in_place s v (Beside left right) reads kinds leaves inputs others same = λ out spill r. absurd r
row_reads_in_place s v (Window source body size advance) reads kinds leaves inputs others same = λ out spill r. absurd r
row_reads_in_place s v (TimeWindow source body size advance) reads kinds leaves inputs others same = λ out spill r. absurd r
row_reads_in_place s v (Group source body key count) reads kinds leaves inputs others same = λ out spill r. absurd r
row_reads_in_place s v (Partition source body key count size advance) reads kinds leaves inputs others same = λ out spill r. absurd r

pub body_reads_in_place : (nodes : List PlanNode) (number : ℕ) → IsPlan nodes → number < length nodes → ReadsInPlace (shape_of nodes) (IsPlanArrival nodes) number
body_reads_in_place nodes number plan within =
    by_nodes nodes plan (ReadsInPlace (shape_of nodes) (IsPlanArrival nodes))
    (λ n node is fits before kinds leaves inputs others same out spill r.
    let follows = nodes_follow_tables nodes n node plan is in
    (follows.arrivals others out spill).1
    (row_reads_in_place (shape_of nodes) (IsPlanArrival nodes) node (λ k d h. before _ (fits.before k d h)) kinds
    (rw follows.shape at leaves) inputs others same out spill ((follows.arrivals inputs out spill).0 r)))
    number within

-- no such result looks at the time
abbrev UntimedInPlace : (ℕ → Arriving) → ℕ → Type 0
UntimedInPlace arrivals child = (inputs others : Inputs) → HaveSameRows inputs others → WithinInPlace (arrivals child inputs) (arrivals child others)

row_untimed_in_place : (s : ℕ → Shape) (v : ℕ → Arriving) (node : PlanNode) → All (UntimedInPlace v) (named_by node)
    → (inputs others : Inputs) → HaveSameRows inputs others → WithinInPlace (arriving_from s v node inputs) (arriving_from s v node others)
row_untimed_in_place s v (Stream number kinds) each inputs others same = λ out spill r. record {
  rows =
      r.rows ∙ ap (λ (l : List Row). at_places l (inputs.places number)) (same.streams number)
      ∙ ap (λ (l : List ℕ). at_places (others.streams number) l) (same.places number);
  kept = r.kept;
}
row_untimed_in_place s v (Body kinds) each inputs others same =
    λ out spill r. record { rows = r.rows ∙ body_placed inputs others same.body; kept = r.kept }
row_untimed_in_place s v (Compute child ops) each inputs others same =
    changed_in_place_by _ _ (λ u. mapped_at (computed u (s child).kinds ops)) inputs.sets others.sets same.body.sets (each 0 0 (lit< tt) inputs others same)
row_untimed_in_place s v (Select child column) each inputs others same = changed_in_place _ _ _ (each 0 0 (lit< tt) inputs others same)
row_untimed_in_place s v (Project child items) each inputs others same =
    changed_in_place_by _ _ (λ u. mapped_at (projected u items)) inputs.sets others.sets same.body.sets (each 0 0 (lit< tt) inputs others same)
row_untimed_in_place s v (Frames child by items) each inputs others same =
    framed_in_place_by (v child inputs) (v child others) by (λ u. row_of_frames u (s child).kinds items) inputs.sets others.sets same.body.sets (each 0 0 (lit< tt) inputs others same)
row_untimed_in_place s v (Aggregate child aggs) each inputs others same = λ out spill r. absurd r
row_untimed_in_place s v (Union left right) each inputs others same = λ out spill r. absurd r
row_untimed_in_place s v (Merge left right) each inputs others same =
    by_arrival_in_place _ _ _ _ (each 0 0 (lit< tt) inputs others same) (each 1 0 (lit< tt) inputs others same)
row_untimed_in_place s v (Beside left right) each inputs others same = λ out spill r. absurd r
row_untimed_in_place s v (Window source body size advance) each inputs others same = λ out spill r. absurd r
row_untimed_in_place s v (TimeWindow source body size advance) each inputs others same = λ out spill r. absurd r
row_untimed_in_place s v (Group source body key count) each inputs others same = λ out spill r. absurd r
row_untimed_in_place s v (Partition source body key count size advance) each inputs others same = λ out spill r. absurd r

untimed_in_place : (nodes : List PlanNode) (number : ℕ) → IsPlan nodes → number < length nodes → UntimedInPlace (IsPlanArrival nodes) number
untimed_in_place nodes number plan within =
    by_nodes nodes plan (UntimedInPlace (IsPlanArrival nodes))
    (λ n node is fits before inputs others same out spill r.
    let follows = nodes_follow_tables nodes n node plan is in
    (follows.arrivals others out spill).1
    (row_untimed_in_place (shape_of nodes) (IsPlanArrival nodes) node (λ k d h. before _ (fits.before k d h)) inputs others same out spill
    ((follows.arrivals inputs out spill).0 r)))
    number within

-- what a node names stands in the list
pub named_within : (nodes : List PlanNode) (n : ℕ) (node : PlanNode) (child : ℕ) → slice_get nodes n ≡ Some node → child < n → child < length nodes
named_within nodes n node child is below = omega (arith, below, slice_get_within nodes n node is)

-- ---- results

-- a node all of whose leaves are a body's input has the same results for inputs that give a body the same rows
abbrev pub Reads : (ℕ → Shape) → (ℕ → Meaning) → ℕ → Type 0
Reads shapes meanings child = (kinds : List Kind) → All (λ leaf. leaf ≡ Body kinds) (shapes child).leaves
    → (inputs others : Inputs) → HaveSameBody inputs others → Within (meanings child inputs) (meanings child others)

-- the rows of a window of time come from a stream
abbrev ComesOfStream : (ℕ → Shape) → PlanNode → Type 0
ComesOfStream s (TimeWindow source body size advance) = (number : ℕ) × (kinds : List Kind) × ((s source).leaves ≡ Stream number kinds ∷ [])
ComesOfStream s node = Unit {0}

of_stream : (nodes : List PlanNode) (node : PlanNode) → IsPlan nodes → IsOverStream nodes node → ComesOfStream (shape_of nodes) node
of_stream nodes (TimeWindow source body size advance) plan over =
    (over.0, over.1, ap (λ (x : Shape). x.leaves) (nodes_follow_tables nodes source (Stream over.0 over.1) plan over.2).shape)
of_stream nodes _ plan over = tt

row_reads : (s : ℕ → Shape) (v : ℕ → Arriving) (m : ℕ → Meaning) (node : PlanNode) → Suits s node → ComesOfStream s node → All (ReadsInPlace s v) (named_by node)
    → All (Reads s m) (named_by node)
    → (kinds : List Kind) → All (λ leaf. leaf ≡ Body kinds) (shape_from s node).leaves
    → (inputs others : Inputs) → HaveSameBody inputs others → Within (meaning_from s v m node inputs) (meaning_from s v m node others)
row_reads s v m (Stream number columns) suits timed placed reads kinds leaves inputs others same =
    absurd (let is : Stream number columns ≡ Body kinds = leaves 0 (Body kinds) (lit< tt) in cc)
row_reads s v m (Body columns) suits timed placed reads kinds leaves inputs others same =
    λ out spill r. record { rows = r.rows ∙ same.rows; kept = r.kept }
row_reads s v m (Compute child ops) suits timed placed reads kinds leaves inputs others same =
    changed_by _ _ (λ u. map (computed u (s child).kinds ops)) inputs.sets others.sets same.sets (reads 0 0 (lit< tt) kinds leaves inputs others same)
row_reads s v m (Select child column) suits timed placed reads kinds leaves inputs others same =
    changed_within _ _ _ (reads 0 0 (lit< tt) kinds leaves inputs others same)
row_reads s v m (Project child items) suits timed placed reads kinds leaves inputs others same =
    changed_by _ _ (λ u. map (projected u items)) inputs.sets others.sets same.sets (reads 0 0 (lit< tt) kinds leaves inputs others same)
row_reads s v m (Frames child by items) suits timed placed reads kinds leaves inputs others same =
    framed_by (m child inputs) (m child others) by (λ u. row_of_frames u (s child).kinds items) inputs.sets others.sets same.sets (reads 0 0 (lit< tt) kinds leaves inputs others same)
row_reads s v m (Aggregate child aggs) suits timed placed reads kinds leaves inputs others same =
    changed_by _ _ (λ u. totalled u (s child).kinds aggs) inputs.sets others.sets same.sets (reads 0 0 (lit< tt) kinds leaves inputs others same)
row_reads s v m (Union left right) suits timed placed reads kinds leaves inputs others same =
    both_within _ _ _ _ IsInterleaving
    (reads 0 0 (lit< tt) kinds (all_left (λ leaf. leaf ≡ Body kinds) (s left).leaves (s right).leaves leaves) inputs others same)
    (reads 1 0 (lit< tt) kinds (all_right (λ leaf. leaf ≡ Body kinds) (s left).leaves (s right).leaves leaves) inputs others same)
row_reads s v m (Merge left right) suits timed placed reads kinds leaves inputs others same =
    without_within _ _ (by_arrival_in_place _ _ _ _
    (placed 0 0 (lit< tt) kinds (all_left (λ leaf. leaf ≡ Body kinds) (s left).leaves (s right).leaves leaves) inputs others same)
    (placed 1 0 (lit< tt) kinds (all_right (λ leaf. leaf ≡ Body kinds) (s left).leaves (s right).leaves leaves) inputs others same))
row_reads s v m (Beside left right) suits timed placed reads kinds leaves inputs others same =
    both_within _ _ _ _ AreBeside
    (reads 0 0 (lit< tt) kinds (all_left (λ leaf. leaf ≡ Body kinds) (s left).leaves (s right).leaves leaves) inputs others same)
    (reads 1 0 (lit< tt) kinds (all_right (λ leaf. leaf ≡ Body kinds) (s left).leaves (s right).leaves leaves) inputs others same)
row_reads s v m (Window source body size advance) suits timed placed reads kinds leaves inputs others same =
    parts_within _ _ (slices size advance) (λ slice. m body (given inputs slice)) (λ slice. m body (given others slice)) (λ rows. false)
    (reads 0 0 (lit< tt) kinds leaves inputs others same)
    (λ slice. reads 1 0 (lit< tt) (s source).kinds suits.0.leaves (given inputs slice) (given others slice) (record { rows = refl; places = refl; sets = same.sets }))
row_reads s v m (TimeWindow source body size advance) suits timed placed reads kinds leaves inputs others same =
    let own = subst (λ (ls : List PlanNode). All (λ leaf. leaf ≡ Body kinds) ls) timed.2 leaves in
    absurd (let is : Stream timed.0 timed.1 ≡ Body kinds = own 0 (Body kinds) (lit< tt) in cc)
row_reads s v m (Group source body key count) suits timed placed reads kinds leaves inputs others same =
    parts_within _ _ _ (IsOfGroup (λ rows. m body (given inputs rows))) (IsOfGroup (λ rows. m body (given others rows))) _
    (reads 0 0 (lit< tt) kinds leaves inputs others same)
    (λ (group : GroupOf Row). changed_within _ _ _
    (reads 1 0 (lit< tt) (s source).kinds suits.0.leaves (given inputs group.rows) (given others group.rows) (record { rows = refl; places = refl; sets = same.sets })))
row_reads s v m (Partition source body key count size advance) suits timed placed reads kinds leaves inputs others same =
    parts_within _ _ _ (IsOfGroup (λ rows. m body (given inputs rows))) (IsOfGroup (λ rows. m body (given others rows))) _
    (reads 0 0 (lit< tt) kinds leaves inputs others same)
    (λ (group : GroupOf Row). changed_within _ _ _
    (reads 1 0 (lit< tt) (s source).kinds suits.0.leaves (given inputs group.rows) (given others group.rows) (record { rows = refl; places = refl; sets = same.sets })))

pub body_reads : BodiesReadTheirInput
body_reads nodes number plan within =
    by_nodes nodes plan (Reads (shape_of nodes) (IsPlanResult nodes))
    (λ n node is fits before kinds leaves inputs others same out spill r.
    let follows = nodes_follow_tables nodes n node plan is in
    (follows.results others out spill).1
    (row_reads (shape_of nodes) (IsPlanArrival nodes) (IsPlanResult nodes) node fits.suits (of_stream nodes node plan fits.timed)
    (λ k d h. body_reads_in_place nodes _ plan (named_within nodes n node _ is (fits.before k d h))) (λ k d h. before _ (fits.before k d h)) kinds
    (rw follows.shape at leaves) inputs others same out spill ((follows.results inputs out spill).0 r)))
    number within

-- ---- without a window of time

abbrev Untimed : (ℕ → Meaning) → ℕ → Type 0
Untimed meanings child = (inputs others : Inputs) → HaveSameRows inputs others → Within (meanings child inputs) (meanings child others)

row_untimed : (s : ℕ → Shape) (v : ℕ → Arriving) (m : ℕ → Meaning) (node : PlanNode) → is_time node ≡ false → All (UntimedInPlace v) (named_by node) → All (Untimed m) (named_by node)
    → (inputs others : Inputs) → HaveSameRows inputs others → Within (meaning_from s v m node inputs) (meaning_from s v m node others)
row_untimed s v m (Stream number kinds) none placed each inputs others same = λ out spill r. record { rows = r.rows ∙ same.streams number; kept = r.kept }
row_untimed s v m (Body kinds) none placed each inputs others same = λ out spill r. record { rows = r.rows ∙ same.body.rows; kept = r.kept }
row_untimed s v m (Compute child ops) none placed each inputs others same =
    changed_by _ _ (λ u. map (computed u (s child).kinds ops)) inputs.sets others.sets same.body.sets (each 0 0 (lit< tt) inputs others same)
row_untimed s v m (Select child column) none placed each inputs others same = changed_within _ _ _ (each 0 0 (lit< tt) inputs others same)
row_untimed s v m (Project child items) none placed each inputs others same =
    changed_by _ _ (λ u. map (projected u items)) inputs.sets others.sets same.body.sets (each 0 0 (lit< tt) inputs others same)
row_untimed s v m (Frames child by items) none placed each inputs others same =
    framed_by (m child inputs) (m child others) by (λ u. row_of_frames u (s child).kinds items) inputs.sets others.sets same.body.sets (each 0 0 (lit< tt) inputs others same)
row_untimed s v m (Aggregate child aggs) none placed each inputs others same =
    changed_by _ _ (λ u. totalled u (s child).kinds aggs) inputs.sets others.sets same.body.sets (each 0 0 (lit< tt) inputs others same)
row_untimed s v m (Union left right) none placed each inputs others same =
    both_within _ _ _ _ IsInterleaving (each 0 0 (lit< tt) inputs others same) (each 1 0 (lit< tt) inputs others same)
row_untimed s v m (Merge left right) none placed each inputs others same =
    without_within _ _ (by_arrival_in_place _ _ _ _ (placed 0 0 (lit< tt) inputs others same) (placed 1 0 (lit< tt) inputs others same))
row_untimed s v m (Beside left right) none placed each inputs others same =
    both_within _ _ _ _ AreBeside (each 0 0 (lit< tt) inputs others same) (each 1 0 (lit< tt) inputs others same)
row_untimed s v m (Window source body size advance) none placed each inputs others same =
    parts_within _ _ (slices size advance) (λ slice. m body (given inputs slice)) (λ slice. m body (given others slice)) (λ rows. false)
    (each 0 0 (lit< tt) inputs others same)
    (λ slice. each 1 0 (lit< tt) (given inputs slice) (given others slice) (record { streams = same.streams; places = same.places; body = record { rows = refl; places = refl; sets = same.body.sets } }))
row_untimed s v m (TimeWindow source body size advance) none placed each inputs others same = absurd (let z : true ≡ false = none in cc)
row_untimed s v m (Group source body key count) none placed each inputs others same =
    parts_within _ _ _ (IsOfGroup (λ rows. m body (given inputs rows))) (IsOfGroup (λ rows. m body (given others rows))) _
    (each 0 0 (lit< tt) inputs others same)
    (λ (group : GroupOf Row). changed_within _ _ _
    (each 1 0 (lit< tt) (given inputs group.rows) (given others group.rows) (record { streams = same.streams; places = same.places; body = record { rows = refl; places = refl; sets = same.body.sets } })))
row_untimed s v m (Partition source body key count size advance) none placed each inputs others same =
    parts_within _ _ _ (IsOfGroup (λ rows. m body (given inputs rows))) (IsOfGroup (λ rows. m body (given others rows))) _
    (each 0 0 (lit< tt) inputs others same)
    (λ (group : GroupOf Row). changed_within _ _ _
    (each 1 0 (lit< tt) (given inputs group.rows) (given others group.rows) (record { streams = same.streams; places = same.places; body = record { rows = refl; places = refl; sets = same.body.sets } })))

-- no node is one where none reads the time
no_time : (nodes : List PlanNode) (n : ℕ) (node : PlanNode) → reads_time nodes ≡ false → slice_get nodes n ≡ Some node → is_time node ≡ false
no_time nodes n node none is =
    false_from_ne_true (is_time node) (λ h. let z : true ≡ false = sym (any_at is_time nodes n node is h) ∙ none in absurd (cc))

pub results_are_untimed : UntimedResults
results_are_untimed nodes number plan within none =
    by_nodes nodes plan (Untimed (IsPlanResult nodes))
    (λ n node is fits before inputs others same out spill r.
    let follows = nodes_follow_tables nodes n node plan is in
    (follows.results others out spill).1
    (row_untimed (shape_of nodes) (IsPlanArrival nodes) (IsPlanResult nodes) node (no_time nodes n node none is)
    (λ k d h. untimed_in_place nodes _ plan (named_within nodes n node _ is (fits.before k d h))) (λ k d h. before _ (fits.before k d h)) inputs others same out spill
    ((follows.results inputs out spill).0 r)))
    number within
