-- A node without a union has one result at most.
use Rattle.std.proofs.Common.{◌≡◌, ℕ, suc, ◌<◌, Bool, false, ◌||◌, List, ◌∷◌, length, Some, None, map, nat_eq, slice_index, All, refl, sym, ◌∙◌, arith, lit<}
use Rattle.gl_values.specs.Lists.{slices, groups, Group as GroupOf, has_further}
use Rattle.gl_values.specs.Times.{tslices}
use Rattle.gl_frames.specs.Frames.{framed, framed_by_key}
use Rattle.gl_frames.proofs.ResultLemmas.{one_in_part}
use Rattle.gl_algebra.specs.declared.node.PlanNode.{PlanNode}
use Rattle.gl_algebra.specs.declared.node.PlanNode.TheVariants.{Stream, Body, Compute, Select, Project, Frames, Aggregate, Union, Merge, Beside, Window, TimeWindow, Group, Partition}
use Rattle.gl_values.specs.Partitions.{parts}
use Rattle.gl_algebra.specs.Laws.{has_union_from, has_union, ResultsAreUnique}
use Rattle.gl_algebra.specs.Nodewise.{named_by}
use Rattle.gl_algebra.specs.Shapes.{Shape, shape_of}
use Rattle.gl_values.specs.Results.{Row, IsOfGroup}
use Rattle.gl_bits.proofs.Bools.{neither_parts}
use Rattle.gl_values.proofs.Unique.{HasOne, one_input, one_changed, one_of_parts, one_of_both}
use Rattle.gl_arrival.specs.Places.{at_places}
use Rattle.gl_arrival.specs.Changes.{framed_at, framed_by_key_at, kept_at, mapped_at}
use Rattle.gl_arrival.specs.Results.{HasOneArrival, IsByArrival}
use Rattle.gl_arrival.proofs.ResultLemmas as placed
use Rattle.gl_algebra.specs.Results.{Arriving, Inputs, given, Meaning, arriving_from, computed, selected, projected, row_of_frames, times_with, totalled, meaning_from, IsPlanArrival, IsPlanResult}
use Rattle.gl_algebra.proofs.NodewiseLemmas.{Agree, nodewise-node, FollowsRow}
use Rattle.gl_algebra.specs.Fits.{IsPlan}
use Rattle.gl_algebra.proofs.PlanLemmas.{in_order, by_nodes}
use Rattle.gl_algebra.proofs.ReadLemmas.{named_within}
use Rattle.gl_algebra.proofs.ResultLemmas.{arriving-node, meaning-node, moved, moved_in_place}

-- one result at most for each inputs
abbrev pub IsFunction : Meaning → Type 0
IsFunction M = (inputs : Inputs) → HasOne (M inputs)

none_of_two : (a b : Bool) → (a || (b || false)) ≡ false → (a ≡ false) × (b ≡ false)
none_of_two a b none = let parts = neither_parts a (b || false) none in (parts.0, (neither_parts b false parts.1).0)

-- one result with places at most for each inputs
abbrev IsOneInPlace : Arriving → Type 0
IsOneInPlace M = (inputs : Inputs) → HasOneArrival (M inputs)

rows_one_in_place : (s : ℕ → Shape) (v : ℕ → Arriving) (node : PlanNode) → All (λ child. IsOneInPlace (v child)) (named_by node) → IsOneInPlace (arriving_from s v node)
rows_one_in_place s v (Stream number kinds) one inputs = placed.one_arrival (at_places (inputs.streams number) (inputs.places number))
rows_one_in_place s v (Body kinds) one inputs = placed.one_arrival (at_places inputs.body inputs.body_places)
rows_one_in_place s v (Compute child ops) one inputs =
    placed.one_changed (v child inputs) (mapped_at (computed inputs.sets (s child).kinds ops)) (one 0 0 (lit< tt) inputs)
rows_one_in_place s v (Select child column) one inputs =
    placed.one_changed (v child inputs) (kept_at (λ row. nat_eq (slice_index row column) 1)) (one 0 0 (lit< tt) inputs)
rows_one_in_place s v (Project child items) one inputs = placed.one_changed (v child inputs) (mapped_at (projected inputs.sets items)) (one 0 0 (lit< tt) inputs)
rows_one_in_place s v (Frames child (Some by) items) one inputs =
    placed.one_parted (v child inputs) (framed_by_key_at by.groups (λ x. slice_index x by.key) (row_of_frames inputs.sets (s child).kinds items))
    (has_further by.groups (λ x. slice_index x by.key)) (one 0 0 (lit< tt) inputs)
rows_one_in_place s v (Frames child None items) one inputs =
    placed.one_changed (v child inputs) (framed_at (row_of_frames inputs.sets (s child).kinds items)) (one 0 0 (lit< tt) inputs)
rows_one_in_place s v (Aggregate child aggs) one inputs = λ out out' spill spill' a b. absurd a
rows_one_in_place s v (Union left right) one inputs = λ out out' spill spill' a b. absurd a
rows_one_in_place s v (Merge left right) one inputs =
    placed.one_by_arrival (v left inputs) (v right inputs) (one 0 0 (lit< tt) inputs) (one 1 0 (lit< tt) inputs)
rows_one_in_place s v (Beside left right) one inputs = λ out out' spill spill' a b. absurd a
rows_one_in_place s v (Window source body size advance) one inputs = λ out out' spill spill' a b. absurd a
rows_one_in_place s v (TimeWindow source body size advance) one inputs = λ out out' spill spill' a b. absurd a
rows_one_in_place s v (Group source body key count) one inputs = λ out out' spill spill' a b. absurd a
rows_one_in_place s v (Partition source body key count size advance) one inputs = λ out out' spill spill' a b. absurd a

one_in_place : (nodes : List PlanNode) (number : ℕ) → IsPlan nodes → number < length nodes → IsOneInPlace (IsPlanArrival nodes number)
one_in_place nodes number plan within =
    by_nodes nodes plan (λ n. IsOneInPlace (IsPlanArrival nodes n))
    (λ n node is fits before inputs out out' spill spill' r r'.
    let arriving = arriving-node nodes (suc n) (in_order nodes plan (suc n)) n node (omega arith) is in
    rows_one_in_place (shape_of nodes) (IsPlanArrival nodes) node (λ k d h. before _ (fits.before k d h)) inputs out out' spill spill'
    (moved_in_place _ _ arriving inputs out spill r) (moved_in_place _ _ arriving inputs out' spill' r'))
    number within

rows_one : (s : ℕ → Shape) (v : ℕ → Arriving) (m : ℕ → Meaning) (u : ℕ → Bool) (node : PlanNode) → All (λ child. IsOneInPlace (v child)) (named_by node)
    → All (λ child. u child ≡ false → IsFunction (m child)) (named_by node) → has_union_from u node ≡ false → IsFunction (meaning_from s v m node)
rows_one s v m u (Stream number kinds) alone one none inputs = one_input (inputs.streams number)
rows_one s v m u (Body kinds) alone one none inputs = one_input inputs.body
rows_one s v m u (Compute child ops) alone one none inputs =
    one_changed (m child inputs) (map (computed inputs.sets (s child).kinds ops)) (one 0 0 (lit< tt) (neither_parts (u child) false none).0 inputs)
rows_one s v m u (Select child column) alone one none inputs =
    one_changed (m child inputs) (selected column) (one 0 0 (lit< tt) (neither_parts (u child) false none).0 inputs)
rows_one s v m u (Project child items) alone one none inputs =
    one_changed (m child inputs) (map (projected inputs.sets items)) (one 0 0 (lit< tt) (neither_parts (u child) false none).0 inputs)
rows_one s v m u (Frames child (Some by) items) alone one none inputs =
    one_in_part (m child inputs) (framed_by_key by.groups (λ x. slice_index x by.key) (row_of_frames inputs.sets (s child).kinds items))
    (has_further by.groups (λ x. slice_index x by.key)) (one 0 0 (lit< tt) (neither_parts (u child) false none).0 inputs)
rows_one s v m u (Frames child None items) alone one none inputs =
    one_changed (m child inputs) (framed (row_of_frames inputs.sets (s child).kinds items)) (one 0 0 (lit< tt) (neither_parts (u child) false none).0 inputs)
rows_one s v m u (Aggregate child aggs) alone one none inputs =
    one_changed (m child inputs) (totalled inputs.sets (s child).kinds aggs) (one 0 0 (lit< tt) (neither_parts (u child) false none).0 inputs)
rows_one s v m u (Union left right) alone one none inputs = absurd (cc)
rows_one s v m u (Merge left right) alone one none inputs =
    placed.one_without (IsByArrival (v left inputs) (v right inputs))
    (placed.one_by_arrival (v left inputs) (v right inputs) (alone 0 0 (lit< tt) inputs) (alone 1 0 (lit< tt) inputs))
rows_one s v m u (Beside left right) alone one none inputs =
    let sides = none_of_two (u left) (u right) none in
    one_of_both (m left inputs) (m right inputs) (one 0 0 (lit< tt) sides.0 inputs) (one 1 0 (lit< tt) sides.1 inputs)
rows_one s v m u (Window source body size advance) alone one none inputs =
    let sides = none_of_two (u source) (u body) none in
    one_of_parts (m source inputs) (slices size advance) (λ slice. m body (given inputs slice)) (λ rows. false)
    (one 0 0 (lit< tt) sides.0 inputs) (λ slice. one 1 0 (lit< tt) sides.1 (given inputs slice))
rows_one s v m u (TimeWindow source body size advance) alone one none inputs =
    let sides = none_of_two (u source) (u body) none in
    one_of_parts (m source inputs) (tslices size advance (times_with (s source).pace inputs) inputs.ticks) (λ slice. m body (given inputs slice))
    (λ rows. false) (one 0 0 (lit< tt) sides.0 inputs) (λ slice. one 1 0 (lit< tt) sides.1 (given inputs slice))
rows_one s v m u (Group source body key count) alone one none inputs =
    let sides = none_of_two (u source) (u body) none in
    one_of_parts (m source inputs) (groups count (λ row. slice_index row key))
    (IsOfGroup (λ rows. m body (given inputs rows))) (has_further count (λ row. slice_index row key))
    (one 0 0 (lit< tt) sides.0 inputs)
    (λ (group : GroupOf Row). one_changed (m body (given inputs group.rows)) (map (λ row. group.key ∷ row))
    (one 1 0 (lit< tt) sides.1 (given inputs group.rows)))
rows_one s v m u (Partition source body key count size advance) alone one none inputs =
    let sides = none_of_two (u source) (u body) none in
    one_of_parts (m source inputs) (parts count (λ row. slice_index row key) size advance)
    (IsOfGroup (λ rows. m body (given inputs rows))) (has_further count (λ row. slice_index row key))
    (one 0 0 (lit< tt) sides.0 inputs)
    (λ (group : GroupOf Row). one_changed (m body (given inputs group.rows)) (map (λ row. group.key ∷ row))
    (one 1 0 (lit< tt) sides.1 (given inputs group.rows)))

union_local : (v w : ℕ → Bool) (node : PlanNode) → Agree v w (named_by node) → has_union_from v node ≡ has_union_from w node
union_local v w (Stream number kinds) h = refl
union_local v w (Body kinds) h = refl
union_local v w (Compute child ops) h = λ i. h.0 i || false
union_local v w (Select child column) h = λ i. h.0 i || false
union_local v w (Project child items) h = λ i. h.0 i || false
union_local v w (Frames child by items) h = λ i. h.0 i || false
union_local v w (Aggregate child aggs) h = λ i. h.0 i || false
union_local v w (Union left right) h = refl
union_local v w (Merge left right) h = λ i. h.0 i || (h.1.0 i || false)
union_local v w (Beside left right) h = λ i. h.0 i || (h.1.0 i || false)
union_local v w (Window source body size advance) h = λ i. h.0 i || (h.1.0 i || false)
union_local v w (TimeWindow source body size advance) h = λ i. h.0 i || (h.1.0 i || false)
union_local v w (Group source body key count) h = λ i. h.0 i || (h.1.0 i || false)
union_local v w (Partition source body key count size advance) h = λ i. h.0 i || (h.1.0 i || false)

union-node : FollowsRow has_union (λ nodes. has_union_from)
unfolding has_union
union-node nodes limit order number node below is =
    nodewise-node has_union_from false nodes limit order (λ at x in_limit was v w same. union_local v w x same) number node below is

pub results_are_unique : ResultsAreUnique
results_are_unique nodes number plan within =
    by_nodes nodes plan (λ n. has_union nodes n ≡ false → IsFunction (IsPlanResult nodes n))
    (λ n node is fits before none inputs out out' spill spill' r r'.
    let order = in_order nodes plan (suc n) in
    let meaning = meaning-node nodes (suc n) order n node (omega arith) is in
    rows_one (shape_of nodes) (IsPlanArrival nodes) (IsPlanResult nodes) (has_union nodes) node
    (λ k d h. one_in_place nodes _ plan (named_within nodes n node _ is (fits.before k d h))) (λ k d h. before _ (fits.before k d h))
    (sym (union-node nodes (suc n) order n node (omega arith) is) ∙ none)
    inputs out out' spill spill'
    (moved _ _ meaning inputs out spill r) (moved _ _ meaning inputs out' spill' r'))
    number within
