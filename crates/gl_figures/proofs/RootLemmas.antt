-- The spare copies of a root, and the gaps of its ticks: what they are, which plans have them, and that beats come closer with them.
use Rattle.std.proofs.Common.{◌≡◌, ℕ, ◌+◌, ◌*◌, ◌<◌, ◌≤◌, List, length, Option, Some, None, Bool, slice_get, refl, sym, ap, ◌∙◌, subst, arith, lit<}
use Rattle.std.specs.Prelude.{if◌then◌else◌, nat_le}
use Rattle.std.proofs.lemmas.Bool.{leb-false, leb-true}
use Rattle.std.proofs.lemmas.Option.{slice_get_within}
use Rattle.gl_bits.proofs.AllLists.{get_there}
use Rattle.gl_bits.proofs.Bools.{by_cases}
use Rattle.gl_bits.specs.Limits.{most_rows, most_weight}
use Rattle.gl_algebra.specs.declared.figures.Figures.{Figures}
use Rattle.gl_algebra.specs.declared.figures.Spare.{Spare}
use Rattle.gl_root_gaps.specs.declared.TickGaps.{TickGaps}
use Rattle.gl_algebra.specs.declared.node.PlanNode.{PlanNode}
use Rattle.gl_algebra.specs.declared.node.PlanNode.TheVariants.{Stream, Body, Compute, Select, Project, Frames, Aggregate, Union, Merge, Beside, Window, TimeWindow, Group, Partition}
use Rattle.gl_algebra.specs.FigureTable.{IsSound, figures_of, spaced, window_gap}
use Rattle.gl_algebra.specs.Fits.{IsPlan, IsWithin}
use Rattle.gl_algebra.specs.Views.{copies_of_time}
use Rattle.gl_algebra.specs.Laws.{FiguresAreSound, NodesFollowTables}
use Rattle.gl_algebra.specs.Nodewise.{value_at_node}
use Rattle.gl_algebra.specs.Roots.{figures_with, further_copies, of_further, output_part, part_of_copy, root_figures, spare_at, spare_in, weight_with_further, weight_with_output, where_light}
use Rattle.gl_root_gaps.specs.Roots.{RootsComeCloser, gap_of, gap_with, rows_below, tick_gaps_at, tick_gaps_from, ticks_of, ticks_with}
use Rattle.gl_root_gaps.proofs.GapLemmas.{rows_above, ticks_there}
use Rattle.gl_algebra.proofs.PlanLemmas.{by_nodes}
use Rattle.gl_algebra.specs.Shapes.{shape_of}
use Rattle.gl_algebra.specs.Weights.{lines_of, weight_of}
use Rattle.gl_figures.specs.Answered.{capped, IsHeavy}
use Rattle.gl_figures.specs.declared.Limit.TheVariants.{Nodes}
use Rattle.gl_figures.specs.Known.{weight_alone}
use Rattle.gl_figures.proofs.CapLemmas.{further-capped}
use Rattle.gl_figures.proofs.SpareLemmas.{spare_is}
use Rattle.gl_figures.proofs.TickLemmas.{no_farther, over_gap, tick_gaps_are}

-- a root has the spare copies of its windows, and is light enough with them
pub record IsSpareRoot (nodes : List PlanNode) (root : ℕ) (node : PlanNode) (it : Spare) : Type 0 where
  pub of_node : spare_in (figures_of nodes) node ≡ Some it
  pub light : weight_with_further nodes root node (further_copies (Some it) node) ≤ most_weight

pub spare_there : (nodes : List PlanNode) (root : ℕ) (node : PlanNode) (it : Spare) → slice_get nodes root ≡ Some node → spare_at nodes root ≡ Some it
    → IsSpareRoot nodes root node it
unfolding spare_at
spare_there nodes root node it at h =
    by (spare_in (figures_of nodes) node) refl
    (sym (ap (value_at_node (λ n. where_light nodes root n (spare_in (figures_of nodes) n)) None) at) ∙ h)
  where
    by : (o : Option Spare) → spare_in (figures_of nodes) node ≡ o → where_light nodes root node o ≡ Some it → IsSpareRoot nodes root node it
    by None p q = absurd (cc (q))
    by (Some x) p q =
        by_cases (nat_le (weight_with_further nodes root node (further_copies (Some x) node)) most_weight)
        (λ l.
        let same : Some x ≡ Some it = sym (ap (λ (b : Bool). if b then Some x else None) l) ∙ q in
        let is : x ≡ it = cc (same) in
        record {
          of_node = p ∙ same;
          light = subst (λ (y : Spare). weight_with_further nodes root node (further_copies (Some y) node) ≤ most_weight) is (leb-true _ _ l);
        })
        (λ l. absurd (let none : None ≡ Some it = sym (ap (λ (b : Bool). if b then Some x else None) l) ∙ q in cc (none)))

-- the figures of a root, whichever node it is and whatever spare copies it has
pub figures_there : (nodes : List PlanNode) (root : ℕ) (node : PlanNode) (o : Option Spare) → slice_get nodes root ≡ Some node → spare_at nodes root ≡ o
    → root_figures nodes root ≡ figures_with nodes root o node
unfolding root_figures
figures_there nodes root node o at h =
    ap (value_at_node (figures_with nodes root (spare_at nodes root)) (figures_of nodes root)) at
    ∙ ap (λ (s : Option Spare). figures_with nodes root s node) h

-- what the further copies add, whichever node the root is
pub further_there : (each : PlanNode → ℕ) (nodes : List PlanNode) (root : ℕ) (node : PlanNode) (o : Option Spare) → slice_get nodes root ≡ Some node
    → spare_at nodes root ≡ o → of_further each nodes root ≡ further_copies o node * each node
unfolding of_further
further_there each nodes root node o at h =
    ap (value_at_node (λ n. further_copies (spare_at nodes root) n * each n) 0) at
    ∙ ap (λ (s : Option Spare). further_copies s node * each node) h

-- no spare copies weigh nothing, and are none
pub none_further : (each : PlanNode → ℕ) (nodes : List PlanNode) (root : ℕ) → root < length nodes → spare_at nodes root ≡ None
    → of_further each nodes root ≡ 0
none_further each nodes root within h =
    let here = get_there nodes root within in
    let none : of_further each nodes root ≡ 0 * each here.0 = further_there each nodes root here.0 None here.1 h in
    omega (arith, none)

-- a plan that is too heavy alone has no spare copies
pub heavy_has_none : (nodes : List PlanNode) (root : ℕ) → root < length nodes → most_weight < weight_alone nodes root → spare_at nodes root ≡ None
heavy_has_none nodes root within heavy = by (spare_at nodes root) refl
  where
    by : (o : Option Spare) → spare_at nodes root ≡ o → spare_at nodes root ≡ None
    by None h = h
    by (Some it) h =
        let here = get_there nodes root within in
        let x = spare_there nodes root here.0 it here.1 h in
        absurd (omega (arith, x.light, heavy))

pub is_heavy : (nodes : List PlanNode) (root weight : ℕ) → root < length nodes → weight ≡ capped (weight_alone nodes root) → most_weight < weight
    → IsHeavy nodes root (Nodes weight)
is_heavy nodes root weight within is heavy =
    let past : most_weight < weight_alone nodes root = omega (arith, is, heavy) in
    let none = none_further (part_of_copy (shape_of nodes) (weight_of nodes) (lines_of (shape_of nodes root))) nodes root within
    (heavy_has_none nodes root within past) in
    let same : weight_with_output nodes root ≡ weight_alone nodes root = omega (arith, none) in
    record { heavy = omega (arith, same, past); is = ap Nodes (is ∙ ap capped (sym same)) }

module _ (nodes : List PlanNode) (root : ℕ) (node : PlanNode) (at : slice_get nodes root ≡ Some node) where
  -- the spare copies of a root, from those that its windows have
  pub spare_by : (o : Option Spare) → spare_in (figures_of nodes) node ≡ o → spare_at nodes root ≡ where_light nodes root node o
  unfolding spare_at
  spare_by o h =
      ap (value_at_node (λ n. where_light nodes root n (spare_in (figures_of nodes) n)) None) at ∙ ap (where_light nodes root node) h

  -- a root that is no windows has none
  pub no_windows : ((source body size advance : ℕ) → node ≡ Window source body size advance → ⊥) → None ≡ spare_at nodes root
  no_windows not = sym (spare_by None (by node not))
    where
      by : (n : PlanNode) → ((source body size advance : ℕ) → n ≡ Window source body size advance → ⊥) → spare_in (figures_of nodes) n ≡ None
      by (Window source body size advance) not = absurd (not source body size advance refl)
      by (Stream number kinds) not = refl
      by (Body kinds) not = refl
      by (Compute child ops) not = refl
      by (Select child column) not = refl
      by (Project child items) not = refl
      by (Frames child key items) not = refl
      by (Aggregate child aggs) not = refl
      by (Union left right) not = refl
      by (Merge left right) not = refl
      by (Beside left right) not = refl
      by (TimeWindow source body size advance) not = refl
      by (Group source body key groups) not = refl
      by (Partition source body key groups size advance) not = refl

  -- one that is neither windows of time nor takes rows one by one has no gaps of ticks
  pub no_time_windows : IsPlan nodes → rows_below node ≡ None → ((source body size advance : ℕ) → node ≡ TimeWindow source body size advance → ⊥)
      → None ≡ tick_gaps_at nodes root
  no_time_windows plan alone not = sym (ticks_there nodes root node plan at ∙ by node alone not)
    where
      by : (n : PlanNode) → rows_below n ≡ None → ((source body size advance : ℕ) → n ≡ TimeWindow source body size advance → ⊥)
          → tick_gaps_from (figures_of nodes) (tick_gaps_at nodes) n ≡ None
      by (TimeWindow source body size advance) alone not = absurd (not source body size advance refl)
      by (Stream number kinds) alone not = refl
      by (Body kinds) alone not = refl
      by (Compute child ops) alone not = absurd (cc (alone))
      by (Select child column) alone not = absurd (cc (alone))
      by (Project child items) alone not = absurd (cc (alone))
      by (Frames child key items) alone not = refl
      by (Aggregate child aggs) alone not = refl
      by (Union left right) alone not = refl
      by (Merge left right) alone not = refl
      by (Beside left right) alone not = refl
      by (Window source body size advance) alone not = refl
      by (Group source body key groups) alone not = refl
      by (Partition source body key groups size advance) alone not = refl

  -- and one that has gaps of ticks has no spare copies
  pub ticked_alone : IsPlan nodes → (it : TickGaps) → tick_gaps_at nodes root ≡ Some it → None ≡ spare_at nodes root
  ticked_alone plan it h =
      no_windows (λ source body size advance e.
      let none : tick_gaps_at nodes root ≡ None = ticks_there nodes root node plan at ∙ ap (tick_gaps_from (figures_of nodes) (tick_gaps_at nodes)) e in
      let z : None ≡ Some it = sym none ∙ h in
      cc (z))

  pub is_light : (it : Spare) (weight : ℕ) → spare_in (figures_of nodes) node ≡ Some it
      → weight ≡ capped (weight_with_further nodes root node (further_copies (Some it) node)) → weight ≤ most_weight → Some it ≡ spare_at nodes root
  is_light it weight h is light =
      by_cases (nat_le (weight_with_further nodes root node (further_copies (Some it) node)) most_weight)
      (λ l. sym (spare_by (Some it) h ∙ ap (λ (b : Bool). if b then Some it else None) l))
      (λ l. absurd (omega (arith, leb-false _ _ l, is, light)))

  pub is_past : (it : Spare) (weight : ℕ) → spare_in (figures_of nodes) node ≡ Some it
      → weight ≡ capped (weight_with_further nodes root node (further_copies (Some it) node)) → most_weight < weight → None ≡ spare_at nodes root
  is_past it weight h is heavy =
      by_cases (nat_le (weight_with_further nodes root node (further_copies (Some it) node)) most_weight)
      (λ l. absurd (omega (arith, leb-true _ _ l, is, heavy)))
      (λ l. sym (spare_by (Some it) h ∙ ap (λ (b : Bool). if b then Some it else None) l))

-- windows at a root: their source and their body are there, with sound figures, and their numbers are within their limits
module _ (nodes : List PlanNode) (root : ℕ) {source body size advance : ℕ} (plan : IsPlan nodes)
    (at : slice_get nodes root ≡ Some (Window source body size advance)) where
  pub source_within : source < length nodes
  source_within =
      let before = (plan.fits root (Window source body size advance) at).before 0 0 (lit< tt) in
      omega (arith, before, slice_get_within nodes root _ at)

  pub body_within : body < length nodes
  body_within =
      let before = (plan.fits root (Window source body size advance) at).before 1 0 (lit< tt) in
      omega (arith, before, slice_get_within nodes root _ at)

  pub source_sound : FiguresAreSound → IsSound (figures_of nodes source)
  source_sound sound = sound nodes source plan source_within

  pub body_sound : FiguresAreSound → IsSound (figures_of nodes body)
  body_sound sound = sound nodes body plan body_within

  pub rows : IsWithin most_rows size
  rows = (plan.fits root (Window source body size advance) at).suits.1

  -- what is said of their weight with so many further copies, from the capped weights
  pub weight_is : (further : ℕ)
      → capped (capped (weight_of nodes root)
      + further * (capped (weight_of nodes body) + 8 * (lines_of (shape_of nodes source) + lines_of (shape_of nodes root) + 4))
      + output_part nodes root) ≡ capped (weight_with_further nodes root (Window source body size advance) further)
  weight_is further =
      further-capped (weight_of nodes root) (weight_of nodes body) (8 * (lines_of (shape_of nodes source) + lines_of (shape_of nodes root) + 4))
      further (output_part nodes root)

  pub step : IsWithin most_rows advance
  step = (plan.fits root (Window source body size advance) at).suits.2

-- windows of time at a root: their body is there
pub time_body_within : (nodes : List PlanNode) (root : ℕ) {source body size advance : ℕ} → IsPlan nodes → slice_get nodes root ≡ Some (TimeWindow source body size advance) → body < length nodes
time_body_within nodes root {source} {body} {size} {advance} plan at =
    let before = (plan.fits root (TimeWindow source body size advance) at).before 1 0 (lit< tt) in
    omega (arith, before, slice_get_within nodes root _ at)

-- gaps of ticks are below a node's own gap, and ticks no farther apart
module _ (follow : NodesFollowTables) (sound : FiguresAreSound) (nodes : List PlanNode) (plan : IsPlan nodes) where
  abbrev AreCloser : ℕ → Type 0
  AreCloser number = (it : TickGaps) → tick_gaps_at nodes number ≡ Some it → (it.gap < (figures_of nodes number).gt) × (it.ticks ≤ (figures_of nodes number).gt)

  -- a node without such gaps has none that could be farther
  no_closer : (root : ℕ) (node : PlanNode) → slice_get nodes root ≡ Some node → tick_gaps_from (figures_of nodes) (tick_gaps_at nodes) node ≡ None → AreCloser root
  no_closer root node at none it h = absurd (let z : None ≡ Some it = sym (ticks_there nodes root node plan at ∙ none) ∙ h in cc (z))

  -- rows that are taken one by one have the gaps of the node below, and its figures' gap
  above_closer : (root child : ℕ) → (figures_of nodes root).gt ≡ (figures_of nodes child).gt → tick_gaps_at nodes root ≡ tick_gaps_at nodes child → AreCloser child → AreCloser root
  above_closer root child own same below it h =
      let z = below it (sym same ∙ h) in
      (let less = z.0 in omega (arith, own, less), let few = z.1 in omega (arith, own, few))

  node_closer : (root : ℕ) (node : PlanNode) → slice_get nodes root ≡ Some node → ((child : ℕ) → child < root → AreCloser child) → AreCloser root
  node_closer root (TimeWindow source body size advance) at below it h =
      let s = figures_of nodes body in
      let x = tick_gaps_are size advance s it (sym (ticks_there nodes root (TimeWindow source body size advance) plan at) ∙ h) in
      let own = ap (λ (f : Figures). f.gt) (follow nodes root (TimeWindow source body size advance) plan at).figures in
      let over = over_gap (copies_of_time size advance) (spaced (window_gap s) (figures_of nodes source)) s in
      let few = no_farther size advance s (sound nodes body plan (time_body_within nodes root plan at)) in
      let gap = ap (λ (t : TickGaps). t.gap) x.0 in
      let ticks = ap (λ (t : TickGaps). t.ticks) x.0 in
      (omega (arith, own, over, gap, x.1), omega (arith, own, over, few, ticks))
  node_closer root (Compute child ops) at below it h =
      let x = rows_above nodes root (Compute child ops) child plan at refl in
      above_closer root child (ap (λ (f : Figures). f.gt) (follow nodes root (Compute child ops) plan at).figures) x.same (below child x.before) it h
  node_closer root (Select child column) at below it h =
      let x = rows_above nodes root (Select child column) child plan at refl in
      above_closer root child (ap (λ (f : Figures). f.gt) (follow nodes root (Select child column) plan at).figures) x.same (below child x.before) it h
  node_closer root (Project child items) at below it h =
      let x = rows_above nodes root (Project child items) child plan at refl in
      above_closer root child (ap (λ (f : Figures). f.gt) (follow nodes root (Project child items) plan at).figures) x.same (below child x.before) it h
  node_closer root (Stream number kinds) at below it h = no_closer root (Stream number kinds) at refl it h
  node_closer root (Body kinds) at below it h = no_closer root (Body kinds) at refl it h
  node_closer root (Frames child by items) at below it h = no_closer root (Frames child by items) at refl it h
  node_closer root (Aggregate child aggs) at below it h = no_closer root (Aggregate child aggs) at refl it h
  node_closer root (Union left right) at below it h = no_closer root (Union left right) at refl it h
  node_closer root (Merge left right) at below it h = no_closer root (Merge left right) at refl it h
  node_closer root (Beside left right) at below it h = no_closer root (Beside left right) at refl it h
  node_closer root (Window source body size advance) at below it h = no_closer root (Window source body size advance) at refl it h
  node_closer root (Group source body key groups) at below it h = no_closer root (Group source body key groups) at refl it h
  node_closer root (Partition source body key groups size advance) at below it h = no_closer root (Partition source body key groups size advance) at refl it h

  pub ticks_closer : (root : ℕ) → root < length nodes → AreCloser root
  ticks_closer root within = by_nodes nodes plan AreCloser (λ number node at fits below. node_closer number node at below) root within

module _ (follow : NodesFollowTables) (sound : FiguresAreSound) (nodes : List PlanNode) (root : ℕ) (plan : IsPlan nodes) (within : root < length nodes) where
  closer : (node : PlanNode) (it : Spare) → slice_get nodes root ≡ Some node → spare_in (figures_of nodes) node ≡ Some it
      → (tick_gaps_from (figures_of nodes) (tick_gaps_at nodes) node ≡ None) × ((figures_with nodes root (Some it) node).gt < (figures_of nodes root).gt)
  closer (Window source body size advance) it at h =
      let x = spare_is size advance (figures_of nodes source) (figures_of nodes body) it h in
      let own = ap (λ (f : Figures). f.gt) (follow nodes root (Window source body size advance) plan at).figures in
      let gap = ap (λ (s : Spare). s.gap) x.0 in
      (refl, omega (arith, x.1.closer, own, gap))
  closer (Stream number kinds) it at h = absurd (cc (h))
  closer (Body kinds) it at h = absurd (cc (h))
  closer (Compute child ops) it at h = absurd (cc (h))
  closer (Select child column) it at h = absurd (cc (h))
  closer (Project child items) it at h = absurd (cc (h))
  closer (Frames child by items) it at h = absurd (cc (h))
  closer (Aggregate child aggs) it at h = absurd (cc (h))
  closer (Union left right) it at h = absurd (cc (h))
  closer (Merge left right) it at h = absurd (cc (h))
  closer (Beside left right) it at h = absurd (cc (h))
  closer (TimeWindow source body size advance) it at h = absurd (cc (h))
  closer (Group source body key groups) it at h = absurd (cc (h))
  closer (Partition source body key groups size advance) it at h = absurd (cc (h))

  with_spare : (it : Spare) → spare_at nodes root ≡ Some it → gap_of nodes root < (figures_of nodes root).gt
  with_spare it h =
      let here = get_there nodes root within in
      let x = spare_there nodes root here.0 it here.1 h in
      let f = ap (λ (f : Figures). f.gt) (figures_there nodes root here.0 (Some it) here.1 h) in
      let z = closer here.0 it here.1 x.of_node in
      let none = ticks_there nodes root here.0 plan here.1 ∙ z.0 in
      let own : gap_of nodes root ≡ (root_figures nodes root).gt = ap (λ (o : Option TickGaps). gap_with o (root_figures nodes root).gt) none in
      let less = z.1 in
      omega (arith, less, f, own)

  figures_closer : (root_figures nodes root).gt ≤ (figures_of nodes root).gt
  figures_closer = by (spare_at nodes root) refl
    where
      by : (o : Option Spare) → spare_at nodes root ≡ o → (root_figures nodes root).gt ≤ (figures_of nodes root).gt
      by None h =
          let here = get_there nodes root within in
          let f = ap (λ (f : Figures). f.gt) (figures_there nodes root here.0 None here.1 h) in
          omega (arith, f)
      by (Some it) h =
          let here = get_there nodes root within in
          let x = spare_there nodes root here.0 it here.1 h in
          let f = ap (λ (f : Figures). f.gt) (figures_there nodes root here.0 (Some it) here.1 h) in
          let less = (closer here.0 it here.1 x.of_node).1 in
          omega (arith, f, less)

  with_gaps : (it : TickGaps) → tick_gaps_at nodes root ≡ Some it → (it.gap < (figures_of nodes root).gt) × (it.ticks ≤ (figures_of nodes root).gt)
  with_gaps = ticks_closer follow sound nodes plan root within

  never_farther : gap_of nodes root ≤ (figures_of nodes root).gt
  never_farther = by (tick_gaps_at nodes root) refl
    where
      by : (o : Option TickGaps) → tick_gaps_at nodes root ≡ o → gap_of nodes root ≤ (figures_of nodes root).gt
      by None h = let own : gap_of nodes root ≡ (root_figures nodes root).gt = ap (λ (o : Option TickGaps). gap_with o (root_figures nodes root).gt) h in omega (arith, own, figures_closer)
      by (Some it) h =
          let own : gap_of nodes root ≡ it.gap = ap (λ (o : Option TickGaps). gap_with o (root_figures nodes root).gt) h in
          let less = (with_gaps it h).0 in
          omega (arith, own, less)

  with_ticks : (n : ℕ) → ticks_of nodes root ≡ Some n → (gap_of nodes root < (figures_of nodes root).gt) × (n ≤ (figures_of nodes root).gt)
  with_ticks n e = by (tick_gaps_at nodes root) refl
    where
      by : (o : Option TickGaps) → tick_gaps_at nodes root ≡ o → (gap_of nodes root < (figures_of nodes root).gt) × (n ≤ (figures_of nodes root).gt)
      by None h = absurd (let z : None ≡ Some n = sym (ap ticks_with h) ∙ e in cc (z))
      by (Some it) h =
          let same : Some it.ticks ≡ Some n = sym (ap ticks_with h) ∙ e in
          let is : it.ticks ≡ n = cc (same) in
          let own : gap_of nodes root ≡ it.gap = ap (λ (o : Option TickGaps). gap_with o (root_figures nodes root).gt) h in
          let both = with_gaps it h in
          (let less = both.0 in omega (arith, own, less), let few = both.1 in omega (arith, is, few))

pub roots_come_closer : NodesFollowTables → FiguresAreSound → RootsComeCloser
roots_come_closer follow sound nodes root plan within = record {
  never_farther = never_farther follow sound nodes root plan within;
  with_spare = with_spare follow sound nodes root plan within;
  with_ticks = with_ticks follow sound nodes root plan within;
}
