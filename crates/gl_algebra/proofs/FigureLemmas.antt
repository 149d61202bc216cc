-- The figures of the nodes of a plan.
use Rattle.std.proofs.Common.{◌≡◌, ℕ, zero, suc, ◌+◌, ◌*◌, ◌<◌, ◌≤◌, true, false, cond, ◌&&◌, IsTrue, List, slice_get, All, refl, ap, subst, arith, lit<}
use Rattle.std.proofs.Math.Nat.{mul-pos, zero-mul}
use Rattle.std.proofs.lemmas.Grind.{div_ceil_times}
use Rattle.gl_algebra.specs.declared.figures.Figures.{Figures}
use Rattle.gl_algebra.specs.declared.node.PlanNode.{PlanNode}
use Rattle.gl_algebra.specs.declared.node.PlanNode.TheVariants.{Stream, Body, Compute, Select, Project, Frames, Aggregate, Union, Merge, Beside, Window, TimeWindow, Group, Partition}
use Rattle.gl_algebra.specs.Keys.{delay_by_key}
use Rattle.gl_algebra.specs.Nodewise.{named_by}
use Rattle.gl_algebra.specs.Shapes.{Shape, shape_from, shape_of, is_closing}
use Rattle.gl_algebra.specs.Views.{copies_of_time, copies_of_window, copies_of_partition}
use Rattle.gl_algebra.specs.FigureTable.{IsSound, input_figures, settled, delayed, last_of, wait_of, delay_of_aggs, window_gap, group_gap, needs_spacer, spacer_figures, spaced, is_fixed, in_step, at_end, joined, figures_from, figures_of}
use Rattle.gl_algebra.specs.Laws.{RowsKeepSound, FiguresAreSound, ClosingNodesWait}
use Rattle.gl_bits.proofs.Bools.{and_parts}
use Rattle.gl_algebra.proofs.NodewiseLemmas.{Agree, AreInOrder, SameSteps, agree, agree_self, nodewise-kept, nodewise-node, FollowsRow}
use Rattle.gl_algebra.proofs.ShapeLemmas.{shape-kept, shape-node}
use Rattle.gl_algebra.proofs.PlanLemmas.{in_order, by_nodes}
use Rattle.gl_algebra.proofs.SoundLemmas.{settled_sound, delayed_sound, aggregate_sound, merged_sound, turn_figures_sound, joined_sound, spaced_sound, windows_sound, groups_sound, partitions_sound}

-- figures follow from the shapes and figures of the nodes that a node names
pub figures_local : (s t : ℕ → Shape) (v w : ℕ → Figures) (node : PlanNode) → Agree s t (named_by node) → Agree v w (named_by node)
    → figures_from s v node ≡ figures_from t w node
figures_local s t v w (Stream number kinds) g h = refl
figures_local s t v w (Body kinds) g h = refl
figures_local s t v w (Compute child ops) g h = ap (λ (x : Figures). settled (delayed 1 x)) h.0
figures_local s t v w (Select child column) g h = ap (λ (x : Figures). settled (delayed 1 x)) h.0
figures_local s t v w (Project child items) g h = ap (λ (x : Figures). settled x) h.0
figures_local s t v w (Frames child by items) g h = rw (g.0, h.0)
figures_local s t v w (Aggregate child aggs) g h = rw (g.0, h.0)
figures_local s t v w (Union left right) g h = rw (h.0, h.1.0)
figures_local s t v w (Merge left right) g h = rw (h.0, h.1.0)
figures_local s t v w (Beside left right) g h = rw (h.0, h.1.0)
figures_local s t v w (Window source body size advance) g h = rw (h.0, h.1.0)
figures_local s t v w (TimeWindow source body size advance) g h = rw (h.0, h.1.0)
figures_local s t v w (Group source body key groups) g h = rw (h.0, h.1.0)
figures_local s t v w (Partition source body key groups size advance) g h = rw (h.0, h.1.0)

-- where tuples come without the end, the last cycle is the last
pub last_of-some : (n first last : ℕ) → 1 ≤ n → last_of n first last ≡ last
last_of-some zero first last some = absurd (omega (arith, some))
last_of-some (suc n) first last some = refl

pub delayed_by_none : (f : Figures) → delayed 0 f ≡ f
delayed_by_none f =
    let a : f.a + 0 ≡ f.a = omega arith in
    let t : f.lt + 0 ≡ f.lt = omega arith in
    let e : f.le + 0 ≡ f.le = omega arith in
    rw (a, t, e) refl

-- a window of some size has a copy
some_from_product : (n size advance : ℕ) → 1 ≤ size → size ≤ n * advance → 1 ≤ n
some_from_product zero size advance h g = let none : 0 * advance ≡ 0 = zero-mul advance in absurd (omega arith)
some_from_product (suc n) size advance h g = omega arith

pub one_copy : (size advance : ℕ) → 1 ≤ size → 1 ≤ advance → 1 ≤ copies_of_window size advance
one_copy size advance h g =
    some_from_product (copies_of_window size advance) size advance h (div_ceil_times size advance g).0

pub one_in_time : (size advance : ℕ) → 1 ≤ copies_of_time size advance
one_in_time size advance = omega arith

-- and so have windows of each key
pub some_copies : (groups size advance : ℕ) → 1 ≤ groups → 1 ≤ size → 1 ≤ advance → 1 ≤ copies_of_partition groups size advance
some_copies groups size advance some h g = mul-pos some (one_copy size advance h g)

input_sound : IsSound input_figures
input_sound = record {
  tuples_last = omega arith;
  end_last = omega arith;
  tuples = omega arith;
  some = omega arith;
  tuples_gap = omega arith;
  end_gap = omega arith;
  gaps = omega arith;
}

pub rows_keep_sound : RowsKeepSound
rows_keep_sound s f (Stream number kinds) suits sound = input_sound
rows_keep_sound s f (Body kinds) suits sound = input_sound
rows_keep_sound s f (Compute child ops) suits sound = settled_sound (delayed 1 (f child)) (delayed_sound 1 (f child) (sound 0 0 (lit< tt)))
rows_keep_sound s f (Select child column) suits sound = settled_sound (delayed 1 (f child)) (delayed_sound 1 (f child) (sound 0 0 (lit< tt)))
rows_keep_sound s f (Project child items) suits sound = settled_sound (f child) (sound 0 0 (lit< tt))
rows_keep_sound s f (Frames child by items) suits sound =
    let delay = delay_by_key (s child).kinds by items in
    settled_sound (delayed delay (f child)) (delayed_sound delay (f child) (sound 0 0 (lit< tt)))
rows_keep_sound s f (Aggregate child aggs) suits sound = aggregate_sound (delay_of_aggs (s child).kinds aggs) (f child) (sound 0 0 (lit< tt))
rows_keep_sound s f (Union left right) suits sound =
    merged_sound (delayed (wait_of (f left) (f right)) (f left)) (delayed (wait_of (f right) (f left)) (f right))
    (delayed_sound (wait_of (f left) (f right)) (f left) (sound 0 0 (lit< tt)))
    (delayed_sound (wait_of (f right) (f left)) (f right) (sound 1 0 (lit< tt)))
rows_keep_sound s f (Merge left right) suits sound = turn_figures_sound (f left) (f right) (sound 0 0 (lit< tt)) (sound 1 0 (lit< tt))
rows_keep_sound s f (Beside left right) suits sound =
    joined_sound (delayed (wait_of (f left) (f right)) (f left)) (delayed (wait_of (f right) (f left)) (f right))
    (delayed_sound (wait_of (f left) (f right)) (f left) (sound 0 0 (lit< tt)))
    (delayed_sound (wait_of (f right) (f left)) (f right) (sound 1 0 (lit< tt)))
rows_keep_sound s f (Window source body size advance) suits sound =
    windows_sound (copies_of_window size advance) (spaced (window_gap (f body)) (f source)) (f body)
    (one_copy size advance suits.1.least suits.2.least)
    (spaced_sound (window_gap (f body)) (f source) (sound 0 0 (lit< tt)))
    (sound 1 0 (lit< tt))
rows_keep_sound s f (TimeWindow source body size advance) suits sound =
    windows_sound (copies_of_time size advance) (spaced (window_gap (f body)) (f source)) (f body)
    (one_in_time size advance)
    (spaced_sound (window_gap (f body)) (f source) (sound 0 0 (lit< tt)))
    (sound 1 0 (lit< tt))
rows_keep_sound s f (Group source body key groups) suits sound =
    groups_sound groups (spaced (group_gap (f body)) (f source)) (f body) suits.2.least
    (spaced_sound (group_gap (f body)) (f source) (sound 0 0 (lit< tt)))
    (sound 1 0 (lit< tt))
rows_keep_sound s f (Partition source body key groups size advance) suits sound =
    partitions_sound (copies_of_partition groups size advance) (spaced (window_gap (f body)) (f source)) (f body)
    (some_copies groups size advance suits.2.least suits.3.least suits.4.least)
    (spaced_sound (window_gap (f body)) (f source) (sound 0 0 (lit< tt)))
    (sound 1 0 (lit< tt))

-- the step of the table in a list
pub figures_steps : (nodes : List PlanNode) (limit : ℕ) → SameSteps (figures_from (shape_of nodes)) (figures_from (shape_of nodes)) nodes limit
figures_steps nodes limit number node below is v w same =
    figures_local (shape_of nodes) (shape_of nodes) v w node
    (agree_self (shape_of nodes) (named_by node)) same

pub figures-node : FollowsRow figures_of (λ nodes. figures_from (shape_of nodes))
unfolding figures_of
figures-node nodes limit order number node below is =
    nodewise-node (figures_from (shape_of nodes)) input_figures nodes limit order (figures_steps nodes limit) number node below is

module _ (nodes nodes' : List PlanNode) (limit : ℕ) (order : AreInOrder nodes limit)
    (kept : (number : ℕ) → number < limit → slice_get nodes' number ≡ slice_get nodes number) where
  -- lists that agree below a limit give the same figures there
  pub figures-kept : (number : ℕ) → number < limit → figures_of nodes number ≡ figures_of nodes' number
  unfolding figures_of
  figures-kept number below =
      nodewise-kept (figures_from (shape_of nodes)) (figures_from (shape_of nodes')) input_figures nodes nodes' limit order
      (λ at node in_limit is v w same. figures_local (shape_of nodes) (shape_of nodes') v w node
      (agree (shape_of nodes) (shape_of nodes') at
      (λ child before. shape-kept nodes nodes' limit order kept child (omega arith)) (named_by node) (order at node in_limit is))
      same)
      kept number below

-- the figures of a plan's nodes are sound
pub figures_are_sound : FiguresAreSound
figures_are_sound nodes number plan within =
    by_nodes nodes plan (λ n. IsSound (figures_of nodes n))
    (λ n node is fits before.
    rw (figures-node nodes (suc n) (in_order nodes plan (suc n)) n node (omega arith) is)
    (rows_keep_sound (shape_of nodes) (figures_of nodes) node fits.suits (λ k d h. before _ (fits.before k d h))))
    number within

-- a spacer changes nothing of how many tuples come
spaced-nt : (gap : ℕ) (f : Figures) → (spaced gap f).nt ≡ f.nt
spaced-nt gap f = elim (needs_spacer gap f) as (λ b. (cond b (spacer_figures gap f) f).nt ≡ f.nt) [ true ↦ refl | false ↦ refl ]

joined-nt : (p q : Figures) → p.nt ≡ 0 → (joined p q).nt ≡ 0
joined-nt p q h = elim (is_fixed p && is_fixed q) as (λ b. (cond b (in_step p q) (at_end p q)).nt ≡ 0) [ true ↦ h | false ↦ refl ]

-- a node waits for the end where the closing ones of those that it names do
rows_wait : (s : ℕ → Shape) (f : ℕ → Figures) (node : PlanNode) → All (λ child. IsTrue (s child).closing → (f child).nt ≡ 0) (named_by node)
    → IsTrue (shape_from s node).closing → (figures_from s f node).nt ≡ 0
rows_wait s f (Stream number kinds) wait closing = absurd (cc)
rows_wait s f (Body kinds) wait closing = absurd (cc)
rows_wait s f (Compute child ops) wait closing = wait 0 0 (lit< tt) closing
rows_wait s f (Select child column) wait closing = wait 0 0 (lit< tt) closing
rows_wait s f (Project child items) wait closing = wait 0 0 (lit< tt) closing
rows_wait s f (Frames child by items) wait closing = wait 0 0 (lit< tt) closing
rows_wait s f (Aggregate child aggs) wait closing = refl
rows_wait s f (Union left right) wait closing =
    let sides = and_parts (s left).closing (s right).closing closing in
    rw (wait 0 0 (lit< tt) sides.0, wait 1 0 (lit< tt) sides.1)
rows_wait s f (Merge left right) wait closing = absurd (cc)
rows_wait s f (Beside left right) wait closing =
    let sides = and_parts (s left).closing (s right).closing closing in
    joined-nt (delayed (wait_of (f left) (f right)) (f left)) (delayed (wait_of (f right) (f left)) (f right)) (wait 0 0 (lit< tt) sides.0)
rows_wait s f (Window source body size advance) wait closing =
    rw (spaced-nt (window_gap (f body)) (f source), wait 0 0 (lit< tt) closing) (zero-mul (f body).ne)
rows_wait s f (TimeWindow source body size advance) wait closing = absurd (cc)
rows_wait s f (Group source body key groups) wait closing = refl
rows_wait s f (Partition source body key groups size advance) wait closing =
    rw (spaced-nt (window_gap (f body)) (f source), wait 0 0 (lit< tt) closing) (zero-mul (f body).ne)

pub closing_nodes_wait : ClosingNodesWait
closing_nodes_wait nodes number plan within =
    by_nodes nodes plan (λ n. IsTrue (is_closing nodes n) → (figures_of nodes n).nt ≡ 0)
    (λ n node is fits before closing.
    let order = in_order nodes plan (suc n) in
    let shape = shape-node nodes (suc n) order n node (omega arith) is in
    rw (figures-node nodes (suc n) order n node (omega arith) is)
    (rows_wait (shape_of nodes) (figures_of nodes) node (λ k d h. before _ (fits.before k d h))
    (subst (λ (x : Shape). IsTrue x.closing) shape closing)))
    number within
