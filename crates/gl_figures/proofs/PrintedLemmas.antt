-- What is printed of a plan that is light enough: by the figures of its root, or with the spare copies of its windows.
use Rattle.std.proofs.Common.{◌≡◌, ℕ, ◌+◌, ◌-◌, ◌*◌, ◌^◌, ◌<◌, ◌≤◌, List, length, Option, Some, None, slice_get, refl, sym, ap, ◌∙◌, arith}
use Rattle.std.proofs.Math.Nat.{mul-le-mul_left}
use Rattle.gl_bits.proofs.AllLists.{get_there}
use Rattle.gl_bits.specs.Limits.{most_weight}
use Rattle.gl_algebra.specs.declared.figures.Figures.{Figures}
use Rattle.gl_algebra.specs.declared.figures.Spare.{Spare}
use Rattle.gl_root_gaps.specs.declared.TickGaps.{TickGaps}
use Rattle.gl_algebra.specs.declared.node.PlanNode.{PlanNode}
use Rattle.gl_algebra.specs.declared.node.PlanNode.TheVariants.{Stream, Body, Compute, Select, Project, Frames, Aggregate, Union, Merge, Beside, Window, TimeWindow, Group, Partition}
use Rattle.gl_algebra.specs.FigureTable.{AreSmall, figures_of, stride_of}
use Rattle.gl_algebra.specs.Fits.{IsPlan}
use Rattle.gl_algebra.specs.Laws.{NodesFollowTables}
use Rattle.gl_algebra.specs.Nodewise.{value_at_node}
use Rattle.gl_algebra.specs.Roots.{figures_with, part_of_copy, root_figures, spare_at}
use Rattle.gl_root_gaps.specs.Roots.{gap_with, tick_gaps_at, ticks_with}
use Rattle.gl_algebra.specs.Shapes.{shape_of}
use Rattle.gl_algebra.specs.Spares.{spare_over}
use Rattle.gl_algebra.specs.Views.{copies_of_window, of_body}
use Rattle.gl_algebra.specs.Weights.{copies_of, lines_of, weight_of}
use Rattle.std.proofs.lemmas.Option.{slice_get_within}
use Rattle.gl_figures.specs.Answered.{capped, IsPrinted}
use Rattle.gl_figures.specs.Known.{copies_in_body, copies_inside, weight_alone}
use Rattle.gl_figures.proofs.CapLemmas.{copies_light, further-capped}
use Rattle.gl_figures.proofs.RootLemmas.{IsSpareRoot, body_within, figures_there, further_there, none_further, spare_there}
use Rattle.gl_root_gaps.proofs.GapLemmas.{ticks_there}
use Rattle.gl_figures.proofs.SpareLemmas.{spare_is}

-- the copies in the body of a root, whichever node it is
pub inside_there : (nodes : List PlanNode) (root : ℕ) (node : PlanNode) → slice_get nodes root ≡ Some node
    → copies_inside nodes root ≡ copies_in_body nodes node
unfolding copies_inside
inside_there nodes root node at = ap (value_at_node (copies_in_body nodes) 0) at

pub none_inside : (nodes : List PlanNode) (root : ℕ) (node : PlanNode) → slice_get nodes root ≡ Some node
    → ((source body size advance : ℕ) → node ≡ Window source body size advance → ⊥) → 0 ≡ copies_inside nodes root
none_inside nodes root node at not = sym (inside_there nodes root node at ∙ by node not)
  where
    by : (n : PlanNode) → ((source body size advance : ℕ) → n ≡ Window source body size advance → ⊥) → copies_in_body nodes n ≡ 0
    by (Window source body size advance) not = absurd (not source body size advance refl)
    by (Stream number kinds) not = refl
    by (Body kinds) not = refl
    by (Compute child ops) not = refl
    by (Select child column) not = refl
    by (Project child items) not = refl
    by (Frames child key items) not = refl
    by (Aggregate child aggs) not = refl
    by (Union left right) not = refl
    by (Merge left right) not = refl
    by (Beside left right) not = refl
    by (TimeWindow source body size advance) not = refl
    by (Group source body key groups) not = refl
    by (Partition source body key groups size advance) not = refl

-- without spare copies
pub printed_alone : NodesFollowTables → (nodes : List PlanNode) (root : ℕ) (own : Figures) (gap : ℕ) (ticks : Option ℕ) (it : Option TickGaps) (copies : ℕ) → IsPlan nodes → root < length nodes
    → own ≡ figures_of nodes root → it ≡ tick_gaps_at nodes root → gap ≡ gap_with it own.gt → ticks ≡ ticks_with it
    → copies ≡ capped (copies_of nodes root) → weight_alone nodes root ≤ most_weight → spare_at nodes root ≡ None
    → IsPrinted nodes root (record { latency = own.le + 1; gap = gap; ticks = ticks; copies = copies })
printed_alone follow nodes root own gap ticks it copies plan within figured timed gap_is ticks_are copied light h =
    let here = get_there nodes root within in
    let same : root_figures nodes root ≡ figures_of nodes root = figures_there nodes root here.0 None here.1 h in
    let no_copies = none_further (λ node. 1 + of_body (copies_of nodes) node) nodes root within h in
    let no_weight = none_further (part_of_copy (shape_of nodes) (weight_of nodes) (lines_of (shape_of nodes root))) nodes root within h in
    let fewer = copies_light follow nodes root plan within in
    record {
      latency = ap (λ (f : Figures). f.le + 1) (figured ∙ sym same);
      gap = gap_is ∙ ap (λ (o : Option TickGaps). gap_with o own.gt) timed ∙ ap (λ (f : Figures). gap_with (tick_gaps_at nodes root) f.gt) (figured ∙ sym same);
      ticks = ticks_are ∙ ap ticks_with timed;
      copies = omega (arith, copied, no_copies, fewer, light);
      light = omega (arith, no_weight, light);
    }

-- with spare copies of windows
module _ (nodes : List PlanNode) (root : ℕ) {source body size advance : ℕ} (it : Spare) (plan : IsPlan nodes)
    (at : slice_get nodes root ≡ Some (Window source body size advance)) (h : spare_at nodes root ≡ Some it) where
  abbrev turns : ℕ
  turns = copies_of_window size advance

  abbrev f : Figures
  f = figures_of nodes source

  abbrev s : Figures
  s = figures_of nodes body

  is : IsSpareRoot nodes root (Window source body size advance) it
  is = spare_there nodes root (Window source body size advance) it at h

  pub enough : turns ≤ it.copies
  enough =
      let x = spare_is size advance f s it is.of_node in
      let same = ap (λ (y : Spare). y.copies) x.0 in
      omega (arith, same)

  soon : f.le + s.le + it.shift + (turns - 1) * stride_of s + 4 < 2 ^ 32
  soon =
      let x = spare_is size advance f s it is.of_node in
      let late = ap (λ (y : Spare). y.shift) x.0 in
      omega (arith, late, x.1.soon)

  pub printed_with : NodesFollowTables → (last copies inside : ℕ) → last ≡ f.le + s.le + it.shift + (turns - 1) * stride_of s + 3 → copies ≡ capped (copies_of nodes root)
      → inside ≡ copies_inside nodes root
      → IsPrinted nodes root (record { latency = capped (last + 1); gap = it.gap; ticks = None; copies = capped (copies + (it.copies - turns) * (1 + inside)) })
  printed_with follow last copies inside ended copied within =
      let figures : root_figures nodes root ≡ spare_over turns it.gap it.shift f s = figures_there nodes root (Window source body size advance) (Some it) at h in
      let le = ap (λ (y : Figures). y.le) figures in
      let none : tick_gaps_at nodes root ≡ None = ticks_there nodes root (Window source body size advance) plan at in
      let part = part_of_copy (shape_of nodes) (weight_of nodes) (lines_of (shape_of nodes root)) in
      let weight = further_there part nodes root (Window source body size advance) (Some it) at h in
      let more = further_there (λ node. 1 + of_body (copies_of nodes) node) nodes root (Window source body size advance) (Some it) at h in
      let inside_is : inside ≡ capped (copies_of nodes body) = within ∙ inside_there nodes root (Window source body size advance) at in
      let fewer = copies_light follow nodes root plan (slice_get_within nodes root _ at) in
      let fewer_inside = copies_light follow nodes body plan (body_within nodes root plan at) in
      let each : (it.copies - turns) * (1 + copies_of nodes body) ≤ (it.copies - turns) * part (Window source body size advance) =
      mul-le-mul_left (it.copies - turns) (omega (arith, fewer_inside)) in
      let light = is.light in
      let exact : capped (capped (copies_of nodes root) + (it.copies - turns) * (capped (copies_of nodes body) + 1) + 0)
      ≡ capped (copies_of nodes root + (it.copies - turns) * (copies_of nodes body + 1) + 0) =
      further-capped (copies_of nodes root) (copies_of nodes body) 1 (it.copies - turns) 0 in
      record {
        latency = omega (arith, ended, le, soon);
        gap = sym (ap (λ (y : Figures). y.gt) figures) ∙ sym (ap (λ (o : Option TickGaps). gap_with o (root_figures nodes root).gt) none);
        ticks = sym (ap ticks_with none);
        copies = rw (copied, inside_is) (omega (arith, exact, more, each, light, fewer));
        light = omega (arith, weight, light);
      }

-- the last cycle of a root is below 2^32, as its own figures are
module _ (nodes : List PlanNode) (root : ℕ) (plan : IsPlan nodes) (small : AreSmall (figures_of nodes root)) where
  by_node : (node : PlanNode) (it : Spare) → slice_get nodes root ≡ Some node → spare_at nodes root ≡ Some it
      → (figures_with nodes root (Some it) node).le < 2 ^ 32
  by_node (Window source body size advance) it at h = let z = soon nodes root it plan at h in omega (arith, z)
  by_node (Stream number kinds) it at h = small.le
  by_node (Body kinds) it at h = small.le
  by_node (Compute child ops) it at h = small.le
  by_node (Select child column) it at h = small.le
  by_node (Project child items) it at h = small.le
  by_node (Frames child by items) it at h = small.le
  by_node (Aggregate child aggs) it at h = small.le
  by_node (Union left right) it at h = small.le
  by_node (Merge left right) it at h = small.le
  by_node (Beside left right) it at h = small.le
  by_node (TimeWindow source body size advance) it at h = small.le
  by_node (Group source body key groups) it at h = small.le
  by_node (Partition source body key groups size advance) it at h = small.le

  by_spare : root < length nodes → (o : Option Spare) → spare_at nodes root ≡ o → (root_figures nodes root).le < 2 ^ 32
  by_spare within None h =
      let here = get_there nodes root within in
      let le = ap (λ (f : Figures). f.le) (figures_there nodes root here.0 None here.1 h) in
      omega (arith, le, small.le)
  by_spare within (Some it) h =
      let here = get_there nodes root within in
      let le = ap (λ (f : Figures). f.le) (figures_there nodes root here.0 (Some it) here.1 h) in
      let z = by_node here.0 it here.1 h in
      omega (arith, le, z)

pub root_small : (nodes : List PlanNode) (root : ℕ) → IsPlan nodes → root < length nodes → AreSmall (figures_of nodes root)
    → (root_figures nodes root).le < 2 ^ 32
root_small nodes root plan within small = by_spare nodes root plan small within (spare_at nodes root) refl
