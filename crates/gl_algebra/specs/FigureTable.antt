-- The figures of nodes: when and how densely the tuples of a node's wire come, from the figures of its inputs.
use Rattle.std.specs.Prelude.{ℕ, zero, suc, ◌+◌, ◌-◌, ◌*◌, ◌^◌, ◌<◌, ◌≤◌, max, List, [], ◌∷◌, Bool, ◌&&◌, nat_eq, nat_lt, if◌then◌else◌}
use Rattle.gl_values.specs.Kinds.{width_of}
use Rattle.gl_values.specs.declared.kind.Kind.{Kind}
use Rattle.gl_algebra.specs.declared.figures.Figures.{Figures}
use Rattle.gl_algebra.specs.declared.node.PlanNode.{PlanNode}
use Rattle.gl_algebra.specs.declared.node.PlanNode.TheVariants.{Stream, Body, Compute, Select, Project, Frames, Aggregate, Union, Merge, Beside, Window, TimeWindow, Group, Partition}
use Rattle.gl_algebra.specs.declared.node.PlanAgg.{PlanAgg}
use Rattle.gl_algebra.specs.declared.node.PlanAgg.TheVariants.{Count, Sum, Min, Max, Avg, Wsum}
use Rattle.gl_algebra.specs.Columns.{kind_of_operand}
use Rattle.gl_algebra.specs.Keys.{delay_by_key}
use Rattle.gl_algebra.specs.Nodewise.{nodewise}
use Rattle.gl_algebra.specs.Shapes.{Shape, shape_of}
use Rattle.gl_algebra.specs.Views.{copies_of_time, copies_of_window, copies_of_partition}

-- sound figures: intervals end after they begin, those of two beats never overlap, and after a beat with the end there
-- is room for a tuple and the gap is no less than after a beat without it
pub record IsSound (f : Figures) : Type 0 where
  pub tuples_last : f.a ≤ f.lt
  pub end_last : f.lt ≤ f.le
  pub tuples : f.nt ≤ f.ne
  pub some : 1 ≤ f.ne
  pub tuples_gap : f.lt - f.a + 1 ≤ f.gt
  pub end_gap : f.le - f.a + 1 ≤ f.ge
  pub gaps : f.gt ≤ f.ge

-- each figure fits 32 bits
pub record AreSmall (f : Figures) : Type 0 where
  pub a : f.a < 2 ^ 32
  pub lt : f.lt < 2 ^ 32
  pub le : f.le < 2 ^ 32
  pub nt : f.nt < 2 ^ 32
  pub ne : f.ne < 2 ^ 32
  pub gt : f.gt < 2 ^ 32
  pub ge : f.ge < 2 ^ 32

-- beats that keep the second figures keep the first
pub record NoCloser (f g : Figures) : Type 0 where
  pub gt : f.gt ≤ g.gt
  pub ge : f.ge ≤ g.ge

-- a stream, or the input of a body: each beat's tuple in the beat's own cycle
abbrev pub input_figures : Figures
input_figures = record { a = 0; lt = 0; le = 0; nt = 1; ne = 1; gt = 1; ge = 1 }

-- the last cycle after a beat without the end; with no tuple after such a beat it is the first one
abbrev pub last_of : ℕ → ℕ → ℕ → ℕ
last_of zero first last = first
last_of (suc tuples) first last = last

-- figures whose last cycle of a beat without the end is the first one where no tuple comes after such a beat
abbrev pub settled : Figures → Figures
settled f = record f { lt = last_of f.nt f.a f.lt }

-- some cycles later
abbrev pub delayed : ℕ → Figures → Figures
delayed cycles f = record f { a = f.a + cycles; lt = f.lt + cycles; le = f.le + cycles }

-- the cycles from an aggregate's operand to its value: an average of width w takes w + 34
abbrev pub delay_of_agg : List Kind → PlanAgg → ℕ
delay_of_agg kinds Count = 1
delay_of_agg kinds (Sum operand) = 1
delay_of_agg kinds (Min operand) = 1
delay_of_agg kinds (Max operand) = 1
delay_of_agg kinds (Avg operand) = width_of (kind_of_operand kinds operand) + 34
delay_of_agg kinds (Wsum operand weights) = 1

-- the cycles of the slowest aggregate, at least 1
abbrev pub delay_of_aggs : List Kind → List PlanAgg → ℕ
delay_of_aggs kinds [] = 1
delay_of_aggs kinds (agg ∷ aggs) = max (delay_of_agg kinds agg) (delay_of_aggs kinds aggs)

-- one tuple with the end, the delay later
abbrev pub aggregate_figures : ℕ → Figures → Figures
aggregate_figures delay f = record {
  a = f.a + delay;
  lt = f.a + delay;
  le = f.le + delay;
  nt = 0;
  ne = 1;
  gt = f.gt;
  ge = max f.ge (f.le - f.a + 1);
}

-- the cycles by which a side waits for the other, so that both begin together
abbrev pub wait_of : Figures → Figures → ℕ
wait_of side other = other.a - side.a

-- two sides that begin together, merged one tuple a cycle, the end last
abbrev pub merged : Figures → Figures → Figures
merged p q =
    let a = p.a + 1 in
    let lt = last_of (p.nt + q.nt) a (max p.lt q.lt + p.nt + q.nt) in
    let le = max p.le q.le + p.ne + q.ne + 1 in
    record {
      a = a;
      lt = lt;
      le = le;
      nt = p.nt + q.nt;
      ne = p.ne + q.ne;
      gt = max (max p.gt q.gt) (lt - a + 1);
      ge = max (max p.ge q.ge) (le - a + 1);
    }

-- the side that begins earlier waits for the other, and both are merged one tuple a cycle
abbrev pub union_figures : Figures → Figures → Figures
union_figures p q = merged (delayed (wait_of p q) p) (delayed (wait_of q p) q)

-- the cycles by which the left side waits: its interval is over in the cycle before the right side's begins, at least
abbrev pub left_wait : Figures → Figures → ℕ
left_wait p q = q.a - (p.le + 1)

-- the cycles by which the right side waits: its interval begins in the cycle behind the last one of the left side's, at
-- least
abbrev pub right_wait : Figures → Figures → ℕ
right_wait p q = p.le + 1 - q.a

-- the cycles that either side waits; for one of them they are 0
abbrev pub waits : Figures → Figures → ℕ
waits p q = left_wait p q + right_wait p q

-- two sides, the right one's interval behind the left one's: a cycle later, and the end is the right side's
abbrev pub in_turn : Figures → Figures → Figures
in_turn p q =
    let a = p.a + 1 in
    let lt = q.lt + 1 in
    let le = q.le + 1 in
    record {
      a = a;
      lt = lt;
      le = le;
      nt = p.nt + q.nt;
      ne = p.ne + q.ne;
      gt = max (max p.gt q.gt) (lt - a + 1);
      ge = max (max p.ge q.ge) (le - a + 1);
    }

-- one side waits until the right one's interval begins in the cycle behind the left one's, and both take turns
abbrev pub turn_figures : Figures → Figures → Figures
turn_figures p q = in_turn (delayed (left_wait p q) p) (delayed (right_wait p q) q)

-- each tuple and end comes a fixed time after its beat
abbrev pub is_fixed : Figures → Bool
is_fixed f = nat_eq f.a f.lt && nat_eq f.lt f.le

-- two sides that begin together and come a fixed time after their beats, in step
abbrev pub in_step : Figures → Figures → Figures
in_step p q = record {
  a = p.a;
  lt = p.a;
  le = p.a;
  nt = p.nt;
  ne = p.ne;
  gt = max p.gt q.gt;
  ge = max p.ge q.ge;
}

-- two sides that begin together and give one row with the end
abbrev pub at_end : Figures → Figures → Figures
at_end p q =
    let a = p.a + 1 in
    let le = max p.le q.le + 2 in
    record {
      a = a;
      lt = a;
      le = le;
      nt = 0;
      ne = 1;
      gt = max p.gt q.gt;
      ge = max (max p.ge q.ge) (le - a + 1);
    }

-- two sides that begin together, side by side
abbrev pub joined : Figures → Figures → Figures
joined p q = if is_fixed p && is_fixed q then in_step p q else at_end p q

-- the side that begins earlier waits for the other, and both stand side by side
abbrev pub beside_figures : Figures → Figures → Figures
beside_figures p q = joined (delayed (wait_of p q) p) (delayed (wait_of q p) q)

-- a spacer: what it takes in leaves at least `gap` cycles apart
abbrev pub spacer_figures : ℕ → Figures → Figures
spacer_figures gap f =
    let a = f.a + 1 in
    let lt = last_of f.nt a (f.lt + 1 + (f.nt - 1) * gap) in
    let le = f.le + 1 + f.ne * gap in
    record {
      a = a;
      lt = lt;
      le = le;
      nt = f.nt;
      ne = f.ne;
      gt = max f.gt (lt - a + gap);
      ge = max f.ge (le - a + gap);
    }

-- a spacer stands before bodies that take no tuple in each cycle, where more than one cycle may bring one
abbrev pub needs_spacer : ℕ → Figures → Bool
needs_spacer gap f = nat_lt 1 gap && nat_lt f.a f.le

-- figures behind a spacer of this gap, where one is needed
abbrev pub spaced : ℕ → Figures → Figures
spaced gap f = if needs_spacer gap f then spacer_figures gap f else f

-- the cycles by which the ends of two copies of a body are apart
abbrev pub stride_of : Figures → ℕ
stride_of body = body.le - body.a + 1

-- the cycles that a window's copy needs from one tuple to the next
abbrev pub window_gap : Figures → ℕ
window_gap body = max body.gt body.ge

-- the cycles that a group's copy needs from one tuple to the next
abbrev pub group_gap : Figures → ℕ
group_gap body = body.gt

-- the cycles that the copies of a node's body need from one tuple to the next, 0 where it has no body
abbrev pub gap_in : (ℕ → Figures) → PlanNode → ℕ
gap_in figures (Window source body size advance) = window_gap (figures body)
gap_in figures (TimeWindow source body size advance) = window_gap (figures body)
gap_in figures (Group source body key groups) = group_gap (figures body)
gap_in figures (Partition source body key groups size advance) = window_gap (figures body)
gap_in figures node = 0

-- windows of this many copies, over a source that is spaced already. Windows of time are over a stream: a beat brings
-- one tick at most, as it brings one tuple at most, and so one window ends with it, or with an end all that are open
abbrev pub windows_over : ℕ → Figures → Figures → Figures
windows_over copies f body =
    let a = f.a + body.a + 2 in
    record {
      a = a;
      lt = last_of (f.nt * body.ne) a (f.lt + body.le + 2);
      le = f.le + body.le + (copies - 1) * stride_of body + 3;
      nt = f.nt * body.ne;
      ne = (max f.ne 1 - 1 + copies) * body.ne;
      gt = max f.gt (f.lt - f.a + window_gap body);
      ge = max f.ge (f.le - f.a + ((copies - 1) * stride_of body + body.ge + 1));
    }

-- the figures of windows over a source, behind a spacer where their copies need one
abbrev pub window_figures : ℕ → Figures → Figures → Figures
window_figures copies f body = windows_over copies (spaced (window_gap body) f) body

-- so many groups, over a source that is spaced already; the next stream finds all slots free
abbrev pub groups_over : ℕ → Figures → Figures → Figures
groups_over groups f body = record {
  a = f.a + body.a + 2;
  lt = f.a + body.a + 2;
  le = f.le + body.le + (groups - 1) * stride_of body + 3;
  nt = 0;
  ne = groups * body.ne;
  gt = max f.gt (f.lt - f.a + group_gap body);
  ge = max f.ge (f.le - f.a + ((groups - 1) * stride_of body + max (body.ge + 1) (body.le + 3)));
}

-- the figures of groups over a source, behind a spacer where their copies need one
abbrev pub group_figures : ℕ → Figures → Figures → Figures
group_figures groups f body = groups_over groups (spaced (group_gap body) f) body

-- windows of each key, of this many copies for all keys, over a source that is spaced already: after the end of a stream
-- each copy has a turn, behind one for the window that the last row completes; the next stream finds all slots free
abbrev pub partitions_over : ℕ → Figures → Figures → Figures
partitions_over copies f body =
    let a = f.a + body.a + 2 in
    record {
      a = a;
      lt = last_of (f.nt * body.ne) a (f.lt + body.le + 2);
      le = f.le + body.le + copies * stride_of body + 3;
      nt = f.nt * body.ne;
      ne = (max f.ne 1 - 1 + copies) * body.ne;
      gt = max f.gt (f.lt - f.a + window_gap body);
      ge = max f.ge (f.le - f.a + (copies * stride_of body + max body.ge (body.le + 2) + 1));
    }

-- the figures of windows of each key over a source, behind a spacer where their copies need one
abbrev pub partition_figures : ℕ → Figures → Figures → Figures
partition_figures copies f body = partitions_over copies (spaced (window_gap body) f) body

-- the table: a node's figures, from those of the nodes that it names, whose shapes tell the widths of averages
abbrev pub figures_from : (ℕ → Shape) → (ℕ → Figures) → PlanNode → Figures
figures_from shapes figures (Stream number kinds) = input_figures
figures_from shapes figures (Body kinds) = input_figures
figures_from shapes figures (Compute child ops) = settled (delayed 1 (figures child))
figures_from shapes figures (Select child column) = settled (delayed 1 (figures child))
figures_from shapes figures (Project child items) = settled (figures child)
figures_from shapes figures (Frames child by items) =
    settled (delayed (delay_by_key (shapes child).kinds by items) (figures child))
figures_from shapes figures (Aggregate child aggs) =
    aggregate_figures (delay_of_aggs (shapes child).kinds aggs) (figures child)
figures_from shapes figures (Union left right) = union_figures (figures left) (figures right)
figures_from shapes figures (Merge left right) = turn_figures (figures left) (figures right)
figures_from shapes figures (Beside left right) = beside_figures (figures left) (figures right)
figures_from shapes figures (Window source body size advance) =
    window_figures (copies_of_window size advance) (figures source) (figures body)
figures_from shapes figures (TimeWindow source body size advance) =
    window_figures (copies_of_time size advance) (figures source) (figures body)
figures_from shapes figures (Group source body key groups) =
    group_figures groups (figures source) (figures body)
figures_from shapes figures (Partition source body key groups size advance) =
    partition_figures (copies_of_partition groups size advance) (figures source) (figures body)

-- the figures of a node
unfoldable pub figures_of : List PlanNode → ℕ → Figures
figures_of nodes = nodewise (figures_from (shape_of nodes)) input_figures nodes
