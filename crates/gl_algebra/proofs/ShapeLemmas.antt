-- Shapes and fitting: later nodes change neither.
use Rattle.std.proofs.Common.{◌≡◌, ℕ, ◌<◌, ◌≤◌, List, Some, slice_get, All, refl, ap, ◌∙◌, subst, arith, lit<}
use Rattle.gl_algebra.specs.declared.node.PlanNode.{PlanNode}
use Rattle.gl_algebra.specs.declared.node.PlanNode.TheVariants.{Stream, Body, Compute, Select, Project, Frames, Aggregate, Union, Merge, Beside, Window, TimeWindow, Group, Partition}
use Rattle.gl_algebra.specs.Columns.{bit_kind, OpFits, OperandFits, AggFits, FrameFits}
use Rattle.gl_algebra.specs.Nodewise.{named_by}
use Rattle.gl_algebra.specs.Shapes.{Shape, no_shape, shape_from, shape_of}
use Rattle.gl_algebra.specs.Fits.{KeyFits, Suits, Fits, IsOverStream}
use Rattle.gl_algebra.proofs.NodewiseLemmas.{Agree, AreInOrder, SameSteps, agree, nodewise-kept, nodewise-node, FollowsRow}

module _ (s t : ℕ → Shape) where
  -- a node's shape follows from those of the nodes that it names
  pub shape_local : (node : PlanNode) → Agree s t (named_by node) → shape_from s node ≡ shape_from t node
  shape_local (Stream number kinds) h = refl
  shape_local (Body kinds) h = refl
  shape_local (Compute child ops) h = ap (λ (x : Shape). shape_from (λ _. x) (Compute child ops)) h.0
  shape_local (Select child column) h = ap (λ (x : Shape). shape_from (λ _. x) (Select child column)) h.0
  shape_local (Project child items) h = ap (λ (x : Shape). shape_from (λ _. x) (Project child items)) h.0
  shape_local (Frames child by items) h = ap (λ (x : Shape). shape_from (λ _. x) (Frames child by items)) h.0
  shape_local (Aggregate child aggs) h = ap (λ (x : Shape). shape_from (λ _. x) (Aggregate child aggs)) h.0
  shape_local (Union left right) h = rw (h.0, h.1.0)
  shape_local (Merge left right) h = rw (h.0, h.1.0)
  shape_local (Beside left right) h = rw (h.0, h.1.0)
  shape_local (Window source body size advance) h = rw (h.0, h.1.0)
  shape_local (TimeWindow source body size advance) h = rw (h.0, h.1.0)
  shape_local (Group source body key groups) h = rw (h.0, h.1.0)
  shape_local (Partition source body key groups size advance) h = rw (h.0, h.1.0)

  -- so does whether it suits them
  pub suits_local : (node : PlanNode) → Agree s t (named_by node) → Suits s node → Suits t node
  suits_local (Stream number kinds) h suits = suits
  suits_local (Body kinds) h suits = suits
  suits_local (Compute child ops) h suits = subst (λ (x : Shape). All (OpFits x.kinds) ops) h.0 suits
  suits_local (Select child column) h suits = subst (λ (x : Shape). slice_get x.kinds column ≡ Some bit_kind) h.0 suits
  suits_local (Project child items) h suits = subst (λ (x : Shape). All (OperandFits x.kinds) items) h.0 suits
  suits_local (Frames child by items) h suits = subst (λ (x : Shape). All (FrameFits x.kinds) items × KeyFits x.kinds by) h.0 suits
  suits_local (Aggregate child aggs) h suits = subst (λ (x : Shape). All (AggFits x.kinds) aggs) h.0 suits
  suits_local (Union left right) h suits = rw (← h.0, ← h.1.0) suits
  suits_local (Merge left right) h suits = rw (← h.0, ← h.1.0) suits
  suits_local (Beside left right) h suits = rw (← h.0, ← h.1.0) suits
  suits_local (Window source body size advance) h suits = rw (← h.0, ← h.1.0) suits
  suits_local (TimeWindow source body size advance) h suits = rw (← h.0, ← h.1.0) suits
  suits_local (Group source body key groups) h suits = rw (← h.0, ← h.1.0) suits
  suits_local (Partition source body key groups size advance) h suits = rw (← h.0, ← h.1.0) suits

pub shape_steps : (nodes : List PlanNode) (limit : ℕ) → SameSteps shape_from shape_from nodes limit
shape_steps nodes limit number node below is v w same = shape_local v w node same

module _ (nodes nodes' : List PlanNode) (limit : ℕ) (order : AreInOrder nodes limit)
    (kept : (number : ℕ) → number < limit → slice_get nodes' number ≡ slice_get nodes number) where
  -- lists that agree below a limit give the same shapes there
  pub shape-kept : (number : ℕ) → number < limit → shape_of nodes number ≡ shape_of nodes' number
  unfolding shape_of
  shape-kept number below =
      nodewise-kept shape_from shape_from no_shape nodes nodes' limit order (shape_steps nodes limit) kept number below

  -- the source of a window of time is the same stream there
  stream-kept : (number : ℕ) (node : PlanNode) → number ≤ limit → All (λ child. child < number) (named_by node) → IsOverStream nodes node
      → IsOverStream nodes' node
  stream-kept number (TimeWindow source body size advance) within before over =
      let below : source < number = before 0 0 (lit< tt) in
      (over.0, over.1, kept source (omega arith) ∙ over.2)
  stream-kept number _ within before over = tt

  -- and a node that names nodes below it fits one as it fits the other
  pub fits-kept : (number : ℕ) (node : PlanNode) → number ≤ limit → Fits nodes number node → Fits nodes' number node
  fits-kept number node within fits = record {
    before = fits.before;
    suits = suits_local (shape_of nodes) (shape_of nodes') node
        (agree (shape_of nodes) (shape_of nodes') number (λ child below. shape-kept child (omega arith)) (named_by node) fits.before)
        fits.suits;
    timed = stream-kept number node within fits.before fits.timed;
  }

pub shape-node : FollowsRow shape_of (λ nodes. shape_from)
unfolding shape_of
shape-node nodes limit order number node below is =
    nodewise-node shape_from no_shape nodes limit order (shape_steps nodes limit) number node below is
