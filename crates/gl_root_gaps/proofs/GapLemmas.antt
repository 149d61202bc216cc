-- The gaps of a node where ticks are farther apart than tuples, node by node: they follow from the nodes that it names, and later nodes
-- change none.
use Rattle.std.proofs.Common.{◌≡◌, ℕ, ◌<◌, List, [], ◌∷◌, length, Option, Some, None, All, slice_get, refl, ap, ◌∙◌, subst, arith}
use Rattle.std.proofs.lemmas.List.Elements.{All-head}
use Rattle.std.proofs.lemmas.Option.{slice_get_within}
use Rattle.gl_bits.proofs.Options.{some_same}
use Rattle.gl_algebra.specs.declared.figures.Figures.{Figures}
use Rattle.gl_algebra.specs.declared.node.PlanNode.{PlanNode}
use Rattle.gl_algebra.specs.declared.node.PlanNode.TheVariants.{Stream, Body, Compute, Select, Project, Frames, Aggregate, Union, Merge, Beside, Window, TimeWindow, Group, Partition}
use Rattle.gl_algebra.specs.FigureTable.{figures_of}
use Rattle.gl_algebra.specs.Fits.{IsPlan}
use Rattle.gl_algebra.specs.Nodewise.{named_by}
use Rattle.gl_algebra.proofs.FigureLemmas.{figures-kept}
use Rattle.gl_algebra.proofs.NodewiseLemmas.{Agree, AreInOrder, agree, agree_self, nodewise-kept, nodewise-node}
use Rattle.gl_algebra.proofs.PlanLemmas.{in_order}
use Rattle.gl_root_gaps.specs.declared.TickGaps.{TickGaps}
use Rattle.gl_root_gaps.specs.TickGaps.{tick_gaps_of}
use Rattle.gl_root_gaps.specs.Roots.{rows_below, tick_gaps_at, tick_gaps_from}

-- nodes that are named and have the same figures and the same gaps give the same gaps
pub gaps_local : (f g : ℕ → Figures) (v w : ℕ → Option TickGaps) (node : PlanNode) → Agree f g (named_by node) → Agree v w (named_by node)
    → tick_gaps_from f v node ≡ tick_gaps_from g w node
gaps_local f g v w (Stream number kinds) same gaps = refl
gaps_local f g v w (Body kinds) same gaps = refl
gaps_local f g v w (Compute child ops) same gaps = gaps.0
gaps_local f g v w (Select child column) same gaps = gaps.0
gaps_local f g v w (Project child items) same gaps = gaps.0
gaps_local f g v w (Frames child by items) same gaps = refl
gaps_local f g v w (Aggregate child aggs) same gaps = refl
gaps_local f g v w (Union left right) same gaps = refl
gaps_local f g v w (Merge left right) same gaps = refl
gaps_local f g v w (Beside left right) same gaps = refl
gaps_local f g v w (Window source body size advance) same gaps = refl
gaps_local f g v w (TimeWindow source body size advance) same gaps = ap (tick_gaps_of size advance) same.1.0
gaps_local f g v w (Group source body key groups) same gaps = refl
gaps_local f g v w (Partition source body key groups size advance) same gaps = refl

-- the gaps of a node, whichever it is
pub ticks_there : (nodes : List PlanNode) (number : ℕ) (node : PlanNode) → IsPlan nodes → slice_get nodes number ≡ Some node
    → tick_gaps_at nodes number ≡ tick_gaps_from (figures_of nodes) (tick_gaps_at nodes) node
unfolding tick_gaps_at
ticks_there nodes number node plan at =
    nodewise-node (tick_gaps_from (figures_of nodes)) None nodes (length nodes) (in_order nodes plan (length nodes))
    (λ k n below is v w same. gaps_local (figures_of nodes) (figures_of nodes) v w n (agree_self (figures_of nodes) (named_by n)) same)
    number node (slice_get_within nodes number node at) at

-- a node that takes rows one by one has the gaps of the node below
pub record IsAbove (nodes : List PlanNode) (number child : ℕ) : Type 0 where
  pub before : child < number
  pub same : tick_gaps_at nodes number ≡ tick_gaps_at nodes child

pub rows_above : (nodes : List PlanNode) (number : ℕ) (node : PlanNode) (child : ℕ) → IsPlan nodes → slice_get nodes number ≡ Some node
    → rows_below node ≡ Some child → IsAbove nodes number child
rows_above nodes number node child plan at is = by node at is
  where
    from : (n : PlanNode) (first : ℕ) → slice_get nodes number ≡ Some n → named_by n ≡ first ∷ []
        → tick_gaps_from (figures_of nodes) (tick_gaps_at nodes) n ≡ tick_gaps_at nodes first → Some first ≡ Some child → IsAbove nodes number child
    from n first there named gaps same =
        let below : first < number = All-head (λ c. c < number) first [] (subst (All (λ c. c < number)) named (plan.fits number n there).before) in
        subst (IsAbove nodes number) (some_same first child same) (record { before = below; same = ticks_there nodes number n plan there ∙ gaps })

    by : (n : PlanNode) → slice_get nodes number ≡ Some n → rows_below n ≡ Some child → IsAbove nodes number child
    by (Compute first ops) there same = from (Compute first ops) first there refl refl same
    by (Select first column) there same = from (Select first column) first there refl refl same
    by (Project first items) there same = from (Project first items) first there refl refl same
    by (Stream k kinds) there same = absurd (cc (same))
    by (Body kinds) there same = absurd (cc (same))
    by (Frames first key items) there same = absurd (cc (same))
    by (Aggregate first aggs) there same = absurd (cc (same))
    by (Union left right) there same = absurd (cc (same))
    by (Merge left right) there same = absurd (cc (same))
    by (Beside left right) there same = absurd (cc (same))
    by (Window source body size advance) there same = absurd (cc (same))
    by (TimeWindow source body size advance) there same = absurd (cc (same))
    by (Group source body key groups) there same = absurd (cc (same))
    by (Partition source body key groups size advance) there same = absurd (cc (same))

-- lists that agree below a limit give the same gaps there
module _ (nodes nodes' : List PlanNode) (limit : ℕ) (order : AreInOrder nodes limit)
    (kept : (number : ℕ) → number < limit → slice_get nodes' number ≡ slice_get nodes number) where
  pub ticks-kept : (number : ℕ) → number < limit → tick_gaps_at nodes number ≡ tick_gaps_at nodes' number
  unfolding tick_gaps_at
  ticks-kept number below =
      nodewise-kept (tick_gaps_from (figures_of nodes)) (tick_gaps_from (figures_of nodes')) None nodes nodes' limit order
      (λ at node in_limit is v w same. gaps_local (figures_of nodes) (figures_of nodes') v w node
      (agree (figures_of nodes) (figures_of nodes') at
      (λ child before. figures-kept nodes nodes' limit order kept child (omega arith)) (named_by node) (order at node in_limit is))
      same)
      kept number below
