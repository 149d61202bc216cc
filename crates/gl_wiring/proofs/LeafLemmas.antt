-- The circuits of leaves.
use Rattle.std.proofs.Common.{◌≡◌, ℕ, ◌+◌, ◌<◌, List, Some, Bool, false, length, slice_get, sym, ap, subst, arith, Option}
use Rattle.std.specs.Prelude.{is_some}
use Rattle.std.proofs.lemmas.Option.{slice_get_within}
use Rattle.gl_values.specs.declared.kind.Kind.{Kind}
use Rattle.gl_values.specs.Results.{Row, IsInput}
use Rattle.gl_algebra.specs.Values.{Sets}
use Rattle.gl_algebra.specs.declared.node.PlanNode.{PlanNode}
use Rattle.gl_algebra.specs.declared.node.PlanNode.TheVariants.{Stream, Body}
use Rattle.gl_algebra.specs.FigureTable.{input_figures}
use Rattle.gl_algebra.specs.Fits.{IsPlan}
use Rattle.gl_algebra.specs.Results.{Arriving, Inputs, IsPlanArrival, Meaning, IsPlanResult}
use Rattle.gl_algebra.specs.Shapes.{Shape, shape_of}
use Rattle.gl_net.specs.declared.node.Bit.{Bit}
use Rattle.gl_net.specs.Net.{Net, Run}
use Rattle.gl_net.proofs.Growth.{same_keeps}
use Rattle.gl_wire.specs.declared.emitted.Emitted.{Emitted}
use Rattle.gl_wire.specs.declared.emitted.Faults.{Faults}
use Rattle.gl_wire.specs.declared.wire.Wire.{Wire}
use Rattle.gl_wire.specs.Costs.{CostsAtMost}
use Rattle.gl_wire.specs.Beats.{Beats}
use Rattle.gl_wire.specs.Faults.{AreLines, line_of, lines_of, no_faults}
use Rattle.gl_wire.specs.Pace.{InStep, KeepsPace}
use Rattle.gl_wire.specs.Serving.{Serving, inputs_at}
use Rattle.gl_wire.specs.Ticks.{cycles_at}
use Rattle.gl_wire.specs.Wire.{Carried, IsWire, carried, stream, widths}
use Rattle.gl_wire.proofs.ServingLemmas.{leaf_serving, serving_as}
use Rattle.gl_arrival.specs.Places.{Placed, at_places}
use Rattle.gl_arrival.specs.Results.{IsArrival}
use Rattle.gl_turns.specs.Dated.{Dated}
use Rattle.gl_turns.proofs.DatedLemmas.{dated_as, dated_leaf}
use Rattle.gl_wiring.specs.Below.{LawsBelow}
use Rattle.gl_wiring.specs.Leaves.{HasLeaf, HaveLeaves, LeavesFit, carried_by, leaf, leaf_kinds, leaf_place, widths_of}
use Rattle.gl_wiring.specs.Put.{GivesAs, IsPutBehind, own_cost}
use Rattle.gl_wiring.proofs.DatedServing.{WithSpill, dated_alone, results_alone}

-- a leaf's wire gives the leaf
module _ (s : Shape) (v : Arriving) (m : Meaning) (k : ℕ) (net : Net) (tick : Option Bit) (leaves : List Wire) (e : Emitted) (at : slice_get leaves k ≡ Some e.wire) (none : e.faults ≡ no_faults)
    (is : IsWire net e.wire) (columns : widths e.wire.columns ≡ widths_of s.kinds) (pace : (ls : ℕ → Carried) → KeepsPace s.pace 0 ls (ls k))
    (results : (sets : Sets) (ticks : ℕ → Bool) (ls : ℕ → Carried) (t : ℕ) (ys : List Row) (p : Bool) → IsInput (stream (ls k) t) ys p → m (inputs_at sets ticks ls (ls 0) t) ys p)
    (placed : (sets : Sets) (ticks : ℕ → Bool) (ls : ℕ → Carried) (t : ℕ) (xs : List (Placed Row)) (p : Bool) → IsArrival (at_places (stream (ls k) t) (cycles_at (ls k) t)) xs p
    → v (inputs_at sets ticks ls (ls 0) t) xs p) where
  module _ (run : Run) (beats : Beats) (fits : LeavesFit run tick leaves beats) where
    abbrev ins : ℕ → Inputs
    ins = inputs_at run.held (line_of run tick) (leaf run leaves) (leaf run leaves 0)

    same : leaf run leaves k ≡ carried run e.wire
    same = ap (carried_by run) at

    -- it never spills
    abbrev chosen : Serving input_figures (WithSpill (λ t. m (ins t)) (λ t. false)) (lines_of run e.faults) beats (carried run e.wire)
    chosen =
        serving_as input_figures (λ t. IsInput (stream (carried run e.wire) t)) (WithSpill (λ t. m (ins t)) (λ t. false)) (lines_of run e.faults) beats (carried run e.wire)
        (λ t ys p x. (results run.held (line_of run tick) (leaf run leaves) t ys p (subst (λ (c : Carried). IsInput (stream c t) ys p) (sym same) x), x.kept))
        (leaf_serving (lines_of run e.faults) beats (carried run e.wire) (fits.each k e.wire at)
        (λ c. ap (λ (f : Faults). line_of run f.passed c) none) (λ c. ap (λ (f : Faults). line_of run f.further c) none))

    abbrev served : Serving input_figures (λ t. m (ins t)) (lines_of run e.faults) beats (carried run e.wire)
    served = results_alone input_figures (lines_of run e.faults) beats (carried run e.wire) (λ t. m (ins t)) (λ t. false) chosen

    comes : Dated input_figures (λ t. v (ins t)) (λ t n. n) served.spill beats (carried run e.wire)
    comes =
        dated_alone input_figures (lines_of run e.faults) beats (carried run e.wire) (λ t. m (ins t)) (λ t. false) chosen (λ t. v (ins t)) (λ t n. n)
        (dated_as input_figures (λ t. IsArrival (at_places (stream (carried run e.wire) t) (cycles_at (carried run e.wire) t))) (λ t n. n) (λ t. false) beats
        (λ t. v (ins t)) (carried run e.wire)
        (λ t xs p x. placed run.held (line_of run tick) (leaf run leaves) t xs p (subst (λ (c : Carried). IsArrival (at_places (stream c t) (cycles_at c t)) xs p) (sym same) x))
        (dated_leaf beats (carried run e.wire) (fits.each k e.wire at)))

  leaf_gives : GivesAs s input_figures v m net tick leaves e
  leaf_gives = record {
    wire = is;
    same_widths = columns;
    lines = subst (AreLines net) (sym none) (record { passed = tt; further = tt });
    paced = λ run r. subst (KeepsPace s.pace 0 (leaf run leaves)) (ap (carried_by run) at) (pace (leaf run leaves));
    serving = λ run r beats spaced fits. served run beats fits;
    dated = λ run r beats spaced fits came. comes run beats fits;
  }

at_once : (leaf : Carried) → InStep 0 leaf leaf
at_once leaf = record {
  before = λ c l. absurd (omega (arith, l));
  each = λ c. let e : c + 0 ≡ c = omega arith in ap (λ (i : ℕ). is_some (leaf.tuple i)) e;
}

-- the leaf's wire is the one that is asked for
pub leaf_wire : (net : Net) (leaves : List Wire) (node : PlanNode) (w : Wire) → HasLeaf net leaves node → slice_get leaves (leaf_place node) ≡ Some w
    → IsWire net w × (widths w.columns ≡ widths_of (leaf_kinds node))
leaf_wire net leaves node w h at = let same : h.wire ≡ w = let z = h.there in cc in
    (subst (IsWire net) same h.is, subst (λ (x : Wire). widths x.columns ≡ widths_of (leaf_kinds node)) same h.same_widths)

-- nothing is added
no_cost : (nodes : List PlanNode) (id : ℕ) (net : Net) → CostsAtMost net net (own_cost nodes id)
no_cost nodes id net = record { nodes = omega arith; registers = omega arith; memories = omega arith }

module _ (laws : LawsBelow) (nodes : List PlanNode) (id : ℕ) (net : Net) (tick : Option Bit) (leaves : List Wire) (plan : IsPlan nodes) (has : HaveLeaves net leaves (shape_of nodes id).leaves) where
  pub stream_there : (number : ℕ) (kinds : List Kind) → slice_get nodes id ≡ Some (Stream number kinds) → number < length leaves
  stream_there number kinds at =
      let follows = laws.nodes_follow_tables nodes id (Stream number kinds) plan at in
      let h = (rw follows.shape at has).0 in slice_get_within leaves number h.wire h.there

  pub body_there : (kinds : List Kind) → slice_get nodes id ≡ Some (Body kinds) → 0 < length leaves
  body_there kinds at =
      let follows = laws.nodes_follow_tables nodes id (Body kinds) plan at in
      let h = (rw follows.shape at has).0 in slice_get_within leaves 0 h.wire h.there

  pub stream_put : (e : Emitted) (number : ℕ) (kinds : List Kind) → slice_get nodes id ≡ Some (Stream number kinds)
      → slice_get leaves number ≡ Some e.wire → e.faults ≡ no_faults → IsPutBehind nodes id net net tick leaves e
  stream_put e number kinds at there none =
      let follows = laws.nodes_follow_tables nodes id (Stream number kinds) plan at in
      let h = leaf_wire net leaves (Stream number kinds) e.wire (rw follows.shape at has).0 there in
      record {
        keeps = same_keeps net;
        cost = no_cost nodes id net;
        gives = rw (follows.shape, follows.figures) (leaf_gives _ (IsPlanArrival nodes id) (IsPlanResult nodes id) number net tick leaves e there none h.0 h.1
            (λ ls. at_once (ls number)) (λ sets ticks ls t ys p x. (follows.results (inputs_at sets ticks ls (ls 0) t) ys p).1 x)
            (λ sets ticks ls t xs p x. (follows.arrivals (inputs_at sets ticks ls (ls 0) t) xs p).1 x));
      }

  pub body_put : (e : Emitted) (kinds : List Kind) → slice_get nodes id ≡ Some (Body kinds)
      → slice_get leaves 0 ≡ Some e.wire → e.faults ≡ no_faults → IsPutBehind nodes id net net tick leaves e
  body_put e kinds at there none =
      let follows = laws.nodes_follow_tables nodes id (Body kinds) plan at in
      let h = leaf_wire net leaves (Body kinds) e.wire (rw follows.shape at has).0 there in
      record {
        keeps = same_keeps net;
        cost = no_cost nodes id net;
        gives = rw (follows.shape, follows.figures) (leaf_gives _ (IsPlanArrival nodes id) (IsPlanResult nodes id) 0 net tick leaves e there none h.0 h.1
            (λ ls. at_once (ls 0)) (λ sets ticks ls t ys p x. (follows.results (inputs_at sets ticks ls (ls 0) t) ys p).1 x)
            (λ sets ticks ls t xs p x. (follows.arrivals (inputs_at sets ticks ls (ls 0) t) xs p).1 x));
      }
