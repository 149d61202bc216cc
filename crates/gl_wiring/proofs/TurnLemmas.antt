-- The circuit of a union by arrival behind those of its sides: what ends for a beat is the order of arrival of what ends
-- for it on both sides.
use Rattle.std.proofs.Common.{◌≡◌, ℕ, List, [], ◌∷◌, length, Bool, true, ◌||◌, Some, Option, slice_get, refl, sym, ap, ◌∙◌, subst, arith}
use Rattle.std.specs.Prelude.{IsTrue}
use Rattle.std.proofs.lemmas.List.{length-map}
use Rattle.gl_bits.proofs.Bools.{and_parts}
use Rattle.gl_values.specs.Kinds.{width_of}
use Rattle.gl_values.specs.Lists.{IsInterleaving}
use Rattle.gl_values.specs.Results.{Results, Row}
use Rattle.gl_arrival.specs.Places.{Placed, rows_of}
use Rattle.gl_arrival.specs.Results.{IsByArrival, IsWithoutPlaces}
use Rattle.gl_arrival.proofs.ChangeLemmas.{moved_by_none}
use Rattle.gl_algebra.specs.declared.figures.Figures.{Figures}
use Rattle.gl_algebra.specs.declared.node.PlanNode.{PlanNode}
use Rattle.gl_algebra.specs.declared.node.PlanNode.TheVariants.{Merge}
use Rattle.gl_algebra.specs.FigureTable.{figures_of, turn_figures}
use Rattle.gl_algebra.specs.Fits.{IsPlan}
use Rattle.gl_algebra.specs.Results.{Arriving, Inputs, IsPlanArrival, IsPlanResult, Meaning}
use Rattle.gl_algebra.specs.Shapes.{Pace, Shape, kinds_of, shape_of, unsteady}
use Rattle.gl_net.specs.declared.node.Bit.{Bit}
use Rattle.gl_net.specs.Net.{Net, Run, IsRun}
use Rattle.gl_figures.proofs.PartLemmas.{parts_at}
use Rattle.gl_wire.specs.declared.emitted.Emitted.{Emitted}
use Rattle.gl_wire.specs.declared.wire.Wire.{Wire}
use Rattle.gl_wire.specs.Beats.{Beats, Spaced}
use Rattle.gl_wire.specs.Costs.{CostsAtMost}
use Rattle.gl_wire.specs.Faults.{line_of, lines_of}
use Rattle.gl_wire.specs.Pace.{KeepsPace}
use Rattle.gl_wire.specs.Serving.{Serving, inputs_at, through_both}
use Rattle.gl_wire.specs.Serves.{HasEnd}
use Rattle.gl_wire.specs.Spills.{both_lines, never2}
use Rattle.gl_wire.specs.Wire.{Carried, carried, stream, widths}
use Rattle.gl_wire.proofs.CountLemmas.{narrow_kinds}
use Rattle.gl_wire.proofs.DelayLemmas.{spaced_closer}
use Rattle.gl_wire.proofs.ServingLemmas.{serving_lines, serving_then2}
use Rattle.gl_turns.specs.Blocks.{AreTurnsOf, cost_of_turns}
use Rattle.gl_turns.specs.Dated.{Dated}
use Rattle.gl_turns.specs.Dates.{stream_at_beats}
use Rattle.gl_turns.proofs.DateLemmas.{stream_without}
use Rattle.gl_turns.proofs.DatedLemmas.{dated_as, dated_turns}
use Rattle.gl_wiring.specs.Below.{LawsBelow}
use Rattle.gl_wiring.specs.Leaves.{LeavesFit, leaf, widths_of}
use Rattle.gl_wiring.specs.Put.{Gives, GivesAs, IsPutBehind}
use Rattle.gl_wiring.proofs.CanLemmas.{first_within}
use Rattle.gl_wiring.proofs.CostLemmas.{cost_behind}
use Rattle.gl_wiring.proofs.DatedServing.{WithSpill, dated_alone, results_alone, serving_right, with_spill}
use Rattle.gl_wiring.proofs.PairLemmas.{or_none}

-- what ends for a beat without its places
ended : (first : ℕ) (beats : Beats) (o : Carried) (e : ℕ) (rows : List (Placed Row)) → stream_at_beats first beats o e ≡ rows → stream o e ≡ rows_of rows
ended first beats o e rows same = sym (stream_without first beats o e) ∙ ap (λ (l : List (Placed Row)). rows_of l) same

module _ (s s' t : Shape) (p q : Figures) (v v' arrivals : Arriving) (m m' means : Meaning) (old new : Net) (tick : Option Bit) (leaves : List Wire) (a b e : Emitted)
    (left : GivesAs s p v m old tick leaves a) (right : GivesAs s' q v' m' old tick leaves b) (turns : AreTurnsOf old new p q a b e)
    (same : widths a.wire.columns ≡ widths_of t.kinds) (plain : t.pace ≡ unsteady) (came : IsTrue s.arrives) (came' : IsTrue s'.arrives)
    (results : (i : Inputs) (ys : List Row) (spill : Bool) → IsWithoutPlaces (IsByArrival (v i) (v' i)) ys spill → means i ys spill)
    (placed : (i : Inputs) (xs : List (Placed Row)) (spill : Bool) → IsByArrival (v i) (v' i) xs spill → arrivals i xs spill) where
  abbrev h : Figures
  h = turn_figures p q

  module _ (run : Run) (r : IsRun new run) (beats : Beats) (apart : Spaced h beats) (fits : LeavesFit run tick leaves beats) where
    abbrev ins : ℕ → Inputs
    ins = inputs_at run.held (line_of run tick) (leaf run leaves) (leaf run leaves 0)

    before : IsRun old run
    before = turns.behind.keeps.runs run r

    near : Spaced p beats
    near = spaced_closer p h beats (record { gt = omega arith; ge = omega arith }) apart

    near' : Spaced q beats
    near' = spaced_closer q h beats (record { gt = omega arith; ge = omega arith }) apart

    abbrev x : Serving p (λ n. m (ins n)) (lines_of run a.faults) beats (carried run a.wire)
    x = left.serving run before beats near fits

    abbrev y : Serving q (λ n. m' (ins n)) (lines_of run b.faults) beats (carried run b.wire)
    y = right.serving run before beats near' fits

    both : Dated h (λ n. IsByArrival (v (ins n)) (v' (ins n))) (λ n k. k) (λ n. x.spill n || y.spill n) beats (carried run e.wire)
    both =
        dated_turns p q h (λ n. v (ins n)) (λ n. v' (ins n)) (λ n k. k) x.spill y.spill beats (carried run a.wire) (carried run b.wire) (carried run e.wire) (λ n j k. refl)
        x.fits y.fits (turns.in_order run r beats apart x.fits y.fits)
        (left.dated run before beats near fits came) (right.dated run before beats near' fits came')

    -- what both sides may end for a beat, taken together
    abbrev sides : ℕ → Results
    sides n = through_both (WithSpill (λ n. m (ins n)) x.spill n) (WithSpill (λ n. m' (ins n)) y.spill n) (never2 IsInterleaving)

    abbrev joined : Serving h sides (lines_of run e.faults) beats (carried run e.wire)
    joined =
        serving_lines h sides (lines_of run e.faults) (both_lines (both_lines (lines_of run a.faults) (lines_of run b.faults)) (turns.behind.serves run r).0) beats (carried run e.wire)
        (turns.behind.serves run r).1
        (serving_then2 p q h (WithSpill (λ n. m (ins n)) x.spill) (WithSpill (λ n. m' (ins n)) y.spill) (never2 IsInterleaving) (lines_of run a.faults) (lines_of run b.faults)
        (turns.behind.serves run r).0 beats (carried run a.wire) (carried run b.wire) (carried run e.wire)
        (with_spill p (lines_of run a.faults) beats (carried run a.wire) (λ n. m (ins n)) x) (with_spill q (lines_of run b.faults) beats (carried run b.wire) (λ n. m' (ins n)) y)
        ((turns.behind.serves run r).2 beats apart x.fits y.fits tt))

    -- in the order of arrival, with the choice of either side
    in_turn : (n k : ℕ) → beats n ≡ Some true → HasEnd h (carried run e.wire) n k
        → WithSpill (λ n. means (ins n)) (λ n. x.spill n || y.spill n) n (stream (carried run e.wire) k) (joined.spill n)
    in_turn n k is here =
        let j = joined.right n k is here in
        let spill : joined.spill n ≡ (x.spill n || y.spill n) =
        j.8 ∙ or_none (j.2 || j.3) j.4 j.7.1 ∙ ap (λ (s : Bool). s || j.3) j.5.1 ∙ ap (λ (s : Bool). x.spill n || s) j.6.1 in
        let d = both n k is here in (
          subst (means (ins n) (stream (carried run e.wire) k)) (sym spill)
              (results (ins n) (stream (carried run e.wire) k) (x.spill n || y.spill n)
              (record { rows = d.rows; of_source = d.is; without = ended h.a beats (carried run e.wire) k d.rows (d.same ∙ moved_by_none d.rows) })),
          spill,
        )

    abbrev by_either : Serving h (WithSpill (λ n. means (ins n)) (λ n. x.spill n || y.spill n)) (lines_of run e.faults) beats (carried run e.wire)
    by_either =
        serving_right h (lines_of run e.faults) beats (carried run e.wire) sides (WithSpill (λ n. means (ins n)) (λ n. x.spill n || y.spill n)) joined in_turn

    abbrev served : Serving h (λ n. means (ins n)) (lines_of run e.faults) beats (carried run e.wire)
    served = results_alone h (lines_of run e.faults) beats (carried run e.wire) (λ n. means (ins n)) (λ n. x.spill n || y.spill n) by_either

    comes : Dated h (λ n. arrivals (ins n)) (λ n k. k) served.spill beats (carried run e.wire)
    comes =
        dated_alone h (lines_of run e.faults) beats (carried run e.wire) (λ n. means (ins n)) (λ n. x.spill n || y.spill n) by_either (λ n. arrivals (ins n)) (λ n k. k)
        (dated_as h (λ n. IsByArrival (v (ins n)) (v' (ins n))) (λ n k. k) (λ n. x.spill n || y.spill n) beats (λ n. arrivals (ins n)) (carried run e.wire)
        (λ n xs spill z. placed (ins n) xs spill z) both)

  pub turns_give : GivesAs t h arrivals means new tick leaves e
  turns_give = record {
    wire = turns.behind.wire;
    same_widths = turns.behind.same_widths ∙ same;
    lines = turns.behind.lines;
    paced = λ run r. subst (λ (pace : Pace). KeepsPace pace h.a (leaf run leaves) (carried run e.wire)) (sym plain) tt;
    serving = λ run r beats apart fits. served run r beats apart fits;
    dated = λ run r beats apart fits is. comes run r beats apart fits;
  }

module _ (laws : LawsBelow) (nodes : List PlanNode) (id : ℕ) (old new : Net) (tick : Option Bit) (leaves : List Wire) (first second e : Emitted) (plan : IsPlan nodes) where
  pub merge_put : (left right : ℕ) → slice_get nodes id ≡ Some (Merge left right) → Gives nodes left old tick leaves first
      → Gives nodes right old tick leaves second → AreTurnsOf old new (figures_of nodes left) (figures_of nodes right) first second e
      → IsPutBehind nodes id old new tick leaves e
  merge_put left right at g g' u =
      let follows = laws.nodes_follow_tables nodes id (Merge left right) plan at in
      let parts = parts_at nodes id (Merge left right) at in
      let suits = (plan.fits id (Merge left right) at).suits in
      let came = and_parts (shape_of nodes left).arrives (shape_of nodes right).arrives suits.1 in
      let p : Figures = figures_of nodes left in
      let q : Figures = figures_of nodes right in
      let kinds = kinds_of nodes left in
      let n : length (widths_of kinds) ≡ length kinds = length-map kinds width_of in
      let cost : CostsAtMost old new (cost_of_turns p q (widths_of kinds)) =
      subst (λ (columns : List ℕ). CostsAtMost old new (cost_of_turns p q columns)) g.same_widths u.behind.cost in
      let within = first_within nodes id (Merge left right) plan at left (right ∷ []) refl in
      record {
        keeps = u.behind.keeps;
        cost = cost_behind nodes id _ _ _ old new _
            (record { weight' = rw n parts.weight; lean' = rw n (omega (arith, parts.lean, parts.keys)); store' = parts.store })
            cost
            (laws.turns_are_counted p q (widths_of kinds) (narrow_kinds kinds (laws.columns_have_kinds nodes left plan within)));
        gives = rw (follows.shape, follows.figures) (turns_give (shape_of nodes left) (shape_of nodes right) _ p q
            (IsPlanArrival nodes left) (IsPlanArrival nodes right) (IsPlanArrival nodes id) (IsPlanResult nodes left) (IsPlanResult nodes right) (IsPlanResult nodes id)
            old new tick leaves first second e g g' u g.same_widths refl came.0 came.1
            (λ i ys spill z. (follows.results i ys spill).1 z) (λ i xs spill z. (follows.arrivals i xs spill).1 z));
      }
