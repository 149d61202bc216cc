-- What circuits give over one stream where ticks are farther apart than tuples: a node that takes rows one by one gives what it makes of those of
-- the node below. Of other nodes but windows of time nothing is asked, since their ticks are beats like any other.
use Rattle.std.proofs.Common.{◌≡◌, ℕ, ◌+◌, List, length, Option, Some, None, Result, Ok, Err, Bool, slice_get, refl, sym, ap, ◌∙◌, subst, arith}
use Rattle.std.specs.Prelude.{IfOk, unwrap_or}
use Rattle.gl_values.specs.Results.{Row}
use Rattle.gl_algebra.specs.declared.figures.Figures.{Figures}
use Rattle.gl_algebra.specs.declared.node.ColOp.{ColOp}
use Rattle.gl_algebra.specs.declared.node.Operand.{Operand}
use Rattle.gl_algebra.specs.declared.node.PlanNode.{PlanNode}
use Rattle.gl_algebra.specs.declared.node.PlanNode.TheVariants.{Compute, Select, Project}
use Rattle.gl_algebra.specs.FigureTable.{delayed, figures_of}
use Rattle.gl_algebra.specs.Fits.{IsPlan}
use Rattle.gl_algebra.specs.Results.{Inputs, IsPlanResult, computed, projected}
use Rattle.gl_algebra.specs.Values.{Sets}
use Rattle.gl_algebra.specs.Shapes.{kinds_of}
use Rattle.gl_root_gaps.specs.declared.TickGaps.{TickGaps}
use Rattle.gl_root_gaps.specs.Roots.{gap_with, tick_gaps_at, tick_gaps_from, ticks_with}
use Rattle.gl_root_gaps.specs.Together.{ticks_alone}
use Rattle.gl_root_gaps.proofs.GapLemmas.{IsAbove, rows_above, ticks_there}
use Rattle.gl_net.specs.declared.node.Bit.{Bit}
use Rattle.gl_net.specs.Net.{Net, Run}
use Rattle.gl_rows.specs.Costs.{computed_widths, cost_of_items, cost_of_rows, projected_widths}
use Rattle.gl_above.proofs.AboveLemmas.{once_within}
use Rattle.gl_wire.specs.declared.emitted.Emitted.{Emitted}
use Rattle.gl_wire.specs.declared.emitted.Faults.{Faults}
use Rattle.gl_wire.specs.declared.wire.Wire.{Wire}
use Rattle.gl_wire.specs.Beats.{beats_of}
use Rattle.gl_wire.specs.Blocks.{IsBehind}
use Rattle.gl_wire.specs.Costs.{Cost}
use Rattle.gl_wire.specs.Faults.{line_of, lines_of}
use Rattle.gl_wire.specs.Once.{ServingOnce}
use Rattle.gl_wire.specs.Serving.{inputs_at, through}
use Rattle.gl_wire.specs.Shapes.{Mapped, Steady, keep_where}
use Rattle.gl_wire.specs.Wire.{carried, line_at, tuple_at}
use Rattle.gl_wire.proofs.OnceLemmas.{once_as, spaced_once}
use Rattle.gl_ticks.specs.Apart.{TicksApart}
use Rattle.gl_wiring.specs.Below.{LawsBelow}
use Rattle.gl_wiring.specs.Leaves.{leaf, widths_of}
use Rattle.gl_wiring.specs.Roots.{GivesOnce, alone_figures}
use Rattle.gl_wiring.proofs.RowLemmas.{kept_rows, mapped_all}

-- a wire carries nothing in the reset cycle
nothing_first : (run : Run) (w : Wire) → beats_of (carried run w) 0 ≡ None
unfolding line_at tuple_at
nothing_first run w = refl

-- the gaps of a node with gaps of ticks
gap_is : (nodes : List PlanNode) (id : ℕ) (it : TickGaps) → tick_gaps_at nodes id ≡ Some it → (alone_figures nodes id).gt ≡ it.gap
gap_is nodes id it h = ap (λ (o : Option TickGaps). gap_with o (figures_of nodes id).gt) h

ticks_are : (nodes : List PlanNode) (id : ℕ) (it : TickGaps) → tick_gaps_at nodes id ≡ Some it → ticks_alone nodes id ≡ it.ticks
ticks_are nodes id it h = ap (λ (o : Option TickGaps). unwrap_or (ticks_with o) (gap_with o (figures_of nodes id).gt)) h

-- a node without such gaps owes nothing more
pub none_once : (nodes : List PlanNode) (id : ℕ) (node : PlanNode) (net : Net) (tick : Option Bit) (leaves : List Wire) (e : Emitted) → IsPlan nodes
    → slice_get nodes id ≡ Some node → ((f : ℕ → Figures) (v : ℕ → Option TickGaps) → tick_gaps_from f v node ≡ None) → GivesOnce nodes id net tick leaves e
none_once nodes id node net tick leaves e plan at row =
    record {
      serves = λ ticked. absurd (
          let z : None ≡ Some ticked.0 = sym (ticks_there nodes id node plan at ∙ row (figures_of nodes) (tick_gaps_at nodes)) ∙ ticked.1 in
          cc (z));
    }

-- nor does what may want memory
pub none_if : {E : Type 0} (nodes : List PlanNode) (id : ℕ) (node : PlanNode) (net : Net) (tick : Option Bit) (leaves : List Wire) (r : Result Emitted E) → IsPlan nodes
    → slice_get nodes id ≡ Some node → ((f : ℕ → Figures) (v : ℕ → Option TickGaps) → tick_gaps_from f v node ≡ None)
    → IfOk r (λ e. GivesOnce nodes id net tick leaves e)
none_if nodes id node net tick leaves (Ok e) plan at row = none_once nodes id node net tick leaves e plan at row
none_if nodes id node net tick leaves (Err f) plan at row = tt

-- what a node makes of the rows of another: each is computed or dropped by a step, so many cycles later
record TakesRows (nodes : List PlanNode) (id child m : ℕ) (step : Sets → Row → Option Row) : Type 0 where
  above : IsAbove nodes id child
  first : (figures_of nodes id).a ≡ (figures_of nodes child).a + m
  final : (figures_of nodes id).le ≡ (figures_of nodes child).le + m
  results : (i : Inputs) (xs ys : List Row) (p : Bool) → IsPlanResult nodes child i xs p → Mapped (step i.sets) xs ys → IsPlanResult nodes id i ys p

module _ (laws : LawsBelow) (nodes : List PlanNode) (id child m : ℕ) (step : Sets → Row → Option Row) (takes : TakesRows nodes id child m step) (old new : Net) (tick : Option Bit)
    (leaves : List Wire) (below e : Emitted) (columns : List ℕ) (most : Cost) where
  rows_once : GivesOnce nodes child old tick leaves below → IsBehind old new (λ sets. Steady m (step sets)) columns most below e → GivesOnce nodes id new tick leaves e
  rows_once h b = record {
    serves = λ ticked run r beats last one spaced fit apart.
        let child_has : tick_gaps_at nodes child ≡ Some ticked.0 = sym takes.above.same ∙ ticked.1 in
        let own_gap = gap_is nodes id ticked.0 ticked.1 in
        let child_gap = gap_is nodes child ticked.0 child_has in
        let same_ticks : ticks_alone nodes id ≡ ticks_alone nodes child = ticks_are nodes id ticked.0 ticked.1 ∙ sym (ticks_are nodes child ticked.0 child_has) in
        let ins : Inputs = inputs_at run.held (line_of run tick) (leaf run leaves) (leaf run leaves 0) last in
        let lines = lines_of run below.faults in
        let near = spaced_once (alone_figures nodes child) (alone_figures nodes id) beats last (omega (arith, own_gap, child_gap)) one spaced in
        let far = subst (λ (n : ℕ). TicksApart n (line_of run tick) beats) same_ticks apart in
        let source = h.serves (ticked.0, child_has) run (b.keeps.runs run r) beats last one near fit far in
        let made = laws.rows_serve_once nodes child ins (alone_figures nodes child) m (step run.held) lines last (carried run below.wire) (carried run e.wire)
        (nothing_first run below.wire) (b.shape run r) source in
        let right = once_as (delayed m (alone_figures nodes child)) (through (IsPlanResult nodes child ins) (Mapped (step run.held))) (IsPlanResult nodes id ins) lines last (carried run e.wire)
        (λ ys p x. takes.results ins x.0 ys p x.1 x.2) made in
        let timed = once_within (delayed m (alone_figures nodes child)) (alone_figures nodes id) (IsPlanResult nodes id ins) lines last (carried run e.wire)
        (omega (arith, takes.first)) (omega (arith, takes.final)) right in
        subst (λ (x : Faults). ServingOnce (alone_figures nodes id) (IsPlanResult nodes id ins) (lines_of run x) last (carried run e.wire)) (sym b.faults) timed;
  }

-- ---- each operator

module _ (laws : LawsBelow) (nodes : List PlanNode) (id : ℕ) (old new : Net) (tick : Option Bit) (leaves : List Wire) (below e : Emitted) (plan : IsPlan nodes) where
  pub compute_once : (child : ℕ) (ops : List ColOp) → slice_get nodes id ≡ Some (Compute child ops) → GivesOnce nodes child old tick leaves below
      → (let kinds = kinds_of nodes child in IsBehind old new (λ sets. Steady 1 (λ row. Some (computed sets kinds ops row))) (computed_widths kinds ops)
      (cost_of_rows (computed_widths kinds ops) (length ops)) below e)
      → GivesOnce nodes id new tick leaves e
  compute_once child ops at h b =
      let follows = laws.nodes_follow_tables nodes id (Compute child ops) plan at in
      let kinds = kinds_of nodes child in
      let first = ap (λ (f : Figures). f.a) follows.figures in
      let final = ap (λ (f : Figures). f.le) follows.figures in
      rows_once laws nodes id child 1 (λ sets row. Some (computed sets kinds ops row))
      (record {
        above = rows_above nodes id (Compute child ops) child plan at refl;
        first = omega (arith, first);
        final = omega (arith, final);
        results = λ i xs ys p r m. (follows.results i ys p).1 (record { rows = xs; of_source = r; changed = m ∙ mapped_all (computed i.sets kinds ops) xs });
      })
      old new tick leaves below e (computed_widths kinds ops) (cost_of_rows (computed_widths kinds ops) (length ops)) h b

  pub select_once : (child column : ℕ) → slice_get nodes id ≡ Some (Select child column) → GivesOnce nodes child old tick leaves below
      → IsBehind old new (λ sets. Steady 1 (keep_where column)) (widths_of (kinds_of nodes child)) (cost_of_rows (widths_of (kinds_of nodes child)) 0) below e
      → GivesOnce nodes id new tick leaves e
  select_once child column at h b =
      let follows = laws.nodes_follow_tables nodes id (Select child column) plan at in
      let kinds = kinds_of nodes child in
      let first = ap (λ (f : Figures). f.a) follows.figures in
      let final = ap (λ (f : Figures). f.le) follows.figures in
      rows_once laws nodes id child 1 (λ sets. keep_where column)
      (record {
        above = rows_above nodes id (Select child column) child plan at refl;
        first = omega (arith, first);
        final = omega (arith, final);
        results = λ i xs ys p r m. (follows.results i ys p).1 (record { rows = xs; of_source = r; changed = m ∙ kept_rows column xs });
      })
      old new tick leaves below e (widths_of kinds) (cost_of_rows (widths_of kinds) 0) h b

  pub project_once : (child : ℕ) (items : List Operand) → slice_get nodes id ≡ Some (Project child items) → GivesOnce nodes child old tick leaves below
      → (let kinds = kinds_of nodes child in IsBehind old new (λ sets. Steady 0 (λ row. Some (projected sets items row))) (projected_widths kinds items)
      (cost_of_items (projected_widths kinds items)) below e)
      → GivesOnce nodes id new tick leaves e
  project_once child items at h b =
      let follows = laws.nodes_follow_tables nodes id (Project child items) plan at in
      let kinds = kinds_of nodes child in
      let first = ap (λ (f : Figures). f.a) follows.figures in
      let final = ap (λ (f : Figures). f.le) follows.figures in
      rows_once laws nodes id child 0 (λ sets row. Some (projected sets items row))
      (record {
        above = rows_above nodes id (Project child items) child plan at refl;
        first = omega (arith, first);
        final = omega (arith, final);
        results = λ i xs ys p r m. (follows.results i ys p).1 (record { rows = xs; of_source = r; changed = m ∙ mapped_all (projected i.sets items) xs });
      })
      old new tick leaves below e (projected_widths kinds items) (cost_of_items (projected_widths kinds items)) h b
