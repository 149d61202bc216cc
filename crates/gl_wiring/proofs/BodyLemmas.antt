-- Copies of a body behind the wires of a front, each over the beats of its own wire, and the source before them.
use Rattle.std.proofs.Common.{◌≡◌, ℕ, zero, suc, ◌<◌, List, [], ◌∷◌, length, Some, None, slice_get, refl, sym, ap, ◌∙◌, subst, arith, Option}
use Rattle.gl_bits.proofs.AllLists.{get_there}
use Rattle.gl_algebra.specs.declared.figures.Figures.{Figures}
use Rattle.gl_algebra.specs.declared.node.PlanNode.{PlanNode}
use Rattle.gl_algebra.specs.FigureTable.{figures_of, spaced}
use Rattle.gl_algebra.specs.Fits.{IsBodyFor, IsPlan}
use Rattle.gl_algebra.specs.Results.{IsPlanArrival, IsPlanResult}
use Rattle.gl_algebra.specs.Shapes.{kinds_of, shape_of}
use Rattle.gl_net.specs.declared.node.Bit.{Bit}
use Rattle.gl_net.specs.Net.{Net, Run, IsRun, Keeps}
use Rattle.gl_net.proofs.Determined.{keeps_then}
use Rattle.gl_algebra.specs.Values.{Sets}
use Rattle.gl_wire.specs.Bodies.{OfBody, alone}
use Rattle.gl_wire_registers.specs.Joins.{gives_of, told_by, told_of, wires_of}
use Rattle.gl_wire_registers.specs.Lines.{carried_of}
use Rattle.gl_wire_registers.proofs.RowLemmas.{carried_of-get}
use Rattle.gl_wire.specs.declared.emitted.Emitted.{Emitted}
use Rattle.gl_wire.specs.declared.wire.Wire.{Wire}
use Rattle.gl_wire.specs.Apart.{CarriesApart}
use Rattle.gl_wire.specs.Beats.{Beats, Spaced, beats_of}
use Rattle.gl_wire.specs.Costs.{Cost, CostsAtMost}
use Rattle.gl_wire.specs.Faults.{line_of, lines_of}
use Rattle.gl_wire.specs.Serving.{Serving, inputs_at}
use Rattle.gl_wire.specs.Spills.{Lines}
use Rattle.gl_wire.specs.Wire.{Carried, carried, stream, widths}
use Rattle.gl_wire.proofs.DelayLemmas.{spaced_closer}
use Rattle.gl_wire.proofs.ServingLemmas.{serving_as}
use Rattle.gl_wiring.specs.Below.{LawsBelow}
use Rattle.gl_wiring.specs.Copies.{AreBodies, IsSpacedFor, LeavesRoom, cost_from, cost_of_spaced, paceless}
use Rattle.gl_wiring.specs.Leaves.{LeavesFit, leaf, widths_of}
use Rattle.gl_wiring.specs.Put.{Gives, GivesAs}
use Rattle.gl_wiring.proofs.PositionLemmas.{at_positions_in, cycle_at, cycles_rise, silent_stream, turn_into_cycles}
use Rattle.gl_wiring.proofs.CopyLemmas.{copy_fits}
use Rattle.gl_wiring.proofs.CostLemmas.{costs_then}
use Rattle.gl_wiring.proofs.GivesLemmas.{gives_kept}
use Rattle.gl_wiring.proofs.SpacedLemmas.{behind_same, no_closer}

wires_get : (copies : List Emitted) (k : ℕ) (e : Emitted) → slice_get copies k ≡ Some e → slice_get (wires_of copies) k ≡ Some e.wire
wires_get [] k e h = absurd (cc)
wires_get (x ∷ xs) zero e h = let same : x ≡ e = cc in ap (λ (y : Emitted). Some y.wire) same
wires_get (x ∷ xs) (suc k) e h = wires_get xs k e h

-- ---- the source

-- before a front, which keeps what stood before it, the source's rows are far enough apart
module _ (nodes : List PlanNode) (source gap : ℕ) (g : Figures) (room : LeavesRoom gap (spaced gap (figures_of nodes source)) g)
    (old net new : Net) (tick : Option Bit) (leaves : List Wire) (below between : Emitted) (h : Gives nodes source old tick leaves below)
    (sp : IsSpacedFor old net gap (figures_of nodes source) below between) (keeps : Keeps net new) where
  abbrev p : Figures
  p = figures_of nodes source

  abbrev f : Figures
  f = spaced gap p

  columns : widths below.wire.columns ≡ widths_of (kinds_of nodes source)
  columns = h.same_widths

  pub columns_between : widths between.wire.columns ≡ widths_of (kinds_of nodes source)
  columns_between = sp.behind.same_widths ∙ columns

  pub source_keeps : Keeps old new
  source_keeps = keeps_then old net new sp.behind.keeps keeps

  pub source_cost : (fore : Cost) → CostsAtMost net new fore → CostsAtMost old new (cost_from nodes source gap fore)
  source_cost fore cost =
      let spacer : CostsAtMost old net (cost_of_spaced gap p (widths_of (kinds_of nodes source))) =
      subst (λ (cs : List ℕ). CostsAtMost old net (cost_of_spaced gap p cs)) columns sp.behind.cost in
      costs_then old net new _ _ spacer cost

  pub source_gives : GivesAs (paceless (shape_of nodes source)) f (IsPlanArrival nodes source) (IsPlanResult nodes source) new tick leaves between
  source_gives =
      gives_kept _ f _ _ net new tick leaves between keeps
      (behind_same (shape_of nodes source) p f (IsPlanArrival nodes source) (IsPlanResult nodes source) old net tick leaves below between _ _ h sp.behind columns (no_closer gap p))

  pub source_apart : (run : Run) → IsRun new run → (beats : Beats) → Spaced g beats → LeavesFit run tick leaves beats
      → CarriesApart gap (carried run between.wire)
  source_apart run r beats spaced_beats has =
      let run_net = keeps.runs run r in
      let of_spaced = spaced_closer f g beats room.closer spaced_beats in
      let before = h.serving run (sp.behind.keeps.runs run run_net) beats (spaced_closer p f beats (no_closer gap p) of_spaced) has in
      sp.apart run run_net g room beats spaced_beats before.fits

-- ---- the copies

-- a copy that gives a body's results over the beats of its own wire
abbrev pub CopyServes : Sets → List PlanNode → ℕ → Figures → Carried → Lines → Carried → Type 0
CopyServes sets nodes body s a lines b = Serving s (λ u. OfBody sets nodes body (stream a u)) lines (beats_of a) b

module _ (laws : LawsBelow) (nodes : List PlanNode) (source body : ℕ) (plan : IsPlan nodes) (in_body : body < length nodes) (for : IsBodyFor (shape_of nodes source) (shape_of nodes body)) where
  abbrev s : Figures
  s = figures_of nodes body

  copy_serving : (mid net : Net) (run : Run) (wires : List Wire) (count : ℕ) (copies : List Emitted) → IsRun net run → AreBodies nodes body mid net wires count copies
      → (k : ℕ) (wire : Wire) (x : Emitted) → slice_get wires k ≡ Some wire → slice_get copies k ≡ Some x → Spaced s (beats_of (carried run wire))
      → CopyServes run.held nodes body s (carried run wire) (lines_of run x.faults) (carried run x.wire)
  copy_serving mid net run wires count copies r are k wire x at_wire at_copy spaced_beats =
      let ls : ℕ → Carried = leaf run (wire ∷ []) in
      serving_as s (λ t. IsPlanResult nodes body (inputs_at run.held (line_of run None) ls (ls 0) t)) (λ u. OfBody run.held nodes body (stream (carried run wire) u)) (lines_of run x.faults)
      (beats_of (carried run wire)) (carried run x.wire)
      (λ t ys p h. laws.bodies_read_their_input nodes body plan in_body (kinds_of nodes source) for.leaves (at_positions_in run.held (line_of run None) ls t) (alone run.held (stream (carried run wire) t))
      (record { rows = refl; places = refl; sets = refl }) ys p
      (laws.results_go_by_order nodes body plan in_body (cycle_at (ls 0) t) (cycles_rise (ls 0) t) (at_positions_in run.held (line_of run None) ls t) (inputs_at run.held (line_of run None) ls (ls 0) t)
      (turn_into_cycles run.held (line_of run None) ls t (λ k. silent_stream t)) ys p h))
      ((are.gives k wire x at_wire at_copy).serving run r (beats_of (carried run wire)) spaced_beats (copy_fits laws run wire))

  pub copies_serve : (mid net : Net) (run : Run) (wires : List Wire) (c : ℕ) (copies : List Emitted) → IsRun net run → AreBodies nodes body mid net wires c copies
      → length wires ≡ c → (k : ℕ) → k < c → Spaced s (beats_of (carried_of run wires k))
      → CopyServes run.held nodes body s (carried_of run wires k) (told_of run copies k) (gives_of run copies k)
  copies_serve mid net run wires c copies r are count k l spaced_beats =
      let wire = get_there wires k (omega (arith, l, count)) in
      let x = get_there copies k (omega (arith, l, are.as_many)) in
      let same : carried_of run wires k ≡ carried run wire.0 = carried_of-get run wires k wire.0 wire.1 in
      let told : told_of run copies k ≡ lines_of run x.0.faults = ap (told_by run) x.1 in
      let gives : gives_of run copies k ≡ carried run x.0.wire = carried_of-get run (wires_of copies) k x.0.wire (wires_get copies k x.0 x.1) in
      let spaced_own : Spaced s (beats_of (carried run wire.0)) = subst (λ (a : Carried). Spaced s (beats_of a)) same spaced_beats in
      subst (λ (a : Carried). CopyServes run.held nodes body s a (told_of run copies k) (gives_of run copies k)) (sym same)
      (subst (λ (lines : Lines). CopyServes run.held nodes body s (carried run wire.0) lines (gives_of run copies k)) (sym told)
      (subst (CopyServes run.held nodes body s (carried run wire.0) (lines_of run x.0.faults)) (sym gives)
      (copy_serving mid net run wires c copies r are k wire.0 x.0 wire.1 x.1 spaced_own)))
