-- What the circuit of windows of time gives over one stream, where ticks may be farther apart than tuples.
use Rattle.std.proofs.Common.{◌≡◌, ℕ, ◌+◌, ◌-◌, ◌*◌, ◌/◌, ◌%◌, ◌<◌, ◌≤◌, max, List, Option, Some, None, refl, sym, ap, subst, arith}
use Rattle.std.specs.Prelude.{unwrap_or}
use Rattle.std.proofs.Math.Nat.{div-mul-le_self, le-mul_of_pos_right, lt-div-mul-add, mod-eq-sub-div-mul}
use Rattle.gl_algebra.specs.declared.figures.Figures.{Figures}
use Rattle.gl_root_gaps.specs.declared.TickGaps.{TickGaps}
use Rattle.gl_algebra.specs.declared.node.PlanNode.{PlanNode}
use Rattle.gl_algebra.specs.declared.node.PlanNode.TheVariants.{Stream, TimeWindow}
use Rattle.gl_algebra.specs.FigureTable.{figures_of, input_figures, stride_of, window_gap}
use Rattle.gl_algebra.specs.Fits.{IsPlan}
use Rattle.gl_algebra.specs.Results.{Inputs, IsPlanResult}
use Rattle.gl_root_gaps.specs.Roots.{gap_with, ticks_with}
use Rattle.gl_root_gaps.specs.Together.{ticks_alone}
use Rattle.gl_algebra.specs.Shapes.{shape_of}
use Rattle.gl_root_gaps.specs.TickGaps.{tick_gap, tick_gaps_of, ticks_to_end, ticks_to_next}
use Rattle.gl_algebra.specs.Views.{copies_of_time}
use Rattle.gl_root_gaps.proofs.GapLemmas.{ticks_there}
use Rattle.gl_figures.proofs.TickLemmas.{ready_again, tick_gaps_are, told_apart}
use Rattle.gl_net.specs.declared.node.Bit.{Bit}
use Rattle.gl_net.specs.Net.{Net}
use Rattle.gl_windows.specs.declared.times.TimeRotation.{TimeRotation}
use Rattle.gl_windows.specs.TimeRotations.{time_figures}
use Rattle.gl_ticks.specs.Apart.{IsFarEnough}
use Rattle.gl_ticks.specs.Once.{root_machine}
use Rattle.gl_wire.specs.Rotates.{lines_of_all}
use Rattle.gl_wire_registers.specs.Joins.{told_of}
use Rattle.gl_wire.specs.declared.emitted.Emitted.{Emitted}
use Rattle.gl_wire.specs.declared.wire.Wire.{Wire}
use Rattle.gl_wire.specs.Beats.{Ends, Spaced}
use Rattle.gl_wire.specs.Faults.{line_of, lines_of}
use Rattle.gl_wire.specs.Serving.{inputs_at}
use Rattle.gl_wire.specs.Spills.{Lines, both_lines}
use Rattle.gl_wire.specs.Wire.{carried}
use Rattle.gl_wire.proofs.ColumnLemmas.{wire_kept}
use Rattle.gl_wire.proofs.OnceLemmas.{once_lines, spaced_once}
use Rattle.gl_wiring.specs.declared.time_windows.TimeWindowOf.{TimeWindowOf}
use Rattle.gl_wiring.specs.Below.{LawsBelow}
use Rattle.gl_wiring.specs.Copies.{IsPutOver}
use Rattle.gl_wiring.specs.Leaves.{HasLeaf, HaveLeaves, leaf}
use Rattle.gl_wiring.specs.Put.{Gives}
use Rattle.gl_wiring.specs.Roots.{GivesOnce, alone_figures, gapped}
use Rattle.gl_wiring.specs.TimeWindows.{IsTimeWindow, time_rotation_of}
use Rattle.gl_wiring.proofs.BodyLemmas.{copies_serve}
use Rattle.gl_wiring.proofs.GivesLemmas.{gives_kept}
use Rattle.gl_wiring.proofs.TickLemmas.{once_beside}
use Rattle.gl_wiring.proofs.TimeWindowLemmas as times

-- ---- numbers

-- the ticks up to the next window of a copy
next_is : (size advance q m : ℕ) → m ≡ size - q * advance → q * advance ≤ size → size < q * advance + advance → max (advance - m) 1 ≡ (q + 1) * advance - size
next_is size advance q m rest low high =
    let each : (q + 1) * advance ≡ q * advance + advance = omega arith in
    omega (arith, rest, low, high, each)

-- which are some
some_ticks : (n m : ℕ) → max n 1 ≡ m → 1 ≤ m
some_ticks n m h = omega (arith, h)

-- so many times as much is no less
many : (x k own : ℕ) → 1 ≤ k → x ≤ own → x ≤ k * own
many x k own some h =
    let more : own ≤ own * k = le-mul_of_pos_right own some in
    let turned : own * k ≡ k * own = omega arith in
    omega (arith, h, more, turned)

module _ (laws : LawsBelow) (nodes : List PlanNode) (w : TimeWindowOf) (plan : IsPlan nodes) (at : IsTimeWindow nodes w) where
  abbrev node : PlanNode
  node = TimeWindow w.source w.body w.size w.advance

  abbrev s : Figures
  s = figures_of nodes w.body

  abbrev r : TimeRotation
  r = time_rotation_of nodes w

  abbrev c : ℕ
  c = copies_of_time w.size w.advance

  figures_are : figures_of nodes w.id ≡ time_figures r
  figures_are = times.whole laws nodes w plan at

  a_is : (figures_of nodes w.id).a ≡ s.a + 2
  a_is = let e = ap (λ (f : Figures). f.a) figures_are in omega (arith, e)

  le_is : (figures_of nodes w.id).le ≡ s.le + (c - 1) * stride_of s + 3
  le_is = let e = ap (λ (f : Figures). f.le) figures_are in omega (arith, e)

  own_gap : window_gap s ≤ (figures_of nodes w.id).gt
  own_gap = let e = ap (λ (f : Figures). f.gt) figures_are in omega (arith, e)

  next_ticks : ticks_to_next w.size w.advance ≡ c * w.advance - w.size
  next_ticks =
      next_is w.size w.advance (w.size / w.advance) (w.size % w.advance) (mod-eq-sub-div-mul w.size w.advance) (div-mul-le_self w.size w.advance)
      (lt-div-mul-add {a = w.size} {b = w.advance} (times.fits laws nodes w plan at).suits.2.least)

  end_ticks : ticks_to_end w.size w.advance ≡ max 1 (w.advance - w.size)
  end_ticks = omega arith

  -- the gaps of the node are far enough apart for the machine
  far_by : (o : Option TickGaps) → tick_gaps_of w.size w.advance s ≡ o → IsFarEnough r (gapped o (figures_of nodes w.id)) (unwrap_or (ticks_with o) (gap_with o (figures_of nodes w.id).gt))
  far_by None h =
      let own = (figures_of nodes w.id).gt in
      let sound = times.sound_body laws nodes w plan at in
      let near : stride_of s ≤ own = omega (arith, own_gap, sound.end_gap) in
      let ready : s.ge ≤ own = omega (arith, own_gap) in
      record {
        a = a_is;
        le = le_is;
        beats' = omega (arith, own_gap);
        strides = many (stride_of s) (max 1 (w.advance - w.size)) own (omega arith) near;
        again = many s.ge (c * w.advance - w.size) own (some_ticks (w.advance - w.size % w.advance) (c * w.advance - w.size) next_ticks) ready;
      }
  far_by (Some it) h =
      let x = tick_gaps_are w.size w.advance s it h in
      let gap : it.gap ≡ s.gt = ap (λ (t : TickGaps). t.gap) x.0 in
      let ticks : it.ticks ≡ tick_gap w.size w.advance s = ap (λ (t : TickGaps). t.ticks) x.0 in
      record {
        a = a_is;
        le = le_is;
        beats' = omega (arith, gap);
        strides = subst (λ (n : ℕ). stride_of s ≤ max 1 (w.advance - w.size) * n) (sym ticks)
            (subst (λ (k : ℕ). stride_of s ≤ k * tick_gap w.size w.advance s) end_ticks (told_apart w.size w.advance s));
        again = subst (λ (n : ℕ). s.ge ≤ (c * w.advance - w.size) * n) (sym ticks)
            (subst (λ (k : ℕ). s.ge ≤ k * tick_gap w.size w.advance s) next_ticks (ready_again w.size w.advance s));
      }

  far : IsFarEnough r (alone_figures nodes w.id) (ticks_alone nodes w.id)
  far =
      subst (λ (o : Option TickGaps). IsFarEnough r (gapped o (figures_of nodes w.id)) (unwrap_or (ticks_with o) (gap_with o (figures_of nodes w.id).gt)))
      (sym (ticks_there nodes w.id node plan at)) (far_by (tick_gaps_of w.size w.advance s) refl)

  -- the machine behind the circuit of the stream
  pub ticked_once : (old new : Net) (tick : Bit) (leaves : List Wire) (below e : Emitted) → HaveLeaves old leaves (shape_of nodes w.id).leaves
      → Gives nodes w.source old (Some tick) leaves below → IsPutOver nodes w.body (root_machine (record { ticked = record { rotation = r; tick = tick } })) below old new e
      → GivesOnce nodes w.id new (Some tick) leaves e
  ticked_once old new tick leaves below e leaved h o =
      let b = o.backed in
      let in_body = times.in_body laws nodes w plan at in
      let given : Gives nodes w.source o.mid (Some tick) leaves o.front.source =
      subst (λ (x : Emitted). Gives nodes w.source o.mid (Some tick) leaves x) (sym o.fronted.same)
      (gives_kept _ _ _ _ old o.mid (Some tick) leaves below o.fronted.keeps h) in
      let stream = Stream (times.number laws nodes w plan at) (times.kinds laws nodes w plan at) in
      let has : HasLeaf old leaves stream = (subst (HaveLeaves old leaves) (times.only_leaf laws nodes w plan at) leaved).0 in
      record {
        serves = λ ticked run run_new beats last one spaced fit apart.
            let run_behind = b.keeps.runs run run_new in
            let run_mid = o.bodies.keeps.runs run run_behind in
            let here : HasLeaf o.mid leaves stream = record {
              wire = has.wire;
              there = has.there;
              is = wire_kept old o.mid has.wire o.fronted.keeps has.is;
              same_widths = has.same_widths;
            } in
            let f : Figures = alone_figures nodes w.id in
            let sound = times.sound_body laws nodes w plan at in
            let near : Spaced input_figures beats = spaced_once input_figures f beats last (omega (arith, far.beats', sound.tuples_gap)) one spaced in
            let of_stream = times.source laws nodes w plan at o.mid run run_mid tick leaves o.front.source given here beats near fit in
            let whole = (b.serves run run_new).once f (ticks_alone nodes w.id) far run.held nodes w.body beats last one spaced of_stream.fits fit.ticks apart
            (λ k l own. copies_serve laws nodes w.source w.body plan in_body (times.fits laws nodes w plan at).suits.0 o.mid o.behind run o.front.wires c o.copies run_behind o.bodies o.fronted.fronts.as_many k l own) in
            let ins : ℕ → Inputs = inputs_at run.held (line_of run (Some tick)) (leaf run leaves) (leaf run leaves 0) in
            let told : Lines = lines_of_all (told_of run o.copies) c in
            let lines : Lines = both_lines (lines_of run o.front.source.faults) told in
            let end : Ends beats = record { ends = λ t d q. (last, one.until t d q, one.is) } in
            once_lines f (IsPlanResult nodes w.id (ins last)) (lines_of run e.faults) lines last (carried run e.wire) (b.told run run_new)
            (once_beside input_figures f (λ t. IsPlanResult nodes w.source (ins t)) _ (IsPlanResult nodes w.id (ins last))
            (lines_of run o.front.source.faults) told beats last (carried run o.front.source.wire) (carried run e.wire) of_stream
            (times.no_spill laws nodes w plan at o.mid run run_mid tick leaves o.front.source given here beats near fit) end whole
            (λ ys p v. times.joined laws nodes w plan at o.mid run run_mid tick leaves o.front.source given here beats near fit last ys p one.is v));
      }
