-- The circuits of windows of time.
use Rattle.std.proofs.Common.{◌≡◌, ℕ, ◌+◌, ◌<◌, List, [], ◌∷◌, length, Option, Some, None, Bool, true, false, ◌&&◌, ◌||◌, refl, sym, ap, ◌∙◌, subst, arith}
use Rattle.std.specs.Prelude.{is_some, nat_lt, if◌then◌else◌}
use Rattle.std.proofs.lemmas.Option.{slice_get_within}
use Rattle.gl_values.specs.Results.{Row, AreJoined}
use Rattle.gl_values.specs.Times.{tslices}
use Rattle.gl_values.specs.declared.kind.Kind.{Kind}
use Rattle.gl_bits.proofs.Bools.{or_none}
use Rattle.gl_bits.proofs.AllLists.{get_there}
use Rattle.gl_algebra.specs.declared.figures.Figures.{Figures}
use Rattle.gl_algebra.specs.declared.node.PlanNode.{PlanNode}
use Rattle.gl_algebra.specs.declared.node.PlanNode.TheVariants.{Stream, TimeWindow}
use Rattle.gl_algebra.specs.FigureTable.{AreSmall, IsSound, NoCloser, figures_of, input_figures, spaced, spacer_figures, window_figures, window_gap, windows_over}
use Rattle.gl_algebra.specs.Fits.{Fits as FitsPlan, IsPlan}
use Rattle.gl_algebra.specs.Views.{copies_of_time, is_time, reads_time}
use Rattle.gl_algebra.specs.Laws.{FollowsTables}
use Rattle.gl_algebra.specs.Results.{Inputs, IsPlanArrival, IsPlanResult, given, times_with}
use Rattle.gl_algebra.specs.Shapes.{Shape, kinds_of, shape_from, shape_of}
use Rattle.gl_algebra.proofs.FigureLemmas.{one_in_time}
use Rattle.gl_algebra.proofs.ListLemmas.{any_at}
use Rattle.gl_net.specs.declared.node.Bit.{Bit}
use Rattle.gl_net.specs.Net.{Net, Run, IsRun}
use Rattle.gl_net.proofs.Determined.{keeps_then}
use Rattle.gl_windows.specs.declared.times.TimeRotation.{TimeRotation}
use Rattle.gl_windows.specs.Costs.{cost_of_time_front}
use Rattle.gl_windows.specs.TimeRotations.{IsTimeRotation, time_figures}
use Rattle.gl_ticks.specs.Once.{root_machine}
use Rattle.gl_wire.specs.Bodies.{OfBody, alone}
use Rattle.gl_wire.specs.Rotates.{lines_of_all}
use Rattle.gl_wire_registers.specs.Joins.{columns_of, cost_of_back, told_of}
use Rattle.gl_wire.specs.declared.emitted.Emitted.{Emitted}
use Rattle.gl_wire.specs.declared.wire.Wire.{Wire}
use Rattle.gl_wire.specs.Beats.{Beats, Spaced}
use Rattle.gl_wire.specs.Costs.{CostsAtMost}
use Rattle.gl_wire.specs.Faults.{line_of, lines_of}
use Rattle.gl_wire.specs.Serves.{Fits}
use Rattle.gl_wire.specs.Serving.{Serving, inputs_at}
use Rattle.gl_wire.specs.Spills.{Lines, both_lines}
use Rattle.gl_wire.specs.Ticks.{ticks_at, times_at}
use Rattle.gl_wire.specs.Wire.{Carried, carried, stream}
use Rattle.gl_wire.proofs.ColumnLemmas.{wire_kept}
use Rattle.gl_wire.proofs.DelayLemmas.{spaced_closer}
use Rattle.gl_wire.proofs.ServingLemmas.{serving_lines}
use Rattle.gl_wiring.specs.declared.time_windows.TimeWindowOf.{TimeWindowOf}
use Rattle.gl_wiring.specs.Below.{LawsBelow}
use Rattle.gl_wiring.specs.Leaves.{HasLeaf, HaveLeaves, HaveLine, LeavesFit, carried_by, leaf, widths_of}
use Rattle.gl_wiring.specs.Put.{CanPut, Gives, GivesAs, IsPutBehind}
use Rattle.gl_wiring.specs.TimeWindows.{IsTimeWindow, time_rotation_of}
use Rattle.gl_wiring.specs.Copies.{CanStandBehind, IsPutOver}
use Rattle.gl_wiring.proofs.BodyLemmas.{copies_serve}
use Rattle.gl_wiring.proofs.CanLemmas.{first_within, second_within}
use Rattle.gl_wiring.proofs.CopyLemmas.{can_stand}
use Rattle.gl_wiring.proofs.GivesLemmas.{gives_kept}
use Rattle.gl_wiring.proofs.OverLemmas.{over_columns}
use Rattle.gl_wiring.proofs.TickLemmas.{end_of_beat, same_ends, same_ticks, same_times, serving_beside}
use Rattle.gl_wiring.proofs.TimeWindowCosts.{time_window_cost}
use Rattle.gl_wiring.proofs.WindowLemmas.{joined_as}

-- no spacer stands behind a stream
unspaced : (gap : ℕ) → spaced gap input_figures ≡ input_figures
unspaced gap = by (nat_lt 1 gap)
  where
    by : (b : Bool) → (if b && false then spacer_figures gap input_figures else input_figures) ≡ input_figures
    by true = refl
    by false = refl

module _ (laws : LawsBelow) (nodes : List PlanNode) (w : TimeWindowOf) (plan : IsPlan nodes) (at : IsTimeWindow nodes w) where
  abbrev node : PlanNode
  node = TimeWindow w.source w.body w.size w.advance

  pub fits : FitsPlan nodes w.id node
  fits = plan.fits w.id node at

  pub in_source : w.source < length nodes
  in_source = first_within nodes w.id node plan at w.source (w.body ∷ []) refl

  pub in_body : w.body < length nodes
  in_body = second_within nodes w.id node plan at w.source w.body refl

  pub follows : FollowsTables nodes w.id node
  follows = laws.nodes_follow_tables nodes w.id node plan at

  -- the stream
  abbrev pub number : ℕ
  number = fits.timed.0

  abbrev pub kinds : List Kind
  kinds = fits.timed.1

  of_stream : FollowsTables nodes w.source (Stream number kinds)
  of_stream = laws.nodes_follow_tables nodes w.source (Stream number kinds) plan fits.timed.2

  abbrev stream_shape : Shape
  stream_shape = shape_from (shape_of nodes) (Stream number kinds)

  pub only_leaf : (shape_of nodes w.id).leaves ≡ Stream number kinds ∷ []
  only_leaf = ap (λ (s : Shape). s.leaves) follows.shape ∙ ap (λ (s : Shape). s.leaves) of_stream.shape

  abbrev s : Figures
  s = figures_of nodes w.body

  abbrev r : TimeRotation
  r = time_rotation_of nodes w

  abbrev c : ℕ
  c = copies_of_time w.size w.advance

  pub whole : figures_of nodes w.id ≡ time_figures r
  whole =
      follows.figures ∙ ap (λ (f : Figures). window_figures c f s) of_stream.figures
      ∙ ap (λ (f : Figures). windows_over c f s) (unspaced (window_gap s))

  pub sound_body : IsSound s
  sound_body = laws.figures_are_sound nodes w.body plan in_body

  -- the numbers of its rotation
  pub rotation_is : AreSmall (figures_of nodes w.id) → IsTimeRotation r
  rotation_is small =
      laws.times_rotate w.size w.advance s fits.suits.1.least fits.suits.1.most fits.suits.2.least sound_body
      (laws.closing_nodes_wait nodes w.body plan in_body fits.suits.0.closing) (subst AreSmall whole small)

  -- there is a line of ticks beside the stream
  pub line_is_there : (tick : Option Bit) → tick ≡ None → HaveLine (reads_time nodes) tick (shape_of nodes w.id).leaves → ⊥
  line_is_there tick none h =
      let own : is_some tick ≡ true = (subst (HaveLine (reads_time nodes) tick) only_leaf h).0 (any_at is_time nodes w.id node at refl) in
      absurd (let z : false ≡ true = rw none at own in cc)

  -- behind a wire with the stream's columns the body can be put
  pub time_stands : (figures : List Figures) (net : Net) (tick : Option Bit) (leaves : List Wire) (columns : List ℕ) → CanPut nodes figures w.id net tick leaves
      → columns ≡ widths_of (kinds_of nodes w.source) → CanStandBehind nodes figures w.body columns
  time_stands figures net tick leaves columns can same =
      can_stand laws nodes figures w.id w.source w.body node net tick leaves columns plan at refl fits.suits.0 can same

  closer : NoCloser input_figures (time_figures r)
  closer = record { gt = omega arith; ge = omega arith }

  module _ (net : Net) (run : Run) (is : IsRun net run) (tick : Bit) (leaves : List Wire) (e : Emitted) (gives : Gives nodes w.source net (Some tick) leaves e)
      (has : HasLeaf net leaves (Stream number kinds)) (beats : Beats) (spaced_beats : Spaced input_figures beats) (fit : LeavesFit run (Some tick) leaves beats) where
    abbrev line : ℕ → Bool
    line = line_of run (Some tick)

    abbrev a : Carried
    a = carried run e.wire

    abbrev ins : ℕ → Inputs
    ins = inputs_at run.held line (leaf run leaves) (leaf run leaves 0)

    of_source : GivesAs stream_shape input_figures (IsPlanArrival nodes w.source) (IsPlanResult nodes w.source) net (Some tick) leaves e
    of_source = rw (of_stream.shape, of_stream.figures) at gives

    pub source : Serving input_figures (λ t. IsPlanResult nodes w.source (ins t)) (lines_of run e.faults) beats a
    source = of_source.serving run is beats spaced_beats fit

    -- the leaf of the stream, and the first one
    leaf_fits : Fits input_figures beats (leaf run leaves number)
    leaf_fits = subst (Fits input_figures beats) (sym (ap (carried_by run) has.there)) (fit.each number has.wire has.there)

    first_fits : Fits input_figures beats (leaf run leaves 0)
    first_fits =
        let first = get_there leaves 0 (let l = slice_get_within leaves number has.wire has.there in omega (arith, l)) in
        subst (Fits input_figures beats) (sym (ap (carried_by run) first.1)) (fit.each 0 first.0 first.1)

    -- the stream's rows, with their times, and the ticks
    rows_of : (t : ℕ) → beats t ≡ Some true → IsPlanResult nodes w.source (ins t) (stream a t) (source.spill t)
    rows_of t p =
        let ends = end_of_beat beats a source.fits t p in
        source.right t t p (record { is = ends; low = omega arith; high = omega arith })

    pub no_spill : (t : ℕ) → beats t ≡ Some true → source.spill t ≡ false
    no_spill t p = ((of_stream.results (ins t) (stream a t) (source.spill t)).0 (rows_of t p)).kept

    in_step : (u : ℕ) → is_some (a.tuple u) ≡ is_some ((leaf run leaves number).tuple u)
    in_step u = let z : u + 0 ≡ u = omega arith in subst (λ (i : ℕ). is_some (a.tuple i) ≡ is_some ((leaf run leaves number).tuple u)) z ((of_source.paced run is).each u)

    times_are : (t : ℕ) → times_at line a t ≡ times_with (shape_of nodes w.source).pace (ins t)
    times_are t =
        same_times line a (leaf run leaves number) (same_ends beats a (leaf run leaves number) source.fits leaf_fits) in_step t
        ∙ sym (ap (λ (x : Shape). times_with x.pace (ins t)) of_stream.shape)

    ticks_are : (t : ℕ) → ticks_at line a t ≡ ticks_at line (leaf run leaves 0) t
    ticks_are t = same_ticks line a (leaf run leaves 0) (same_ends beats a (leaf run leaves 0) source.fits first_fits) t

    -- results of all windows of time are results of the node
    pub joined : (t : ℕ) (ys : List Row) (p : Bool) → beats t ≡ Some true
        → AreJoined (OfBody run.held nodes w.body) (tslices w.size w.advance (times_at line a t) (ticks_at line a t) (stream a t)) ys p
        → IsPlanResult nodes w.id (ins t) ys p
    joined t ys p q v =
        let as_given = joined_as (OfBody run.held nodes w.body) (λ slice. IsPlanResult nodes w.body (given (ins t) slice))
        (λ slice zs b y. laws.bodies_read_their_input nodes w.body plan in_body (kinds_of nodes w.source) fits.suits.0.leaves (alone run.held slice) (given (ins t) slice) (record { rows = refl; places = refl; sets = refl }) zs b y)
        (tslices w.size w.advance (times_at line a t) (ticks_at line a t) (stream a t)) ys p v in
        (follows.results (ins t) ys p).1 (record {
          rows = stream a t;
          source_spill = source.spill t;
          parts_spill = p;
          of_source = rows_of t q;
          of_parts = subst (λ (ts : List ℕ). AreJoined (λ slice. IsPlanResult nodes w.body (given (ins t) slice))
              (tslices w.size w.advance ts (ticks_at line (leaf run leaves 0) t) (stream a t)) ys p) (times_are t)
              (subst (λ (n : ℕ). AreJoined (λ slice. IsPlanResult nodes w.body (given (ins t) slice))
              (tslices w.size w.advance (times_at line a t) n (stream a t)) ys p) (ticks_are t) as_given);
          any = sym (or_none (source.spill t || p) ∙ ap (λ (b : Bool). b || p) (no_spill t q));
        })

  -- the machine behind the stream
  pub time_put : (old new : Net) (tick : Bit) (leaves : List Wire) (below e : Emitted) → HaveLeaves old leaves (shape_of nodes w.id).leaves
      → Gives nodes w.source old (Some tick) leaves below → IsPutOver nodes w.body (root_machine (record { ticked = record { rotation = r; tick = tick } })) below old new e
      → IsPutBehind nodes w.id old new (Some tick) leaves e
  time_put old new tick leaves below e leaved h o =
      let b = o.backed in
      let columns : columns_of o.copies ≡ widths_of (kinds_of nodes w.body) =
      over_columns nodes w.body (root_machine (record { ticked = record { rotation = r; tick = tick } })) below old new e o (one_in_time w.size w.advance) in
      let fore : CostsAtMost old o.mid (cost_of_time_front c s.a (widths_of (kinds_of nodes w.source))) =
      subst (λ (cs : List ℕ). CostsAtMost old o.mid (cost_of_time_front c s.a cs)) h.same_widths o.fronted.cost in
      let rear : CostsAtMost o.behind new (cost_of_back c (widths_of (kinds_of nodes w.body))) =
      subst (λ (cs : List ℕ). CostsAtMost o.behind new (cost_of_back c cs)) columns b.cost in
      let given : Gives nodes w.source o.mid (Some tick) leaves o.front.source =
      subst (λ (x : Emitted). Gives nodes w.source o.mid (Some tick) leaves x) (sym o.fronted.same)
      (gives_kept _ _ _ _ old o.mid (Some tick) leaves below o.fronted.keeps h) in
      let has : HasLeaf old leaves (Stream number kinds) = (subst (HaveLeaves old leaves) only_leaf leaved).0 in
      record {
        keeps = keeps_then old o.mid new o.fronted.keeps (keeps_then o.mid o.behind new o.bodies.keeps b.keeps);
        cost = time_window_cost laws nodes w plan at (laws.columns_have_kinds nodes w.source plan in_source) (laws.columns_have_kinds nodes w.body plan in_body)
            old o.mid o.behind new fore o.bodies.cost rear;
        gives = rw (follows.shape, whole) (record {
          wire = b.wire;
          same_widths = b.same_widths ∙ columns;
          lines = b.lines;
          paced = λ run is. tt;
          serving = λ run is beats spaced_beats fit.
              let run_behind = b.keeps.runs run is in
              let run_mid = o.bodies.keeps.runs run run_behind in
              let here : HasLeaf o.mid leaves (Stream number kinds) = record {
                wire = has.wire;
                there = has.there;
                is = wire_kept old o.mid has.wire o.fronted.keeps has.is;
                same_widths = has.same_widths;
              } in
              let near = spaced_closer input_figures (time_figures r) beats closer spaced_beats in
              let of_stream = source o.mid run run_mid tick leaves o.front.source given here beats near fit in
              let all = (b.serves run is).each run.held nodes w.body beats spaced_beats of_stream.fits fit.ticks
              (λ k l own. copies_serve laws nodes w.source w.body plan in_body fits.suits.0 o.mid o.behind run o.front.wires c o.copies run_behind o.bodies o.fronted.fronts.as_many k l own) in
              let ins : ℕ → Inputs = inputs_at run.held (line_of run (Some tick)) (leaf run leaves) (leaf run leaves 0) in
              let own : Lines = lines_of_all (told_of run o.copies) c in
              let lines : Lines = both_lines (lines_of run o.front.source.faults) own in
              serving_lines (time_figures r) (λ t. IsPlanResult nodes w.id (ins t)) (lines_of run e.faults) lines beats (carried run e.wire) (b.told run is)
              (serving_beside input_figures (time_figures r) (λ t. IsPlanResult nodes w.source (ins t)) _ (λ t. IsPlanResult nodes w.id (ins t))
              (lines_of run o.front.source.faults) own beats (carried run o.front.source.wire) (carried run e.wire) of_stream
              (no_spill o.mid run run_mid tick leaves o.front.source given here beats near fit) all
              (joined o.mid run run_mid tick leaves o.front.source given here beats near fit));
          dated = λ run is beats spaced_beats fit came. absurd (cc);
        });
      }
