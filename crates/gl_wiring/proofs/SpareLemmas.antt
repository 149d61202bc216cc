-- The circuit of windows with spare copies at the root of a plan.
use Rattle.std.proofs.Common.{◌≡◌, ℕ, ◌<◌, List, [], ◌∷◌, length, Bool, false, None, refl, sym, ap, ◌∙◌, subst, Option}
use Rattle.gl_values.specs.Lists.{slices}
use Rattle.gl_values.specs.Results.{IsOfParts, Row}
use Rattle.gl_algebra.specs.declared.figures.Figures.{Figures}
use Rattle.gl_algebra.specs.declared.node.PlanNode.{PlanNode}
use Rattle.gl_algebra.specs.declared.node.PlanNode.TheVariants.{Window}
use Rattle.gl_algebra.specs.FigureTable.{IsSound, figures_of}
use Rattle.gl_algebra.specs.Fits.{Fits as FitsPlan, IsPlan}
use Rattle.gl_algebra.specs.Laws.{FollowsTables}
use Rattle.gl_algebra.specs.Results.{Inputs, IsPlanResult, given}
use Rattle.gl_algebra.specs.Roots.{root_figures}
use Rattle.gl_root_gaps.specs.Roots.{tick_gaps_at}
use Rattle.gl_algebra.specs.Shapes.{Shape, kinds_of}
use Rattle.std.specs.Prelude.{Some}
use Rattle.gl_figures.proofs.RootLemmas.{figures_there, spare_there}
use Rattle.gl_root_gaps.proofs.GapLemmas.{ticks_there}
use Rattle.gl_net.specs.declared.node.Bit.{Bit}
use Rattle.gl_net.specs.Net.{Net}
use Rattle.gl_net.proofs.Determined.{keeps_then}
use Rattle.gl_spare.specs.declared.rotation.SpareRotation.{SpareRotation}
use Rattle.gl_spare.specs.Costs.{cost_of_front}
use Rattle.gl_spare.specs.Rotations.{IsRotation, Suits, figures_over, spare_machine}
use Rattle.gl_wire.specs.Bodies.{OfBody, alone}
use Rattle.gl_wire.specs.Rotates.{lines_of_all}
use Rattle.gl_wire_registers.specs.Joins.{columns_of, cost_of_back, told_of}
use Rattle.gl_wire.specs.declared.emitted.Emitted.{Emitted}
use Rattle.gl_wire.specs.declared.wire.Wire.{Wire}
use Rattle.gl_wire.specs.Beats.{Spaced}
use Rattle.gl_wire.specs.Costs.{CostsAtMost}
use Rattle.gl_wire.specs.Faults.{line_of, lines_of}
use Rattle.gl_wire.specs.Once.{ServingOnce}
use Rattle.gl_wire.specs.Serving.{inputs_at}
use Rattle.gl_wire.specs.Spills.{Lines, both_lines}
use Rattle.gl_wire.specs.Wire.{carried}
use Rattle.gl_wire.proofs.OnceLemmas.{once_as, once_lines, spaced_once}
use Rattle.gl_wiring.specs.declared.spare_windows.SpareWindowOf.{SpareWindowOf}
use Rattle.gl_wiring.specs.Below.{LawsBelow}
use Rattle.gl_wiring.specs.Copies.{CanStandBehind, IsPutOver}
use Rattle.gl_wiring.specs.Leaves.{leaf, widths_of}
use Rattle.gl_wiring.specs.Put.{CanPut, Gives, IsPut}
use Rattle.gl_wiring.specs.Roots.{IsRootPut, gapped, once_figures}
use Rattle.gl_wiring.specs.SpareWindows.{IsSpareWindow, rotation_with}
use Rattle.gl_wiring.proofs.BodyLemmas.{copies_serve}
use Rattle.gl_wiring.proofs.CanLemmas.{first_within, second_within}
use Rattle.gl_wiring.proofs.CopyLemmas.{can_stand}
use Rattle.gl_wiring.proofs.CostLemmas.{costs_then}
use Rattle.gl_wiring.proofs.GivesLemmas.{gives_kept}
use Rattle.gl_wiring.proofs.OverLemmas.{over_columns}
use Rattle.gl_wiring.proofs.SpareCosts.{spare_cost}
use Rattle.gl_wiring.proofs.WindowLemmas.{joined_as}

module _ (laws : LawsBelow) (nodes : List PlanNode) (w : SpareWindowOf) (plan : IsPlan nodes) (is : IsSpareWindow nodes w) where
  abbrev id : ℕ
  id = w.window.id

  abbrev of_source : ℕ
  of_source = w.window.source

  abbrev of_body : ℕ
  of_body = w.window.body

  abbrev node : PlanNode
  node = Window of_source of_body w.window.size w.window.advance

  fits : FitsPlan nodes id node
  fits = plan.fits id node is.window'

  pub in_source : of_source < length nodes
  in_source = first_within nodes id node plan is.window' of_source (of_body ∷ []) refl

  pub in_body : of_body < length nodes
  in_body = second_within nodes id node plan is.window' of_source of_body refl

  follows : FollowsTables nodes id node
  follows = laws.nodes_follow_tables nodes id node plan is.window'

  abbrev f : Figures
  f = figures_of nodes of_source

  abbrev r : SpareRotation
  r = rotation_with nodes w

  sound_source : IsSound f
  sound_source = laws.figures_are_sound nodes of_source plan in_source

  sound_body : IsSound (figures_of nodes of_body)
  sound_body = laws.figures_are_sound nodes of_body plan in_body

  -- the numbers of the rotation suit the source
  pub rotates : IsRotation r × Suits r f
  rotates =
      laws.spares_rotate r f sound_source sound_body (laws.closing_nodes_wait nodes of_body plan in_body fits.suits.0.closing)
      fits.suits.1.least fits.suits.2.least (spare_there nodes id node w.spare is.window' is.spare').of_node

  figures_are : root_figures nodes id ≡ figures_over r f
  figures_are = figures_there nodes id node (Some w.spare) is.window' is.spare'

  -- windows of tuples have no ticks
  even : tick_gaps_at nodes id ≡ None
  even = ticks_there nodes id node plan is.window'

  once_are : once_figures nodes id ≡ figures_over r f
  once_are = λ i. gapped (even i) (figures_are i)

  -- behind a wire with the source's columns the body can be put
  pub spare_stands : (figures : List Figures) (net : Net) (tick : Option Bit) (leaves : List Wire) (columns : List ℕ) → CanPut nodes figures id net tick leaves
      → columns ≡ widths_of (kinds_of nodes of_source) → CanStandBehind nodes figures of_body columns
  spare_stands figures net tick leaves columns can same =
      can_stand laws nodes figures id of_source of_body node net tick leaves columns plan is.window' refl fits.suits.0 can same

  -- the results of all windows are those of the root
  abbrev parts_of : Inputs → List Row → Bool → Type 0
  parts_of inputs = IsOfParts (IsPlanResult nodes of_source inputs) (slices w.window.size w.window.advance) (OfBody inputs.sets nodes of_body) (λ rows. false)

  of_root : (inputs : Inputs) (ys : List Row) (p : Bool) → parts_of inputs ys p → IsPlanResult nodes id inputs ys p
  of_root inputs ys p v =
      (follows.results inputs ys p).1 (record {
        rows = v.rows;
        source_spill = v.source_spill;
        parts_spill = v.parts_spill;
        of_source = v.of_source;
        of_parts = joined_as (OfBody inputs.sets nodes of_body) (λ slice. IsPlanResult nodes of_body (given inputs slice))
            (λ slice zs q y. laws.bodies_read_their_input nodes of_body plan in_body (kinds_of nodes of_source) fits.suits.0.leaves (alone inputs.sets slice) (given inputs slice) (record { rows = refl; places = refl; sets = refl }) zs q y)
            (slices w.window.size w.window.advance v.rows) ys v.parts_spill v.of_parts;
        any = v.any;
      })

  -- the machine behind the source
  pub spare_put : (old mid new : Net) (tick : Option Bit) (leaves : List Wire) (below e : Emitted) → IsPut nodes of_source old mid tick leaves below
      → IsPutOver nodes of_body (spare_machine r) below mid new e → IsRootPut nodes id old new tick leaves e
  spare_put old mid new tick leaves below e h o =
      let b = o.backed in
      let delay : ℕ = (figures_of nodes of_body).a in
      let columns : columns_of o.copies ≡ widths_of (kinds_of nodes of_body) = over_columns nodes of_body (spare_machine r) below mid new e o rotates.0.a_copy in
      let fore : CostsAtMost mid o.mid (cost_of_front w.spare.copies delay (widths_of (kinds_of nodes of_source))) =
      subst (λ (cs : List ℕ). CostsAtMost mid o.mid (cost_of_front w.spare.copies delay cs)) h.gives.same_widths o.fronted.cost in
      let rear : CostsAtMost o.behind new (cost_of_back w.spare.copies (widths_of (kinds_of nodes of_body))) =
      subst (λ (cs : List ℕ). CostsAtMost o.behind new (cost_of_back w.spare.copies cs)) columns b.cost in
      let given : Gives nodes of_source o.mid tick leaves o.front.source =
      subst (λ (x : Emitted). Gives nodes of_source o.mid tick leaves x) (sym o.fronted.same) (gives_kept _ _ _ _ mid o.mid tick leaves below o.fronted.keeps h.gives) in
      record {
        keeps = keeps_then old mid new h.keeps (keeps_then mid o.mid new o.fronted.keeps (keeps_then o.mid o.behind new o.bodies.keeps b.keeps));
        cost = spare_cost laws nodes w plan is (laws.columns_have_kinds nodes of_source plan in_source) (laws.columns_have_kinds nodes of_body plan in_body)
            old o.mid o.behind new (costs_then old mid o.mid _ _ h.cost fore) o.bodies.cost rear;
        columns = record {
          wire = b.wire;
          same_widths = b.same_widths ∙ columns ∙ ap (λ (s : Shape). widths_of s.kinds) (sym follows.shape);
          lines = b.lines;
        };
        once = λ run run_new beats last one spaced has apart.
            let run_behind = b.keeps.runs run run_new in
            let run_mid = o.bodies.keeps.runs run run_behind in
            let ins : ℕ → Inputs = inputs_at run.held (line_of run tick) (leaf run leaves) (leaf run leaves 0) in
            let here : Spaced (figures_over r f) beats = subst (λ (g : Figures). Spaced g beats) once_are spaced in
            let source = given.serving run run_mid beats (spaced_once f (figures_over r f) beats last rotates.1.source_gap one here) has in
            let whole = b.serves run run_new f sound_source rotates.1 run.held nodes of_source of_body ins (lines_of run o.front.source.faults) beats last one here source
            (λ k l own. copies_serve laws nodes of_source of_body plan in_body fits.suits.0 o.mid o.behind run o.front.wires w.spare.copies o.copies run_behind o.bodies o.fronted.fronts.as_many k l own) in
            let lines : Lines = both_lines (lines_of run o.front.source.faults) (lines_of_all (told_of run o.copies) w.spare.copies) in
            subst (λ (g : Figures). ServingOnce g (IsPlanResult nodes id (ins last)) (lines_of run e.faults) last (carried run e.wire)) (sym once_are)
            (once_lines (figures_over r f) (IsPlanResult nodes id (ins last)) (lines_of run e.faults) lines last (carried run e.wire) (b.told run run_new)
            (once_as (figures_over r f) (parts_of (ins last)) (IsPlanResult nodes id (ins last)) lines last (carried run e.wire) (of_root (ins last)) whole));
      }
