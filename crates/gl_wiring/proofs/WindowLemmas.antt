-- The circuits of windows.
use Rattle.std.proofs.Common.{◌≡◌, ℕ, ◌<◌, ◌≤◌, List, [], ◌∷◌, length, Bool, false, ◌||◌, refl, sym, ◌∙◌, subst, arith, Option}
use Rattle.gl_values.specs.Lists.{slices}
use Rattle.gl_values.specs.Results.{Row, Results, AreJoined}
use Rattle.gl_bits.proofs.Bools.{or_none}
use Rattle.gl_algebra.specs.declared.figures.Figures.{Figures}
use Rattle.gl_algebra.specs.declared.node.PlanNode.{PlanNode}
use Rattle.gl_algebra.specs.declared.node.PlanNode.TheVariants.{Window}
use Rattle.gl_algebra.specs.FigureTable.{AreSmall, IsSound, figures_of, window_gap, windows_over}
use Rattle.gl_algebra.specs.Fits.{Fits as FitsPlan, IsPlan}
use Rattle.gl_algebra.specs.Views.{copies_of_window}
use Rattle.gl_algebra.specs.Laws.{FollowsTables}
use Rattle.gl_algebra.specs.Results.{Inputs, IsPlanResult, given}
use Rattle.gl_algebra.specs.Shapes.{kinds_of}
use Rattle.gl_algebra.proofs.FigureLemmas.{one_copy}
use Rattle.gl_algebra.proofs.SoundLemmas.{spaced_sound}
use Rattle.gl_net.specs.declared.node.Bit.{Bit}
use Rattle.gl_net.specs.Net.{Net}
use Rattle.gl_windows.specs.Rotations.{IsRotation, rotation_machine}
use Rattle.gl_wire.specs.Bodies.{OfBody, alone}
use Rattle.gl_wire.specs.Rotates.{lines_of_all}
use Rattle.gl_wire_registers.specs.Joins.{columns_of, cost_of_back, told_of}
use Rattle.gl_wire.specs.declared.emitted.Emitted.{Emitted}
use Rattle.gl_wire.specs.declared.wire.Wire.{Wire}
use Rattle.gl_wire.specs.Costs.{CostsAtMost}
use Rattle.gl_wire.specs.Faults.{line_of, lines_of}
use Rattle.gl_wire.specs.Serving.{inputs_at}
use Rattle.gl_wire.specs.Spills.{Lines, both_lines}
use Rattle.gl_wire.specs.Wire.{carried}
use Rattle.gl_wire.proofs.ServingLemmas.{serving_as, serving_lines, serving_then}
use Rattle.gl_wiring.specs.declared.windows.WindowOf.{WindowOf}
use Rattle.gl_wiring.specs.Below.{LawsBelow}
use Rattle.gl_wiring.specs.Leaves.{leaf, widths_of}
use Rattle.gl_wiring.specs.Put.{CanPut, IsPutBehind}
use Rattle.gl_wiring.specs.Windows.{IsWindow, rotation_of, source_figures, whole_figures}
use Rattle.gl_wiring.specs.Copies.{CanStandBehind, IsPutOver, IsSpacedSource, LeavesRoom}
use Rattle.gl_wiring.proofs.CanLemmas.{first_within, second_within}
use Rattle.gl_wiring.proofs.CopyLemmas.{can_stand}
use Rattle.gl_wiring.proofs.OverLemmas.{around, over_columns}
use Rattle.gl_wiring.proofs.WindowCosts.{window_cost}

-- beats of the whole leave room for the body
room_for : (count : ℕ) (f body : Figures) → IsSound body → LeavesRoom (window_gap body) f (windows_over count f body)
room_for count f body sound = record {
  closer = record { gt = omega arith; ge = omega arith };
  after = omega arith;
  after_end = omega (arith, sound.gaps);
}

-- results of parts, with other words for the parts' results
pub joined_as : {Part : Type 0} (P Q : Part → Results) → ((part : Part) (ys : List Row) (p : Bool) → P part ys p → Q part ys p)
    → (parts : List Part) (ys : List Row) (p : Bool) → AreJoined P parts ys p → AreJoined Q parts ys p
joined_as P Q h [] ys p r = r
joined_as P Q h (part ∷ parts) ys p r = (r.0, r.1, r.2, r.3, h part r.0 r.2 r.4, joined_as P Q h parts r.1 r.3 r.5, r.6, r.7)

no_further : (p q : Bool) → p ≡ q → p ≡ (q || false)
no_further p q h = h ∙ sym (or_none q)

module _ (laws : LawsBelow) (nodes : List PlanNode) (w : WindowOf) (plan : IsPlan nodes) (at : IsWindow nodes w) where
  abbrev node : PlanNode
  node = Window w.source w.body w.size w.advance

  fits : FitsPlan nodes w.id node
  fits = plan.fits w.id node at

  pub in_source : w.source < length nodes
  in_source = first_within nodes w.id node plan at w.source (w.body ∷ []) refl

  pub in_body : w.body < length nodes
  in_body = second_within nodes w.id node plan at w.source w.body refl

  follows : FollowsTables nodes w.id node
  follows = laws.nodes_follow_tables nodes w.id node plan at

  abbrev s : Figures
  s = figures_of nodes w.body

  abbrev f : Figures
  f = source_figures nodes w

  abbrev g : Figures
  g = whole_figures nodes w

  abbrev c : ℕ
  c = copies_of_window w.size w.advance

  sound_body : IsSound s
  sound_body = laws.figures_are_sound nodes w.body plan in_body

  -- what a spacer asks for
  pub some_gap : 1 ≤ window_gap s
  some_gap = omega (arith, sound_body.end_gap)

  pub some_step : 1 ≤ w.advance
  some_step = fits.suits.2.least

  sound_source : IsSound f
  sound_source = spaced_sound (window_gap s) (figures_of nodes w.source) (laws.figures_are_sound nodes w.source plan in_source)

  room : LeavesRoom (window_gap s) f g
  room = room_for c f s sound_body

  -- the numbers of a rotation
  pub rotation_is : AreSmall (figures_of nodes w.id) → IsRotation (rotation_of nodes w)
  rotation_is small =
      laws.windows_rotate w.size w.advance f s fits.suits.1.least fits.suits.2.least sound_body
      (laws.closing_nodes_wait nodes w.body plan in_body fits.suits.0.closing) (subst AreSmall follows.figures small)

  -- behind a wire with the source's columns the body can be put
  pub window_stands : (figures : List Figures) (net : Net) (tick : Option Bit) (leaves : List Wire) (columns : List ℕ) → CanPut nodes figures w.id net tick leaves
      → columns ≡ widths_of (kinds_of nodes w.source) → CanStandBehind nodes figures w.body columns
  window_stands figures net tick leaves columns can same =
      can_stand laws nodes figures w.id w.source w.body node net tick leaves columns plan at refl fits.suits.0 can same

  -- the machine behind the source
  pub window_put : (old mid new : Net) (tick : Option Bit) (leaves : List Wire) (between e : Emitted) → IsSpacedSource nodes w.source (window_gap s) old mid tick leaves between
      → IsPutOver nodes w.body (rotation_machine (rotation_of nodes w)) between mid new e → IsPutBehind nodes w.id old new tick leaves e
  window_put old mid new tick leaves between e sp o =
      let x = around laws nodes w.source w.body (window_gap s) g (rotation_machine (rotation_of nodes w)) between old mid new tick leaves e plan in_body fits.suits.0 room sp o in
      let b = o.backed in
      let columns : columns_of o.copies ≡ widths_of (kinds_of nodes w.body) =
      over_columns nodes w.body (rotation_machine (rotation_of nodes w)) between mid new e o (one_copy w.size w.advance fits.suits.1.least fits.suits.2.least) in
      let rear : CostsAtMost o.behind new (cost_of_back c (widths_of (kinds_of nodes w.body))) =
      subst (λ (cs : List ℕ). CostsAtMost o.behind new (cost_of_back c cs)) columns b.cost in
      record {
        keeps = x.keeps;
        cost = window_cost laws nodes w plan at (laws.columns_have_kinds nodes w.source plan in_source) (laws.columns_have_kinds nodes w.body plan in_body)
            old o.mid o.behind new x.cost o.bodies.cost rear;
        gives = rw (follows.shape, follows.figures) (record {
          wire = b.wire;
          same_widths = b.same_widths ∙ columns;
          lines = b.lines;
          paced = λ run r. tt;
          serving = λ run r beats spaced_beats has.
              let y = x.in_run run r beats spaced_beats has in
              let whole = b.serves run r f sound_source run.held nodes w.body beats spaced_beats y.source'.fits y.apart y.copies in
              let ins : ℕ → Inputs = inputs_at run.held (line_of run tick) (leaf run leaves) (leaf run leaves 0) in
              let own : Lines = lines_of_all (told_of run o.copies) c in
              let lines : Lines = both_lines (lines_of run o.front.source.faults) own in
              serving_lines g (λ t. IsPlanResult nodes w.id (ins t)) (lines_of run e.faults) lines beats (carried run e.wire) (b.told run r)
              (serving_as g _ (λ t. IsPlanResult nodes w.id (ins t)) lines beats (carried run e.wire)
              (λ t ys p v. (follows.results (ins t) ys p).1 (record {
                rows = v.0;
                source_spill = v.1;
                parts_spill = v.2;
                of_source = v.3;
                of_parts = joined_as (OfBody run.held nodes w.body) (λ slice. IsPlanResult nodes w.body (given (ins t) slice))
                    (λ slice zs q y. laws.bodies_read_their_input nodes w.body plan in_body (kinds_of nodes w.source) fits.suits.0.leaves (alone run.held slice) (given (ins t) slice) (record { rows = refl; places = refl; sets = refl }) zs q y)
                    (slices w.size w.advance v.0) ys v.2 v.4;
                any = no_further p (v.1 || v.2) v.5;
              }))
              (serving_then f g (λ t. IsPlanResult nodes w.source (ins t)) (λ xs zs q. AreJoined (OfBody run.held nodes w.body) (slices w.size w.advance xs) zs q)
              (lines_of run o.front.source.faults) own beats (carried run o.front.source.wire) (carried run e.wire) y.source' whole));
          dated = λ run r beats spaced_beats has came. absurd (cc);
        });
      }
