-- The circuits of groups.
use Rattle.std.proofs.Common.{◌≡◌, ℕ, ◌<◌, ◌≤◌, false, List, [], ◌∷◌, length, refl, ◌∙◌, subst, arith, Option}
use Rattle.std.specs.List.{All}
use Rattle.std.proofs.lemmas.List.{length-map}
use Rattle.std.proofs.lemmas.Option.{slice_get_within}
use Rattle.gl_values.specs.Kinds.{IsKind, width_of}
use Rattle.gl_algebra.specs.Columns.{kind_of_column}
use Rattle.gl_algebra.specs.declared.figures.Figures.{Figures}
use Rattle.gl_algebra.specs.declared.node.PlanNode.{PlanNode}
use Rattle.gl_algebra.specs.declared.node.PlanNode.TheVariants.{Group}
use Rattle.gl_algebra.specs.Direct.{form_of, is_direct}
use Rattle.gl_algebra.specs.FigureTable.{AreSmall, IsSound, figures_of, group_gap, groups_over}
use Rattle.gl_algebra.specs.Fits.{Fits as FitsPlan, IsPlan}
use Rattle.gl_algebra.specs.Laws.{FollowsTables}
use Rattle.gl_algebra.specs.Results.{Inputs, IsPlanResult, given}
use Rattle.gl_algebra.specs.Shapes.{Shape, kinds_of}
use Rattle.gl_algebra.proofs.SoundLemmas.{spaced_sound}
use Rattle.gl_net.specs.declared.node.Bit.{Bit}
use Rattle.gl_net.specs.declared.node.Bus.{Bus}
use Rattle.gl_net.specs.Net.{Net}
use Rattle.gl_rows.proofs.MadeLemmas.{as_many}
use Rattle.gl_wire.specs.Bodies.{OfBody, alone}
use Rattle.gl_wire.specs.Rotates.{lines_of_all}
use Rattle.gl_slots.specs.Costs.{cost_of_back}
use Rattle.gl_groups.specs.Grouped.{grouping_machine}
use Rattle.gl_slots.specs.Keys.{line_of_further}
use Rattle.gl_groups.specs.Groupings.{IsGrouping, key_of}
use Rattle.gl_groups.proofs.GroupLemmas.{groups_then}
use Rattle.gl_wire_registers.specs.Fronts.{columns_over}
use Rattle.gl_wire_registers.specs.Joins.{columns_of, told_of}
use Rattle.gl_wire.specs.declared.emitted.Emitted.{Emitted}
use Rattle.gl_wire.specs.declared.wire.Wire.{Wire}
use Rattle.gl_wire.specs.Costs.{CostsAtMost}
use Rattle.gl_wire.specs.Faults.{line_of, lines_of}
use Rattle.gl_wire.specs.Serving.{inputs_at}
use Rattle.gl_wire.specs.Spills.{Lines, both_lines}
use Rattle.gl_wire.specs.Wire.{carried, widths}
use Rattle.gl_wire.proofs.ServingLemmas.{serving_as, serving_lines}
use Rattle.gl_wiring.specs.declared.groups.GroupOf.{GroupOf}
use Rattle.gl_wiring.specs.Below.{LawsBelow}
use Rattle.gl_wiring.specs.Copies.{CanStandBehind, IsPutOver, IsSpacedSource, LeavesRoom}
use Rattle.gl_wiring.specs.Groups.{IsGroupNode, group_whole, grouping_of, spaced_source}
use Rattle.gl_wiring.specs.Leaves.{leaf, widths_of}
use Rattle.gl_wiring.specs.Put.{CanPut, IsPutBehind}
use Rattle.gl_wiring.proofs.CanLemmas.{first_within, second_within}
use Rattle.gl_wiring.proofs.CopyLemmas.{can_stand}
use Rattle.gl_wiring.proofs.OverLemmas.{around, keyed_columns, over_columns}
use Rattle.gl_wiring.proofs.GroupCosts.{group_cost}

-- beats of the whole leave room for the body
room_for : (count : ℕ) (f body : Figures) → IsSound body → LeavesRoom (group_gap body) f (groups_over count f body)
room_for count f body sound = record {
  closer = record { gt = omega arith; ge = omega arith };
  after = omega arith;
  after_end = omega (arith, sound.gaps);
}

module _ (laws : LawsBelow) (nodes : List PlanNode) (g : GroupOf) (plan : IsPlan nodes) (at : IsGroupNode nodes g) where
  abbrev node : PlanNode
  node = Group g.source g.body g.key g.groups

  pub fits : FitsPlan nodes g.id node
  fits = plan.fits g.id node at

  pub in_source : g.source < length nodes
  in_source = first_within nodes g.id node plan at g.source (g.body ∷ []) refl

  pub in_body : g.body < length nodes
  in_body = second_within nodes g.id node plan at g.source g.body refl

  pub follows : FollowsTables nodes g.id node
  follows = laws.nodes_follow_tables nodes g.id node plan at

  abbrev s : Figures
  s = figures_of nodes g.body

  abbrev f : Figures
  f = spaced_source nodes g

  abbrev h : Figures
  h = group_whole nodes g

  pub sound_body : IsSound s
  sound_body = laws.figures_are_sound nodes g.body plan in_body

  -- what a spacer asks for
  pub some_gap : 1 ≤ group_gap s
  some_gap = omega (arith, sound_body.tuples_gap)

  pub sound_source : IsSound f
  sound_source = spaced_sound (group_gap s) (figures_of nodes g.source) (laws.figures_are_sound nodes g.source plan in_source)

  pub room : LeavesRoom (group_gap s) f h
  room = room_for g.groups f s sound_body

  -- the numbers of its circuit
  pub grouping_is : AreSmall (figures_of nodes g.id) → IsGrouping (grouping_of nodes g)
  grouping_is small =
      laws.groups_group g.key g.groups f s fits.suits.2.least sound_body (laws.closing_nodes_wait nodes g.body plan in_body fits.suits.0.closing)
      (subst AreSmall follows.figures small)

  -- the key is one of the source's columns
  pub key_there : (columns : List ℕ) → columns ≡ widths_of (kinds_of nodes g.source) → g.key < length columns
  key_there columns same = rw (same, length-map (kinds_of nodes g.source) width_of) (fits.suits.1)

  pub key_column : (columns : List Bus) → widths columns ≡ widths_of (kinds_of nodes g.source) → g.key < length columns
  key_column columns same = omega (arith, fits.suits.1, as_many columns (kinds_of nodes g.source) same)

  -- behind a wire with the source's columns the body can be put
  pub group_stands : (figures : List Figures) (net : Net) (tick : Option Bit) (leaves : List Wire) (columns : List ℕ) → CanPut nodes figures g.id net tick leaves
      → columns ≡ widths_of (kinds_of nodes g.source) → CanStandBehind nodes figures g.body columns
  group_stands figures net tick leaves columns can same =
      can_stand laws nodes figures g.id g.source g.body node net tick leaves columns plan at refl fits.suits.0 can same

  -- the machine behind the source
  pub group_put : (old mid new : Net) (tick : Option Bit) (leaves : List Wire) (between e : Emitted) → IsSpacedSource nodes g.source (group_gap s) old mid tick leaves between
      → IsPutOver nodes g.body (grouping_machine (grouping_of nodes g)) between mid new e → is_direct (form_of nodes g.body) ≡ false
      → IsPutBehind nodes g.id old new tick leaves e
  group_put old mid new tick leaves between e sp o copied =
      let m = grouping_machine (grouping_of nodes g) in
      let x = around laws nodes g.source g.body (group_gap s) h m between old mid new tick leaves e plan in_body fits.suits.0 room sp o in
      let b = o.backed in
      let columns : columns_of o.copies ≡ widths_of (kinds_of nodes g.body) = over_columns nodes g.body m between mid new e o fits.suits.2.least in
      let own : columns_over m o.front o.copies ≡ widths_of (kind_of_column (kinds_of nodes g.source) g.key ∷ kinds_of nodes g.body) =
      keyed_columns (kinds_of nodes g.source) g.key fits.suits.1 (kinds_of nodes g.body) _ _ x.columns columns in
      let rear : CostsAtMost o.behind new (cost_of_back g.groups (widths_of (kind_of_column (kinds_of nodes g.source) g.key ∷ kinds_of nodes g.body))) =
      subst (λ (cs : List ℕ). CostsAtMost o.behind new (cost_of_back g.groups cs)) own b.cost in
      record {
        keeps = x.keeps;
        cost = group_cost laws nodes g plan at (laws.columns_have_kinds nodes g.source plan in_source)
            (subst (λ (x : Shape). All IsKind x.kinds) follows.shape (laws.columns_have_kinds nodes g.id plan (slice_get_within nodes g.id node at)))
            copied old o.mid o.behind new x.cost o.bodies.cost rear;
        gives = rw (follows.shape, follows.figures) (record {
          wire = b.wire;
          same_widths = b.same_widths ∙ own;
          lines = b.lines;
          paced = λ run r. tt;
          serving = λ run r beats spaced_beats has.
              let y = x.in_run run r beats spaced_beats has in
              let whole = b.serves run r f sound_source run.held nodes g.body beats spaced_beats y.source'.fits y.apart y.copies in
              let ins : ℕ → Inputs = inputs_at run.held (line_of run tick) (leaf run leaves) (leaf run leaves 0) in
              let told : Lines = both_lines (lines_of_all (told_of run o.copies) g.groups) (line_of_further (line_of run o.front.further)) in
              let lines : Lines = both_lines (lines_of run o.front.source.faults) told in
              serving_lines h (λ t. IsPlanResult nodes g.id (ins t)) (lines_of run e.faults) lines beats (carried run e.wire) (b.told run r)
              (serving_as h _ (λ t. IsPlanResult nodes g.id (ins t)) lines beats (carried run e.wire)
              (λ t ys p v. (follows.results (ins t) ys p).1 v)
              (groups_then f h (λ t. IsPlanResult nodes g.source (ins t)) g.groups (key_of (grouping_of nodes g)) (OfBody run.held nodes g.body)
              (λ t rows. IsPlanResult nodes g.body (given (ins t) rows))
              (λ t rows zs q y. laws.bodies_read_their_input nodes g.body plan in_body (kinds_of nodes g.source) fits.suits.0.leaves (alone run.held rows) (given (ins t) rows) (record { rows = refl; places = refl; sets = refl }) zs q y)
              (lines_of run o.front.source.faults) told beats (carried run o.front.source.wire) (carried run e.wire) y.source' whole));
          dated = λ run r beats spaced_beats has came. absurd (cc);
        });
      }
