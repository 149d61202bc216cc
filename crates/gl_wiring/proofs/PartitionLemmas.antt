-- The circuits of windows of each group.
use Rattle.std.proofs.Common.{◌≡◌, ℕ, ◌<◌, ◌≤◌, List, [], ◌∷◌, length, Bool, ◌||◌, refl, sym, ap, ◌∙◌, subst, arith, Option}
use Rattle.std.specs.List.{All}
use Rattle.std.proofs.lemmas.List.{length-map}
use Rattle.std.proofs.lemmas.Option.{slice_get_within}
use Rattle.std.proofs.Math.Nat.{mul-pos}
use Rattle.gl_values.specs.Kinds.{IsKind, width_of}
use Rattle.gl_values.specs.Lists.{has_further}
use Rattle.gl_values.specs.Partitions.{parts}
use Rattle.gl_values.specs.Results.{Row, Results, IsOfGroup, IsOfParts}
use Rattle.gl_bits.proofs.Bools.{or_join}
use Rattle.gl_algebra.specs.Columns.{kind_of_column}
use Rattle.gl_algebra.specs.declared.figures.Figures.{Figures}
use Rattle.gl_algebra.specs.declared.node.PlanNode.{PlanNode}
use Rattle.gl_algebra.specs.declared.node.PlanNode.TheVariants.{Partition}
use Rattle.gl_algebra.specs.FigureTable.{AreSmall, IsSound, figures_of, partitions_over, window_gap}
use Rattle.gl_algebra.specs.Fits.{Fits as FitsPlan, IsPlan}
use Rattle.gl_algebra.specs.Laws.{FollowsTables}
use Rattle.gl_algebra.specs.Results.{Inputs, IsPlanResult, given}
use Rattle.gl_algebra.specs.Shapes.{Shape, kinds_of}
use Rattle.gl_algebra.specs.Views.{copies_of_partition, copies_of_window}
use Rattle.gl_algebra.proofs.FigureLemmas.{one_copy}
use Rattle.gl_algebra.proofs.SoundLemmas.{spaced_sound}
use Rattle.gl_net.specs.declared.node.Bit.{Bit}
use Rattle.gl_net.specs.Net.{Net}
use Rattle.gl_wire.specs.Bodies.{OfBody, alone}
use Rattle.gl_wire.specs.Rotates.{lines_of_all}
use Rattle.gl_slots.specs.Costs.{cost_of_back}
use Rattle.gl_slots.specs.Keys.{line_of_further}
use Rattle.gl_partition.specs.declared.partitioning.Partitioning.{Partitioning}
use Rattle.gl_partition.specs.Partitioned.{partitioning_machine}
use Rattle.gl_partition.specs.Partitionings.{IsPartitioning, OfPartitions, key_of}
use Rattle.gl_wire_registers.specs.Fronts.{columns_over}
use Rattle.gl_wire_registers.specs.Joins.{columns_of, told_of}
use Rattle.gl_wire.specs.declared.emitted.Emitted.{Emitted}
use Rattle.gl_wire.specs.declared.wire.Wire.{Wire}
use Rattle.gl_wire.specs.Beats.{Beats}
use Rattle.gl_wire.specs.Costs.{CostsAtMost}
use Rattle.gl_wire.specs.Faults.{line_of, lines_of}
use Rattle.gl_wire.specs.Serving.{Serving, inputs_at}
use Rattle.gl_wire.specs.Spills.{Lines, ServedWithLines, both_lines}
use Rattle.gl_wire.specs.Wire.{Carried, carried}
use Rattle.gl_wire.proofs.ServingLemmas.{serving_as, serving_lines, serving_then}
use Rattle.gl_wiring.specs.declared.partitions.PartitionOf.{PartitionOf}
use Rattle.gl_wiring.specs.Below.{LawsBelow}
use Rattle.gl_wiring.specs.Copies.{CanStandBehind, IsPutOver, IsSpacedSource, LeavesRoom}
use Rattle.gl_wiring.specs.Leaves.{leaf, widths_of}
use Rattle.gl_wiring.specs.Partitions.{IsPartitionNode, parted_whole, partitioning_of, spaced_parted}
use Rattle.gl_wiring.specs.Put.{CanPut, IsPutBehind}
use Rattle.gl_wiring.proofs.CanLemmas.{first_within, second_within}
use Rattle.gl_wiring.proofs.CopyLemmas.{can_stand}
use Rattle.gl_wiring.proofs.OverLemmas.{around, keyed_columns, over_columns}
use Rattle.gl_wiring.proofs.PartitionCosts.{partition_cost}
use Rattle.gl_wiring.proofs.WindowLemmas.{joined_as}

-- beats of the whole leave room for the body
room_for : (count : ℕ) (f body : Figures) → IsSound body → LeavesRoom (window_gap body) f (partitions_over count f body)
room_for count f body sound = record {
  closer = record { gt = omega arith; ge = omega arith };
  after = omega arith;
  after_end = omega (arith, sound.gaps);
}

-- what the whole gives of what its source gives, in the words of a plan, where what the body makes of rows may be said otherwise at each beat
parts_then : (f h : Figures) (means : ℕ → Results) (r : Partitioning) (Body : List Row → Results) (Like : ℕ → List Row → Results)
    → ((t : ℕ) (rows ys : List Row) (b : Bool) → Body rows ys b → Like t rows ys b)
    → (before own : Lines) (beats : Beats) (a b : Carried) → Serving f means before beats a → ServedWithLines f h (OfPartitions r Body) own beats a b
    → Serving h (λ t. IsOfParts (means t) (parts r.slots (key_of r) r.size r.advance) (IsOfGroup (Like t)) (has_further r.slots (key_of r))) (both_lines before own) beats b
parts_then f h means r Body Like to before own beats a b source whole =
    serving_as h _ _ (both_lines before own) beats b (λ t ys p q. record {
      rows = q.0;
      source_spill = q.1;
      parts_spill = q.4.0;
      of_source = q.3;
      of_parts = joined_as (IsOfGroup Body) (IsOfGroup (Like t))
          (λ part zs s x. record { rows = x.rows; of_source = to t part.rows x.rows s x.of_source; changed = x.changed })
          (parts r.slots (key_of r) r.size r.advance q.0) ys q.4.0 q.4.1;
      any = q.5 ∙ ap (λ z. q.1 || z) q.4.2 ∙ sym (or_join q.1 q.4.0 (has_further r.slots (key_of r) q.0));
    }) (serving_then f h means (OfPartitions r Body) before own beats a b source whole)

module _ (laws : LawsBelow) (nodes : List PlanNode) (p : PartitionOf) (plan : IsPlan nodes) (at : IsPartitionNode nodes p) where
  abbrev node : PlanNode
  node = Partition p.source p.body p.key p.groups p.size p.advance

  fits : FitsPlan nodes p.id node
  fits = plan.fits p.id node at

  pub in_source : p.source < length nodes
  in_source = first_within nodes p.id node plan at p.source (p.body ∷ []) refl

  pub in_body : p.body < length nodes
  in_body = second_within nodes p.id node plan at p.source p.body refl

  follows : FollowsTables nodes p.id node
  follows = laws.nodes_follow_tables nodes p.id node plan at

  abbrev s : Figures
  s = figures_of nodes p.body

  abbrev f : Figures
  f = spaced_parted nodes p

  abbrev h : Figures
  h = parted_whole nodes p

  abbrev c : ℕ
  c = copies_of_partition p.groups p.size p.advance

  sound_body : IsSound s
  sound_body = laws.figures_are_sound nodes p.body plan in_body

  -- what a spacer asks for
  pub some_gap : 1 ≤ window_gap s
  some_gap = omega (arith, sound_body.end_gap)

  pub some_step : 1 ≤ p.advance
  some_step = fits.suits.4.least

  -- a slot has a copy, and there is one in all
  copy_of_slot : 1 ≤ copies_of_window p.size p.advance
  copy_of_slot = one_copy p.size p.advance fits.suits.3.least fits.suits.4.least

  some_copy : 1 ≤ c
  some_copy = mul-pos fits.suits.2.least copy_of_slot

  sound_source : IsSound f
  sound_source = spaced_sound (window_gap s) (figures_of nodes p.source) (laws.figures_are_sound nodes p.source plan in_source)

  room : LeavesRoom (window_gap s) f h
  room = room_for c f s sound_body

  -- the numbers of the circuit
  pub partitioning_is : AreSmall (figures_of nodes p.id) → IsPartitioning (partitioning_of nodes p)
  partitioning_is small =
      laws.partitions_partition p.key p.groups p.size p.advance f s fits.suits.2.least fits.suits.3.least fits.suits.4.least sound_body
      (laws.closing_nodes_wait nodes p.body plan in_body fits.suits.0.closing) (subst AreSmall follows.figures small)

  -- the key is a column of what stands behind the source's columns
  pub key_there : (columns : List ℕ) → columns ≡ widths_of (kinds_of nodes p.source) → p.key < length columns
  key_there columns same = rw (same, length-map (kinds_of nodes p.source) width_of) (fits.suits.1)

  -- behind a wire with the source's columns the body can be put
  pub partition_stands : (figures : List Figures) (net : Net) (tick : Option Bit) (leaves : List Wire) (columns : List ℕ) → CanPut nodes figures p.id net tick leaves
      → columns ≡ widths_of (kinds_of nodes p.source) → CanStandBehind nodes figures p.body columns
  partition_stands figures net tick leaves columns can same =
      can_stand laws nodes figures p.id p.source p.body node net tick leaves columns plan at refl fits.suits.0 can same

  -- the machine behind the source
  pub partition_put : (old mid new : Net) (tick : Option Bit) (leaves : List Wire) (between e : Emitted) → IsSpacedSource nodes p.source (window_gap s) old mid tick leaves between
      → IsPutOver nodes p.body (partitioning_machine (partitioning_of nodes p)) between mid new e → IsPutBehind nodes p.id old new tick leaves e
  partition_put old mid new tick leaves between e sp o =
      let m = partitioning_machine (partitioning_of nodes p) in
      let x = around laws nodes p.source p.body (window_gap s) h m between old mid new tick leaves e plan in_body fits.suits.0 room sp o in
      let b = o.backed in
      let columns : columns_of o.copies ≡ widths_of (kinds_of nodes p.body) = over_columns nodes p.body m between mid new e o some_copy in
      let own : columns_over m o.front o.copies ≡ widths_of (kind_of_column (kinds_of nodes p.source) p.key ∷ kinds_of nodes p.body) =
      keyed_columns (kinds_of nodes p.source) p.key fits.suits.1 (kinds_of nodes p.body) _ _ x.columns columns in
      let rear : CostsAtMost o.behind new (cost_of_back c (widths_of (kind_of_column (kinds_of nodes p.source) p.key ∷ kinds_of nodes p.body))) =
      subst (λ (cs : List ℕ). CostsAtMost o.behind new (cost_of_back c cs)) own b.cost in
      record {
        keeps = x.keeps;
        cost = partition_cost laws nodes p plan at copy_of_slot (laws.columns_have_kinds nodes p.source plan in_source)
            (subst (λ (x : Shape). All IsKind x.kinds) follows.shape (laws.columns_have_kinds nodes p.id plan (slice_get_within nodes p.id node at)))
            old o.mid o.behind new x.cost o.bodies.cost rear;
        gives = rw (follows.shape, follows.figures) (record {
          wire = b.wire;
          same_widths = b.same_widths ∙ own;
          lines = b.lines;
          paced = λ run r. tt;
          serving = λ run r beats spaced_beats has.
              let y = x.in_run run r beats spaced_beats has in
              let whole = b.serves run r f sound_source run.held nodes p.body beats spaced_beats y.source'.fits y.apart y.copies in
              let ins : ℕ → Inputs = inputs_at run.held (line_of run tick) (leaf run leaves) (leaf run leaves 0) in
              let told : Lines = both_lines (lines_of_all (told_of run o.copies) c) (line_of_further (line_of run o.front.further)) in
              let lines : Lines = both_lines (lines_of run o.front.source.faults) told in
              serving_lines h (λ t. IsPlanResult nodes p.id (ins t)) (lines_of run e.faults) lines beats (carried run e.wire) (b.told run r)
              (serving_as h _ (λ t. IsPlanResult nodes p.id (ins t)) lines beats (carried run e.wire)
              (λ t ys x v. (follows.results (ins t) ys x).1 v)
              (parts_then f h (λ t. IsPlanResult nodes p.source (ins t)) (partitioning_of nodes p) (OfBody run.held nodes p.body)
              (λ t rows. IsPlanResult nodes p.body (given (ins t) rows))
              (λ t rows zs q y. laws.bodies_read_their_input nodes p.body plan in_body (kinds_of nodes p.source) fits.suits.0.leaves (alone run.held rows) (given (ins t) rows) (record { rows = refl; places = refl; sets = refl }) zs q y)
              (lines_of run o.front.source.faults) told beats (carried run o.front.source.wire) (carried run e.wire) y.source' whole));
          dated = λ run r beats spaced_beats has came. absurd (cc);
        });
      }
