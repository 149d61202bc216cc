-- The circuit of a node of frames by a key.
use Rattle.std.proofs.Common.{◌≡◌, ℕ, ◌+◌, ◌*◌, ◌<◌, List, [], length, map, Option, Some, Bool, false, slice_get, All, refl, sym, ap, subst, arith}
use Rattle.std.specs.Prelude.{◌||◌}
use Rattle.std.proofs.lemmas.List.{length-map}
use Rattle.gl_bits.proofs.Bools.{or_none}
use Rattle.gl_values.specs.Kinds.{IsKind}
use Rattle.gl_values.specs.declared.kind.Kind.{Kind}
use Rattle.gl_algebra.specs.declared.figures.Figures.{Figures}
use Rattle.gl_algebra.specs.declared.node.PlanFrame.{PlanFrame}
use Rattle.gl_algebra.specs.declared.node.PlanKey.{PlanKey}
use Rattle.gl_algebra.specs.declared.node.PlanNode.{PlanNode}
use Rattle.gl_algebra.specs.declared.node.PlanNode.TheVariants.{Frames}
use Rattle.gl_algebra.specs.Columns.{FrameFits, kind_of_frame}
use Rattle.gl_algebra.specs.Cost.{store_by_key}
use Rattle.gl_algebra.specs.FigureTable.{IsSound, delayed, figures_of, settled}
use Rattle.gl_algebra.specs.Fits.{IsPlan, KeyFits}
use Rattle.gl_algebra.specs.Keys.{delay_by_key}
use Rattle.gl_algebra.specs.Results.{IsPlanArrival, IsPlanResult, row_of_frames}
use Rattle.gl_algebra.specs.Shapes.{kinds_of, shape_of}
use Rattle.gl_algebra.specs.Values.{Sets}
use Rattle.gl_algebra.specs.Weights.{weight_by_key}
use Rattle.gl_algebra.proofs.SoundLemmas.{delayed_sound}
use Rattle.gl_net.specs.declared.node.Bit.{Bit}
use Rattle.gl_net.specs.Net.{Net}
use Rattle.gl_net.proofs.Determined.{keeps_then}
use Rattle.gl_figures.specs.Reach.{keys_part}
use Rattle.gl_figures.proofs.PartLemmas.{parts_at}
use Rattle.gl_frames_keys.specs.Laws.{OfKeys}
use Rattle.gl_frames_lanes.specs.LaneNets.{key_in}
use Rattle.gl_frames_parted.specs.Parted.{ArePartedIn, KeyFramesAreCounted, cost_by_key, cost_of_parted}
use Rattle.gl_frames_slots.specs.declared.keyed.KeyFrames.{KeyFrames}
use Rattle.gl_frames_stages.specs.FramesNets.{frames_widths}
use Rattle.gl_wire.specs.declared.emitted.Emitted.{Emitted}
use Rattle.gl_wire.specs.declared.wire.Wire.{Wire}
use Rattle.gl_wire.specs.Blocks.{IsBehindLines}
use Rattle.gl_wire.specs.Counted.{IsCounted}
use Rattle.gl_wire.specs.Costs.{Cost, CostsAtMost, nodes_alone}
use Rattle.gl_wire.specs.Faults.{IsEither, line_of}
use Rattle.gl_wire.specs.Serves as block
use Rattle.gl_wire.specs.Serves.{Serves}
use Rattle.gl_wire.specs.Spills.{Lines, Relation, ServesWithLines}
use Rattle.gl_wire.specs.Wire.{Carried, carried, line_at}
use Rattle.gl_wire.proofs.ColumnLemmas.{wire_kept}
use Rattle.gl_wire.proofs.DelayLemmas.{spaced_closer}
use Rattle.gl_wire.proofs.FaultLemmas.{line_kept}
use Rattle.gl_wire.proofs.SettledLemmas.{settled_serves}
use Rattle.gl_arrival.specs.Changes.{each_at}
use Rattle.gl_frames.specs.Frames.{by_key}
use Rattle.gl_values.specs.Lists.{has_further}
use Rattle.gl_arrival.specs.Results.{IsPartedInPlace}
use Rattle.gl_turns.proofs.DatedLemmas.{dated_as}
use Rattle.gl_wiring.proofs.DatedRows.{dated_by_key}
use Rattle.gl_wiring.specs.Below.{LawsBelow}
use Rattle.gl_wiring.specs.Put.{Gives, IsPutBehind}
use Rattle.gl_wiring.proofs.CanLemmas.{first_within}
use Rattle.gl_wiring.proofs.CostLemmas.{cost_behind}
use Rattle.gl_wiring.proofs.GivesLemmas.{behind_lines}

-- a block with lines serves with settled figures too
settled_lines : (f g : Figures) (n : Relation) (own : Lines) (a b : Carried) → IsSound g → ServesWithLines f g n own a b → ServesWithLines f (settled g) n own a b
settled_lines f g n own a b sound h = λ beats spaced fits.
    let any : block.Meaning = λ xs ys. Unit {0} in
    let plain : Serves f g any a b = λ bs s i. (let y = h bs s i in record { fits = y.served.fits; results = λ t d e p hd he. tt; later = y.served.later }) in
    let x = h beats (spaced_closer g (settled g) beats (record { gt = omega arith; ge = omega arith }) spaced) fits in
    record {
      spill = x.spill;
      served = record {
        fits = (settled_serves f g any a b sound plain beats spaced fits).fits;
        results = λ t d e p hd he. x.served.results t d e p hd (record { is = he.is; low = he.low; high = he.high });
        later = λ t d e p hd he. x.served.later t d e p hd (record { is = he.is; low = he.low; high = he.high });
      };
      low = x.low;
      told = x.told;
      so = x.so;
      late = x.late;
    }

-- a part of the plan's without keys of groups
without_keys : (lean keys counts : ℕ) → lean ≡ counts → keys ≡ 0 → 64 * lean + keys ≡ 64 * counts
without_keys lean keys counts is none = omega (arith, is, none)

-- a block and a gate
and_a_gate : (old mid new : Net) (most : Cost) → CostsAtMost old mid most → CostsAtMost mid new (nodes_alone 1)
    → CostsAtMost old new (record { nodes = most.nodes + 1; registers = most.registers; memories = most.memories })
and_a_gate old mid new most h gate = record {
  nodes = omega (arith, h.nodes, gate.nodes);
  registers = omega (arith, h.registers, gate.registers);
  memories = omega (arith, h.memories, gate.memories);
}

-- items by a key over the lines of their node
key_frames_counted : KeyFramesAreCounted → (kinds : List Kind) (by : PlanKey) (items : List PlanFrame) → All IsKind kinds → All (FrameFits kinds) items → KeyFits kinds (Some by)
    → (let lines = length (map (kind_of_frame kinds) items) + 2 in
    IsCounted (cost_by_key kinds by items) (weight_by_key kinds lines (Some by) items) (weight_by_key kinds lines (Some by) items) (store_by_key kinds lines (Some by) items))
key_frames_counted law kinds by items are fit key =
    subst (λ (n : ℕ). IsCounted (cost_by_key kinds by items) (weight_by_key kinds (n + 2) (Some by) items) (weight_by_key kinds (n + 2) (Some by) items)
    (store_by_key kinds (n + 2) (Some by) items)) (sym (length-map items (kind_of_frame kinds))) (law kinds by items are fit key)

module _ (laws : LawsBelow) (nodes : List PlanNode) (id : ℕ) (old mid new : Net) (tick : Option Bit) (leaves : List Wire) (below : Emitted) (plan : IsPlan nodes)
    (child : ℕ) (by : PlanKey) (items : List PlanFrame) (at : slice_get nodes id ≡ Some (Frames child (Some by) items))
    (h : Gives nodes child old tick leaves below) (r : KeyFrames) (is : ArePartedIn old mid (kinds_of nodes child) by items below.wire r)
    (further : Option Bit) (line : IsEither mid new below.faults.further (Some r.further) further) where
  abbrev kinds : List Kind
  kinds = kinds_of nodes child

  abbrev f : Figures
  f = figures_of nodes child

  abbrev m : ℕ
  m = delay_by_key kinds (Some by) items

  abbrev e : Emitted
  e = record { wire = r.wire; faults = record { passed = below.faults.passed; further = further } }

  abbrev relation : Sets → Relation
  relation sets = OfKeys by.groups (key_in by.key) (row_of_frames sets kinds items)

  in_child : child < length nodes
  in_child = first_within nodes id (Frames child (Some by) items) plan at child [] refl

  sound : IsSound f
  sound = laws.figures_are_sound nodes child plan in_child

  keyed : IsBehindLines old new f (settled (delayed m f)) relation (frames_widths kinds items) (cost_by_key kinds by items) below e
  keyed = record {
    keeps = keeps_then old mid new is.keeps line.keeps;
    cost = and_a_gate old mid new (cost_of_parted kinds by items) is.cost line.cost;
    wire = wire_kept mid new r.wire line.keeps is.wire;
    same_widths = is.same_widths;
    lines = record { passed = line_kept mid new below.faults.passed line.keeps (line_kept old mid below.faults.passed is.keeps h.lines.passed); further = line.is };
    serves = λ run z.
        let own : Lines = record { passed = λ c. false; further = line_at run r.further } in (
          own,
          record { passed = λ c. sym (or_none (line_of run below.faults.passed c)); further = line.line run z },
          settled_lines f (delayed m f) (relation run.held) own (carried run below.wire) (carried run r.wire) (delayed_sound m f sound) (is.serves run (line.keeps.runs run z) f sound),
        );
  }

  pub key_frames_put : IsPutBehind nodes id old new tick leaves e
  key_frames_put =
      let follows = laws.nodes_follow_tables nodes id (Frames child (Some by) items) plan at in
      let parts = parts_at nodes id (Frames child (Some by) items) at in
      let suits = (plan.fits id (Frames child (Some by) items) at).suits in
      let lines : ℕ = length (map (kind_of_frame kinds) items) + 2 in
      let weight : ℕ = weight_by_key kinds lines (Some by) items in
      let none : keys_part nodes id ≡ 0 = omega (arith, parts.keys) in
      record {
        keeps = keyed.keeps;
        cost = cost_behind nodes id weight weight (store_by_key kinds lines (Some by) items) old new (cost_by_key kinds by items)
            (record { weight' = parts.weight; lean' = without_keys _ _ weight parts.lean none; store' = parts.store })
            keyed.cost (key_frames_counted laws.key_frames_are_counted kinds by items (laws.columns_have_kinds nodes child plan in_child) suits.0 suits.1);
        gives = rw (follows.shape, follows.figures) (behind_lines (shape_of nodes child) _ f (settled (delayed m f)) (IsPlanArrival nodes child) (IsPlanArrival nodes id) (IsPlanResult nodes child)
            (IsPlanResult nodes id) old new tick leaves below e _ _ relation
            h keyed refl (record { gt = omega arith; ge = omega arith })
            (λ run z. tt)
            (λ i xs ys q s of n. (follows.results i ys (q || s)).1
            (record { rows = xs; source_spill = q; of_source = of; changed = n.rows; any = ap (λ (b : Bool). q || b) n.left_out }))
            (has_further by.groups (key_in by.key)) (λ sets xs ys s n. n.left_out)
            (λ run z beats apart fits came. (
              came,
              λ i held p d.
                  let w = (keyed.serves run z).2 beats apart fits in
                  dated_as (settled (delayed m f)) (λ t. IsPartedInPlace (IsPlanArrival nodes child (i t)) (each_at (by_key by.groups (key_in by.key) (row_of_frames run.held kinds items)) [])
                  (has_further by.groups (key_in by.key))) (λ t n. n) (λ t. p t || w.spill t) beats (λ t. IsPlanArrival nodes id (i t)) (carried run r.wire)
                  (λ t xs q x. (follows.arrivals (i t) xs q).1
                  (subst (λ (z : Sets). IsPartedInPlace (IsPlanArrival nodes child (i t)) (each_at (by_key by.groups (key_in by.key) (row_of_frames z kinds items)) [])
                  (has_further by.groups (key_in by.key)) xs q) (sym (held t)) x))
                  (dated_by_key f (λ t. IsPlanArrival nodes child (i t)) (λ t n. n) p beats (carried run below.wire) (carried run r.wire) m
                  (by_key by.groups (key_in by.key) (row_of_frames run.held kinds items)) (has_further by.groups (key_in by.key)) w.spill
                  (λ t k l ends first last. (w.served.results t k l ends first last).left_out)
                  (is.runs run (line.keeps.runs run z)) d),
            )));
      }
