-- A circuit over the columns that are asked for serves what is asked of the node, in its cycles.
use Rattle.std.proofs.Common.{◌≡◌, ℕ, ◌<◌, List, length, map, Some, false, All, sym, ap, ◌∙◌, subst, arith}
use Rattle.gl_algebra.specs.Columns.{FrameFits}
use Rattle.gl_algebra.specs.FigureTable.{IsSound, delayed}
use Rattle.gl_algebra.specs.Keys.{cycles_of_look_up, delay_by_key, width_of_key}
use Rattle.gl_algebra.specs.Results.{row_of_frames}
use Rattle.gl_algebra.specs.Values.{Sets}
use Rattle.gl_algebra.specs.declared.figures.Figures.{Figures}
use Rattle.gl_algebra.specs.declared.node.PlanFrame.{PlanFrame}
use Rattle.gl_algebra.specs.declared.node.PlanKey.{PlanKey}
use Rattle.gl_values.specs.Kinds.{width_of}
use Rattle.gl_values.specs.Results.{Row}
use Rattle.gl_values.specs.declared.kind.Kind.{Kind}
use Rattle.gl_net.specs.Net.{Net, Run}
use Rattle.gl_frames_asked.specs.Among.{pick, pick_kinds, renumber, renumber_key}
use Rattle.gl_frames_asked.specs.Asked.{asked_columns}
use Rattle.gl_frames_asked.specs.Laws.{AreSameByKey, FormsAreSameByKey, IsSameNode, NodesAreSame, NodesMakeSame}
use Rattle.gl_frames.specs.Frames.{by_key}
use Rattle.gl_frames_wire.specs.Running.{Runs}
use Rattle.gl_frames_keys.specs.Lanes.{leaves_out}
use Rattle.gl_frames_keys.specs.Laws.{OfKeys, PartitionsServe}
use Rattle.gl_frames_lanes.specs.LaneNets.{key_in}
use Rattle.gl_frames_slots.specs.KeyNets.{AreKeyFrames, key_delay}
use Rattle.gl_frames_slots.specs.declared.keyed.KeyFrames.{KeyFrames}
use Rattle.gl_wire.specs.declared.wire.Wire.{Wire}
use Rattle.gl_wire.specs.Spills.{ServesWithLines}
use Rattle.gl_wire.specs.Wire.{Carried, carried, line_at, widths}
use Rattle.gl_frames_parted.specs.Parted.{AreOverAllIn, ArePartedIn, keys_by}
use Rattle.gl_frames_parted.specs.Picked.{HasColumns}
use Rattle.gl_frames_parted.proofs.CarriedLemmas.{late_by, late_by_is, leaves_same, picked_late, runs_same}
use Rattle.gl_frames_parted.proofs.PickedLemmas.{IsPicked, widths_picked, wire_carries}

-- the cycles of a node until its slot is found
abbrev cycles_in : List Kind → PlanKey → ℕ
cycles_in kinds by = cycles_of_look_up (width_of_key kinds by) by.groups

-- they and those of its items are all
delay_is : (kinds : List Kind) (by : PlanKey) (items : List PlanFrame) → key_delay (cycles_in kinds by) kinds items ≡ delay_by_key kinds (Some by) items
delay_is kinds by items = omega arith

-- the widths of the picked columns are those of their kinds
pub kinds_picked : (asked : List ℕ) (kinds : List Kind) (source picked : Wire) → HasColumns asked source picked → widths source.columns ≡ map width_of kinds
    → map width_of (pick_kinds asked kinds) ≡ pick asked (map width_of kinds) → widths picked.columns ≡ map width_of (pick_kinds asked kinds)
kinds_picked asked kinds source picked has are same = widths_picked asked source picked has ∙ ap (pick asked) are ∙ sym same

module _ (serve : PartitionsServe) (nodes_are : NodesAreSame) (nodes_make : NodesMakeSame) (forms : FormsAreSameByKey Row Row Row) (kinds : List Kind) (by : PlanKey) (items : List PlanFrame) (there : by.key < length kinds)
    (fit : All (FrameFits kinds) items) (source picked : Wire) (has : HasColumns (asked_columns (length kinds) by.key items) source picked) (r : KeyFrames) where
  abbrev asked : List ℕ
  asked = asked_columns (length kinds) by.key items

  abbrev kinds' : List Kind
  kinds' = pick_kinds asked kinds

  abbrev by' : PlanKey
  by' = renumber_key asked by

  abbrev items' : List PlanFrame
  items' = map (renumber asked) items

  abbrev cycles : ℕ
  cycles = cycles_in kinds' by'

  abbrev m : ℕ
  m = key_delay cycles kinds' items'

  abbrev key : Row → ℕ
  key = key_in by.key

  abbrev key' : Row → ℕ
  key' = key_in by'.key

  same_key : (row : Row) → key' (pick asked row) ≡ key row
  same_key = (nodes_make kinds by items there fit).key

  same_made : (sets : Sets) → AreSameByKey (pick asked) key key' (row_of_frames sets kinds items) (row_of_frames sets kinds' items')
  same_made sets = forms (pick asked) key key' (row_of_frames sets kinds items) (row_of_frames sets kinds' items') same_key ((nodes_make kinds by items there fit).row sets)

  module _ (run : Run) (are : AreKeyFrames cycles run (keys_by by') kinds' items' picked r) where
    abbrev a : Carried
    a = carried run source

    carries : IsPicked (pick asked) a (carried run picked)
    carries = wire_carries asked source picked has run

    abbrev late : Carried
    late = late_by cycles a

    line : (c : ℕ) → line_at run r.further c ≡ leaves_out by.groups key late c
    line c =
        are.further c
        ∙ leaves_same (pick asked) late are.late (picked_late (pick asked) cycles a (carried run picked) late are.late carries (late_by_is cycles a) are.behind)
        by.groups key key' same_key c

    own_runs : Runs m (by_key by.groups key (row_of_frames run.held kinds items)) a (carried run r.wire)
    own_runs =
        runs_same (pick asked) a (carried run picked) carries by.groups key key' same_key (row_of_frames run.held kinds items) (row_of_frames run.held kinds' items') (same_made run.held) m (carried run r.wire) are.runs

    parted_runs : Runs (delay_by_key kinds (Some by) items) (by_key by.groups key (row_of_frames run.held kinds items)) a (carried run r.wire)
    parted_runs =
        subst (λ (n : ℕ). Runs n (by_key by.groups key (row_of_frames run.held kinds items)) a (carried run r.wire))
        (delay_is kinds' by' items' ∙ (nodes_are kinds by items there fit).delay_by_key) own_runs

    parted_serves : (f : Figures) → IsSound f
        → ServesWithLines f (delayed (delay_by_key kinds (Some by) items) f) (OfKeys by.groups key (row_of_frames run.held kinds items)) (record { passed = λ c. false; further = line_at run r.further })
        a (carried run r.wire)
    parted_serves f sound =
        subst (λ (n : ℕ). ServesWithLines f (delayed n f) (OfKeys by.groups key (row_of_frames run.held kinds items)) (record { passed = λ c. false; further = line_at run r.further }) a (carried run r.wire))
        (delay_is kinds' by' items' ∙ (nodes_are kinds by items there fit).delay_by_key)
        (serve m cycles by.groups key (row_of_frames run.held kinds items) f a late (carried run r.wire) (line_at run r.further) sound (omega arith)
        own_runs (late_by_is cycles a) line)

  module _ (old new : Net) where
    same : IsSameNode kinds by items asked
    same = nodes_are kinds by items there fit

    parted_in : AreOverAllIn old new kinds' by' items' picked r → ArePartedIn old new kinds by items source r
    parted_in are = record {
      keeps = are.keeps;
      cost = are.cost;
      wire = are.wire;
      same_widths = are.same_widths ∙ ap (map width_of) same.made;
      further = are.further;
      runs = λ run z. parted_runs run (are.law run z);
      serves = λ run z. parted_serves run (are.law run z);
    }

    -- by whatever names they go
    pub parted_as : (ks : List Kind) (b : PlanKey) (is : List PlanFrame) → ks ≡ kinds' → b ≡ by' → is ≡ items' → AreOverAllIn old new ks b is picked r
        → ArePartedIn old new kinds by items source r
    parted_as ks b is same_kinds same_by same_items are =
        parted_in (subst (λ (k : List Kind). AreOverAllIn old new k by' items' picked r) same_kinds
        (subst (λ (x : PlanKey). AreOverAllIn old new ks x items' picked r) same_by
        (subst (λ (xs : List PlanFrame). AreOverAllIn old new ks b xs picked r) same_items are)))
