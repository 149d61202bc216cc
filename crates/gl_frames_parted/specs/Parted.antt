-- Frames of each key over the columns that they ask for, and that their cost is within what a plan counts for them.
use Rattle.std.specs.Prelude.{◌≡◌, ℕ, ◌+◌, ◌-◌, max, Bool, false, ◌&&◌, All, List, [], ◌∷◌, Option, Some, None, length, map}
use Rattle.std.specs.Prelude.{if◌then◌else◌, nat_le, nat_lt, slice_index}
use Rattle.std.specs.List.{sum}
use Rattle.gl_algebra.specs.Columns.{FrameFits}
use Rattle.gl_algebra.specs.Cost.{store_by_key}
use Rattle.gl_algebra.specs.FigureTable.{IsSound, delayed}
use Rattle.gl_algebra.specs.Fits.{KeyFits}
use Rattle.gl_algebra.specs.Keys.{cycles_of_look_up, delay_by_key, levels_of, width_of_key}
use Rattle.gl_algebra.specs.Results.{row_of_frames}
use Rattle.gl_algebra.specs.Rings.{least_exponent}
use Rattle.gl_algebra.specs.Weights.{weight_by_key}
use Rattle.gl_algebra.specs.declared.figures.Figures.{Figures}
use Rattle.gl_algebra.specs.declared.node.PlanFrame.{PlanFrame}
use Rattle.gl_algebra.specs.declared.node.PlanFrame.TheVariants.{Lag, Over, Own}
use Rattle.gl_algebra.specs.declared.node.PlanKey.{PlanKey}
use Rattle.gl_values.specs.Kinds.{IsKind, width_of}
use Rattle.gl_values.specs.declared.kind.Kind.{Kind}
use Rattle.gl_net.specs.Net.{Net, Run, IsRun, IsBit, Keeps}
use Rattle.gl_frames_asked.specs.Among.{pick_kinds, renumber, renumber_key}
use Rattle.gl_frames_asked.specs.Asked.{asked_columns}
use Rattle.gl_frames.specs.Frames.{by_key}
use Rattle.gl_frames_keys.specs.Laws.{OfKeys}
use Rattle.gl_frames_lanes.specs.LaneNets.{HasKeyLane, IsLaneBehind, cost_of_key_lane, key_in}
use Rattle.gl_frames_lanes.specs.declared.lane.KeyLane.{KeyLane}
use Rattle.gl_frames_lanes.specs.declared.lane.Keys.{Keys}
use Rattle.gl_frames_map.specs.MapNets.{cost_of_map}
use Rattle.gl_frames_slots.specs.KeyNets.{AreKeyFrames, cost_of_key_frames}
use Rattle.gl_frames_slots.specs.declared.keyed.KeyFrames.{KeyFrames}
use Rattle.gl_frames_slots.specs.declared.keyed.Partition.{Partition}
use Rattle.gl_frames_stages.specs.FramesNets.{frames_widths}
use Rattle.gl_frames_tree.specs.TreeNets.{cost_of_tree}
use Rattle.gl_frames_wire.specs.Reaches.{place_bits}
use Rattle.gl_frames_wire.specs.Running.{Runs}
use Rattle.gl_wire.specs.declared.wire.Wire.{Wire}
use Rattle.gl_wire.specs.Counted.{IsCounted}
use Rattle.gl_wire.specs.Costs.{Cost, Costs, CostsAtMost}
use Rattle.gl_wire.specs.Spills.{ServesWithLines}
use Rattle.gl_wire.specs.Wire.{IsWire, carried, line_at, widths}

-- ---- how rows are parted

-- the bits of a place in a ring that reaches to what leaves a frame, 1 where all rows are in it
abbrev pub place_over : Option ℕ → ℕ
place_over None = 1
place_over (Some back) = place_bits (back + 1)

-- the bits of a place in the rings of an item, 1 where it has none
abbrev pub place_of_frame : PlanFrame → ℕ
place_of_frame (Own operand) = 1
place_of_frame (Lag operand back) = place_bits back
place_of_frame (Over agg filter back) = place_over back

-- those of the greatest ring of some items
abbrev pub places_of_frames : List PlanFrame → ℕ
places_of_frames [] = 1
places_of_frames (item ∷ items) = max (place_of_frame item) (places_of_frames items)

-- the slots of the groups of a key
abbrev pub keys_by : PlanKey → Keys
keys_by by = record { column = by.key; groups = by.groups; width = least_exponent by.groups 1 by.groups }

-- a key of at most 10 bits is found in a map
abbrev pub has_map : List Kind → PlanKey → Bool
has_map kinds by = nat_le (width_of_key kinds by) 10

-- another one of more than 64 groups is found in a tree, unless more than 50 columns would go through its levels
abbrev pub has_tree : List Kind → PlanKey → Bool
has_tree kinds by = nat_lt 64 by.groups && nat_le (length kinds) 50

-- what a key has of three: of a map, of a tree, and where all slots are compared with it at once
abbrev pub by_circuit : {A : Type 0} → List Kind → PlanKey → A → A → A → A
by_circuit kinds by of_map of_tree of_slots =
    if has_map kinds by then of_map else (if has_tree kinds by then of_tree else of_slots)

-- the cycles until its slot is found: in a tree two bits of the key take one
abbrev pub cycles_to_slot : List Kind → PlanKey → ℕ
cycles_to_slot kinds by = by_circuit kinds by 3 (levels_of (width_of_key kinds by)) 2

-- these slots, how far back the rings of items reach, and the cycles that rows wait until those of the plan are over
abbrev pub partition_by : List Kind → PlanKey → List PlanFrame → Partition
partition_by kinds by items = record {
  keys = keys_by by;
  bits = places_of_frames items;
  wait = cycles_of_look_up (width_of_key kinds by) by.groups - cycles_to_slot kinds by;
}

-- ---- what they cost

-- a look-up over all columns of a source
abbrev pub cost_of_look_up : List Kind → PlanKey → Cost
cost_of_look_up kinds by =
    let columns = map width_of kinds in
    by_circuit kinds by (cost_of_map (keys_by by) (length columns) (sum columns) (slice_index columns by.key))
    (cost_of_tree (keys_by by) (levels_of (slice_index columns by.key)) (length columns) (sum columns))
    (cost_of_key_lane (keys_by by) (length columns) (sum columns) (slice_index columns by.key))

-- and frames behind it
abbrev pub cost_over_all : List Kind → PlanKey → List PlanFrame → Cost
cost_over_all kinds by items =
    let look = cost_of_look_up kinds by in
    let rest = cost_of_key_frames (partition_by kinds by items) (map width_of kinds) kinds items in
    record {
      nodes = look.nodes + rest.nodes;
      registers = look.registers + rest.registers;
      memories = look.memories + rest.memories;
    }

-- over the columns that are asked for
abbrev pub cost_of_parted : List Kind → PlanKey → List PlanFrame → Cost
cost_of_parted kinds by items =
    let asked = asked_columns (length kinds) by.key items in
    cost_over_all (pick_kinds asked kinds) (renumber_key asked by) (map (renumber asked) items)

-- what frames by a key cost at most, and a gate that joins their line to another
abbrev pub cost_by_key : List Kind → PlanKey → List PlanFrame → Cost
cost_by_key kinds by items =
    let most = cost_of_parted kinds by items in
    record { nodes = most.nodes + 1; registers = most.registers; memories = most.memories }

-- that is within what a plan counts for their node, which has as many lines as items, and two
abbrev pub KeyFramesAreCounted : Type 0
KeyFramesAreCounted =
    (kinds : List Kind) (by : PlanKey) (items : List PlanFrame) → All IsKind kinds → All (FrameFits kinds) items
    → KeyFits kinds (Some by)
    → IsCounted (cost_by_key kinds by items)
    (weight_by_key kinds (length items + 2) (Some by) items) (weight_by_key kinds (length items + 2) (Some by) items)
    (store_by_key kinds (length items + 2) (Some by) items)

-- ---- what they do

-- in every run, from any contents: the lane of the first keys of each stream, by whichever circuit finds their slots
pub record IsLookUpIn (old new : Net) (kinds : List Kind) (by : PlanKey) (source : Wire) (r : KeyLane) : Type 0 where
  pub keeps : Keeps old new
  pub cost : Costs old new (cost_of_look_up kinds by)
  pub has : HasKeyLane new source (keys_by by).width r
  pub law : (run : Run) → IsRun new run → IsLaneBehind (cycles_to_slot kinds by) run (keys_by by) source r

-- the same with frames over all columns behind it, in the cycles that the plan counts
pub record AreOverAllIn (old new : Net) (kinds : List Kind) (by : PlanKey) (items : List PlanFrame) (source : Wire)
    (r : KeyFrames) : Type 0 where
  pub keeps : Keeps old new
  pub cost : CostsAtMost old new (cost_over_all kinds by items)
  pub wire : IsWire new r.wire
  pub same_widths : widths r.wire.columns ≡ frames_widths kinds items
  pub further : IsBit new r.further
  pub law : (run : Run) → IsRun new run
      → AreKeyFrames (cycles_of_look_up (width_of_key kinds by) by.groups) run (keys_by by) kinds items source r

-- in every run, from any contents: for each row of the first keys of its stream what the items make of its key's rows up
-- to it with the words of the parameters, in the cycles that the plan counts, and a line that tells of further keys
pub record ArePartedIn (old new : Net) (kinds : List Kind) (by : PlanKey) (items : List PlanFrame) (source : Wire)
    (r : KeyFrames) : Type 0 where
  pub keeps : Keeps old new
  pub cost : CostsAtMost old new (cost_of_parted kinds by items)
  pub wire : IsWire new r.wire
  pub same_widths : widths r.wire.columns ≡ frames_widths kinds items
  pub further : IsBit new r.further
  -- as many cycles behind each row as the node counts what the items make of its key's rows, if the key has a slot
  pub runs : (run : Run) → IsRun new run
      → Runs (delay_by_key kinds (Some by) items)
      (by_key by.groups (key_in by.key) (row_of_frames run.held kinds items))
      (carried run source) (carried run r.wire)
  pub serves : (run : Run) → IsRun new run → (f : Figures) → IsSound f
      → ServesWithLines f (delayed (delay_by_key kinds (Some by) items) f)
      (OfKeys by.groups (key_in by.key) (row_of_frames run.held kinds items))
      (record { passed = λ c. false; further = line_at run r.further }) (carried run source) (carried run r.wire)
