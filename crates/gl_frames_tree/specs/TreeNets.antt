-- A tree of keys in a netlist: levels one behind another.
use Rattle.std.specs.Prelude.{◌≡◌, ℕ, suc, ◌+◌, ◌-◌, ◌*◌, ◌/◌, ◌^◌, ◌<◌, ◌≤◌, length, Some, Bool, true, false, not, ◌&&◌, ◌||◌}
use Rattle.std.specs.Prelude.{is_some, slice_index}
use Rattle.std.specs.List.{sum}
use Rattle.gl_values.specs.Results.{Row}
use Rattle.gl_net.specs.Net.{Net, Run, IsRun, IsBit, IsBus, Keeps}
use Rattle.gl_algebra.specs.Keys.{levels_of}
use Rattle.gl_wire.specs.declared.wire.Wire.{Wire}
use Rattle.gl_wire.specs.Costs.{Cost, Costs}
use Rattle.gl_wire.specs.Shapes.{IsDelayed}
use Rattle.gl_wire.specs.Wire.{Carried, IsWire, carried, line_at, row_at, widths, wire_of}
use Rattle.gl_wire_registers.specs.Held.{held_at, with_registers}
use Rattle.gl_frames_lanes.specs.LaneNets.{HasKeyLane, IsLaneBehind, key_in}
use Rattle.gl_frames_lanes.specs.declared.lane.KeyLane.{KeyLane}
use Rattle.gl_frames_lanes.specs.declared.lane.Keys.{Keys}
use Rattle.gl_frames_tree.specs.declared.level.Climb.{Climb}
use Rattle.gl_frames_tree.specs.declared.level.Told.{Told}
use Rattle.gl_frames_tree.specs.Growing.{Leads, Numbered, Numbers}

-- ---- rows on their way

-- rows on their way, with columns as wide as these
pub record HasClimb (net : Net) (source : Wire) (width : ℕ) (r : Climb) : Type 0 where
  pub wire : IsWire net r.wire
  pub same_widths : widths r.wire.columns ≡ widths source.columns
  pub node : IsBus net r.node
  pub node_width : r.node.width ≡ width
  pub next : IsBus net r.next
  pub next_width : r.next.width ≡ width
  pub fresh : IsBit net r.fresh
  pub lost : IsBit net r.lost

-- what is told, one cycle later
pub record IsStage (run : Run) (climb : Climb) (told : Told) (r : Climb) : Type 0 where
  pub wire : IsDelayed 1 (carried run (wire_of told.decision.row climb.wire.eos climb.wire.columns)) (carried run r.wire)
  pub node : (t : ℕ) → run.at (suc (suc t)) r.node.node ≡ run.at (suc t) told.number.node
  pub fresh : (t : ℕ) → line_at run r.fresh (suc t) ≡ line_at run told.decision.make t
  pub lost : (t : ℕ) → line_at run r.lost (suc t) ≡ (line_at run climb.lost t || line_at run told.decision.lost t)

pub record IsStageIn (old new : Net) (width : ℕ) (climb : Climb) (told : Told) (r : Climb) : Type 0 where
  pub keeps : Keeps old new
  pub cost : Costs old new (with_registers (length (widths climb.wire.columns) + 6)
      (sum (widths climb.wire.columns) + width + 4))
  pub has : HasClimb new climb.wire width r
  pub same_next : r.next ≡ told.seen
  pub law : (run : Run) → IsRun new run → IsStage run climb told r

-- the rows at a level by the lines that tell of them; which ones ask, and by what name, is told by no line
abbrev pub rows_at_level : Run → (ℕ → Bool) → (ℕ → ℕ) → Climb → Numbered
rows_at_level run asks name r = record {
  asks = asks;
  name = name;
  ends = line_at run r.wire.eos;
  valid = line_at run r.wire.valid;
  fresh = line_at run r.fresh;
  number = held_at 0 run r.node;
}

-- the name of a key's node with so many levels behind it
abbrev pub name_before : ℕ → ℕ → ℕ
name_before rest key = key / 2 ^ (2 * rest)

-- in a run, so many levels behind a wire, its rows at nodes that are numbered
pub record IsClimb (levels rest : ℕ) (run : Run) (keys : Keys) (source : Wire) (r : Climb) : Type 0 where
  pub late : Carried
  pub behind : IsDelayed levels (carried run source) late
  pub asks : ℕ → Bool
  pub name : ℕ → ℕ
  pub quiet : asks 0 ≡ false
  pub numbered : Numbers keys.groups (rows_at_level run asks name r)
  pub leads : Leads keys.groups (key_in keys.column) late (name_before rest) (rows_at_level run asks name r)
  pub rows : (t : ℕ) (row : Row) → late.tuple t ≡ Some row → line_at run r.wire.valid t ≡ true
      → row_at run t r.wire.columns ≡ row
  pub lost : (t : ℕ) → line_at run r.lost t ≡ (is_some (late.tuple t) && not (line_at run r.wire.valid t))
  pub next : (t : ℕ) → line_at run r.wire.valid (suc (suc t)) ≡ true → line_at run r.fresh (suc (suc t)) ≡ false
      → run.at (suc t) r.next.node ≡ run.at (suc (suc t)) r.node.node

-- what a level costs over so many columns, of so many bits in all
abbrev pub cost_of_level : Keys → (count bits : ℕ) → Cost
cost_of_level keys count bits = record {
  nodes = count + 62;
  registers = bits + keys.width * 6 + 9;
  memories = 2 ^ keys.width * (4 * (keys.width + 1));
}

-- a level takes rows one level on
pub record IsLevelIn (old new : Net) (keys : Keys) (rest : ℕ) (climb r : Climb) : Type 0 where
  pub keeps : Keeps old new
  pub cost : Costs old new (cost_of_level keys (length (widths climb.wire.columns)) (sum (widths climb.wire.columns)))
  pub has : HasClimb new climb.wire keys.width r
  pub law : (run : Run) → IsRun new run → (source : Wire) (levels : ℕ)
      → IsClimb levels (suc rest) run keys source climb → IsClimb (suc levels) rest run keys source r

-- rows at the root
pub record IsRootIn (old new : Net) (source : Wire) (width : ℕ) (r : Climb) : Type 0 where
  pub keeps : Keeps old new
  pub cost : Costs old new (with_registers 7 1)
  pub has : HasClimb new source width r
  pub law : (run : Run) → IsRun new run → (keys : Keys) (rest : ℕ) → 1 ≤ keys.groups
      → keys.column < length source.columns → slice_index (widths source.columns) keys.column ≤ 2 * rest
      → IsClimb 0 rest run keys source r

-- some levels of so many over a root
pub record IsRaisedIn (old new : Net) (keys : Keys) (root : Climb) (all levels : ℕ) (r : Climb) : Type 0 where
  pub keeps : Keeps old new
  pub cost : Costs old new (record {
    nodes = levels * (length (widths root.wire.columns) + 62);
    registers = levels * (sum (widths root.wire.columns) + keys.width * 6 + 9);
    memories = levels * (2 ^ keys.width * (4 * (keys.width + 1)));
  })
  pub has : HasClimb new root.wire keys.width r
  pub law : (run : Run) → IsRun new run → (source : Wire) → IsClimb 0 all run keys source root
      → IsClimb levels (all - levels) run keys source r

-- ---- the lane

-- the levels for the key of a source
abbrev pub levels_over : Keys → Wire → ℕ
levels_over keys source = levels_of (slice_index (widths source.columns) keys.column)

-- what a tree costs with so many levels over so many columns, of so many bits in all
abbrev pub cost_of_tree : Keys → (levels count bits : ℕ) → Cost
cost_of_tree keys levels count bits = record {
  nodes = levels * (count + 62) + 7;
  registers = levels * (bits + keys.width * 6 + 9) + 1;
  memories = levels * (2 ^ keys.width * (4 * (keys.width + 1)));
}

-- in a run, as many cycles behind a wire as there are levels, the lane of the first keys of each of its streams, and a
-- line that is 1 where a row of a further key would stand
abbrev pub IsTreeLane : Run → Keys → Wire → KeyLane → Type 0
IsTreeLane run keys source r = IsLaneBehind (levels_over keys source) run keys source r

-- in every run, from any contents
pub record IsTreeLaneIn (old new : Net) (keys : Keys) (source : Wire) (r : KeyLane) : Type 0 where
  pub keeps : Keeps old new
  pub cost : Costs old new (cost_of_tree keys (levels_over keys source) (length (widths source.columns))
      (sum (widths source.columns)))
  pub has : HasKeyLane new source keys.width r
  pub law : (run : Run) → IsRun new run → IsTreeLane run keys source r
