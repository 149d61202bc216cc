-- The lane of the first keys of a stream, in a netlist.
use Rattle.std.specs.Prelude.{◌≡◌, ℕ, suc, ◌+◌, ◌*◌, ◌%◌, ◌^◌, length, Some, not, ◌&&◌, slice_index}
use Rattle.std.specs.List.{sum}
use Rattle.gl_values.specs.Results.{Row}
use Rattle.gl_net.specs.declared.node.Bit.{Bit}
use Rattle.gl_net.specs.Net.{Net, Run, IsRun, IsBit, IsBus, Keeps}
use Rattle.gl_wire.specs.declared.wire.Wire.{Wire}
use Rattle.gl_wire.specs.Costs.{Cost, Costs}
use Rattle.gl_wire.specs.Shapes.{IsDelayed}
use Rattle.gl_wire.specs.Wire.{Carried, IsWire, carried, line_at, widths, wire_of}
use Rattle.gl_wire_lanes.specs.Shares.{lane_of, rows_of}
use Rattle.gl_wire_registers.specs.Held.{held_at, with_registers}
use Rattle.gl_wire_registers.specs.Lines.{gates_of}
use Rattle.gl_groups.specs.declared.finding.Sought.{Sought}
use Rattle.gl_groups.specs.Finding.{AreAsking, IsAsked}
use Rattle.gl_frames_keys.specs.Lanes.{IsKeyedLane, leaves_out}
use Rattle.gl_frames_lanes.specs.declared.lane.KeyLane.{KeyLane}
use Rattle.gl_frames_lanes.specs.declared.lane.Keys.{Keys}
use Rattle.gl_frames_lanes.specs.declared.lane.Looking.{Looking}
use Rattle.gl_frames_lanes.specs.declared.lane.Told.{Told}

-- the key of a row: what it has in a column
abbrev pub key_in : ℕ → Row → ℕ
key_in column row = slice_index row column

-- what asks the slots in a run: a wire one cycle behind the source, the key of the row that came last, and the cycle
-- behind an end, in which all slots are free
pub record IsLooking (run : Run) (source : Wire) (column : ℕ) (r : Looking) : Type 0 where
  pub delayed : IsDelayed 1 (carried run source) (carried run r.late)
  pub asked : IsAsked run r.asking
  pub free : (t : ℕ) → line_at run r.asking.free (suc t) ≡ line_at run r.late.eos t
  pub last : (t : ℕ) (row : Row) → (carried run r.late).tuple t ≡ Some row
      → held_at 0 run r.asking.last t ≡ key_in column row

pub record IsLookingIn (old new : Net) (source : Wire) (column : ℕ) (r : Looking) : Type 0 where
  pub keeps : Keeps old new
  pub cost : Costs old new (with_registers (length (widths source.columns) + 5)
      (sum (widths source.columns) + slice_index (widths source.columns) column + 3))
  pub late : IsWire new r.late
  pub same_widths : widths r.late.columns ≡ widths source.columns
  pub asking : AreAsking new r.asking
  pub same_line : r.asking.ask ≡ r.late.valid
  pub last_width : r.asking.last.width ≡ slice_index (widths source.columns) column
  pub law : (run : Run) → IsRun new run → IsLooking run source column r

-- what the slots tell of the row that came one cycle ago: whether one of them takes it, whether its key is new, and the
-- number of that slot
pub record IsTold (run : Run) (valid : Bit) (r : Sought) (width : ℕ) (told : Told) : Type 0 where
  pub row : (t : ℕ) → line_at run told.row t ≡ (line_at run valid t && not (line_at run r.passes t))
  pub first : (t : ℕ) → line_at run told.first t ≡ (line_at run told.row t && not (line_at run r.one.one t))
  pub slot : (t : ℕ) → run.at t told.slot.node ≡ run.at t r.place.number.node % 2 ^ width

pub record IsToldIn (old new : Net) (valid : Bit) (r : Sought) (width : ℕ) (told : Told) : Type 0 where
  pub keeps : Keeps old new
  pub cost : Costs old new (with_registers 3 0)
  pub row : IsBit new told.row
  pub first : IsBit new told.first
  pub slot : IsBus new told.slot
  pub slot_width : told.slot.width ≡ width
  pub law : (run : Run) → IsRun new run → IsTold run valid r width told

-- that one cycle later
pub record IsToldLate (run : Run) (late : Wire) (passes : Bit) (told : Told) (r : KeyLane) : Type 0 where
  pub wire : IsDelayed 1 (carried run (wire_of told.row late.eos late.columns)) (carried run r.wire)
  pub slot : (t : ℕ) → run.at (suc (suc t)) r.slot.node ≡ run.at (suc t) told.slot.node
  pub first : (t : ℕ) → line_at run r.first (suc t) ≡ line_at run told.first t
  pub further : (t : ℕ) → line_at run r.further (suc t) ≡ line_at run passes t

-- the lines and buses of a lane are in the netlist, with columns as wide as these
pub record HasKeyLane (net : Net) (source : Wire) (width : ℕ) (r : KeyLane) : Type 0 where
  pub wire : IsWire net r.wire
  pub same_widths : widths r.wire.columns ≡ widths source.columns
  pub slot : IsBus net r.slot
  pub slot_width : r.slot.width ≡ width
  pub first : IsBit net r.first
  pub further : IsBit net r.further

pub record IsLateIn (old new : Net) (late : Wire) (passes : Bit) (told : Told) (r : KeyLane) : Type 0 where
  pub keeps : Keeps old new
  pub cost : Costs old new (with_registers (length (widths late.columns) + 5)
      (sum (widths late.columns) + told.slot.width + 4))
  pub has : HasKeyLane new late told.slot.width r
  pub law : (run : Run) → IsRun new run → IsToldLate run late passes told r

-- in a run, so many cycles behind a wire, the lane of the first keys of each of its streams, and a line that is 1 where
-- a row of a further key would stand
pub record IsLaneBehind (cycles : ℕ) (run : Run) (keys : Keys) (source : Wire) (r : KeyLane) : Type 0 where
  pub late : Carried
  pub behind : IsDelayed cycles (carried run source) late
  pub lane : IsKeyedLane keys.groups (key_in keys.column) late (lane_of run r.wire r.slot r.first) (rows_of run r.wire)
  pub further : (c : ℕ) → line_at run r.further c ≡ leaves_out keys.groups (key_in keys.column) late c

-- where all slots are looked at at once they are two
abbrev pub IsKeyLane : Run → Keys → Wire → KeyLane → Type 0
IsKeyLane run keys source r = IsLaneBehind 2 run keys source r

-- what that costs for so many columns, of so many bits in all, and a key of so many
abbrev pub cost_of_key_lane : Keys → (count bits key : ℕ) → Cost
cost_of_key_lane keys count bits key = with_registers
    (keys.groups * 14 + gates_of keys.groups + count * 2 + 32)
    (keys.groups * (key + 2) + bits * 2 + key + keys.width * 3 + 11)

-- in every run, from any contents
pub record IsKeyLaneIn (old new : Net) (keys : Keys) (source : Wire) (r : KeyLane) : Type 0 where
  pub keeps : Keeps old new
  pub cost : Costs old new (cost_of_key_lane keys (length (widths source.columns)) (sum (widths source.columns))
      (slice_index (widths source.columns) keys.column))
  pub has : HasKeyLane new source keys.width r
  pub law : (run : Run) → IsRun new run → IsKeyLane run keys source r
