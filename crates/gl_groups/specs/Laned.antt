-- A lane of a group in a netlist, and what puts the keys in front of the totals of its slots.
use Rattle.std.specs.Prelude.{◌≡◌, ℕ, suc, ◌+◌, ◌*◌, ◌^◌, ◌<◌, ◌≤◌, ◌||◌, ◌∷◌, List, length, Some, Bool, true, false, slice_get, slice_index}
use Rattle.std.specs.List.{sum}
use Rattle.gl_algebra.specs.FigureTable.{stride_of}
use Rattle.gl_values.specs.Results.{Row}
use Rattle.gl_net.specs.declared.node.Bus.{Bus}
use Rattle.gl_net.specs.Net.{Net, Run, IsRun, IsBit, IsBus, Keeps, register_bits_of}
use Rattle.gl_wire.specs.declared.wire.Wire.{Wire}
use Rattle.gl_wire.specs.Costs.{Cost, CostsAtMost}
use Rattle.gl_wire.specs.Shapes.{IsDelayed}
use Rattle.gl_wire.specs.Wire.{IsWire, carried, line_at, widths}
use Rattle.gl_wire_lanes.specs.declared.table.TableOut.{TableOut}
use Rattle.gl_wire_lanes.specs.Lanes.{Begins}
use Rattle.gl_wire_lanes.specs.Shares.{lane_of, share, slot_of}
use Rattle.gl_wire_registers.specs.Lines.{AreBits, held_of}
use Rattle.gl_wire_registers.specs.Timers.{IsClose}
use Rattle.gl_groups.specs.declared.grouping.Grouping.{Grouping}
use Rattle.gl_groups.specs.declared.laning.Lane.{Lane}
use Rattle.gl_slots.specs.Fronts.{KeysCome}
use Rattle.gl_slots.specs.Keys.{AreKeys, in_front}
use Rattle.gl_groups.specs.Groupings.{AwaitsFlush, close_cycles, close_delay, key_of}
use Rattle.gl_slots.specs.Joins.{width_of_keys}
use Rattle.gl_slots.specs.Picks.{bits_of_slots}
use Rattle.gl_slots.specs.SlotLines.{OneAtMost, TakeKeys}
use Rattle.gl_slots.specs.Slots.{AreSlots, came_further}

-- a lane of so many slots over a source of these columns, with the key in one of them, and the line of ends
abbrev pub cost_of_lane : ℕ → ℕ → List ℕ → Cost
cost_of_lane slots key source = record {
  nodes = slots * 15 + length source * 2 + 106;
  registers = slots * (slice_index source key + 2) + sum source + bits_of_slots slots * 3 + 75;
  memories = 0;
}

-- a lane of a group: its shares are what the slots take, its slots are there, and it tells where streams begin; keys,
-- one cycle late, further keys and the line of ends are those of a front
pub record IsLaneOf (net : Net) (r : Grouping) (source : Wire) (l : Lane) : Type 0 where
  pub wire : IsWire net l.wire
  pub same_widths : widths l.wire.columns ≡ widths source.columns
  pub slot : IsBus net l.slot
  pub slot_width : l.slot.width ≡ bits_of_slots r.slots
  pub first : IsBit net l.first
  pub close : IsBit net l.close
  pub keys_count : length l.keys ≡ r.slots
  pub keys : (k : ℕ) (b : Bus) → slice_get l.keys k ≡ Some b → IsBus net b
      × (b.width ≡ slice_index (widths source.columns) r.key)
  pub nexts_count : length l.nexts ≡ r.slots
  pub nexts : AreBits net l.nexts
  pub here_bus : IsBus net l.here
  pub here_width : l.here.width ≡ slice_index (widths source.columns) r.key
  pub further : IsBit net l.further
  pub front : (run : Run) → IsRun net run
      → AreSlots r.slots (key_of r) (stride_of r.body) (carried run source)
      (λ k. share (slot_of run l.slot) k (carried run l.wire))
  pub within : (run : Run) → IsRun net run → (c : ℕ) → (line_at run l.wire.valid c || line_at run l.wire.eos c) ≡ true
      → slot_of run l.slot c < r.slots
  pub begins : (run : Run) → IsRun net run → AwaitsFlush r (carried run source)
      → Begins (lane_of run l.wire l.slot l.first)
  pub shown : (run : Run) → IsRun net run
      → AreKeys r.slots (key_of r) (stride_of r.body) 1 (carried run source) (held_of run l.keys)
  pub come : (run : Run) → IsRun net run → KeysCome run r.key r.slots (stride_of r.body) 1 source l.nexts l.here l.keys
  pub told : (run : Run) → IsRun net run → AwaitsFlush r (carried run source) → (c : ℕ)
      → line_at run l.further c ≡ came_further r.slots (key_of r) (carried run source) c
  pub closes : (run : Run) → IsRun net run
      → IsClose (close_cycles r) (close_delay r) (line_at run source.eos) (line_at run l.close)

-- such a lane more; it has few bits for each slot
pub record IsLaned (old new : Net) (r : Grouping) (source : Wire) (l : Lane) : Type 0 where
  pub keeps : Keeps old new
  pub cost : CostsAtMost old new (cost_of_lane r.slots r.key (widths source.columns))
  pub bound : register_bits_of new
      ≤ register_bits_of old + (r.slots * (slice_index (widths source.columns) r.key + 2)
      + 3 * (sum (widths source.columns) + 2) + 200)
  pub lane : IsLaneOf new r source l

-- the bits of a memory with a key for each of so many slots, where there is one
abbrev pub words_of_keys : Bool → ℕ → Lane → ℕ
words_of_keys true slots l = 2 ^ bits_of_slots slots * width_of_keys l.keys
words_of_keys false slots l = 0

-- a bus that carries the key of one of so many slots: that in the registers, or that of words that take keys as they do
pub record AddsKey (old new : Net) (slots : ℕ) (l : Lane) (slot : Bus) (memories : ℕ) (b : Bus) : Type 0 where
  pub keeps : Keeps old new
  pub bus : IsBus new b
  pub same_width : b.width ≡ width_of_keys l.keys
  pub cost : CostsAtMost old new (record { nodes = slots * 4 + 1; registers = 0; memories = memories })
  pub words : (run : Run) → IsRun new run → ℕ → ℕ → ℕ
  pub take : (run : Run) (z : IsRun new run) → OneAtMost run slots l.nexts
      → TakeKeys run slots l.nexts l.here (held_of run l.keys) → TakeKeys run slots l.nexts l.here (words run z)
  pub reads : (run : Run) (z : IsRun new run) (t : ℕ) → slot_of run slot (suc t) < slots
      → run.at (suc t) b.node ≡ words run z (slot_of run slot (suc t)) (suc t)

-- one cycle behind a table's rows, with the key of the slot in front, and the ends of a line
pub record IsGathered (old new : Net) (r : Grouping) (l : Lane) (out : TableOut) (stored : Bool) (w : Wire)
    : Type 0 where
  pub keeps : Keeps old new
  pub cost : CostsAtMost old new (record {
    nodes = r.slots * 4 + length (widths out.wire.columns) + 4;
    registers = width_of_keys l.keys + sum (widths out.wire.columns) + 2;
    memories = words_of_keys stored r.slots l;
  })
  pub wire : IsWire new w
  pub same_widths : widths w.columns ≡ width_of_keys l.keys ∷ widths out.wire.columns
  pub words : (run : Run) → IsRun new run → ℕ → ℕ → ℕ
  pub take : (run : Run) (z : IsRun new run) → OneAtMost run r.slots l.nexts
      → TakeKeys run r.slots l.nexts l.here (held_of run l.keys) → TakeKeys run r.slots l.nexts l.here (words run z)
  pub gathers : (run : Run) (z : IsRun new run)
      → ((c : ℕ) (x : Row) → (carried run out.wire).tuple c ≡ Some x → slot_of run out.slot c < r.slots)
      → IsDelayed 1 (record {
        tuple = λ c. in_front (words run z (slot_of run out.slot c) c) ((carried run out.wire).tuple c);
        ends = line_at run l.close;
      }) (carried run w)
