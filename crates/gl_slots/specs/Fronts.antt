-- A front of slots in a netlist: its wires, its keys and its own line.
use Rattle.std.specs.Prelude.{◌≡◌, ℕ, suc, ◌+◌, ◌-◌, ◌*◌, ◌<◌, ◌≤◌, List, length, Some, None, Bool, slice_get, slice_index, if◌then◌else◌, nat_eq, not, ◌&&◌, ◌||◌}
use Rattle.std.specs.List.{sum}
use Rattle.gl_values.specs.Results.{Row}
use Rattle.gl_net.specs.declared.node.Bus.{Bus}
use Rattle.gl_net.specs.declared.node.Bit.{Bit}
use Rattle.gl_net.specs.Net.{Net, Run, IsRun, IsBit, IsBus, Keeps}
use Rattle.gl_wire.specs.declared.wire.Wire.{Wire}
use Rattle.gl_wire.specs.Costs.{Costs, CostsAtMost}
use Rattle.gl_wire.specs.Wire.{AreBuses, IsWire, carried, line_at, row_at, widths}
use Rattle.gl_wire_registers.specs.Held.{counted_down, held_at, with_registers}
use Rattle.gl_wire_registers.specs.Lines.{AreBits, carried_of, gates_of, held_of, line_of}
use Rattle.gl_slots.specs.declared.front.Chosen.{Chosen}
use Rattle.gl_slots.specs.declared.front.Front.{Front}
use Rattle.gl_slots.specs.declared.front.Looked.{Looked}
use Rattle.gl_slots.specs.declared.front.Lookup.{Lookup}
use Rattle.gl_slots.specs.declared.front.Turning.{Turning}
use Rattle.gl_slots.specs.SlotLines.{AreSeen, OneAtMost, TakeKeys}
use Rattle.gl_slots.specs.Keys.{AreKeys}
use Rattle.gl_slots.specs.Slots.{AreSlots, further_line, is_further, keys_at, slot_at, slot_ends_at, slot_takes, slots_at}

-- the column of a row
abbrev pub column_of : ℕ → Row → ℕ
column_of key row = slice_index row key

-- the row that came last, and the key of the row that comes
pub record IsLookup (run : Run) (source : Wire) (key : ℕ) (r : Lookup) : Type 0 where
  pub row : (t : ℕ)
      → row_at run (suc (suc t)) r.row ≡ (if line_at run source.valid (suc t) then row_at run (suc t) source.columns
      else row_at run (suc t) r.row)
  pub here : (t : ℕ) → held_at 0 run r.here (suc t) ≡ column_of key (row_at run (suc t) source.columns)

pub record AddsLookup (old new : Net) (source : Wire) (key : ℕ) (r : Lookup) : Type 0 where
  pub keeps : Keeps old new
  pub row_buses : AreBuses new r.row
  pub row_widths : widths r.row ≡ widths source.columns
  pub here_bus : IsBus new r.here
  pub here_width : r.here.width ≡ slice_index (widths source.columns) key
  pub cost : Costs old new (with_registers (length (widths source.columns) * 2) (sum (widths source.columns)))
  pub law : (run : Run) → IsRun new run → IsLookup run source key r

-- the slot whose turn it is: with an end the first one, in a flush the next one
pub record IsTurning (run : Run) (eos due : Bit) (count : ℕ) (r : Turning) : Type 0 where
  pub next : (t : ℕ)
      → held_at count run r.rest (suc t) ≡ counted_down (count - 1) 0 (line_at run eos t) (line_at run due t)
      (held_at count run r.rest t)
  pub turn : (k t : ℕ) → k < count
      → line_of run r.turns k t
      ≡ ((line_at run eos t || line_at run due t) && nat_eq
      (if line_at run eos t then count else held_at count run r.rest t) (count - k))

pub record AddsTurning (old new : Net) (eos due : Bit) (count : ℕ) (r : Turning) : Type 0 where
  pub keeps : Keeps old new
  pub turns_count : length r.turns ≡ count
  pub bits : AreBits new r.turns
  pub cost : Costs old new (with_registers (count * 3 + 13) r.rest.width)
  pub few : r.rest.width ≤ 32
  pub law : (run : Run) → IsRun new run → IsTurning run eos due count r

-- lines of n slots that are looked at
pub record IsLook (net : Net) (n : ℕ) (r : Looked) : Type 0 where
  pub seen : AreSeen net n r.seen
  pub turns_count : length r.turns ≡ n
  pub turns : AreBits net r.turns
  pub tail : IsBit net r.tail

-- whether a slot takes the row: one with its key a tuple without the end, the one that ends what came with the end
abbrev pub takes_row : Run → Wire → Looked → Bool → Bool → ℕ → Bool
takes_row run source r matches ends t =
    matches && ((ends && line_at run r.tail t) || (line_at run source.valid t && not (line_at run source.eos t)))

-- the slots that end, and those that take the row
abbrev pub ends_of : Run → Looked → ℕ → ℕ → Bool
ends_of run r k t = line_of run r.turns k t && line_of run r.seen.has k t

abbrev pub takes_of : Run → Wire → Looked → ℕ → ℕ → Bool
takes_of run source r k t =
    takes_row run source r (line_of run r.seen.found k t || line_of run r.seen.takes k t) (ends_of run r k t) t

-- how keys come to the slots of a machine over this wire: one slot at most may take the key that comes; numbers that take
-- keys so are those of the slots that are used, so many cycles late, and the registers do
pub record KeysCome (run : Run) (key count stride late : ℕ) (source : Wire) (nexts : List Bit) (here : Bus)
    (keys : List Bus) : Type 0 where
  pub one : OneAtMost run count nexts
  pub registers : TakeKeys run count nexts here (held_of run keys)
  pub words : (w : ℕ → ℕ → ℕ) → TakeKeys run count nexts here w
      → AreKeys count (column_of key) stride late (carried run source) w

-- the machine of slots: which slots take the row that stands here one cycle later and which one ends, the keys, and the
-- line of further keys
pub record IsLooked (run : Run) (key count stride : ℕ) (source : Wire) (r : Looked) : Type 0 where
  pub takes : (k c : ℕ) → k < count
      → (if takes_of run source r k c then Some (row_at run (suc c) r.row) else None)
      ≡ slot_takes (column_of key) (line_at run source.eos c) ((carried run source).tuple c)
      (keys_at count (column_of key) stride (carried run source) c)
      (slots_at count (column_of key) stride (carried run source) c) k
  pub ends : (k c : ℕ) → k < count
      → ends_of run r k c ≡ (slot_ends_at count (column_of key) stride (carried run source) c
      && nat_eq k (slot_at count (column_of key) stride (carried run source) c))
  pub shown : AreKeys count (column_of key) stride 0 (carried run source) (held_of run r.keys)
  pub further : (c : ℕ) → line_at run r.seen.passes c
      ≡ is_further (column_of key) (keys_at count (column_of key) stride (carried run source) c)
      ((carried run source).tuple c)

pub record AddsLooked (old new : Net) (key count stride width : ℕ) (source : Wire) (r : Looked) : Type 0 where
  pub keeps : Keeps old new
  pub cost : CostsAtMost old new (with_registers (count * 20 + gates_of count + length (widths source.columns) * 2 + 41)
      (count * (slice_index (widths source.columns) key + 1) + sum (widths source.columns) + width + 66))
  pub row_buses : AreBuses new r.row
  pub row_widths : widths r.row ≡ widths source.columns
  pub keys_count : length r.keys ≡ count
  pub keys : (k : ℕ) (b : Bus) → slice_get r.keys k ≡ Some b → IsBus new b
      × (b.width ≡ slice_index (widths source.columns) key)
  pub look : IsLook new count r
  pub law : (run : Run) → IsRun new run → IsLooked run key count stride source r

-- what the machine of slots gives in a cycle: which slots take the row that stands here one cycle later and which one
-- ends, the keys, and the line of further keys
pub record IsChosen (run : Run) (key count stride : ℕ) (source : Wire) (r : Chosen) : Type 0 where
  pub takes : (k c : ℕ) → k < count
      → (if line_of run r.takes k c then Some (row_at run (suc c) r.row) else None)
      ≡ slot_takes (column_of key) (line_at run source.eos c) ((carried run source).tuple c)
      (keys_at count (column_of key) stride (carried run source) c)
      (slots_at count (column_of key) stride (carried run source) c) k
  pub ends : (k c : ℕ) → k < count
      → line_of run r.ends k c ≡ (slot_ends_at count (column_of key) stride (carried run source) c
      && nat_eq k (slot_at count (column_of key) stride (carried run source) c))
  pub shown : AreKeys count (column_of key) stride 0 (carried run source) (held_of run r.keys)
  pub further : (c : ℕ) → line_at run r.passes c
      ≡ is_further (column_of key) (keys_at count (column_of key) stride (carried run source) c)
      ((carried run source).tuple c)

pub record AddsChosen (old new : Net) (key count stride width : ℕ) (source : Wire) (r : Chosen) : Type 0 where
  pub keeps : Keeps old new
  pub cost : CostsAtMost old new (with_registers (count * 26 + length (widths source.columns) * 2 + 41)
      (count * (slice_index (widths source.columns) key + 1) + sum (widths source.columns) + width + 66))
  pub row_buses : AreBuses new r.row
  pub row_widths : widths r.row ≡ widths source.columns
  pub keys_count : length r.keys ≡ count
  pub keys : (k : ℕ) (b : Bus) → slice_get r.keys k ≡ Some b → IsBus new b
      × (b.width ≡ slice_index (widths source.columns) key)
  pub takes_count : length r.takes ≡ count
  pub takes : AreBits new r.takes
  pub ends_count : length r.ends ≡ count
  pub ends : AreBits new r.ends
  pub passes : IsBit new r.passes
  pub law : (run : Run) → IsRun new run → IsChosen run key count stride source r

-- wires behind the machine of slots, the keys of the slots, and the line of further keys
pub record IsFront (run : Run) (key count stride : ℕ) (source : Wire) (r : Front) : Type 0 where
  pub front : AreSlots count (column_of key) stride (carried run source) (carried_of run r.wires)
  pub shown : AreKeys count (column_of key) stride 0 (carried run source) (held_of run r.keys)
  pub told : (c : ℕ) → line_at run r.further c ≡ further_line count (column_of key) stride (carried run source) c

pub record AddsFront (old new : Net) (key count stride width : ℕ) (source : Wire) (r : Front) : Type 0 where
  pub keeps : Keeps old new
  pub cost : CostsAtMost old new (with_registers (count * 28 + length (widths source.columns) * 2 + 42)
      (count * (slice_index (widths source.columns) key + 3) + sum (widths source.columns) + width + 67))
  pub as_many : length r.wires ≡ count
  pub wires : (k : ℕ) (w : Wire) → slice_get r.wires k ≡ Some w → IsWire new w
      × (widths w.columns ≡ widths source.columns)
  pub keys_count : length r.keys ≡ count
  pub keys : (k : ℕ) (b : Bus) → slice_get r.keys k ≡ Some b → IsBus new b
      × (b.width ≡ slice_index (widths source.columns) key)
  pub further : IsBit new r.further
  pub law : (run : Run) → IsRun new run → IsFront run key count stride source r
