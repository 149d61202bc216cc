-- A front of windows of each key in a netlist: its slots, its wires, its keys and its own line.
use Rattle.std.specs.Prelude.{◌≡◌, ℕ, suc, ◌+◌, ◌*◌, ◌<◌, List, length, replicate, flat_map, true, false, Some, None, is_some, slice_get, slice_index, not, ◌&&◌, ◌||◌}
use Rattle.std.specs.List.{sum}
use Rattle.gl_values.specs.Results.{Row}
use Rattle.gl_net.specs.declared.node.Bus.{Bus}
use Rattle.gl_net.specs.declared.node.Bit.{Bit}
use Rattle.gl_net.specs.Net.{Net, Run, IsRun, IsBit, IsBus, Keeps}
use Rattle.gl_wire.specs.declared.wire.Wire.{Wire}
use Rattle.gl_wire.specs.Costs.{CostsAtMost}
use Rattle.gl_wire.specs.Wire.{AreBuses, IsWire, carried, line_at, row_at, widths}
use Rattle.gl_wire_registers.specs.Held.{with_registers}
use Rattle.gl_wire_registers.specs.Lines.{AreBits, carried_of, held_of, line_of}
use Rattle.gl_slots.specs.Slots.{further_line, is_further, keys_at, same_key, slots_at}
use Rattle.gl_slots.specs.Fronts.{column_of}
use Rattle.gl_partition.specs.declared.front.Front.{Front}
use Rattle.gl_partition.specs.declared.front.Look.{Look}
use Rattle.gl_partition.specs.declared.slot.Chosen.{Chosen}
use Rattle.gl_partition.specs.declared.slot.SlotWindows.{SlotWindows}
use Rattle.gl_partition.specs.Machine.{ArePartitions, Numbers, due}
use Rattle.gl_partition.specs.Parts.{IsSlot}

-- each key so often
abbrev pub repeated : ℕ → List Bus → List Bus
repeated copies keys = flat_map (λ key. replicate copies key) keys

-- a slot's lines among those of all slots
pub record HasSlot (run : Run) (valid eos tail matches due : Bit) (size advance copies slot : ℕ) (r : Chosen)
    : Type 0 where
  pub own : SlotWindows
  pub is : IsSlot run valid eos tail matches due size advance copies own
  pub takes : (k t : ℕ) → k < copies → line_of run r.takes (slot * copies + k) t ≡ line_of run own.takes k t
  pub ends : (k t : ℕ) → k < copies → line_of run r.ends (slot * copies + k) t ≡ line_of run own.ends k t

-- the windows of the first n slots, of which these lines tell whose row it is and whose turn
pub record AddsSlots (old new : Net) (valid eos tail : Bit) (matches dues : List Bit) (size advance copies n : ℕ)
    (r : Chosen) : Type 0 where
  pub keeps : Keeps old new
  pub takes_count : length r.takes ≡ n * copies
  pub takes : AreBits new r.takes
  pub ends_count : length r.ends ≡ n * copies
  pub ends : AreBits new r.ends
  pub cost : CostsAtMost old new (with_registers (n * (copies * 14 + 45)) (n * (copies + 128)))
  pub each : (run : Run) → IsRun new run → (i : ℕ) (m d : Bit) → i < n → slice_get matches i ≡ Some m
      → slice_get dues i ≡ Some d → HasSlot run valid eos tail m d size advance copies i r

-- those of all slots that are looked at
abbrev pub ChoosesSlots : Net → Net → Wire → Look → ℕ → ℕ → ℕ → Chosen → Type 0
ChoosesSlots old new source look size advance copies r =
    AddsSlots old new source.valid source.eos look.tail look.matches look.dues size advance copies (length look.matches)
    r

-- what the slots make of what comes: a row belongs to the slot that has its key, and where none comes, so does the row
-- that came with the end; whose turn it is; the keys; and the rows of further keys
pub record IsLook (run : Run) (n : Numbers) (source : Wire) (r : Look) : Type 0 where
  pub row : (c : ℕ) → line_at run source.valid (suc c) ≡ true → row_at run (suc (suc c)) r.row
      ≡ row_at run (suc c) source.columns
  pub kept : (c : ℕ) → line_at run source.valid (suc c) ≡ false → row_at run (suc (suc c)) r.row
      ≡ row_at run (suc c) r.row
  pub matches : (i c : ℕ) (x : Row) → i < n.slots → (carried run source).tuple c ≡ Some x
      → line_of run r.matches i c
      ≡ same_key (slice_get (keys_at n.slots n.key n.stride (carried run source) c) i) (n.key x)
  pub resting : (i c : ℕ) (x : Row) → i < n.slots → (carried run source).tuple c ≡ None
      → (carried run source).ends c ≡ false
      → (slots_at n.slots n.key n.stride (carried run source) c).flush ≡ true
      → (slots_at n.slots n.key n.stride (carried run source) c).held ≡ Some x
      → line_of run r.matches i c
      ≡ same_key (slice_get (keys_at n.slots n.key n.stride (carried run source) c) i) (n.key x)
  pub turns : (i c : ℕ) → i < n.slots → line_of run r.dues i c ≡ due n (carried run source) i c
  pub tails : (c : ℕ) → line_at run r.tail c
      ≡ (((carried run source).ends c && is_some ((carried run source).tuple c))
      || ((slots_at n.slots n.key n.stride (carried run source) c).flush
      && not ((carried run source).ends c || is_some ((carried run source).tuple c))
      && is_some (slots_at n.slots n.key n.stride (carried run source) c).held))
  pub keys : (i c x : ℕ) → i < n.slots
      → slice_get (slots_at n.slots n.key n.stride (carried run source) c).keys i ≡ Some x → held_of run r.keys i c ≡ x
  pub further : (c : ℕ) → line_at run r.passes c
      ≡ is_further n.key (keys_at n.slots n.key n.stride (carried run source) c) ((carried run source).tuple c)

pub record AddsLook (old new : Net) (key slots copies stride width : ℕ) (source : Wire) (r : Look) : Type 0 where
  pub keeps : Keeps old new
  pub cost : CostsAtMost old new (with_registers (slots * 22 + length (widths source.columns) * 2 + 50)
      (slots * (slice_index (widths source.columns) key + 1) + sum (widths source.columns) + width + 98))
  pub row_buses : AreBuses new r.row
  pub row_widths : widths r.row ≡ widths source.columns
  pub keys_count : length r.keys ≡ slots
  pub keys : (k : ℕ) (b : Bus) → slice_get r.keys k ≡ Some b → IsBus new b
      × (b.width ≡ slice_index (widths source.columns) key)
  pub matches_count : length r.matches ≡ slots
  pub matches : AreBits new r.matches
  pub dues_count : length r.dues ≡ slots
  pub dues : AreBits new r.dues
  pub tail : IsBit new r.tail
  pub passes : IsBit new r.passes
  pub law : (run : Run) → IsRun new run → (size advance : ℕ)
      → IsLook run (record { slots = slots; key = column_of key; size = size; advance = advance; copies = copies; stride = stride })
      source r

-- wires behind the machine, the keys of the slots of all copies, and the line of further keys
pub record IsFront (run : Run) (n : Numbers) (source : Wire) (r : Front) : Type 0 where
  pub front : ArePartitions n (carried run source) (carried_of run r.wires)
  pub shown : (i k c x : ℕ) → i < n.slots → k < n.copies
      → slice_get (slots_at n.slots n.key n.stride (carried run source) c).keys i ≡ Some x
      → held_of run r.keys (i * n.copies + k) c ≡ x
  pub told : (c : ℕ) → line_at run r.further c ≡ further_line n.slots n.key n.stride (carried run source) c

pub record AddsFront (old new : Net) (key slots size advance copies stride width : ℕ) (source : Wire) (r : Front)
    : Type 0 where
  pub keeps : Keeps old new
  pub cost : CostsAtMost old new
      (with_registers (slots * copies * 16 + slots * 67 + length (widths source.columns) * 2 + 51)
      (slots * copies * 3 + slots * (slice_index (widths source.columns) key + 129) + sum (widths source.columns) + width
      + 99))
  pub as_many : length r.wires ≡ slots * copies
  pub wires : (k : ℕ) (w : Wire) → slice_get r.wires k ≡ Some w → IsWire new w
      × (widths w.columns ≡ widths source.columns)
  pub keys_count : length r.keys ≡ slots * copies
  pub keys : (k : ℕ) (b : Bus) → slice_get r.keys k ≡ Some b → IsBus new b
      × (b.width ≡ slice_index (widths source.columns) key)
  pub further : IsBit new r.further
  pub law : (run : Run) → IsRun new run
      → IsFront run (record { slots = slots; key = column_of key; size = size; advance = advance; copies = copies; stride = stride })
      source r
