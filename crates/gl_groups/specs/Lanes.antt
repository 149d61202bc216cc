-- One wire for all slots of a group, in a netlist.
use Rattle.std.specs.Prelude.{◌≡◌, ℕ, zero, suc, ◌+◌, ◌-◌, ◌*◌, ◌<◌, ◌^◌, length, Some, Bool, true, false, slice_get, slice_index, not, ◌&&◌, ◌||◌, if◌then◌else◌, nat_eq, nat_lt}
use Rattle.std.specs.List.{sum}
use Rattle.gl_net.specs.declared.node.Bus.{Bus}
use Rattle.gl_net.specs.declared.node.Bit.{Bit}
use Rattle.gl_net.specs.Net.{Net, Run, IsRun, IsBit, IsBus, Keeps}
use Rattle.gl_wire.specs.declared.wire.Wire.{Wire}
use Rattle.gl_wire.specs.Costs.{Costs, CostsAtMost, nodes_alone}
use Rattle.gl_wire.specs.Wire.{IsWire, carried, line_at, row_at, widths}
use Rattle.gl_wire_lanes.specs.Lanes.{Begins}
use Rattle.gl_wire_lanes.specs.Shares.{lane_of, share, slot_of}
use Rattle.gl_wire_registers.specs.Held.{counted_down, held_at, with_registers}
use Rattle.gl_wire_registers.specs.Lines.{AreBits, held_of, line_of}
use Rattle.gl_groups.specs.declared.finding.Sought.{Sought}
use Rattle.gl_groups.specs.declared.lane.HeldEnd.{HeldEnd}
use Rattle.gl_groups.specs.declared.lane.LaneLines.{LaneLines}
use Rattle.gl_groups.specs.declared.lane.NewKey.{NewKey}
use Rattle.gl_groups.specs.declared.lane.Over.{Over}
use Rattle.gl_groups.specs.declared.lane.Told.{Told}
use Rattle.gl_groups.specs.declared.lane.Turns.{Turns}
use Rattle.gl_slots.specs.Fronts.{KeysCome, column_of}
use Rattle.gl_slots.specs.Keys.{AreKeys, AwaitsTurns}
use Rattle.gl_slots.specs.Slots.{AreSlots, further_line}

-- a wire one cycle behind another, with the columns of the row that came last
pub record IsLate (run : Run) (source late : Wire) : Type 0 where
  pub valid : (t : ℕ) → line_at run late.valid (suc t) ≡ line_at run source.valid t
  pub eos : (t : ℕ) → line_at run late.eos (suc t) ≡ line_at run source.eos t
  pub row : (t : ℕ) → row_at run (suc (suc t)) late.columns
      ≡ (if line_at run source.valid (suc t) then row_at run (suc t) source.columns else row_at run (suc t) late.columns)

pub record AddsLate (old new : Net) (source late : Wire) : Type 0 where
  pub keeps : Keeps old new
  pub wire : IsWire new late
  pub same_widths : widths late.columns ≡ widths source.columns
  pub cost : Costs old new (with_registers (length (widths source.columns) * 2 + 2) (sum (widths source.columns) + 2))
  pub law : (run : Run) → IsRun new run → IsLate run source late

-- whether a tuple came with the end
pub record AddsHeldEnd (old new : Net) (valid eos : Bit) (r : HeldEnd) : Type 0 where
  pub keeps : Keeps old new
  pub with_end_bit : IsBit new r.with_end
  pub held_bit : IsBit new r.held
  pub cost : Costs old new (with_registers 4 1)
  pub with_end : (run : Run) → IsRun new run → (t : ℕ)
      → line_at run r.with_end t ≡ (line_at run eos t && line_at run valid t)
  pub next : (run : Run) → IsRun new run → (t : ℕ)
      → line_at run r.held (suc t)
      ≡ ((line_at run eos t && line_at run valid t) || (line_at run r.held t && not (line_at run eos t)))

-- the slots that have not had their turn, and those that have
pub record AddsOver (old new : Net) (eos due : Bit) (count width : ℕ) (r : Over) : Type 0 where
  pub keeps : Keeps old new
  pub over_bus : IsBus new r.over
  pub over_width : r.over.width ≡ width
  pub cost : Costs old new (with_registers 12 width)
  pub next : (run : Run) → IsRun new run → (t : ℕ)
      → held_at count run r.rest (suc t)
      ≡ counted_down (count - 1) 0 (line_at run eos t) (line_at run due t) (held_at count run r.rest t)
  pub over : (run : Run) → IsRun new run → (t : ℕ)
      → held_at 0 run r.over t ≡ count - held_at count run r.rest t

-- whether a number is less than another; in the reset cycle nothing counts
unfoldable pub less_at : Bus → Bus → Run → ℕ → Bool
less_at x y run zero = false
less_at x y run (suc t) = nat_lt (run.at (suc t) x.node) (run.at (suc t) y.node)

-- the lines of turns are in the netlist
pub record AreTurns (net : Net) (r : Turns) : Type 0 where
  pub due : IsBit net r.due
  pub with_end : IsBit net r.with_end
  pub held : IsBit net r.held
  pub over : IsBus net r.over

-- whether the first slot, where it is kept, has the key
abbrev pub head_line : Run → Sought → ℕ → Bool
head_line run r t =
    if line_at run r.moved t then line_of run r.hits 0 t
    else (line_at run r.one.had t && nat_eq (held_at 0 run r.place.home t) 0)

-- whether a slot takes a row
unfoldable pub row_line : Wire → Sought → Turns → Run → ℕ → Bool
row_line w r u run t =
    (((line_at run w.valid t && not (line_at run w.eos t)) && not (line_at run r.passes t))
    || (line_at run u.with_end t && not (line_of run r.kept 0 t && not (head_line run r t))))
    || ((line_at run u.due t && line_at run u.held t)
    && (line_at run r.one.had t && nat_eq (held_at 0 run r.place.home t) (held_at 0 run u.over t)))

-- whether one ends
unfoldable pub end_line : Wire → Sought → Turns → Run → ℕ → Bool
end_line w r u run t =
    (line_at run u.due t && nat_lt (held_at 0 run u.over t) (held_at 0 run r.many.many t))
    || (line_at run w.eos t && (line_at run w.valid t || line_of run r.kept 0 t))

-- the number of a slot before its highest bit is cut off
abbrev pub slot_number : Run → Bit → Turns → Bus → ℕ → ℕ
slot_number run eos u number t =
    if line_at run eos t || line_at run u.due t then (if line_at run eos t then 0 else held_at 0 run u.over t)
    else held_at 0 run number t

pub record AddsSlot (old new : Net) (eos : Bit) (u : Turns) (number : Bus) (width : ℕ) (b : Bus) : Type 0 where
  pub keeps : Keeps old new
  pub bus : IsBus new b
  pub same_width : b.width ≡ width
  pub cost : Costs old new (nodes_alone 5)
  pub slot : (run : Run) → IsRun new run → (t : ℕ) → slot_number run eos u number (suc t) < 2 ^ width
      → slot_of run b (suc t) ≡ slot_number run eos u number (suc t)

-- whether the key of the row that came last was none of the slots'
pub record AddsNew (old new : Net) (valid one : Bit) (r : NewKey) : Type 0 where
  pub keeps : Keeps old new
  pub new_bit : IsBit new r.new
  pub cost : Costs old new (with_registers 6 1)
  pub new_is : (run : Run) → IsRun new run → (t : ℕ)
      → line_at run r.new t
      ≡ ((line_at run valid t && not (line_at run one t)) || (line_at run r.was t && not (line_at run valid t)))
  pub next : (run : Run) → IsRun new run → (t : ℕ)
      → line_at run r.was (suc t)
      ≡ ((line_at run valid t && not (line_at run one t)) || (line_at run r.was t && not (line_at run valid t)))

-- what is told of the slots
pub record IsTold (run : Run) (late : Wire) (r : Sought) (u : Turns) (width : ℕ) (m : Told) : Type 0 where
  pub row : (t : ℕ) → line_at run m.row t ≡ row_line late r u run t
  pub end : (t : ℕ) → line_at run m.end t ≡ end_line late r u run t
  pub slot : (t : ℕ) → slot_number run late.eos u r.place.number (suc t) < 2 ^ width
      → slot_of run m.slot (suc t) ≡ slot_number run late.eos u r.place.number (suc t)
  pub first : (t : ℕ) → line_at run m.first t ≡ (line_at run m.row t && line_at run m.key.new t)
  pub new_is : (t : ℕ) → line_at run m.key.new t
      ≡ ((line_at run late.valid t && not (line_at run r.one.one t))
      || (line_at run m.key.was t && not (line_at run late.valid t)))
  pub next : (t : ℕ) → line_at run m.key.was (suc t) ≡ line_at run m.key.new t

pub record AddsTold (old new : Net) (late : Wire) (r : Sought) (u : Turns) (width : ℕ) (m : Told) : Type 0 where
  pub keeps : Keeps old new
  pub row_bit : IsBit new m.row
  pub end_bit : IsBit new m.end
  pub slot_bus : IsBus new m.slot
  pub slot_width : m.slot.width ≡ width
  pub first_bit : IsBit new m.first
  pub cost : Costs old new (with_registers 31 1)
  pub law : (run : Run) → IsRun new run → IsTold run late r u width m

-- a lane that tells so, behind a key that was looked for
pub record AddsLaneLines (old new : Net) (late : Wire) (r : Sought) (u : Turns) (here : Bus) (width : ℕ) (l : LaneLines)
    : Type 0 where
  pub told : Told
  pub adds : AddsTold old new late r u width told
  pub lines : l ≡ record {
    wire = record { valid = told.row; eos = told.end; columns = late.columns };
    slot = told.slot;
    first = told.first;
    keys = r.keys;
    nexts = r.asked.nexts;
    here = here;
    further = r.passes;
  }

-- the shares of a lane are what the slots take, and it tells where streams begin if each flush is over before anything
-- comes; the keys are those of the slots a cycle before
pub record IsLane (run : Run) (key count stride : ℕ) (source : Wire) (r : LaneLines) : Type 0 where
  pub front : AreSlots count (column_of key) stride (carried run source)
      (λ k. share (slot_of run r.slot) k (carried run r.wire))
  pub within : (c : ℕ) → (line_at run r.wire.valid c || line_at run r.wire.eos c) ≡ true → slot_of run r.slot c < count
  pub begins : AwaitsTurns count stride (carried run source) → Begins (lane_of run r.wire r.slot r.first)
  pub shown : AreKeys count (column_of key) stride 1 (carried run source) (held_of run r.keys)
  pub come : KeysCome run key count stride 1 source r.nexts r.here r.keys
  pub told : (c : ℕ) → line_at run r.further c ≡ further_line count (column_of key) stride (carried run source) c

pub record AddsLane (old new : Net) (key count stride width : ℕ) (source : Wire) (r : LaneLines) : Type 0 where
  pub keeps : Keeps old new
  pub cost : CostsAtMost old new (with_registers (count * 15 + length (widths source.columns) * 2 + 86)
      (count * (slice_index (widths source.columns) key + 2) + sum (widths source.columns) + width * 3 + 42))
  pub wire : IsWire new r.wire
  pub same_widths : widths r.wire.columns ≡ widths source.columns
  pub slot : IsBus new r.slot
  pub slot_width : r.slot.width ≡ width
  pub first : IsBit new r.first
  pub keys_count : length r.keys ≡ count
  pub keys : (k : ℕ) (b : Bus) → slice_get r.keys k ≡ Some b → IsBus new b
      × (b.width ≡ slice_index (widths source.columns) key)
  pub nexts_count : length r.nexts ≡ count
  pub nexts : AreBits new r.nexts
  pub here_bus : IsBus new r.here
  pub here_width : r.here.width ≡ slice_index (widths source.columns) key
  pub further : IsBit new r.further
  pub law : (run : Run) → IsRun new run → IsLane run key count stride source r
