-- Slots in registers, from the reset cycle on.
use Rattle.std.specs.Prelude.{◌≡◌, ℕ, zero, suc, ◌+◌, ◌*◌, ◌<◌, List, length, Some, Bool, true, false, slice_get, if◌then◌else◌, nat_eq, not, ◌&&◌}
use Rattle.gl_net.specs.declared.node.Bus.{Bus}
use Rattle.gl_net.specs.declared.node.Bit.{Bit}
use Rattle.gl_net.specs.Net.{Net, Run, IsRun, IsBit, IsBus, Keeps}
use Rattle.gl_wire.specs.Costs.{Costs, nodes_alone}
use Rattle.gl_wire.specs.Wire.{AreBuses, line_at}
use Rattle.gl_wire_registers.specs.Held.{held_at, with_registers}
use Rattle.gl_wire_registers.specs.Lines.{held_of, line_of, AreBits, any_to, gates_of}
use Rattle.gl_slots.specs.declared.slots.Asks.{Asks}
use Rattle.gl_slots.specs.declared.slots.Found.{Found}
use Rattle.gl_slots.specs.declared.slots.KeyLines.{KeyLines}
use Rattle.gl_slots.specs.declared.slots.Seek.{Seek}
use Rattle.gl_slots.specs.declared.slots.Seen.{Seen}
use Rattle.gl_slots.specs.declared.slots.SlotLines.{SlotLines}
use Rattle.gl_slots.specs.Seeking.{Sought, asked, found, has, is_next, kept, takes}

-- keys as wide as this one are in the netlist
pub record AreKeysOf (net : Net) (value : Bus) (keys : List Bus) : Type 0 where
  pub each : (k : ℕ) (b : Bus) → slice_get keys k ≡ Some b → IsBus net b
  pub widths : (k : ℕ) (b : Bus) → slice_get keys k ≡ Some b → b.width ≡ value.width

-- whether a slot's key is this one; in the reset cycle none is
unfoldable pub same_to : Bus → List Bus → Run → ℕ → ℕ → Bool
same_to value keys run k zero = false
same_to value keys run k (suc t) = nat_eq (held_at 0 run value (suc t)) (held_of run keys k (suc t))

-- what the slots are in a cycle, where these are the keys that are looked for
abbrev pub sought_at : Run → List Bit → List Bus → Bit → Bit → (ℕ → ℕ) → ℕ → Sought
sought_at run used keys free ask value t = record {
  used = λ k. line_of run used k t;
  key = λ k. held_of run keys k t;
  free = line_at run free t;
  ask = line_at run ask t;
  value = value t;
}

-- whether a slot's key is that of the row that comes, and where none comes, whether the slot's line is 1
abbrev pub has_key : Run → List Bus → Bit → Bus → List Bit → ℕ → ℕ → Bool
has_key run keys ask here homes k t =
    if line_at run ask t then nat_eq (held_at 0 run here t) (held_of run keys k t) else line_of run homes k t

-- in a cycle this tells of those of n slots that are used which one has a key
abbrev pub FindsKey : Run → ℕ → List Bit → List Bus → Bit → Bus → List Bit → ℕ → ℕ → Type 0
FindsKey run n used keys ask here homes value t =
    (k : ℕ) → k < n → line_of run used k t ≡ true
    → has_key run keys ask here homes k t ≡ nat_eq value (held_of run keys k t)

-- which slots have the key, and whether one of them has
pub record IsFound (run : Run) (used : List Bit) (keys : List Bus) (free ask : Bit) (here : Bus) (homes : List Bit)
    (r : Found) : Type 0 where
  pub kept : (k t : ℕ) → k < length used
      → line_of run r.kept k t ≡ (line_of run used k t && not (line_at run free t))
  pub found : (k t : ℕ) → k < length used
      → line_of run r.found k t
      ≡ ((line_of run used k t && not (line_at run free t)) && has_key run keys ask here homes k t)
  pub one : (t : ℕ) → line_at run r.one t ≡ any_to (length used) (λ k. line_of run r.found k t)

pub record AddsFound (old new : Net) (used : List Bit) (keys : List Bus) (free ask : Bit) (here : Bus)
    (homes : List Bit) (r : Found) : Type 0 where
  pub keeps : Keeps old new
  pub kept_count : length r.kept ≡ length used
  pub found_count : length r.found ≡ length used
  pub kept_bits : AreBits new r.kept
  pub found_bits : AreBits new r.found
  pub one_bit : IsBit new r.one
  pub cost : Costs old new (nodes_alone (length used * 4 + gates_of (length used)))
  pub law : (run : Run) → IsRun new run → IsFound run used keys free ask here homes r

-- whether a key comes and the slot before is used
unfoldable pub asked_of : Bit → List Bit → Run → ℕ → ℕ → Bool
asked_of ask kept run zero t = line_at run ask t
asked_of ask kept run (suc k) t = line_at run ask t && line_of run kept k t

-- which of n slots a key asks
pub record AddsAsks (old new : Net) (ask : Bit) (kept : List Bit) (n : ℕ) (r : Asks) : Type 0 where
  pub keeps : Keeps old new
  pub count : length r.asks ≡ n
  pub bits : AreBits new r.asks
  pub passes_bit : IsBit new r.passes
  pub cost : Costs old new (nodes_alone n)
  pub asks : (run : Run) → IsRun new run → (k t : ℕ) → k < n
      → line_of run r.asks k t ≡ asked_of ask kept run k t
  pub passes : (run : Run) → IsRun new run → (t : ℕ) → line_at run r.passes t ≡ asked_of ask kept run n t

-- for each of n slots its key, or the one that it may take
pub record AddsNexts (old new : Net) (nexts : List Bit) (value : Bus) (keys : List Bus) (n : ℕ) (bs : List Bus)
    : Type 0 where
  pub keeps : Keeps old new
  pub count : length bs ≡ n
  pub are : AreKeysOf new value bs
  pub cost : Costs old new (nodes_alone n)
  pub next : (run : Run) → IsRun new run → (k t : ℕ) → k < n
      → held_of run bs k (suc t) ≡ (if line_of run nexts k (suc t) then held_at 0 run value (suc t)
      else held_of run keys k (suc t))

-- what n slots make of the key in a cycle, where this is what they are then
pub record IsSeen (run : Run) (n : ℕ) (s : Sought) (r : Seen) (t : ℕ) : Type 0 where
  pub one : line_at run r.one t ≡ any_to n (found s)
  pub kept : (k : ℕ) → k < n → line_of run r.kept k t ≡ kept s k
  pub found : (k : ℕ) → k < n → line_of run r.found k t ≡ found s k
  pub nexts : (k : ℕ) → k < n → line_of run r.nexts k t ≡ is_next s k
  pub takes : (k : ℕ) → k < n → line_of run r.takes k t ≡ takes n s k
  pub has : (k : ℕ) → k < n → line_of run r.has k t ≡ has n s k
  pub passes : line_at run r.passes t ≡ asked n s n

-- the lines of n slots
pub record AreSeen (net : Net) (n : ℕ) (r : Seen) : Type 0 where
  pub kept_count : length r.kept ≡ n
  pub kept : AreBits net r.kept
  pub found_count : length r.found ≡ n
  pub found : AreBits net r.found
  pub one : IsBit net r.one
  pub nexts_count : length r.nexts ≡ n
  pub nexts : AreBits net r.nexts
  pub takes_count : length r.takes ≡ n
  pub takes : AreBits net r.takes
  pub has_count : length r.has ≡ n
  pub has : AreBits net r.has
  pub passes : IsBit net r.passes

-- what the slots make of a key, in each cycle in which it is told which one has it; which one is next is told in any
pub record AddsSeen (old new : Net) (used : List Bit) (keys : List Bus) (free ask : Bit) (here : Bus)
    (homes : List Bit) (r : Seen) : Type 0 where
  pub keeps : Keeps old new
  pub are : AreSeen new (length used) r
  pub cost : Costs old new (nodes_alone (length used * 8 + gates_of (length used) + 1))
  pub nexts : (run : Run) → IsRun new run → (value : ℕ → ℕ) (k t : ℕ) → k < length used
      → line_of run r.nexts k t ≡ is_next (sought_at run used keys free ask value t) k
  pub law : (run : Run) → IsRun new run → (value : ℕ → ℕ) (t : ℕ)
      → FindsKey run (length used) used keys ask here homes (value t) t
      → IsSeen run (length used) (sought_at run used keys free ask value t) r t

-- and the keys that they keep
pub record AddsSeek (old new : Net) (used : List Bit) (keys : List Bus) (free ask : Bit) (here : Bus)
    (homes : List Bit) (r : Seek) : Type 0 where
  pub keeps : Keeps old new
  pub are : AreSeen new (length used) r.seen
  pub keys_count : length r.keys ≡ length used
  pub wide : AreKeysOf new here r.keys
  pub cost : Costs old new (nodes_alone (length used * 9 + gates_of (length used) + 1))
  pub law : (run : Run) → IsRun new run → (value : ℕ → ℕ) (t : ℕ)
      → FindsKey run (length used) used keys ask here homes (value t) t
      → IsSeen run (length used) (sought_at run used keys free ask value t) r.seen t
  pub key : (run : Run) → IsRun new run → (value : ℕ → ℕ) (k t : ℕ) → k < length used
      → held_of run r.keys k (suc t)
      ≡ (if is_next (sought_at run used keys free ask value (suc t)) k then held_at 0 run here (suc t)
      else held_of run keys k (suc t))

-- n slots beside the lines that tell which ones are used: one that may take the key keeps it, whether it is used then
-- or not
pub record AreKeyLines (run : Run) (n : ℕ) (used : List Bit) (free ask : Bit) (here : Bus) (homes : List Bit)
    (r : KeyLines) : Type 0 where
  pub key : (value : ℕ → ℕ) (k t : ℕ) → k < n
      → held_of run r.keys k (suc t)
      ≡ (if is_next (sought_at run used r.keys free ask value t) k then held_at 0 run here t
      else held_of run r.keys k t)
  pub seen : (value : ℕ → ℕ) (t : ℕ) → FindsKey run n used r.keys ask here homes (value t) t
      → IsSeen run n (sought_at run used r.keys free ask value t) r.seen t

pub record AddsKeys (old new : Net) (used : List Bit) (free ask : Bit) (here : Bus) (homes : List Bit) (r : KeyLines)
    : Type 0 where
  pub keeps : Keeps old new
  pub keys_count : length r.keys ≡ length used
  pub keys : AreKeysOf new here r.keys
  pub are : AreSeen new (length used) r.seen
  pub cost : Costs old new
      (with_registers (length used * 10 + gates_of (length used) + 1) (length used * here.width))
  pub law : (run : Run) → IsRun new run → AreKeyLines run (length used) used free ask here homes r

-- n slots beside the lines that tell which one has the key of the row that came last
pub record AreKept (run : Run) (free ask : Bit) (here : Bus) (homes : List Bit) (n : ℕ) (r : SlotLines) : Type 0 where
  pub used : (k t : ℕ) → k < n → line_of run r.used k (suc t) ≡ line_of run r.seen.has k t
  pub key : (value : ℕ → ℕ) (k t : ℕ) → k < n
      → held_of run r.keys k (suc t)
      ≡ (if is_next (sought_at run r.used r.keys free ask value t) k then held_at 0 run here t
      else held_of run r.keys k t)
  pub seen : (value : ℕ → ℕ) (t : ℕ) → FindsKey run n r.used r.keys ask here homes (value t) t
      → IsSeen run n (sought_at run r.used r.keys free ask value t) r.seen t

pub record AddsKept (old new : Net) (free ask : Bit) (here : Bus) (homes : List Bit) (n : ℕ) (r : SlotLines)
    : Type 0 where
  pub keeps : Keeps old new
  pub used_count : length r.used ≡ n
  pub keys_count : length r.keys ≡ n
  pub keys_there : AreBuses new r.keys
  pub keys_width : (k : ℕ) (b : Bus) → slice_get r.keys k ≡ Some b → b.width ≡ here.width
  pub are : AreSeen new n r.seen
  pub cost : Costs old new (with_registers (n * 11 + gates_of n + 1) (n * (here.width + 1)))
  pub law : (run : Run) → IsRun new run → AreKept run free ask here homes n r

-- the key that is looked for: that of the row that comes, and else that of the one that came last
pub record IsLatest (run : Run) (ask : Bit) (here : Bus) (value : ℕ → ℕ) : Type 0 where
  pub comes : (t : ℕ) → line_at run ask t ≡ true → value t ≡ held_at 0 run here t
  pub stays : (t : ℕ) → line_at run ask (suc (suc t)) ≡ false → value (suc (suc t)) ≡ value (suc t)

-- numbers for n slots, of which that of a slot that may take the key takes it
abbrev pub TakeKeys : Run → ℕ → List Bit → Bus → (ℕ → ℕ → ℕ) → Type 0
TakeKeys run n nexts here words =
    (k t : ℕ) → k < n
    → words k (suc (suc t)) ≡ (if line_of run nexts k (suc t) then held_at 0 run here (suc t) else words k (suc t))

-- one line at most is 1
abbrev pub OneAtMost : Run → ℕ → List Bit → Type 0
OneAtMost run n lines =
    (j k t : ℕ) → j < n → k < n → line_of run lines j t ≡ true → line_of run lines k t ≡ true → j ≡ k

-- n slots
pub record AreSlotLines (run : Run) (free ask : Bit) (value : ℕ → ℕ) (n : ℕ) (r : SlotLines) : Type 0 where
  pub used : (k t : ℕ) → k < n
      → line_of run r.used k (suc t) ≡ has n (sought_at run r.used r.keys free ask value t) k
  pub key : (k t : ℕ) → k < n
      → held_of run r.keys k (suc t)
      ≡ (if is_next (sought_at run r.used r.keys free ask value t) k then value t else held_of run r.keys k t)
  pub seen : (t : ℕ) → IsSeen run n (sought_at run r.used r.keys free ask value t) r.seen t

-- so many slots more, which look for the latest key; a register of so many bits tells which one has it
pub record AddsSlots (old new : Net) (free ask : Bit) (here : Bus) (n width : ℕ) (r : SlotLines) : Type 0 where
  pub keeps : Keeps old new
  pub used_count : length r.used ≡ n
  pub keys_count : length r.keys ≡ n
  pub keys_there : AreBuses new r.keys
  pub keys_width : (k : ℕ) (b : Bus) → slice_get r.keys k ≡ Some b → b.width ≡ here.width
  pub are : AreSeen new n r.seen
  pub cost : Costs old new (with_registers (n * 17 + gates_of n + 3) (n * (here.width + 1) + width))
  pub law : (run : Run) → IsRun new run → (value : ℕ → ℕ) → IsLatest run ask here value
      → AreSlotLines run free ask value n r
