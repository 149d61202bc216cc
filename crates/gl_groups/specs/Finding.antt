-- Slots that find the key of a row one cycle after it came, in a netlist.
use Rattle.std.specs.Prelude.{◌≡◌, ℕ, suc, ◌+◌, ◌*◌, ◌<◌, ◌^◌, List, length, Some, true, false, slice_get, not, ◌&&◌, ◌||◌, if◌then◌else◌}
use Rattle.gl_net.specs.declared.node.Bus.{Bus}
use Rattle.gl_net.specs.declared.node.Bit.{Bit}
use Rattle.gl_net.specs.Net.{Net, Run, IsRun, IsBit, IsBus, Keeps}
use Rattle.gl_wire.specs.Costs.{Costs, nodes_alone}
use Rattle.gl_wire.specs.Gates.{same_at}
use Rattle.gl_wire.specs.Wire.{AreBuses, line_at}
use Rattle.gl_wire_registers.specs.Held.{held_at, with_registers}
use Rattle.gl_wire_registers.specs.Lines.{AreBits, any_to, gates_of, held_of, line_of}
use Rattle.gl_groups.specs.declared.finding.Asked.{Asked}
use Rattle.gl_groups.specs.declared.finding.Asking.{Asking}
use Rattle.gl_groups.specs.declared.finding.Many.{Many}
use Rattle.gl_groups.specs.declared.finding.One.{One}
use Rattle.gl_groups.specs.declared.finding.Place.{Place}
use Rattle.gl_groups.specs.declared.finding.SlotsFound.{SlotsFound}
use Rattle.gl_groups.specs.declared.finding.Sought.{Sought}
use Rattle.gl_groups.specs.Ahead.{Ahead, GoesOn, sought_in}
use Rattle.gl_slots.specs.Picks.{AddsNumbers, IsPicked}
use Rattle.gl_slots.specs.Seeking.{is_next, kept}
use Rattle.gl_groups.specs.Telling.{passes_in}
use Rattle.gl_slots.specs.SlotLines.{AreKeysOf, asked_of, same_to}

-- the lines that ask are in the netlist
pub record AreAsking (net : Net) (a : Asking) : Type 0 where
  pub free : IsBit net a.free
  pub ask : IsBit net a.ask
  pub last : IsBus net a.last
  pub come : IsBit net a.come
  pub here : IsBus net a.here
  pub same_width : a.here.width ≡ a.last.width

-- n lines more, each one cycle behind another
pub record AddsLater (old new : Net) (lines : List Bit) (n : ℕ) (bs : List Bit) : Type 0 where
  pub keeps : Keeps old new
  pub count : length bs ≡ n
  pub bits : AreBits new bs
  pub cost : Costs old new (with_registers n n)
  pub line : (run : Run) → IsRun new run → (k t : ℕ) → k < n → line_of run bs k (suc t) ≡ line_of run lines k t

-- for each slot whether it was kept and had the key that came, one cycle ago
pub record AddsMet (old new : Net) (kept : List Bit) (keys : List Bus) (here : Bus) (bs : List Bit) : Type 0 where
  pub keeps : Keeps old new
  pub count : length bs ≡ length kept
  pub bits : AreBits new bs
  pub cost : Costs old new (with_registers (length kept * 3) (length kept))
  pub line : (run : Run) → IsRun new run → (k t : ℕ) → k < length kept
      → line_of run bs k (suc t) ≡ (line_of run kept k t && same_to here keys run k t)

-- which of n slots a key asks: one that is not kept behind one that is; whether there is one, and whether there is none
pub record AddsAsked (old new : Net) (ask : Bit) (kept : List Bit) (r : Asked) : Type 0 where
  pub keeps : Keeps old new
  pub count : length r.nexts ≡ length kept
  pub nexts_bits : AreBits new r.nexts
  pub room_bit : IsBit new r.room
  pub full_bit : IsBit new r.full
  pub cost : Costs old new (nodes_alone (length kept * 2 + 1))
  pub nexts : (run : Run) → IsRun new run → (k t : ℕ) → k < length kept
      → line_of run r.nexts k t ≡ (asked_of ask kept run k t && not (line_of run kept k t))
  pub room : (run : Run) → IsRun new run → (t : ℕ)
      → line_at run r.room t ≡ (line_at run ask t && not (asked_of ask kept run (length kept) t))
  pub full : (run : Run) → IsRun new run → (t : ℕ)
      → line_at run r.full t ≡ asked_of ask kept run (length kept) t

-- for each slot a register that takes the key where it may
pub record AddsKeysTaken (old new : Net) (nexts : List Bit) (last : Bus) (bs : List Bus) : Type 0 where
  pub keeps : Keeps old new
  pub count : length bs ≡ length nexts
  pub are : AreKeysOf new last bs
  pub cost : Costs old new (with_registers (length nexts * 2) (length nexts * last.width))
  pub next : (run : Run) → IsRun new run → (k t : ℕ) → k < length nexts
      → held_of run bs k (suc t) ≡ (if line_of run nexts k t then held_at 0 run last t else held_of run bs k t)

-- whether the key is another one than a cycle ago
pub record AddsMoved (old new : Net) (a : Asking) (b : Bit) : Type 0 where
  pub keeps : Keeps old new
  pub bit : IsBit new b
  pub cost : Costs old new (with_registers 3 1)
  pub line : (run : Run) → IsRun new run → (t : ℕ)
      → line_at run b (suc t) ≡ (line_at run a.come t && not (same_at run a.here a.last t))

-- whether one of the slots has the key, and whether one had the key before
pub record AddsOne (old new : Net) (hits : List Bit) (moved free room : Bit) (r : One) : Type 0 where
  pub keeps : Keeps old new
  pub one_bit : IsBit new r.one
  pub had_bit : IsBit new r.had
  pub cost : Costs old new (with_registers (gates_of (length hits) + 4) 1)
  pub one : (run : Run) → IsRun new run → (t : ℕ)
      → line_at run r.one t
      ≡ ((if line_at run moved t then any_to (length hits) (λ k. line_of run hits k t) else line_at run r.had t)
      && not (line_at run free t))
  pub had : (run : Run) → IsRun new run → (t : ℕ)
      → line_at run r.had (suc t) ≡ (line_at run r.one t || line_at run room t)

-- how many are used, where the number has so many bits
pub record AddsMany (old new : Net) (free new_one : Bit) (width : ℕ) (r : Many) : Type 0 where
  pub keeps : Keeps old new
  pub many_bus : IsBus new r.many
  pub many_width : r.many.width ≡ width
  pub base_bus : IsBus new r.base
  pub base_width : r.base.width ≡ width
  pub cost : Costs old new (with_registers 6 width)
  pub base : (run : Run) → IsRun new run → (t : ℕ)
      → held_at 0 run r.base t ≡ (if line_at run free t then 0 else held_at 0 run r.many t)
  pub many : (run : Run) → IsRun new run → (t : ℕ)
      → (line_at run new_one t ≡ true → held_at 0 run r.base t + 1 < 2 ^ width)
      → held_at 0 run r.many (suc t)
      ≡ (if line_at run new_one t then held_at 0 run r.base t + 1 else held_at 0 run r.base t)

-- the number of a slot: the one that was met, or the one before, or that of the next one
pub record AddsPlace (old new : Net) (one moved : Bit) (hits : List Bit) (base : Bus) (numbers : List Bus) (r : Place)
    : Type 0 where
  pub keeps : Keeps old new
  pub number_bus : IsBus new r.number
  pub number_width : r.number.width ≡ base.width
  pub home_bus : IsBus new r.home
  pub home_width : r.home.width ≡ base.width
  pub cost : Costs old new (with_registers (length hits * 2 + 3) base.width)
  pub met : Run → ℕ → ℕ
  pub picked : (run : Run) → IsRun new run → (t : ℕ) → IsPicked run hits numbers t (met run t)
  pub number : (run : Run) → IsRun new run → (t : ℕ)
      → held_at 0 run r.number (suc t)
      ≡ (if line_at run one (suc t)
      then (if line_at run moved (suc t) then met run (suc t) else held_at 0 run r.home (suc t))
      else held_at 0 run base (suc t))
  pub home : (run : Run) → IsRun new run → (t : ℕ)
      → held_at 0 run r.home (suc (suc t)) ≡ held_at 0 run r.number (suc t)

-- such a number, where the slots are n
pub record AddsPlaceOf (old new : Net) (one moved : Bit) (hits : List Bit) (base : Bus) (n : ℕ) (r : Place) : Type 0 where
  pub mid : Net
  pub numbers : List Bus
  pub counts : AddsNumbers old mid (λ k. k) n base.width numbers
  pub place : AddsPlace mid new one moved hits base numbers r

-- the lines of n slots
pub record AreSought (net : Net) (n width key : ℕ) (r : Sought) : Type 0 where
  pub kept_count : length r.kept ≡ n
  pub kept : AreBits net r.kept
  pub keys_count : length r.keys ≡ n
  pub keys : AreBuses net r.keys
  pub keys_width : (k : ℕ) (b : Bus) → slice_get r.keys k ≡ Some b → b.width ≡ key
  pub hits_count : length r.hits ≡ n
  pub hits : AreBits net r.hits
  pub moved : IsBit net r.moved
  pub one : IsBit net r.one.one
  pub had : IsBit net r.one.had
  pub nexts_count : length r.asked.nexts ≡ n
  pub nexts : AreBits net r.asked.nexts
  pub passes : IsBit net r.passes
  pub many : IsBus net r.many.many
  pub many_width : r.many.many.width ≡ width
  pub number : IsBus net r.place.number
  pub number_width : r.place.number.width ≡ width
  pub home : IsBus net r.place.home
  pub home_width : r.place.home.width ≡ width

-- the lines of some slots
abbrev pub HasSought : Net → ℕ → Sought → Type 0
HasSought net width r = (key : ℕ) × AreSought net (length r.kept) width key r

-- what they are as functions of slots and cycles
abbrev pub ahead_in : Run → Asking → List Bit → Sought → (ℕ → ℕ) → Ahead
ahead_in run a used r met = record {
  used = λ k t. line_of run used k t;
  key = λ k t. held_of run r.keys k t;
  free = line_at run a.free;
  ask = line_at run a.ask;
  value = held_at 0 run a.last;
  here = held_at 0 run a.here;
  hit = λ k t. line_of run r.hits k t;
  moved = line_at run r.moved;
  had = line_at run r.one.had;
  home = held_at 0 run r.place.home;
  many = held_at 0 run r.many.many;
  met = met;
  one = line_at run r.one.one;
  new = line_at run r.new;
  number = held_at 0 run r.place.number;
}

-- what slots that are used make of a key: all but which ones are used one cycle later
pub record IsSought (run : Run) (a : Asking) (used : List Bit) (n width : ℕ) (r : Sought) : Type 0 where
  pub met : ℕ → ℕ
  pub kept : (k t : ℕ) → k < n → line_of run r.kept k t ≡ (line_of run used k t && not (line_at run a.free t))
  pub nexts : (k t : ℕ) → k < n
      → line_of run r.asked.nexts k t ≡ (asked_of a.ask r.kept run k t && not (line_of run r.kept k t))
  pub key : (k t : ℕ) → k < n → held_of run r.keys k (suc t)
      ≡ (if line_of run r.asked.nexts k t then held_at 0 run a.last t else held_of run r.keys k t)
  pub hit : (k t : ℕ) → k < n
      → line_of run r.hits k (suc t) ≡ (line_of run r.kept k t && same_to a.here r.keys run k t)
  pub moved : (t : ℕ) → line_at run r.moved (suc t) ≡ (line_at run a.come t && not (same_at run a.here a.last t))
  pub had : (t : ℕ) → line_at run r.one.had (suc t) ≡ (line_at run r.one.one t || line_at run r.new t)
  pub home : (t : ℕ) → held_at 0 run r.place.home (suc (suc t)) ≡ held_at 0 run r.place.number (suc t)
  pub many : (t : ℕ)
      → (line_at run r.new t ≡ true → (if line_at run a.free t then 0 else held_at 0 run r.many.many t) + 1 < 2 ^ width)
      → held_at 0 run r.many.many (suc t)
      ≡ (if line_at run r.new t then (if line_at run a.free t then 0 else held_at 0 run r.many.many t) + 1
      else (if line_at run a.free t then 0 else held_at 0 run r.many.many t))
  pub met_one : (k t : ℕ) → k < n → line_of run r.hits k t ≡ true
      → ((j : ℕ) → j < n → line_of run r.hits j t ≡ true → j ≡ k) → met t ≡ k
  pub one : (t : ℕ) → line_at run r.one.one t
      ≡ ((if line_at run r.moved t then any_to n (λ k. line_of run r.hits k t) else line_at run r.one.had t)
      && not (line_at run a.free t))
  pub new : (t : ℕ) → line_at run r.new t
      ≡ ((line_at run a.ask t && not (asked_of a.ask r.kept run n t)) && not (line_at run r.one.one t))
  pub passes : (t : ℕ) → line_at run r.passes t ≡ (asked_of a.ask r.kept run n t && not (line_at run r.one.one t))
  pub number : (t : ℕ) → held_at 0 run r.place.number (suc t)
      ≡ (if line_at run r.one.one (suc t)
      then (if line_at run r.moved (suc t) then met (suc t) else held_at 0 run r.place.home (suc t))
      else (if line_at run a.free (suc t) then 0 else held_at 0 run r.many.many (suc t)))

pub record AddsSought (old new : Net) (a : Asking) (used : List Bit) (n width : ℕ) (r : Sought) : Type 0 where
  pub keeps : Keeps old new
  pub are : AreSought new n width a.last.width r
  pub cost : Costs old new (with_registers (n * 11 + gates_of n + 19) (n * (a.last.width + 1) + width * 2 + 2))
  pub law : (run : Run) → IsRun new run → IsSought run a used n width r

-- the slots that are used one cycle later
pub record AddsHeld (old new : Net) (kept nexts : List Bit) (one : Bit) (bs : List Bit) : Type 0 where
  pub keeps : Keeps old new
  pub count : length bs ≡ length kept
  pub bits : AreBits new bs
  pub cost : Costs old new (nodes_alone (length kept * 2))
  pub line : (run : Run) → IsRun new run → (k t : ℕ) → k < length kept
      → line_of run bs k t ≡ (line_of run kept k t || (line_of run nexts k t && not (line_at run one t)))

-- how the key that is looked for follows the rows that come
pub record IsAsked (run : Run) (a : Asking) : Type 0 where
  pub ask : (t : ℕ) → line_at run a.ask (suc t) ≡ line_at run a.come t
  pub comes : (t : ℕ) → line_at run a.ask (suc t) ≡ true → held_at 0 run a.last (suc t) ≡ held_at 0 run a.here t
  pub stays : (t : ℕ) → line_at run a.ask (suc (suc t)) ≡ false
      → held_at 0 run a.last (suc (suc t)) ≡ held_at 0 run a.last (suc t)

-- slots that go on so, where the key follows the rows; lines of those that are kept, that may take the key, and of a key
-- that is left
pub record AreFound (run : Run) (a : Asking) (n : ℕ) (r : SlotsFound) : Type 0 where
  pub met : ℕ → ℕ
  pub goes : GoesOn n (ahead_in run a r.used r.sought met)
  pub kept : (k t : ℕ) → k < n
      → line_of run r.sought.kept k t ≡ kept (sought_in (ahead_in run a r.used r.sought met) t) k
  pub nexts : (k t : ℕ) → k < n
      → line_of run r.sought.asked.nexts k t ≡ is_next (sought_in (ahead_in run a r.used r.sought met) t) k
  pub passes : (t : ℕ) → line_at run r.sought.passes t ≡ passes_in n (ahead_in run a r.used r.sought met) t

pub record AddsSlotsFound (old new : Net) (a : Asking) (n width : ℕ) (r : SlotsFound) : Type 0 where
  pub keeps : Keeps old new
  pub are : AreSought new n width a.last.width r.sought
  pub cost : Costs old new (with_registers (n * 14 + gates_of n + 19) (n * (a.last.width + 2) + width * 2 + 2))
  pub law : (run : Run) → IsRun new run → IsAsked run a → AreFound run a n r
