-- The front of slots as a machine: which slot takes a tuple, and which takes an end.
use Rattle.std.specs.Prelude.{◌≡◌, ℕ, zero, suc, ◌-◌, ◌<◌, List, [], length, Option, Some, None, Bool, true, false, not, ◌&&◌, if◌then◌else◌, nat_eq, nat_lt, slice_get, take}
use Rattle.std.specs.List.{list_any}
use Rattle.gl_values.specs.Lists.{keys_of, rows_with}
use Rattle.gl_values.specs.Tables.{with_key}
use Rattle.gl_values.specs.Results.{Row}
use Rattle.gl_wire.specs.Wire.{Carried, stream}
use Rattle.gl_wire.specs.Lift.{Visits}

-- the registers: the keys of the slots that are used (they stay until the next tuple or end comes), whether an end was
-- the last that came, the slot whose turn is next and the cycles before it, the tuple that came with the end
pub record Slots : Type 0 where
  pub keys : List ℕ
  pub flush : Bool
  pub turn : ℕ
  pub wait : ℕ
  pub held : Option Row

-- before anything came
abbrev pub no_slots : Slots
no_slots = record { keys = []; flush = false; turn = 0; wait = 0; held = None }

-- the keys of this stream so far: after an end all slots are free
abbrev pub freed : Slots → List ℕ
freed s = if s.flush then [] else s.keys

-- the keys with a tuple's, which takes a slot where it is new and one is left
abbrev pub with_tuple : ℕ → (Row → ℕ) → Option Row → List ℕ → List ℕ
with_tuple count key None ks = ks
with_tuple count key (Some r) ks = with_key count ks (key r)

-- the keys with what comes now
abbrev pub keys_now : ℕ → (Row → ℕ) → Bool → Option Row → Slots → List ℕ
keys_now count key true o s = with_tuple count key o (freed s)
keys_now count key false (Some r) s = with_tuple count key (Some r) (freed s)
keys_now count key false None s = s.keys

-- whether a slot's key is this one
abbrev pub same_key : Option ℕ → ℕ → Bool
same_key None x = false
same_key (Some y) x = nat_eq x y

-- the tuple, where its key is the slot's
abbrev pub of_slot : (Row → ℕ) → List ℕ → ℕ → Option Row → Option Row
of_slot key ks k None = None
of_slot key ks k (Some r) = if same_key (slice_get ks k) (key r) then Some r else None

-- the slot whose turn it is: after an end the first one
abbrev pub slot_now : Bool → Slots → ℕ
slot_now true s = 0
slot_now false s = s.turn

-- whether it takes its end: it is used, and the end came, or it is its turn of the flush
abbrev pub slot_ends : Bool → Option Row → List ℕ → Slots → Bool
slot_ends true o ks s = nat_lt 0 (length ks)
slot_ends false (Some r) ks s = false
slot_ends false None ks s = (s.flush && nat_eq s.wait 0) && nat_lt s.turn (length ks)

-- what a slot takes: a tuple of its key at once, and with its end the tuple that came with the end
abbrev pub slot_takes : (Row → ℕ) → Bool → Option Row → List ℕ → Slots → ℕ → Option Row
slot_takes key true o ks s k = if nat_lt 0 (length ks) && nat_eq k 0 then of_slot key ks k o else None
slot_takes key false (Some r) ks s k = of_slot key ks k (Some r)
slot_takes key false None ks s k =
    if ((s.flush && nat_eq s.wait 0) && nat_lt s.turn (length ks)) && nat_eq k s.turn then of_slot key ks k s.held
    else None

-- one cycle later
abbrev pub slots_next : ℕ → Bool → Option Row → List ℕ → Slots → Slots
slots_next stride true o ks s = record { keys = ks; flush = true; turn = 1; wait = stride - 1; held = o }
slots_next stride false (Some r) ks s = record s { keys = ks; flush = false }
slots_next stride false None ks s = record s {
  keys = ks;
  turn = if s.flush && nat_eq s.wait 0 then suc s.turn else s.turn;
  wait = if s.flush then (if nat_eq s.wait 0 then stride - 1 else (s.wait - 1)) else s.wait;
}

-- the registers in each cycle
abbrev pub slots_at : ℕ → (Row → ℕ) → ℕ → Carried → ℕ → Slots
slots_at count key stride a zero = no_slots
slots_at count key stride a (suc c) =
    let s = slots_at count key stride a c in
    slots_next stride (a.ends c) (a.tuple c) (keys_now count key (a.ends c) (a.tuple c) s) s

-- the keys with what comes in a cycle, whether a slot takes its end then, and which one
abbrev pub keys_at : ℕ → (Row → ℕ) → ℕ → Carried → ℕ → List ℕ
keys_at count key stride a c = keys_now count key (a.ends c) (a.tuple c) (slots_at count key stride a c)

abbrev pub slot_ends_at : ℕ → (Row → ℕ) → ℕ → Carried → ℕ → Bool
slot_ends_at count key stride a c =
    slot_ends (a.ends c) (a.tuple c) (keys_at count key stride a c) (slots_at count key stride a c)

abbrev pub slot_at : ℕ → (Row → ℕ) → ℕ → Carried → ℕ → ℕ
slot_at count key stride a c = slot_now (a.ends c) (slots_at count key stride a c)

-- which slot takes an end
abbrev pub who_slots : ℕ → (Row → ℕ) → ℕ → Carried → Visits
who_slots count key stride a zero = None
who_slots count key stride a (suc c) =
    if slot_ends_at count key stride a c then Some (slot_at count key stride a c) else None

-- wires behind such a machine, one cycle later
pub record AreSlots (count : ℕ) (key : Row → ℕ) (stride : ℕ) (a : Carried) (ins : ℕ → Carried) : Type 0 where
  pub no_tuple : (k : ℕ) → k < count → (ins k).tuple 0 ≡ None
  pub no_end : (k : ℕ) → k < count → (ins k).ends 0 ≡ false
  pub tuples : (k c : ℕ) → k < count
      → (ins k).tuple (suc c) ≡ slot_takes key (a.ends c) (a.tuple c) (keys_at count key stride a c)
      (slots_at count key stride a c) k
  pub ends : (k c : ℕ) → k < count
      → (ins k).ends (suc c) ≡ (slot_ends_at count key stride a c && nat_eq k (slot_at count key stride a c))

-- the rows of a slot: those with its key
abbrev pub rows_of_key : (Row → ℕ) → List Row → Option ℕ → List Row
rows_of_key key xs None = []
rows_of_key key xs (Some x) = rows_with key xs x

-- a key, where there is one
abbrev pub key_or : Option ℕ → ℕ
key_or None = 0
key_or (Some y) = y

-- a slot, where there is one
abbrev pub slot_or : Option ℕ → ℕ
slot_or None = 0
slot_or (Some k) = k

-- whether a tuple's key is none of these
abbrev pub is_further : (Row → ℕ) → List ℕ → Option Row → Bool
is_further key ks None = false
is_further key ks (Some r) = not (list_any (nat_eq (key r)) ks)

-- what the machine's line of further keys tells, one cycle after a tuple
abbrev pub further_line : ℕ → (Row → ℕ) → ℕ → Carried → ℕ → Bool
further_line count key stride a zero = false
further_line count key stride a (suc c) = is_further key (keys_at count key stride a c) (a.tuple c)

-- whether a tuple came one cycle earlier whose key is not among the first keys of its stream
abbrev pub came_further : ℕ → (Row → ℕ) → Carried → ℕ → Bool
came_further count key a zero = false
came_further count key a (suc c) = is_further key (take count (keys_of key (stream a c))) (a.tuple c)
