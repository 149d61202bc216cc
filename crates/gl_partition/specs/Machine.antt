-- Windows of each key as a machine: a slot for each key, whose tuples have windows of their own over copies of the slot.
-- It tells which copies take a tuple, and which takes an end. Which key a slot has, and how the turns after an end go by,
-- is the machine of slots.
use Rattle.std.specs.Prelude.{◌≡◌, ℕ, zero, suc, ◌+◌, ◌-◌, ◌*◌, ◌%◌, ◌<◌, Option, Some, None, Bool, true, false, not, ◌&&◌, ◌||◌, if◌then◌else◌, nat_eq, nat_le, nat_lt}
use Rattle.gl_values.specs.Results.{Row}
use Rattle.gl_wire.specs.Wire.{Carried}
use Rattle.gl_wire.specs.Lift.{Visits}
use Rattle.gl_slots.specs.Slots.{Slots, keys_at, of_slot, slots_at}

-- the slots, and the key of a tuple; windows of `size` rows, one from each `advance`-th row of a key on; the copies of
-- each slot; and the cycles from one turn to the next
pub record Numbers : Type 0 where
  pub slots : ℕ
  pub key : Row → ℕ
  pub size : ℕ
  pub advance : ℕ
  pub copies : ℕ
  pub stride : ℕ

-- the registers of a slot: tuples before its next window opens; tuples up to and with the one that completes the oldest
-- window; the windows opened and closed so far; a flag for each copy
pub record Windows : Type 0 where
  pub until : ℕ
  pub left : ℕ
  pub opened : ℕ
  pub closed : ℕ
  pub is_open : ℕ → Bool

abbrev pub none_open : ℕ → Windows
none_open size = record { until = 0; left = size; opened = 0; closed = 0; is_open = λ k. false }

-- a window opens
abbrev pub one_opened : ℕ → ℕ → Windows → Windows
one_opened advance copies s =
    record s { until = advance - 1; opened = suc s.opened; is_open = λ k. s.is_open k || nat_eq k (s.opened % copies) }

-- a tuple opens one where its turn has come
abbrev pub opening : ℕ → ℕ → Option Row → Windows → Windows
opening advance copies None s = s
opening advance copies (Some r) s =
    if nat_eq s.until 0 then one_opened advance copies s else record s { until = s.until - 1 }

-- whether the oldest window ends: it is open, and a tuple completes it, or it is the slot's turn
abbrev pub closing : ℕ → Bool → Option Row → Windows → Bool
closing copies due (Some r) t = nat_eq t.left 1 && t.is_open (t.closed % copies)
closing copies due None t = due && t.is_open (t.closed % copies)

-- what a copy takes: each open one a tuple without the end; of a tuple with the end, the one that it completes; and the
-- one that ends in the slot's turn what is kept of the end
abbrev pub taken : ℕ → Bool → Bool → Option Row → Option Row → Windows → ℕ → Option Row
taken copies false due (Some r) held t k = if t.is_open k then Some r else None
taken copies true due (Some r) held t k =
    if closing copies due (Some r) t && nat_eq k (t.closed % copies) then Some r else None
taken copies e due None held t k = if closing copies due None t && nat_eq k (t.closed % copies) then held else None

abbrev pub one_closed : ℕ → Windows → Windows
one_closed copies t =
    record t { closed = suc t.closed; is_open = λ k. t.is_open k && not (nat_eq k (t.closed % copies)) }

abbrev pub closed_by : ℕ → Bool → Windows → Windows
closed_by copies false t = t
closed_by copies true t = one_closed copies t

-- the counters: with an end they begin anew
abbrev pub counted : ℕ → ℕ → Bool → Option Row → Windows → Windows
counted size advance true o t = record t { until = 0; left = size }
counted size advance false (Some r) t = record t { left = if nat_eq t.left 1 then advance else (t.left - 1) }
counted size advance false None t = t

abbrev pub next : Numbers → Bool → Bool → Option Row → Windows → Windows
next n e due o s =
    let t = opening n.advance n.copies o s in
    counted n.size n.advance e o (closed_by n.copies (closing n.copies due o t) t)

-- whether a slot has its turn: nothing comes, and the turn is one of the slot's. The turns go slot by slot, as many for
-- each as it has copies; they begin with number 1, since in the cycle of an end the last tuple may complete a window
abbrev pub is_due : ℕ → ℕ → Bool → Option Row → Slots → Bool
is_due copies i true o s = false
is_due copies i false (Some r) s = false
is_due copies i false None s =
    (s.flush && nat_eq s.wait 0) && (nat_lt (i * copies) s.turn && nat_le s.turn (i * copies + copies))

-- a slot's part of what comes: its tuple, what is kept of the end where it is the slot's, and its turn
abbrev pub comes : Numbers → Carried → ℕ → ℕ → Option Row
comes n a i c = of_slot n.key (keys_at n.slots n.key n.stride a c) i (a.tuple c)

abbrev pub kept : Numbers → Carried → ℕ → ℕ → Option Row
kept n a i c = of_slot n.key (keys_at n.slots n.key n.stride a c) i (slots_at n.slots n.key n.stride a c).held

abbrev pub due : Numbers → Carried → ℕ → ℕ → Bool
due n a i c = is_due n.copies i (a.ends c) (a.tuple c) (slots_at n.slots n.key n.stride a c)

-- the registers of a slot in each cycle
abbrev pub windows_at : Numbers → Carried → ℕ → ℕ → Windows
windows_at n a i zero = none_open n.size
windows_at n a i (suc c) = next n (a.ends c) (due n a i c) (comes n a i c) (windows_at n a i c)

-- and with what this cycle opens
abbrev pub mid : Numbers → Carried → ℕ → ℕ → Windows
mid n a i c = opening n.advance n.copies (comes n a i c) (windows_at n a i c)

abbrev pub closes : Numbers → Carried → ℕ → ℕ → Bool
closes n a i c = closing n.copies (due n a i c) (comes n a i c) (mid n a i c)

abbrev pub oldest : Numbers → Carried → ℕ → ℕ → ℕ
oldest n a i c = (mid n a i c).closed % n.copies

-- the copies of all slots have numbers, slot by slot
abbrev pub copy_of : Numbers → ℕ → ℕ → ℕ
copy_of n i k = i * n.copies + k

-- of so many slots the one whose oldest window ends
abbrev pub ending : Numbers → Carried → ℕ → ℕ → Option ℕ
ending n a c zero = None
ending n a c (suc i) = if closes n a i c then Some (copy_of n i (oldest n a i c)) else ending n a c i

-- which copy takes an end
abbrev pub who_ends : Numbers → Carried → Visits
who_ends n a zero = None
who_ends n a (suc c) = ending n a c n.slots

-- wires behind such a machine, one cycle later
pub record ArePartitions (n : Numbers) (a : Carried) (ins : ℕ → Carried) : Type 0 where
  pub no_tuple : (i k : ℕ) → i < n.slots → k < n.copies → (ins (copy_of n i k)).tuple 0 ≡ None
  pub no_end : (i k : ℕ) → i < n.slots → k < n.copies → (ins (copy_of n i k)).ends 0 ≡ false
  pub tuples : (i k c : ℕ) → i < n.slots → k < n.copies
      → (ins (copy_of n i k)).tuple (suc c)
      ≡ taken n.copies (a.ends c) (due n a i c) (comes n a i c) (kept n a i c) (mid n a i c) k
  pub ends : (i k c : ℕ) → i < n.slots → k < n.copies
      → (ins (copy_of n i k)).ends (suc c) ≡ (closes n a i c && nat_eq k (oldest n a i c))
