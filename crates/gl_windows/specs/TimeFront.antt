-- The front of windows of time as a machine: which window opens, takes a tuple and ends, cycle by cycle. Windows are
-- numbered through all streams, and the copies take them in turn.
use Rattle.std.specs.Prelude.{◌≡◌, ℕ, zero, suc, ◌+◌, ◌-◌, ◌*◌, ◌%◌, ◌<◌, ◌≤◌, Option, Some, None, Bool, true, false, not, ◌&&◌, ◌||◌, if◌then◌else◌, is_some, nat_eq, nat_le, nat_lt}
use Rattle.gl_values.specs.Results.{Row}
use Rattle.gl_wire.specs.Wire.{Carried}
use Rattle.gl_wire.specs.Lift.{Visits}
use Rattle.gl_wire_registers.specs.Held.{counted_down}
use Rattle.gl_wire_registers.specs.Timers.{Timer, fires, ticked}

-- the registers: ticks before the one that opens the next window; ticks before the one that completes the oldest; the
-- windows opened and closed so far; whether an end was the last that came; the cycles before the next turn; the tuple
-- that came with the end; the timer that opens the next stream's first window
pub record TimeFront : Type 0 where
  pub until : ℕ
  pub left : ℕ
  pub opened : ℕ
  pub closed : ℕ
  pub flush : Bool
  pub wait : ℕ
  pub held : Option Row
  pub timer : Timer

-- the first window is open from the start
abbrev pub start : ℕ → ℕ → TimeFront
start size advance =
    record {
      until = advance - 1;
      left = size - 1;
      opened = 1;
      closed = 0;
      flush = false;
      wait = 0;
      held = None;
      timer = record { on = false; left_over = 0 };
    }

-- behind the last turn of a flush the next stream's first window opens
abbrev pub reopens : TimeFront → Bool
reopens s = fires s.timer

abbrev pub opens : Bool → TimeFront → Bool
opens tick s = (tick && nat_eq s.until 0) || reopens s

abbrev pub opened_by : Bool → TimeFront → ℕ
opened_by tick s = if opens tick s then suc s.opened else s.opened

-- the tick completes the oldest window
abbrev pub lasts : Bool → TimeFront → Bool
lasts tick s = tick && nat_eq s.left 0

-- something comes that ends a flush
abbrev pub breaks : Bool → Bool → Option Row → TimeFront → Bool
breaks tick e o s = (tick || (e || is_some o)) || reopens s

abbrev pub idle : Bool → Bool → Option Row → TimeFront → Bool
idle tick e o s = s.flush && not (breaks tick e o s)

abbrev pub due : Bool → Bool → Option Row → TimeFront → Bool
due tick e o s = idle tick e o s && nat_eq s.wait 0

-- the oldest window ends, if one is open: with the end, with the tick that completes it, or in its turn
abbrev pub closes : Bool → Bool → Option Row → TimeFront → Bool
closes tick e o s = (e || (lasts tick s || due tick e o s)) && nat_lt s.closed (opened_by tick s)

-- what the window that ends takes: what came with the end, where the end's own tick does not complete it
abbrev pub last_row : Bool → Bool → Option Row → TimeFront → Option Row
last_row tick true o s = if lasts tick s then None else o
last_row tick false o s = if due tick false o s then s.held else None

-- what another open window takes
abbrev pub open_row : Bool → Option Row → Option Row
open_row true o = None
open_row false o = o

abbrev pub taken : Bool → Bool → Option Row → TimeFront → ℕ → Option Row
taken tick e o s w =
    if nat_le s.closed w && nat_lt w (opened_by tick s)
    then (if closes tick e o s && nat_eq w s.closed then last_row tick e o s else open_row e o)
    else None

abbrev pub next : ℕ → ℕ → ℕ → ℕ → Bool → Bool → Option Row → TimeFront → TimeFront
next size advance stride turns tick e o s =
    record {
      until = counted_down (advance - 1) (advance - 1) e tick s.until;
      left = counted_down (size - 1) (advance - 1) e tick s.left;
      opened = opened_by tick s;
      closed = if closes tick e o s then suc s.closed else s.closed;
      flush = e || idle tick e o s;
      wait = counted_down (stride - 1) (stride - 1) e (idle tick e o s) s.wait;
      held = if e then o else s.held;
      timer = ticked turns e s.timer;
    }

-- the machine over what comes
pub record TimeMachine : Type 0 where
  pub size : ℕ
  pub advance : ℕ
  pub count : ℕ
  pub stride : ℕ
  pub tick : ℕ → Bool
  pub a : Carried

-- the cycles from an end to the last turn of its flush
abbrev pub turns_in : TimeMachine → ℕ
turns_in m = (m.count - 1) * m.stride

-- the registers in each cycle
abbrev pub states : TimeMachine → ℕ → TimeFront
states m zero = start m.size m.advance
states m (suc c) =
    next m.size m.advance m.stride (turns_in m) (m.tick c) (m.a.ends c) (m.a.tuple c) (states m c)

abbrev pub closes_at : TimeMachine → ℕ → Bool
closes_at m c = closes (m.tick c) (m.a.ends c) (m.a.tuple c) (states m c)

-- the copy that takes a window: the last one takes the first
abbrev pub copy_for : TimeMachine → ℕ → ℕ
copy_for m window = (window + (m.count - 1)) % m.count

-- which copy takes an end
abbrev pub who_closes : TimeMachine → Visits
who_closes m zero = None
who_closes m (suc c) = if closes_at m c then Some (copy_for m (states m c).closed) else None

-- in no cycle are more windows open than there are copies
abbrev pub HasRoom : TimeMachine → Type 0
HasRoom m = (c : ℕ) → opened_by (m.tick c) (states m c) ≤ (states m c).closed + m.count

-- wires behind such a machine, one cycle later, told by the windows that the copies have or take next
pub record IsTimeFront (m : TimeMachine) (ins : ℕ → Carried) : Type 0 where
  pub no_tuple : (k : ℕ) → k < m.count → (ins k).tuple 0 ≡ None
  pub no_end : (k : ℕ) → k < m.count → (ins k).ends 0 ≡ false
  pub tuples : (w c : ℕ) → (states m c).closed ≤ w → w < (states m c).closed + m.count
      → (ins (copy_for m w)).tuple (suc c) ≡ taken (m.tick c) (m.a.ends c) (m.a.tuple c) (states m c) w
  pub ends : (w c : ℕ) → (states m c).closed ≤ w → w < (states m c).closed + m.count
      → (ins (copy_for m w)).ends (suc c) ≡ (closes_at m c && nat_eq w (states m c).closed)
