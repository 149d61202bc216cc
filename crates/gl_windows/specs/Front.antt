-- The front of windows as a machine: which copies take a tuple, and which takes an end.
use Rattle.std.specs.Prelude.{◌≡◌, ℕ, zero, suc, ◌-◌, ◌%◌, ◌<◌, Option, Some, None, Bool, true, false, not, ◌&&◌, ◌||◌, if◌then◌else◌, nat_eq}
use Rattle.gl_values.specs.Results.{Row}
use Rattle.gl_wire.specs.Wire.{Carried}
use Rattle.gl_wire.specs.Lift.{Visits}

-- the registers: tuples before the next window opens; tuples up to and with the one that completes the oldest window;
-- the windows opened and closed so far (a circuit keeps the remainders by the copies); a flag for each copy; whether an
-- end was the last that came; the cycles before the next open copy takes its end; the tuple that came with the end
pub record Front : Type 0 where
  pub until : ℕ
  pub left : ℕ
  pub opened : ℕ
  pub closed : ℕ
  pub is_open : ℕ → Bool
  pub flush : Bool
  pub wait : ℕ
  pub held : Option Row

abbrev pub start : ℕ → Front
start size =
    record {
      until = 0;
      left = size;
      opened = 0;
      closed = 0;
      is_open = λ k. false;
      flush = false;
      wait = 0;
      held = None;
    }

-- a window opens
abbrev pub one_opened : ℕ → ℕ → Front → Front
one_opened advance count s =
    record s { until = advance - 1; opened = suc s.opened; is_open = λ k. s.is_open k || nat_eq k (s.opened % count) }

abbrev pub one_nearer : Front → Front
one_nearer s = record s { until = s.until - 1 }

-- a tuple opens one where its turn has come
abbrev pub opening : ℕ → ℕ → Option Row → Front → Front
opening advance count None s = s
opening advance count (Some r) s = if nat_eq s.until 0 then one_opened advance count s else one_nearer s

-- whether the oldest window ends: it is open, and the end came, or its last tuple, or its turn of the flush
abbrev pub closing : ℕ → Bool → Option Row → Front → Bool
closing count true o t = t.is_open (t.closed % count)
closing count false (Some r) t = nat_eq t.left 1 && t.is_open (t.closed % count)
closing count false None t = (t.flush && nat_eq t.wait 0) && t.is_open (t.closed % count)

-- what a copy takes: each open one a tuple without the end, the one that ends the tuple that came with the end
abbrev pub taken : ℕ → Bool → Option Row → Front → ℕ → Option Row
taken count true o t k = if t.is_open (t.closed % count) && nat_eq k (t.closed % count) then o else None
taken count false (Some r) t k = if t.is_open k then Some r else None
taken count false None t k =
    if ((t.flush && nat_eq t.wait 0) && t.is_open (t.closed % count)) && nat_eq k (t.closed % count) then t.held
    else None

abbrev pub one_closed : ℕ → Front → Front
one_closed count t = record t { closed = suc t.closed; is_open = λ k. t.is_open k && not (nat_eq k (t.closed % count)) }

abbrev pub closed_by : ℕ → Bool → Front → Front
closed_by count false t = t
closed_by count true t = one_closed count t

-- the other counters
abbrev pub counted : ℕ → ℕ → ℕ → Bool → Option Row → Front → Front
counted size advance stride true o t = record t { until = 0; left = size; flush = true; wait = stride - 1; held = o }
counted size advance stride false (Some r) t =
    record t { left = if nat_eq t.left 1 then advance else (t.left - 1); flush = false }
counted size advance stride false None t =
    record t { wait = if t.flush then (if nat_eq t.wait 0 then stride - 1 else (t.wait - 1)) else t.wait }

abbrev pub next : ℕ → ℕ → ℕ → ℕ → Bool → Option Row → Front → Front
next size advance count stride e o s =
    let t = opening advance count o s in
    counted size advance stride e o (closed_by count (closing count e o t) t)

-- the registers in each cycle
abbrev pub states : ℕ → ℕ → ℕ → ℕ → Carried → ℕ → Front
states size advance count stride a zero = start size
states size advance count stride a (suc c) =
    next size advance count stride (a.ends c) (a.tuple c) (states size advance count stride a c)

-- and with what this cycle opens
abbrev pub mid : ℕ → ℕ → ℕ → ℕ → Carried → ℕ → Front
mid size advance count stride a c = opening advance count (a.tuple c) (states size advance count stride a c)

abbrev pub closes : ℕ → ℕ → ℕ → ℕ → Carried → ℕ → Bool
closes size advance count stride a c = closing count (a.ends c) (a.tuple c) (mid size advance count stride a c)

abbrev pub oldest : ℕ → ℕ → ℕ → ℕ → Carried → ℕ → ℕ
oldest size advance count stride a c = (mid size advance count stride a c).closed % count

-- which copy takes an end
abbrev pub who_ends : ℕ → ℕ → ℕ → ℕ → Carried → Visits
who_ends size advance count stride a zero = None
who_ends size advance count stride a (suc c) =
    if closes size advance count stride a c then Some (oldest size advance count stride a c) else None

-- wires behind such a machine, one cycle later
pub record IsFront (size advance count stride : ℕ) (a : Carried) (ins : ℕ → Carried) : Type 0 where
  pub no_tuple : (k : ℕ) → k < count → (ins k).tuple 0 ≡ None
  pub no_end : (k : ℕ) → k < count → (ins k).ends 0 ≡ false
  pub tuples : (k c : ℕ) → k < count
      → (ins k).tuple (suc c) ≡ taken count (a.ends c) (a.tuple c) (mid size advance count stride a c) k
  pub ends : (k c : ℕ) → k < count
      → (ins k).ends (suc c) ≡ (closes size advance count stride a c && nat_eq k (oldest size advance count stride a c))
