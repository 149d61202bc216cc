-- The front's registers as numbers, and what each cycle makes of them.
use Rattle.std.specs.Prelude.{◌≡◌, ℕ, ◌-◌, ◌<◌, ◌≤◌, length, Some, None, Bool, true, if◌then◌else◌, nat_eq, not, ◌&&◌, ◌||◌, slice_get}
use Rattle.gl_values.specs.Results.{Row}
use Rattle.gl_wire_registers.specs.Held.{counted_down}
use Rattle.gl_slots.specs.Seeking.{Sought, has, is_next, matches}
use Rattle.gl_slots.specs.Slots.{Slots}

pub record Values : Type 0 where
  pub used : ℕ → Bool
  pub key : ℕ → ℕ
  pub flush : Bool
  pub rest : ℕ
  pub wait : ℕ
  pub held : Bool
  pub row : Row

-- a cycle: whether an end comes, and a tuple, and which; and the key that is looked for
pub record Cycle : Type 0 where
  pub end : Bool
  pub valid : Bool
  pub row : Row
  pub value : ℕ

abbrev pub idle_of : Cycle → Values → Bool
idle_of c p = p.flush && not (c.valid || c.end)

abbrev pub due_of : Cycle → Values → Bool
due_of c p = idle_of c p && nat_eq p.wait 0

-- the slots, which something that comes after an end sets free
abbrev pub sought_of : Cycle → Values → Sought
sought_of c p =
    record { used = p.used; key = p.key; free = p.flush && (c.valid || c.end); ask = c.valid; value = c.value }

abbrev pub at_of : ℕ → Cycle → Values → ℕ
at_of count c p = if c.end then count else p.rest

abbrev pub end_of : ℕ → Cycle → Values → ℕ → Bool
end_of count c p k = ((c.end || due_of c p) && nat_eq (at_of count c p) (count - k)) && has count (sought_of c p) k

abbrev pub tail_of : Cycle → Values → Bool
tail_of c p = (c.end && c.valid) || (idle_of c p && p.held)

-- whether a slot takes the row that came last
abbrev pub valid_of : ℕ → Cycle → Values → ℕ → Bool
valid_of count c p k =
    matches count (sought_of c p) k && ((end_of count c p k && tail_of c p) || (c.valid && not c.end))

-- one cycle; the key that is looked for is that of the row that came last
pub record Steps (count stride : ℕ) (key : Row → ℕ) (c : Cycle) (p q : Values) : Type 0 where
  pub used : (k : ℕ) → k < count → q.used k ≡ has count (sought_of c p) k
  pub keys : (k : ℕ) → k < count → q.key k ≡ (if is_next (sought_of c p) k then c.value else p.key k)
  pub flush : q.flush ≡ (c.end || (p.flush && not c.valid))
  pub rest : q.rest ≡ counted_down (count - 1) 0 c.end (due_of c p) p.rest
  pub wait : q.wait ≡ counted_down (stride - 1) (stride - 1) c.end (idle_of c p) p.wait
  pub held : q.held ≡ ((c.end && c.valid) || (p.held && not c.end))
  pub row : (c.valid || p.flush) ≡ true → q.row ≡ (if c.valid then c.row else p.row)
  pub value : (c.valid || p.flush) ≡ true → c.value ≡ key (if c.valid then c.row else p.row)

-- the numbers are those of the machine
pub record Mirrors (count : ℕ) (s : Slots) (p : Values) : Type 0 where
  pub slots : (k : ℕ) → k < count → slice_get s.keys k ≡ (if p.used k then Some (p.key k) else None)
  pub few : length s.keys ≤ count
  pub flush : p.flush ≡ s.flush
  pub rest : p.rest ≡ count - s.turn
  pub wait : p.wait ≡ s.wait
  pub held : s.flush ≡ true → s.held ≡ (if p.held then Some p.row else None)
