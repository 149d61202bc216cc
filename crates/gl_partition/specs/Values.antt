-- The registers of a slot as numbers, and what each cycle makes of them.
use Rattle.std.specs.Prelude.{◌≡◌, ℕ, ◌+◌, ◌-◌, ◌<◌, ◌%◌, Bool, nat_eq, not, ◌&&◌, ◌||◌}
use Rattle.gl_wire_registers.specs.Held.{counted_down, turned}
use Rattle.gl_wire_registers.specs.Lines.{any_to}
use Rattle.gl_partition.specs.Machine.{Numbers, Windows}

pub record Values : Type 0 where
  pub until : ℕ
  pub left : ℕ
  pub opened : ℕ
  pub oldest : ℕ
  pub flags : ℕ → Bool

-- a cycle of a slot: whether an end comes, and a tuple of the slot's; whether the slot has its turn; and whether the
-- copy that ends takes the row that came last
pub record Cycle : Type 0 where
  pub end : Bool
  pub own : Bool
  pub due : Bool
  pub last : Bool

abbrev pub opens_of : Cycle → Values → Bool
opens_of c p = c.own && nat_eq p.until 0

abbrev pub trigger_of : Cycle → Values → Bool
trigger_of c p = (c.own && nat_eq p.left 0) || c.due

abbrev pub mid_of : Cycle → Values → ℕ → Bool
mid_of c p k = p.flags k || (opens_of c p && nat_eq p.opened k)

abbrev pub end_of : Cycle → Values → ℕ → Bool
end_of c p k = (trigger_of c p && nat_eq p.oldest k) && mid_of c p k

-- whether a copy takes the row that came last
abbrev pub valid_of : Cycle → Values → ℕ → Bool
valid_of c p k = (mid_of c p k && (c.own && not c.end)) || (end_of c p k && c.last)

-- one cycle
pub record Steps (n : Numbers) (c : Cycle) (p q : Values) : Type 0 where
  pub until : q.until ≡ counted_down 0 (n.advance - 1) c.end c.own p.until
  pub left : q.left ≡ counted_down (n.size - 1) (n.advance - 1) c.end c.own p.left
  pub opened : q.opened ≡ turned (n.copies - 1) (opens_of c p) p.opened
  pub oldest : q.oldest ≡ turned (n.copies - 1) (any_to n.copies (end_of c p)) p.oldest
  pub flags : (k : ℕ) → k < n.copies → q.flags k ≡ (mid_of c p k && not (end_of c p k))

-- the numbers are those of the machine
pub record Mirrors (copies : ℕ) (s : Windows) (p : Values) : Type 0 where
  pub until : p.until ≡ s.until
  pub left : p.left + 1 ≡ s.left
  pub opened : p.opened ≡ s.opened % copies
  pub oldest : p.oldest ≡ s.closed % copies
  pub flags : (k : ℕ) → k < copies → p.flags k ≡ s.is_open k
