-- The front's registers as numbers, and what each cycle makes of them.
use Rattle.std.specs.Prelude.{◌≡◌, ℕ, ◌+◌, ◌-◌, ◌<◌, ◌%◌, Some, None, Bool, true, if◌then◌else◌, nat_eq, not, ◌&&◌, ◌||◌}
use Rattle.gl_values.specs.Results.{Row}
use Rattle.gl_windows.specs.Front.{Front}
use Rattle.gl_wire_registers.specs.Held.{counted_down, turned}
use Rattle.gl_wire_registers.specs.Lines.{any_to}

pub record Values : Type 0 where
  pub until : ℕ
  pub left : ℕ
  pub opened : ℕ
  pub oldest : ℕ
  pub flags : ℕ → Bool
  pub flush : Bool
  pub wait : ℕ
  pub held : Bool
  pub row : Row

abbrev pub opens_of : Bool → Values → Bool
opens_of v p = v && nat_eq p.until 0

abbrev pub idle_of : Bool → Values → Bool
idle_of v p = p.flush && not v

abbrev pub trigger_of : Bool → Bool → Values → Bool
trigger_of e v p = e || ((v && nat_eq p.left 0) || (idle_of v p && nat_eq p.wait 0))

abbrev pub mid_of : Bool → Values → ℕ → Bool
mid_of v p k = p.flags k || (opens_of v p && nat_eq p.opened k)

abbrev pub end_of : Bool → Bool → Values → ℕ → Bool
end_of e v p k = (trigger_of e v p && nat_eq p.oldest k) && mid_of v p k

-- whether a copy takes the row that came last
abbrev pub valid_of : Bool → Bool → Values → ℕ → Bool
valid_of e v p k =
    (mid_of v p k && (v && not e)) || (end_of e v p k && ((e && v) || ((idle_of v p && p.held) && not e)))

-- one cycle with an end or none, and the row x or none
pub record Steps (size advance count stride : ℕ) (e v : Bool) (x : Row) (p q : Values) : Type 0 where
  pub until : q.until ≡ counted_down 0 (advance - 1) e v p.until
  pub left : q.left ≡ counted_down (size - 1) (advance - 1) e v p.left
  pub opened : q.opened ≡ turned (count - 1) (opens_of v p) p.opened
  pub oldest : q.oldest ≡ turned (count - 1) (any_to count (end_of e v p)) p.oldest
  pub flags : (k : ℕ) → k < count → q.flags k ≡ (mid_of v p k && not (end_of e v p k))
  pub flush : q.flush ≡ (e || (p.flush && not v))
  pub wait : q.wait ≡ counted_down (stride - 1) (stride - 1) e (idle_of v p) p.wait
  pub held : q.held ≡ ((e && v) || (p.held && not e))
  pub row : (v || p.flush) ≡ true → q.row ≡ (if v then x else p.row)

-- the numbers are those of the machine
pub record Mirrors (count : ℕ) (s : Front) (p : Values) : Type 0 where
  pub until : p.until ≡ s.until
  pub left : p.left + 1 ≡ s.left
  pub opened : p.opened ≡ s.opened % count
  pub oldest : p.oldest ≡ s.closed % count
  pub flags : (k : ℕ) → k < count → p.flags k ≡ s.is_open k
  pub flush : p.flush ≡ s.flush
  pub wait : p.wait ≡ s.wait
  pub held : s.flush ≡ true → s.held ≡ (if p.held then Some p.row else None)
