-- What every front of copies promises, of windows and of groups alike, and the figures of a whole of front, copies and
-- back.
use Rattle.std.specs.Prelude.{◌≡◌, ℕ, zero, suc, ◌+◌, ◌-◌, ◌*◌, ◌<◌, ◌≤◌, List, [], length, map, Some, Bool, true, false, ◌||◌}
use Rattle.gl_algebra.specs.declared.figures.Figures.{Figures}
use Rattle.gl_algebra.specs.FigureTable.{stride_of}
use Rattle.gl_values.specs.Results.{Row}
use Rattle.gl_wire.specs.Spills.{Lines}
use Rattle.gl_wire.specs.Wire.{Carried, pending}
use Rattle.gl_wire.specs.Coming.{Coming}
use Rattle.gl_wire.specs.Lift.{Visits, visits, Schedules}
use Rattle.gl_wire.specs.Timed.{Begins, Origin, NoEnd, Rested}

-- the cycles from the first turn to the last one, where so many follow one after another
abbrev pub turns_of : ℕ → Figures → ℕ
turns_of turns body = (turns - 1) * stride_of body

-- the cycles of a flush of so many turns
abbrev pub flush_of : ℕ → Figures → ℕ
flush_of turns body = turns * stride_of body

-- the cycles from an end of the source to the whole's
abbrev pub delay_of_whole : ℕ → Figures → ℕ
delay_of_whole turns body = body.le + turns_of turns body + 3

-- a front over copies of a body, at which this comes, and which cuts the stream that ends in a cycle into
-- parts; a flush has so many turns
pub record Rotates (body : Figures) (count turns g1 : ℕ) (few many : ℕ → ℕ) {Part : Type 0} (of : ℕ × List Row → Part)
    (a : Carried) (what : Coming) (parts : ℕ → List Part) (who : Visits) (ins : ℕ → Carried) : Type 0 where
  -- it schedules visits, each of which something that came lets end
  pub schedules : Schedules body count who ins
  pub origin : (v k : ℕ) → who v ≡ Some k → Origin (turns_of turns body) g1 (stride_of body) a what v
  -- the visits of a stream begin here and, in order, are of its parts
  pub from : ℕ → ℕ
  pub begins : (u : ℕ) → a.ends u ≡ true → Begins (flush_of turns body) a (from u) u
  pub parted : (u : ℕ) → a.ends u ≡ true
      → map of (visits who ins (from u) (u + turns_of turns body + 2 - from u)) ≡ parts u
  -- few visits end while no end of the source comes, and not too many with it
  pub few_visits : (x n : ℕ) → Rested (flush_of turns body) a x → NoEnd a x (x + n)
      → length (visits who ins (suc x) n) ≤ few (what.units x n)
  pub many_visits : (x u n : ℕ) → Rested (flush_of turns body) a x → x ≤ u → u < x + n → NoEnd a x u → a.ends u ≡ true
      → ((y : ℕ) → u < y → y < x + n → what.comes y → ⊥)
      → length (visits who ins (suc x) n) ≤ many (what.units x (suc (u - x)))
  -- a copy's tuple without an end is of what came one cycle before, and after a flush no copy has begun a stream
  pub caused : (k c : ℕ) (r : Row) → k < count → (ins k).tuple c ≡ Some r → (ins k).ends c ≡ false → (x : ℕ)
      × (c ≡ suc x) × what.comes x
  pub empties : (u k : ℕ) → a.ends u ≡ true → k < count → pending (ins k) (u + turns_of turns body + 2) ≡ []

-- the figures h of a whole over a source's f: in time for the flush, and with room for the tuples of all visits
pub record OverCopies (f body h : Figures) (turns g1 g2 : ℕ) (few many : ℕ → ℕ) : Type 0 where
  pub a : h.a ≡ f.a + body.a + 2
  pub lt : 1 ≤ few f.nt * body.ne → h.lt ≡ f.lt + body.le + 2
  pub le : h.le ≡ f.le + delay_of_whole turns body
  pub nt : h.nt ≡ few f.nt * body.ne
  pub ne : h.ne ≡ many f.ne * body.ne
  pub keeps : f.gt ≤ h.gt
  pub gt : f.lt - f.a + g1 ≤ h.gt
  pub ge : f.le - f.a + g2 ≤ h.ge
  pub flush : flush_of turns body + 1 ≤ g2
  pub few_more : (m n : ℕ) → m ≤ n → few m ≤ few n
  pub many_more : (m n : ℕ) → m ≤ n → many m ≤ many n

-- one of the first n lines
abbrev pub any_of : (ℕ → Bool) → ℕ → Bool
any_of line zero = false
any_of line (suc n) = any_of line n || line n

-- the lines of all copies
abbrev pub lines_of_all : (ℕ → Lines) → ℕ → Lines
lines_of_all lines count =
    record {
      passed = λ c. any_of (λ k. (lines k).passed c) count;
      further = λ c. any_of (λ k. (lines k).further c) count;
    }
