-- A joiner of two sides that bring one row with each end: it holds the row of each side, and gives both side by side
-- once both are there.
use Rattle.std.specs.Prelude.{◌≡◌, ℕ, suc, ◌++◌, Some, None, Bool, false, not, ◌&&◌, ◌||◌, if◌then◌else◌}
use Rattle.gl_algebra.specs.declared.figures.Figures.{Figures}
use Rattle.gl_algebra.specs.FigureTable.{IsSound, at_end}
use Rattle.gl_values.specs.Results.{AreBeside, Row}
use Rattle.gl_wire.specs.Pace.{BothWithEnds}
use Rattle.gl_wire.specs.Spills.{ServesWhen2, never2, no_lines}
use Rattle.gl_wire.specs.Wire.{Carried}

-- whether each side's row waits, and the row
pub record IsJoiner (a b o : Carried) : Type 0 where
  pub wait_a : ℕ → Bool
  pub wait_b : ℕ → Bool
  pub row_a : ℕ → Row
  pub row_b : ℕ → Row
  pub first_a : wait_a 0 ≡ false
  pub first_b : wait_b 0 ≡ false
  pub next_a : (c : ℕ) → wait_a (suc c) ≡ a.ends c || (wait_a c && not (wait_a c && wait_b c))
  pub next_b : (c : ℕ) → wait_b (suc c) ≡ b.ends c || (wait_b c && not (wait_a c && wait_b c))
  pub taken_a : (c : ℕ) (r : Row) → a.tuple c ≡ Some r → row_a (suc c) ≡ r
  pub taken_b : (c : ℕ) (r : Row) → b.tuple c ≡ Some r → row_b (suc c) ≡ r
  pub kept_a : (c : ℕ) → a.tuple (suc c) ≡ None → row_a (suc (suc c)) ≡ row_a (suc c)
  pub kept_b : (c : ℕ) → b.tuple (suc c) ≡ None → row_b (suc (suc c)) ≡ row_b (suc c)
  pub out_first : o.tuple 0 ≡ None
  pub ends_first : o.ends 0 ≡ false
  pub out : (c : ℕ) → o.tuple (suc c) ≡ (if wait_a c && wait_b c then Some (row_a c ++ row_b c) else None)
  pub ends : (c : ℕ) → o.ends (suc c) ≡ wait_a c && wait_b c

-- a joiner serves the rows of both sides side by side
abbrev pub JoinerServes : Type 0
JoinerServes =
    (p q : Figures) (a b o : Carried) → IsSound p → IsSound q → p.a ≡ q.a → IsJoiner a b o
    → ServesWhen2 BothWithEnds p q (at_end p q) (never2 AreBeside) no_lines a b o

-- where both sides carry a tuple, one of both rows; ends are those of the left side
pub record IsBeside (a b o : Carried) : Type 0 where
  pub both : (c : ℕ) (r q : Row) → a.tuple c ≡ Some r → b.tuple c ≡ Some q → o.tuple c ≡ Some (r ++ q)
  pub none : (c : ℕ) → a.tuple c ≡ None → o.tuple c ≡ None
  pub ends : (c : ℕ) → o.ends c ≡ a.ends c
