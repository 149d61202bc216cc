-- What is known of the time of a whole of front, copies and back.
use Rattle.std.proofs.Common.{◌≡◌, ℕ, suc, ◌+◌, ◌*◌, ◌≤◌, Some, true}
use Rattle.gl_algebra.specs.declared.figures.Figures.{Figures}
use Rattle.gl_algebra.specs.FigureTable.{stride_of}
use Rattle.gl_values.specs.Results.{Row}
use Rattle.gl_wire.specs.Beats.{Beats}
use Rattle.gl_wire.specs.Serves.{Fits}
use Rattle.gl_wire.specs.Wire.{Carried, rows}
use Rattle.gl_wire.specs.Lift.{Visits, all_of}
use Rattle.gl_wire.specs.Rotates.{delay_of_whole, turns_of}

-- the visit that a tuple of the whole comes of
pub record Cause (s : Figures) (who : Visits) (c : ℕ) : Type 0 where
  pub v : ℕ
  pub k : ℕ
  pub visit : who v ≡ Some k
  pub low : v + s.a + 1 ≤ c
  pub high : c ≤ v + s.le + 1
  pub enough : 1 ≤ s.ne

-- what is known of the time of a whole
pub record IsWhole (s h : Figures) (count rounds : ℕ) (beats : Beats) (a : Carried) (who : Visits) (outs : ℕ → Carried) (b : Carried) : Type 0 where
  pub fit : Fits h beats b
  pub cause_of : (c : ℕ) (r : Row) → b.tuple c ≡ Some r → Cause s who c
  pub rows_of : (n c : ℕ) → rows b (suc c) n ≡ rows (all_of outs count) c n
  pub end_of : (u : ℕ) → b.ends (u + delay_of_whole rounds s) ≡ a.ends u
  pub from_end : (c : ℕ) → b.ends c ≡ true → (u : ℕ) × (c ≡ u + delay_of_whole rounds s) × (a.ends u ≡ true)
  pub turned : turns_of rounds s + stride_of s ≡ rounds * stride_of s
