-- What a wire gives over one stream after reset. Nothing is said of a second one.
use Rattle.std.specs.Prelude.{◌≡◌, ℕ, ◌+◌, ◌<◌, ◌≤◌, Some, None, Bool, true, false}
use Rattle.gl_algebra.specs.declared.figures.Figures.{Figures}
use Rattle.gl_values.specs.Results.{Results}
use Rattle.gl_wire.specs.Beats.{Beats}
use Rattle.gl_wire.specs.Spills.{Lines}
use Rattle.gl_wire.specs.Wire.{Carried, stream}

-- one stream: its last beat alone has the end
pub record OneStream (beats : Beats) (last : ℕ) : Type 0 where
  pub is : beats last ≡ Some true
  pub only : (t : ℕ) → beats t ≡ Some true → t ≡ last
  pub until : (t : ℕ) (e : Bool) → beats t ≡ Some e → t ≤ last

-- over one stream whose last beat comes in this cycle: the end comes once and in time, no tuple behind it, what came up
-- to it is a result, no queue is passed, and the line of further groups is 1 in some cycle exactly where the result has
-- a spill, and in none after the end
pub record ServingOnce (f : Figures) (means : Results) (lines : Lines) (last : ℕ) (b : Carried) : Type 0 where
  pub ended : ℕ
  pub low : last + f.a ≤ ended
  pub high : ended ≤ last + f.le
  pub ends : b.ends ended ≡ true
  pub once : (c : ℕ) → b.ends c ≡ true → c ≡ ended
  pub none_later : (c : ℕ) → ended < c → b.tuple c ≡ None
  pub spill : Bool
  pub right : means (stream b ended) spill
  pub unpassed : (c : ℕ) → lines.passed c ≡ false
  pub told : spill ≡ true → (c : ℕ) × (lines.further c ≡ true)
  pub so : (c : ℕ) → lines.further c ≡ true → spill ≡ true
  pub late : (c : ℕ) → lines.further c ≡ true → c ≤ ended
