-- What comes at a front of copies: what the wire of its source carries, or more.
use Rattle.std.specs.Prelude.{◌≡◌, ℕ, suc, ◌+◌, ◌-◌, ◌<◌, ◌≤◌, length, Some, Bool, true}
use Rattle.gl_algebra.specs.declared.figures.Figures.{Figures}
use Rattle.gl_wire.specs.Apart.{Carries}
use Rattle.gl_wire.specs.Beats.{Beats, last, most}
use Rattle.gl_wire.specs.Serves.{Caused, HasEnd}
use Rattle.gl_wire.specs.Wire.{Carried, rows}

-- in which cycles something comes, and how many units in n cycles from one on: parts of a stream are measured in units
pub record Coming : Type 1 where
  pub comes : ℕ → Type 0
  pub units : ℕ → ℕ → ℕ

-- the tuples and ends of a wire come, and the tuples are the units
abbrev pub by_tuples : Carried → Coming
by_tuples a = record { comes = Carries a; units = λ x n. length (rows a x n) }

-- what comes keeps to the beats of a source of these figures
pub record KeepsBeats (f : Figures) (beats : Beats) (a : Carried) (what : Coming) : Type 0 where
  -- what the source's wire carries comes
  pub carried : (c : ℕ) → Carries a c → what.comes c
  -- all that comes lies in the interval of a beat, and not behind the end in it
  pub caused : (c : ℕ) → what.comes c → Caused f beats c
  pub after : (t u c : ℕ) → beats t ≡ Some true → HasEnd f a t u → u < c → c ≤ t + f.le → what.comes c → ⊥
  -- an interval has no more units than it may have tuples, and a stretch of cycles no more than one that it lies in
  pub few : (t : ℕ) (e : Bool) → beats t ≡ Some e → what.units (t + f.a) (suc (last f e) - f.a) ≤ most f e
  pub part : (lo n x m : ℕ) → lo ≤ x → x + m ≤ lo + n → what.units x m ≤ what.units lo n
